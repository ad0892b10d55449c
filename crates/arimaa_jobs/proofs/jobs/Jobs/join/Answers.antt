use Rattle.std.proofs.Common.{rules, ◌≡◌, ℕ, true, ap, subst, sym, arith, ◌∙◌}
use Rattle.atomic_table.specs.Table.{Me}
use Rattle.arimaa_jobs.specs.declared.view.SeatView.{SeatView}
use Rattle.arimaa_jobs.specs.Rule.{ends_above}
use Rattle.arimaa_jobs.proofs.Lemmas.Counts.{ends-append}
use Rattle.arimaa_jobs.proofs.RuleSteps.{joins}
use Rattle.arimaa_jobs.proofs.jobs.Jobs.join.Goals as goal

pub join_seat-requires : goal.join_seat-requires
join_seat-requires c = (search rules, search rules, search rules, search rules, joins _ _ _ _ c.args.seat.now.seat.me.0 c.args.other.seat.me.0 c.args.seat.now.unspent c.args.other.unspent)

pub invariant_of-seat-clause-dry : goal.invariant_of-seat-clause-dry
invariant_of-seat-clause-dry c = let v : SeatView = c.args.seat.now.seat.me.0 in let w : SeatView = c.args.other.seat.me.0 in
    subst (λ (m : SeatView). m.spare ≡ 0 → ends_above m.count m.drawn ≡ true) (sym (ap (λ (m : Me (Unit {0}) SeatView). m.0) c.join_seat.ensures.2))
    (λ z. ends-append v.count v.drawn w.drawn (subst (λ (k : ℕ). ends_above k w.drawn ≡ true) (c.requires.other.1 ∙ sym c.requires.seat.1) (c.args.other.dry (omega arith))))
