use Rattle.std.proofs.Common.{rules, ◌≡◌, ℕ, true, ap, subst, sym, inr}
use Rattle.atomic_table.specs.Table.{Me}
use Rattle.arimaa_jobs.specs.declared.view.SeatView.{SeatView}
use Rattle.arimaa_jobs.specs.Rule.{ends_above}
use Rattle.arimaa_jobs.proofs.Lemmas.Counts.{drew-dry}
use Rattle.arimaa_jobs.proofs.RuleSteps.{claims}
use Rattle.arimaa_jobs.proofs.jobs.Jobs.claim.Goals as goal

pub fetch_add-number-requires : goal.fetch_add-number-requires
fetch_add-number-requires c = (search rules, search rules, claims _ _ _ _ _ (search rules) c.args.seat.now.unspent (search rules))

pub invariant_of-seat-else-number-self-clause-dry : goal.invariant_of-seat-else-number-self-clause-dry
invariant_of-seat-else-number-self-clause-dry c = λ _. let n : ℕ = c.fetch_add-number.result in let v : SeatView = c.args.seat.now.seat.me.0 in
    subst (λ (m : SeatView). ends_above m.count m.drawn ≡ true) (sym (ap (λ (m : Me (Unit {0}) SeatView). m.0) c.fetch_add-number.ensures.2.0)) (drew-dry v n (search rules))

pub returns-else-number-self-clause-drawn : goal.returns-else-number-self-clause-drawn
returns-else-number-self-clause-drawn c = let n : ℕ = c.fetch_add-number.result in let v : SeatView = c.args.seat.now.seat.me.0 in let e = ap (λ (m : Me (Unit {0}) SeatView). m.0) c.fetch_add-number.ensures.2.0 in
    (subst (λ (m : SeatView). ends_above m.count m.drawn ≡ true) (sym e) (drew-dry v n (search rules)), inr (n, search rules, e))
