use Rattle.std.proofs.Common.{◌≡◌, ◌-◌, ◌∙◌, None, sym, ap, subst, refl, arith}
use Rattle.std.specs.Prelude.{All}
use Rattle.std.proofs.lemmas.List.Elements.{All-push}
use Rattle.arimaa_jobs.specs.declared.view.SeatView.{SeatView}
use Rattle.arimaa_jobs.specs.Rule.{view_after_split, view_of_new_seat}
use Rattle.arimaa_jobs.specs.Seats.{view}
use Rattle.arimaa_pool.specs.Jobs.{IsFresh}
use Rattle.arimaa_pool.specs.declared.seat.Seated.{Seated}
use Rattle.arimaa_pool.specs.Terms.{Terms}
use Rattle.arimaa_pool.proofs.JobLaws.{worked-nothing}
use Rattle.arimaa_pool.proofs.shift.Shift.seat_all.Goals as goal

pub loop-asker-preserved : goal.loop-asker-preserved
loop-asker-preserved g c =
    let t : Terms = c.args.crew.now.terms in
    let n = c.args.self.now.depth in
    let p = c.args.self.now.root.now in
    let v : SeatView = view c.loop-asker.whole in
    let kept : view c.split-seat.new.seat ≡ view_after_split v = c.split-seat.ensures.kept in
    let given : view c.split-seat.result ≡ view_of_new_seat v = c.split-seat.ensures.given in
    let taken = c.in-Some.ensures in
    let one : Seated = record { asker = c.in-Some.asker; seat = c.split-seat.result; stopped = None } in
    let P : Seated → Type 0 = IsFresh c.args.self.now.jobs.now t n p in
    let fresh : P one = (
      record {
        terms = taken.0 ∙ c.loop-asker.invariant.terms;
        seat = c.split-seat.ensures.new_seat;
        worked = worked-nothing t n p (view c.split-seat.result) (ap (λ (u : SeatView). u.drawn) given) (ap (λ (u : SeatView). u.reported) given);
        weight = ap (λ (u : SeatView). u.weight) given;
      },
      refl,
    ) in
    let weight = ap (λ (u : SeatView). u.weight) kept in
    let spare = ap (λ (u : SeatView). u.spare) kept in
    let all = c.loop-asker.invariant.all in
    let heavy = c.loop-asker.invariant.weight in
    let many = c.loop-asker.invariant.spare in
    let longer = c.in_ok-push.ensures.len in
    let fewer = taken.2 in
    record {
      own = c.split-seat.ensures.seat;
      terms = taken.1 ∙ c.loop-asker.invariant.terms;
      all = omega arith;
      weight = omega arith;
      spare = omega arith;
      drawn = ap (λ (u : SeatView). u.drawn) kept ∙ c.loop-asker.invariant.drawn;
      reported = ap (λ (u : SeatView). u.reported) kept ∙ c.loop-asker.invariant.reported;
      fresh = subst (All P) (sym c.in_ok-push.ensures.items) (All-push P c.loop-asker.seated.items one c.loop-asker.invariant.fresh fresh);
    }
