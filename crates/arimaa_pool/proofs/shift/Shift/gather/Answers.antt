use Rattle.std.proofs.Common.{rules, ◌≡◌, ℕ, ◌+◌, ◌∙◌, Option, true, inr, sym, ap, subst}
use Rattle.std.specs.Prelude.{IfSome}
use Rattle.std.proofs.lemmas.List.Elements.{All-pop}
use Rattle.arimaa_jobs.specs.declared.view.SeatView.{SeatView}
use Rattle.arimaa_jobs.specs.Rule.{ends_above, view_after_join}
use Rattle.arimaa_jobs.specs.Seats.{view}
use Rattle.arimaa_jobs.proofs.Lemmas.Counts.{ends-append}
use Rattle.arimaa_pool.specs.Jobs.{IsDoneWith, Worked, has_ended, earlier}
use Rattle.arimaa_pool.specs.declared.seat.Seated.{Seated}
use Rattle.arimaa_pool.specs.declared.stopped_job.StoppedJob.{StoppedJob}
use Rattle.arimaa_pool.specs.Terms.{Terms}
use Rattle.arimaa_pool.proofs.JobLaws.{worked-join}
use Rattle.arimaa_pool.proofs.shift.Shift.gather.Goals as goal

pub loop-seated-preserved : goal.loop-seated-preserved
loop-seated-preserved g c =
    let t : Terms = c.args.crew.now.terms in
    let n = c.args.self.now.depth in
    let p = c.args.self.now.root.now in
    let one : Seated = c.in-Some.seated in
    let P : Seated → Type 0 = IsDoneWith c.args.self.now.jobs.now t n p in
    let parts = All-pop P c.loop-seated.done.items c.pop.new.self.items c.pop.result c.pop.ensures.items c.loop-seated.invariant.done in
    let at : P one = (let F : Option Seated → Type 0 = λ o. IfSome o P in subst F c.in-Some.is parts.1) in
    let v : SeatView = view c.loop-seated.whole in
    let w : SeatView = view one.seat in
    let same : w.count ≡ v.count = at.0.seat.1 ∙ sym c.loop-seated.invariant.own.1 in
    let both : view c.join.new.seat ≡ view_after_join v w = c.join.ensures.both in
    let heavy : (view c.join.new.seat).weight ≡ v.weight + w.weight = ap (λ (u : SeatView). u.weight) both in
    let light : w.weight ≡ 1 = at.0.weight in
    let left = c.pop.ensures.len in
    let before = c.loop-seated.invariant.weight in
    let all = c.loop-seated.invariant.all in
    let added = c.in_ok-add.ensures.count in
    let joined = worked-join t n p v w c.loop-seated.stopped one.stopped same c.loop-seated.invariant.worked at.0.worked in
    record {
      own = c.join.ensures.seat;
      terms = c.add.ensures.terms ∙ c.loop-seated.invariant.terms;
      all = search rules;
      weight = search rules;
      worked = subst (λ (o : Option StoppedJob). Worked t n p (view c.join.new.seat) o) (sym c.earlier-stopped.ensures) (subst (λ (u : SeatView). Worked t n p u (earlier c.loop-seated.stopped one.stopped)) (sym both) joined);
      done = parts.0;
      ended = inr (subst (λ (u : SeatView). has_ended u ≡ true) (sym both) (ends-append v.count v.drawn w.drawn (subst (λ (k : ℕ). ends_above k w.drawn ≡ true) same at.1)));
    }
