use Rattle.std.proofs.Common.{◌-◌, sym, ap, subst, arith}
use Rattle.arimaa_jobs.specs.declared.view.SeatView.{SeatView}
use Rattle.arimaa_jobs.specs.Rule.{Stands}
use Rattle.arimaa_jobs.specs.Seats.{view}
use Rattle.arimaa_jobs.proofs.Lemmas.SeatLaws.{past, fewer-left, stands-last}
use Rattle.arimaa_pool.proofs.JobLaws.{worked-none}
use Rattle.arimaa_pool.proofs.shift.Shift.claim_all.Goals as goal

pub ask_drawn-stopped-requires-clause-job : goal.ask_drawn-stopped-requires-clause-job
ask_drawn-stopped-requires-clause-job g c = λ κs lives.
    let d = c.in-Some.ensures.drawn in
    let own = c.loop-job.invariant.own.1 in
    (omega (arith, d.0, own), subst (λ (v : SeatView). Stands c.in-Some.job v.drawn) (sym d.1) (stands-last c.in-Some.job (view c.loop-job.seat).drawn))

pub loop-job-smaller : goal.loop-job-smaller
loop-job-smaller g c =
    let d = c.in-Some.ensures.drawn in
    let kept = c.ask_drawn-stopped.ensures.kept in
    let fewer = fewer-left (view c.loop-job.seat) (view c.claim.new.seat) c.in-Some.job d.0 d.2 d.1 in
    let drawn = ap past kept.0 in
    let count = kept.1 in
    omega arith

pub returns-clause-worked : goal.returns-clause-worked
returns-clause-worked g c = worked-none c.args.asker.now c.args.self.now.depth c.args.self.now.root.now (view c.loop-job.seat) (view c.claim.new.seat) c.loop-job.stopped c.in_default.ensures.drawn.1 c.loop-job.invariant.worked
