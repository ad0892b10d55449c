use Rattle.std.proofs.Common.{rules, ◌≡◌, Bool, Option, true, false, sym, subst, refl, arith}
use Rattle.arimaa_jobs.specs.Seats.{view}
use Rattle.arimaa_pool.specs.Jobs.{Decides, Worked}
use Rattle.arimaa_pool.specs.declared.stopped_job.StoppedJob.{StoppedJob}
use Rattle.arimaa_pool.proofs.JobLaws.{worked-skip, worked-goes, worked-stop, worked-report}
use Rattle.arimaa_pool.proofs.shift.Shift.ask_drawn.Goals as goal

pub returns-then-job-least-clause-worked : goal.returns-then-job-least-clause-worked
returns-then-job-least-clause-worked g c = λ v drew old.
    worked-skip c.args.asker.now c.args.self.now.depth c.args.self.now.root.now v (view c.args.seat.now) (view c.least.new.seat) c.args.job c.least.result drew c.least.ensures.saw c.args.stopped (let above = c.if-job-least.true in omega arith) old

pub returns-then-not-decisive-clause-worked : goal.returns-then-not-decisive-clause-worked
returns-then-not-decisive-clause-worked g c = λ v drew old.
    let goes : c.in-Ok.decisive ≡ false = search rules in
    worked-goes c.args.asker.now c.args.self.now.depth c.args.self.now.root.now v (view c.args.seat.now) (view c.least.new.seat) c.args.job c.least.result drew c.least.ensures.saw c.args.stopped
    (subst (λ (b : Bool). Decides c.args.asker.now c.args.self.now.depth c.args.self.now.root.now c.args.job b) goes c.in-Ok.ensures.decides) old

pub returns-in-Err-clause-worked : goal.returns-in-Err-clause-worked
returns-in-Err-clause-worked g c = λ v drew old.
    subst (λ (o : Option StoppedJob). Worked c.args.asker.now c.args.self.now.depth c.args.self.now.root.now (view c.least.new.seat) o) (sym c.earlier.ensures)
    (worked-stop c.args.asker.now c.args.self.now.depth c.args.self.now.root.now v (view c.args.seat.now) (view c.least.new.seat) c.args.job c.least.result drew c.least.ensures.saw c.args.stopped
    (record { job = c.args.job; stop = c.in-Err.stop }) refl c.in-Err.ensures.stop old)

pub returns-else-not-decisive-clause-worked : goal.returns-else-not-decisive-clause-worked
returns-else-not-decisive-clause-worked g c = λ v drew old.
    let decides : c.in-Ok.decisive ≡ true = search rules in
    worked-report c.args.asker.now c.args.self.now.depth c.args.self.now.root.now v (view c.args.seat.now) (view c.least.new.seat) c.args.job c.least.result drew c.least.ensures.saw c.args.stopped
    (view c.report.new.seat) c.report.ensures.reported
    (subst (λ (b : Bool). Decides c.args.asker.now c.args.self.now.depth c.args.self.now.root.now c.args.job b) decides c.in-Ok.ensures.decides) old
