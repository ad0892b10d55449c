use Rattle.arimaa_forced.specs.Needs.{InNeed}
use Rattle.arimaa_pool.specs.Terms.{Terms}
use Rattle.arimaa_pool.proofs.HandedOn.{wider_failure}
use Rattle.arimaa_pool.proofs.NeededQuestions.{deeper-need}
use Rattle.arimaa_pool.proofs.proof.win.Goals as goal

pub returns-in-Err : goal.returns-in-Err
returns-in-Err c = λ n within.
    let t : Terms = c.args.asker.now in
    c.verdict_on.ensures t c.args.p.now n
    (wider_failure t (InNeed t.attacker t.barred c.args.p.now c.args.rank) (InNeed t.attacker t.barred c.args.p.now n) c.in-Err.failure (λ q j need. deeper-need t.attacker t.barred c.args.p.now c.args.rank c.requires.rank n within q j need) c.in-Err.ensures.failure)
