use Rattle.std.proofs.Common.{◌∙◌, sym, ap}
use Rattle.arimaa_refute.specs.OwnEscapes.{escapes_of}
use Rattle.arimaa_refute.specs.Refutations.{Terms}
use Rattle.arimaa_refute.proofs.RefutationLaws.{has-escapes}
use Rattle.arimaa_refute.proofs.refutation.answer.Goals as goal

pub returns-clause-answer : goal.returns-clause-answer
returns-clause-answer c =
    let t : Terms = c.args.asker.now in
    has-escapes t.attacker t.barred c.args.p.now c.args.n c.in_ok-escapes.escapes c.requires.depth
    (sym c.in_ok-ask.ensures.verdict ∙ c.if-branch.false)
    (c.in_ok-escapes.ensures.escapes ∙ ap (λ (u : Terms). escapes_of u.attacker u.barred c.args.n c.args.p.now) c.ask.ensures.same)
