use Rattle.std.proofs.Common.{◌≡◌, ◌∙◌, sym}
use Rattle.arimaa_model.specs.Game.{barred_by}
use Rattle.arimaa_strategy.proofs.Lemmas.CheckLaws.{some_same}
use Rattle.arimaa_refute.specs.Findings.{verified_of}
use Rattle.arimaa_refute.proofs.VerifyLaws.{answer-verified}
use Rattle.arimaa_refute.proofs.verifier.verify.Goals as goal

pub returns-clause-verified : goal.returns-clause-verified
returns-clause-verified c = λ p now.
    let root : c.unwrap-root.result ≡ p = some_same (sym c.unwrap-root.ensures ∙ (c.last.ensures ∙ now)) in
    let is : c.answer.result ≡ verified_of c.args.region.now.room c.args.attacker (barred_by c.args.history.now) c.args.n c.args.escapes.now p =
    c.answer.ensures.answer ∙ λ i. verified_of c.args.region.now.room c.args.attacker (c.barred.ensures.value i) c.args.n c.args.escapes.now (root i) in
    answer-verified c.args.region.now.room c.args.attacker (barred_by c.args.history.now) c.args.escapes.now c.args.n p c.answer.result c.requires.from is
