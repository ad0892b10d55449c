use Rattle.std.proofs.Common.{◌≡◌, Some, is_some, refl, sym, ◌∙◌, ap}
use Rattle.arimaa_model.specs.Game.{present}
use Rattle.arimaa_model.proofs.Lemmas.Present.{present-some}
use Rattle.arimaa_pool.specs.Verdicts.{terms_of}
use Rattle.arimaa_pool.proofs.VerdictLaws.{terms_same, answer_for, answer-plays, answer-done}
use Rattle.arimaa_pool.proofs.proof.prove.Goals as goal

pub unwrap-p-requires : goal.unwrap-p-requires
unwrap-p-requires g c = ap is_some c.last.ensures ∙ present-some c.args.history.now c.requires.history

pub returns-clause-answer : goal.returns-clause-answer
returns-clause-answer g c = λ p last.
    let terms : c.in_ok-crew.crew.terms ≡ terms_of c.args.attacker c.args.history.now c.args.settings.now =
    c.in_ok-crew.ensures.terms ∙ terms_same _ c.args.attacker c.args.history.now c.args.settings.now c.in_ok-table.ensures.attacker (c.in_ok-table.ensures.barred ∙ c.barred.ensures.value) refl refl in
    let both : Some c.unwrap-p.result ≡ Some p = sym c.unwrap-p.ensures ∙ (c.last.ensures ∙ last) in
    let same : c.unwrap-p.result ≡ p = cc in
    answer_for c.answer_of.result c.in_ok-crew.crew.terms (terms_of c.args.attacker c.args.history.now c.args.settings.now) c.unwrap-p.result p c.args.n terms same c.answer_of.ensures

pub returns-clause-plays : goal.returns-clause-plays
returns-clause-plays g c =
    let last : present c.args.history.now ≡ Some c.unwrap-p.result = sym c.last.ensures ∙ c.unwrap-p.ensures in
    answer-plays c.args.attacker c.args.history.now c.args.settings.now c.unwrap-p.result c.args.n c.answer_of.result last (returns-clause-answer g c c.unwrap-p.result last)

pub returns-clause-complete : goal.returns-clause-complete
returns-clause-complete g c = λ p last enough. answer-done c.args.attacker c.args.history.now c.args.settings.now p c.args.n c.answer_of.result (returns-clause-answer g c p last) enough
