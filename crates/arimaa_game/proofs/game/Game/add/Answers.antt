use Rattle.std.proofs.Common.{◌≡◌, ◌∙◌, ◌∷◌, ◌++◌, ◌≤◌, [], ap, rules, subst, sym, None}
use Rattle.arimaa_model.specs.Game.{IsLawful, count_in, present}
use Rattle.arimaa_model.proofs.Lemmas.Present.{present-push}
use Rattle.arimaa_game.specs.Play.{Play, ending_of}
use Rattle.arimaa_game.proofs.Lemmas.Endings.{ending-present, kept-grown, running-rules, running-unclosed}
use Rattle.arimaa_game.proofs.game.Game.add.Goals as goal

pub invariant_of-self : goal.invariant_of-self
invariant_of-self c =
    let g : Play = record { history = c.self.inside.history; closing = c.self.inside.closing } in
    let more : c.push_unless_third.new.self ≡ g.history ++ c.args.reached ∷ [] = rw c.in-Ok-true.field-0-test at c.in-Ok-true.ensures.pushed in
    let running : ending_of g ≡ None = ap ending_of c.self.view_is ∙ c.requires.running in
    let lawful : IsLawful g.history c.args.reached = subst (λ (x : Play). count_in x.history c.args.reached ≤ 1 → IsLawful x.history c.args.reached) (sym c.self.view_is) c.requires.lawful (search rules) in
    kept-grown g.history c.push_unless_third.new.self g.closing c.args.reached c.ending_at-self-inside.result more (running-unclosed g c.self.invariant.game.some running) c.self.invariant.game.fit c.requires.fit c.self.invariant.game.lawful
    (λ some. (running-rules g running, lawful)) c.ending_at-self-inside.ensures

pub returns-in-Ok-true-clause-ending : goal.returns-in-Ok-true-clause-ending
returns-in-Ok-true-clause-ending c =
    let more = rw c.in-Ok-true.field-0-test at c.in-Ok-true.ensures.pushed in
    let now = ap present more ∙ present-push c.self.inside.history c.args.reached in
    c.ending_at-self-inside.ensures ∙ sym (ending-present c.push_unless_third.new.self c.args.reached now)

pub returns-in-Ok-true-clause-answer : goal.returns-in-Ok-true-clause-answer
returns-in-Ok-true-clause-answer c = (invariant_of-self c).ending
