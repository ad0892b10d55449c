use Rattle.std.proofs.Common.{◌≡◌, ◌∙◌, ap, sym, false, Some}
use Rattle.std.specs.Prelude.{is_some}
use Rattle.arimaa_model.specs.Game.{present}
use Rattle.arimaa_game.specs.Play.{Play}
use Rattle.arimaa_game.proofs.Lemmas.Endings.{kept-closed}
use Rattle.arimaa_game.proofs.game.Game.close.Goals as goal

pub invariant_of-self : goal.invariant_of-self
invariant_of-self c =
    let running : is_some c.self.inside.ending ≡ false = sym c.is_some.ensures ∙ c.if-is_some.false in
    let now : present c.self.inside.history ≡ Some c.now.result = ap (λ (x : Play). present x.history) c.self.view_is ∙ c.now.ensures.present in
    kept-closed (record { history = c.self.inside.history; closing = c.self.inside.closing }) c.now.result c.self.inside.ending c.args.word c.against-ending.result now c.self.invariant running c.against-ending.ensures

pub returns-clause-ending : goal.returns-clause-ending
returns-clause-ending c = sym (invariant_of-self c).ending
