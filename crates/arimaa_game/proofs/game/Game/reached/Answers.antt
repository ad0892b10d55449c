use Rattle.std.proofs.Common.{◌≡◌, ◌∙◌, ap, sym, subst, true, false}
use Rattle.std.specs.Prelude.{is_some}
use Rattle.arimaa_game.specs.Play.{IsGame, ending_of}
use Rattle.arimaa_game.proofs.Lemmas.Turns.{played-fault, played-over, reaches}
use Rattle.arimaa_game.proofs.game.Game.reached.Goals as goal

pub returns-then-is_some-clause-fault : goal.returns-then-is_some-clause-fault
returns-then-is_some-clause-fault c =
    let over : is_some (ending_of c.args.self.now) ≡ true = ap is_some (ap ending_of (sym c.self.view_is) ∙ sym c.self.invariant.ending) ∙ (sym c.is_some.ensures ∙ c.if-is_some.true) in
    sym (played-over c.args.self.now c.args.turn.now over)

pub returns-in-Ok-clause-reached : goal.returns-in-Ok-clause-reached
returns-in-Ok-clause-reached c =
    let running : is_some (ending_of c.args.self.now) ≡ false = ap is_some (ap ending_of (sym c.self.view_is) ∙ sym c.self.invariant.ending) ∙ (sym c.is_some.ensures ∙ c.if-is_some.false) in
    let game : IsGame c.args.self.now = subst IsGame c.self.view_is c.self.invariant.game in
    (c.now.result, reaches c.args.self.now c.now.result c.args.turn.now game c.now.ensures.present c.steps-few.ensures.few running c.in-Ok.position (sym c.in-Ok.is ∙ c.apply.ensures.answer))

pub returns-in-Err-clause-fault : goal.returns-in-Err-clause-fault
returns-in-Err-clause-fault c =
    let running : is_some (ending_of c.args.self.now) ≡ false = ap is_some (ap ending_of (sym c.self.view_is) ∙ sym c.self.invariant.ending) ∙ (sym c.is_some.ensures ∙ c.if-is_some.false) in
    rw c.fault_of.ensures (played-fault c.args.self.now c.now.result c.args.turn.now c.in-Err.fault c.now.ensures.present running (sym c.in-Err.is ∙ c.apply.ensures.answer))
