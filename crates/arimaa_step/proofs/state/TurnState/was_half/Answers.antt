use Rattle.std.proofs.Common.{◌≡◌, ◌&&◌, ◌∙◌, sym, ap, false}
use Rattle.std.specs.Prelude.{not}
use Rattle.arimaa_step.specs.Next.{ends_move}
use Rattle.arimaa_step.proofs.Lemmas.AnswerLaws.{begins_is, ok_parts, moves_fit}
use Rattle.arimaa_step.proofs.state.TurnState.was_half.Goals as goal

pub begins_push-requires : goal.begins_push-requires
begins_push-requires c = moves_fit c.args.self.now c.args.step.now (ok_parts c.args.self.now c.args.step.now c.requires.accepted).1

pub returns-else-ends : goal.returns-else-ends
returns-else-ends c =
    let st = c.args.self.now in
    let ends : ends_move st c.args.step.now ≡ false = sym c.requires.ends ∙ c.if-ends.false in
    c.both.ensures ∙ (ap (λ v. st.cut && not v) c.is_own-own.ensures ∙ begins_is st c.args.step.now c.requires.accepted ends)
