use Rattle.std.proofs.Common.{◌≡◌, ◌∙◌, sym, ap, false, arith, Err, Ok}
use Rattle.std.specs.Prelude.{nat_le}
use Rattle.std.proofs.lemmas.Bool.Decides.{nat_tests}
use Rattle.arimaa_step.specs.State.{trap_first}
use Rattle.arimaa_step.proofs.Lemmas.AnswerLaws.{any_is, stuck_answer, ok_answer}
use Rattle.arimaa_step.proofs.state.TurnState.next_fitting.Goals as goal

pub returns-then-not-any : goal.returns-then-not-any
returns-then-not-any c =
    let few : nat_le 4 c.args.self.now.count ≡ false = grind (arith, nat_tests) in
    ap Err c.broken_rule.ensures ∙ sym (stuck_answer c.args.self.now c.args.step.now few (any_is _ _ _ _ _ _ _ c.any.ensures c.goes_alone-as_single.ensures c.ends_move-ends.ensures c.begins_push-as_half.ensures ∙ c.if-not-any.true))

pub returns : goal.returns
returns c =
    let few : nat_le 4 c.args.self.now.count ≡ false = grind (arith, nat_tests) in
    let state = c.after_step.ensures in
    let removed = c.trap_first.ensures ∙ ap trap_first c.removed.ensures in
    (λ i. Ok (record { state = state i; removed = removed i })) ∙ sym (ok_answer c.args.self.now c.args.step.now few (any_is _ _ _ _ _ _ _ c.any.ensures c.goes_alone-as_single.ensures c.ends_move-ends.ensures c.begins_push-as_half.ensures ∙ c.if-not-any.false))
