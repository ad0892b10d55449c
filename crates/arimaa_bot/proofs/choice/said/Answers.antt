use Rattle.std.proofs.Common.{◌≡◌, List, Err, ap, arith, length, subst}
use Rattle.std.specs.Prelude.{IfOk}
use Rattle.std.proofs.lemmas.Result.{IfOk-at_ok}
use Rattle.arimaa_board.specs.declared.turn.NotedStep.{NotedStep}
use Rattle.arimaa_board.specs.NotedTurns.{noted_marks, noted_turn}
use Rattle.arimaa_model.specs.Faults.{apply_result}
use Rattle.arimaa_model.specs.Marks.{marks_of}
use Rattle.arimaa_model.specs.Results.{result_of}
use Rattle.arimaa_model.proofs.Lemmas.Listed.{result-turn}
use Rattle.arimaa_notation.specs.Written.{text_of_turn}
use Rattle.arimaa_bot.proofs.Entries.{length-noted, some_value}
use Rattle.arimaa_bot.proofs.choice.said.Goals as goal
use Rattle.arimaa_strategy.proofs.Lemmas.NotedTurns.{never-err, never_refused, some_steps, with_marks}

pub unwrap-noted-requires : goal.unwrap-noted-requires
unwrap-noted-requires c =
    let r = some_value (result_of c.args.p.now c.args.turn.now) c.requires in
    never-err c.note.result (λ e. apply_result c.args.p.now c.args.turn.now ≡ Err e) c.note.ensures.refused (λ e refused. never_refused c.args.p.now r.0 c.args.turn.now ⊥ r.1 e refused)

pub noted_said-requires : goal.noted_said-requires
noted_said-requires c =
    let r = some_value (result_of c.args.p.now c.args.turn.now) c.requires in
    let noted = IfOk-at_ok (λ x. noted_turn x ≡ c.args.turn.now) c.unwrap-noted.ensures c.note.ensures.turn in
    let some = some_steps c.args.p.now c.args.turn.now (result-turn c.args.p.now c.args.turn.now r.0 r.1) in
    let same = length-noted c.unwrap-noted.result in
    let len = ap length noted in
    omega arith

pub returns : goal.returns
returns c =
    let noted = IfOk-at_ok (λ x. noted_turn x ≡ c.args.turn.now) c.unwrap-noted.ensures c.note.ensures.turn in
    let marks = IfOk-at_ok (λ x. noted_marks x ≡ marks_of c.args.p.now.board c.args.turn.now) c.unwrap-noted.ensures c.note.ensures.marks in
    let same = with_marks c.args.p.now.board c.unwrap-noted.result c.args.turn.now noted marks in
    subst (λ (n : List NotedStep). IfOk c.noted_said.result (λ text. text ≡ text_of_turn n)) same c.noted_said.ensures
