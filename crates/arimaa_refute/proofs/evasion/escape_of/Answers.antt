use Rattle.std.proofs.Common.{◌≡◌, suc, ◌+◌, Some, Err, is_some, sym, ◌∙◌, ap, arith}
use Rattle.std.proofs.lemmas.Result.{IfOk-at_ok}
use Rattle.std.proofs.lemmas.Option.{MatchOption-at_some, same_Some}
use Rattle.arimaa_board.specs.NotedTurns.{noted_turn, noted_marks}
use Rattle.arimaa_model.specs.Marks.{marks_of}
use Rattle.arimaa_model.specs.Results.{result_of}
use Rattle.arimaa_model.specs.Faults.{apply_result}
use Rattle.arimaa_forced.specs.Entries.{steps_with_marks}
use Rattle.arimaa_refute.specs.OwnEscapes.{first_evasion}
use Rattle.arimaa_refute.specs.Refutations.{Terms}
use Rattle.arimaa_refute.proofs.FirstEvasions.{evasion-turn}
use Rattle.arimaa_refute.proofs.evasion.escape_of.Goals as goal
use Rattle.arimaa_strategy.proofs.Lemmas.NotedTurns.{with_marks, never_refused, never-err}

pub unwrap-turn-requires : goal.unwrap-turn-requires
unwrap-turn-requires c =
    let t : Terms = c.args.asker.now in
    ap is_some (c.first_turn.ensures.first ∙ evasion-turn t.attacker t.barred c.args.depth c.args.p.now c.in_ok-reached.reached c.in_ok-reached.ensures.first)

pub unwrap-requires : goal.unwrap-requires
unwrap-requires c =
    let reached = MatchOption-at_some (Unit {0}) (λ steps. result_of c.args.p.now steps ≡ Some c.in_ok-reached.reached) c.unwrap-turn.result c.unwrap-turn.ensures c.first_turn.ensures.reaches in
    never-err c.note.result (λ e. apply_result c.args.p.now c.unwrap-turn.result ≡ Err e) c.note.ensures.refused (λ e refused. never_refused c.args.p.now c.in_ok-reached.reached c.unwrap-turn.result ⊥ reached e refused)

pub returns-clause-escape : goal.returns-clause-escape
returns-clause-escape c =
    let t : Terms = c.args.asker.now in
    let turn = evasion-turn t.attacker t.barred c.args.depth c.args.p.now c.in_ok-reached.reached c.in_ok-reached.ensures.first in
    let same : c.unwrap-turn.result ≡ first_evasion t.attacker t.barred c.args.depth c.args.p.now = same_Some _ _ (sym c.unwrap-turn.ensures ∙ (c.first_turn.ensures.first ∙ turn)) in
    let noted = IfOk-at_ok (λ x. noted_turn x ≡ c.unwrap-turn.result) c.unwrap.ensures c.note.ensures.turn in
    let marks = IfOk-at_ok (λ x. noted_marks x ≡ marks_of c.args.p.now.board c.unwrap-turn.result) c.unwrap.ensures c.note.ensures.marks in
    let whole = with_marks c.args.p.now.board c.unwrap.result c.unwrap-turn.result noted marks ∙ ap (steps_with_marks c.args.p.now.board) same in
    let one : c.args.depth + 1 ≡ suc c.args.depth = omega arith in
    λ i. record { position = c.args.p.now; depth = one i; turn = whole i }

pub returns-clause-leads : goal.returns-clause-leads
returns-clause-leads c =
    let t : Terms = c.args.asker.now in
    let turn = evasion-turn t.attacker t.barred c.args.depth c.args.p.now c.in_ok-reached.reached c.in_ok-reached.ensures.first in
    let same : c.unwrap-turn.result ≡ first_evasion t.attacker t.barred c.args.depth c.args.p.now = same_Some _ _ (sym c.unwrap-turn.ensures ∙ (c.first_turn.ensures.first ∙ turn)) in
    let reached = MatchOption-at_some (Unit {0}) (λ steps. result_of c.args.p.now steps ≡ Some c.in_ok-reached.reached) c.unwrap-turn.result c.unwrap-turn.ensures c.first_turn.ensures.reaches in
    ap (λ s. result_of c.args.p.now s) (sym same) ∙ reached
