use Rattle.std.proofs.Common.{◌≡◌, ℕ, ◌-◌, Some, Err, is_some, sym, ◌∙◌, ap}
use Rattle.std.proofs.lemmas.Result.{IfOk-at_ok}
use Rattle.std.proofs.lemmas.Option.{MatchOption-at_some}
use Rattle.arimaa_board.specs.declared.position.Position.{Position}
use Rattle.arimaa_board.specs.NotedTurns.{noted_turn, noted_marks}
use Rattle.arimaa_model.specs.Marks.{marks_of}
use Rattle.arimaa_model.specs.Results.{result_of}
use Rattle.arimaa_model.specs.Faults.{apply_result}
use Rattle.arimaa_model.specs.Strategies.{entry_of, first_turn, result_at}
use Rattle.arimaa_pool.specs.Terms.{Terms}
use Rattle.arimaa_pool.proofs.Lemmas.EntryLaws.{reached-turn, written}
use Rattle.arimaa_pool.proofs.entries.entry_of.Goals as goal
use Rattle.arimaa_strategy.proofs.Lemmas.NotedTurns.{with_marks, never_refused, never-err}

-- what the entry brings about, on the terms at the beginning
same_terms : (t u : Terms) (n : ℕ) (q r : Position) → u ≡ t → result_at (entry_of u.attacker u.barred n q) ≡ Some r → result_at (entry_of t.attacker t.barred n q) ≡ Some r
same_terms t u n q r same turn = sym (ap (λ (v : Terms). result_at (entry_of v.attacker v.barred n q)) same) ∙ turn

pub unwrap-turn-requires : goal.unwrap-turn-requires
unwrap-turn-requires c =
    let t : Terms = c.args.asker.now in
    let turn = reached-turn t.attacker t.barred c.args.n c.args.q.now c.in_ok-reached.reached c.requires.open (same_terms t c.rank_of.new.asker c.args.n c.args.q.now c.in_ok-reached.reached c.rank_of.ensures.same c.in_ok-reached.ensures.result) in
    ap is_some (c.first_turn.ensures.first ∙ turn)

pub unwrap-requires : goal.unwrap-requires
unwrap-requires c =
    let reached = MatchOption-at_some (Unit {0}) (λ steps. result_of c.args.q.now steps ≡ Some c.in_ok-reached.reached) c.unwrap-turn.result c.unwrap-turn.ensures c.first_turn.ensures.reaches in
    never-err c.note.result (λ e. apply_result c.args.q.now c.unwrap-turn.result ≡ Err e) c.note.ensures.refused (λ e refused. never_refused c.args.q.now c.in_ok-reached.reached c.unwrap-turn.result ⊥ reached e refused)

pub returns-clause-entry : goal.returns-clause-entry
returns-clause-entry c =
    let t : Terms = c.args.asker.now in
    let turn = reached-turn t.attacker t.barred c.args.n c.args.q.now c.in_ok-reached.reached c.requires.open (same_terms t c.rank_of.new.asker c.args.n c.args.q.now c.in_ok-reached.reached c.rank_of.ensures.same c.in_ok-reached.ensures.result) in
    let steps_are : Some c.unwrap-turn.result ≡ Some (entry_of t.attacker t.barred c.args.n c.args.q.now).steps = sym c.unwrap-turn.ensures ∙ (c.first_turn.ensures.first ∙ turn) in
    let same : c.unwrap-turn.result ≡ (entry_of t.attacker t.barred c.args.n c.args.q.now).steps = cc in
    let noted = IfOk-at_ok (λ x. noted_turn x ≡ c.unwrap-turn.result) c.unwrap.ensures c.note.ensures.turn in
    let marks = IfOk-at_ok (λ x. noted_marks x ≡ marks_of c.args.q.now.board c.unwrap-turn.result) c.unwrap.ensures c.note.ensures.marks in
    written t c.args.n c.args.q.now c.in_ok-rank.rank c.unwrap.result c.unwrap-turn.result c.in_ok-rank.ensures.rank same (with_marks c.args.q.now.board c.unwrap.result c.unwrap-turn.result noted marks)
