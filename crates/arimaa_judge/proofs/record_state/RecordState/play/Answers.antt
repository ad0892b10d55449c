use Rattle.std.proofs.Common.{◌≡◌, ◌∙◌, ap, cond, false, rules, sym}
use Rattle.std.specs.Prelude.{is_some}
use Rattle.arimaa_board.specs.NotedTurns.{noted_turn}
use Rattle.arimaa_game.specs.Play.{turns_in}
use Rattle.arimaa_judge.specs.declared.record_state.Stage.TheVariants as stage
use Rattle.arimaa_judge.specs.RecordState.{RecordState, with_played, with_turn}
use Rattle.arimaa_judge.specs.RecordStateInvariant.{AreRepeats}
use Rattle.arimaa_judge.proofs.DueLabels.{played-state, repeats-before, state_at}
use Rattle.arimaa_judge.proofs.record_state.RecordState.play.Goals as goal

pub repeated_after-self-inside-requires-clause-repeats : goal.repeated_after-self-inside-requires-clause-repeats
repeated_after-self-inside-requires-clause-repeats c =
    let h = c.in-Playing.game.history in
    let none : is_some c.in_ok-broken-in-Playing.broken ≡ false = search rules in
    let played : c.play_turn.new.game.history ≡ with_turn h (noted_turn c.args.noted.now) = rw none at c.in_ok-broken-in-Playing.ensures.history in
    let repeats : AreRepeats (turns_in h) c.self.inside.repeated c.self.inside.due = rw c.in-Playing.is at c.self.invariant.repeats in
    repeats-before h c.play_turn.new.game.history (noted_turn c.args.noted.now) c.turns.result c.self.inside.repeated c.self.inside.due
    (rw c.in-Playing.is at c.self.invariant.game).begun played c.turns.ensures.value repeats

pub returns-then-is_none : goal.returns-then-is_none
returns-then-is_none c =
    let s = c.self.inside in
    let steps = noted_turn c.args.noted.now in
    let g = c.in-Playing.game in
    let none : is_some c.in_ok-broken-in-Playing.broken ≡ false = search rules in
    let played : c.play_turn.new.game.history ≡ with_turn g.history steps = rw none at c.in_ok-broken-in-Playing.ensures.history in
    let begin : state_at (stage.Playing g) s.repeated s.due s.closed s.word ≡ c.args.self.now =
    ap (λ at. state_at at s.repeated s.due s.closed s.word) (sym c.in-Playing.is) ∙ c.self.view_is in
    let later = played-state g c.play_turn.new.game steps c.turns.result s.repeated c.repeated_after-self-inside.result s.due c.next-self-inside.result s.closed s.word
    (rw c.in-Playing.is at c.self.invariant.game).begun played c.turns.ensures.value c.next-self-inside.ensures c.repeated_after-self-inside.ensures.labels in
    record {
      rule = search rules;
      after = later ∙ (ap (λ (x : RecordState). with_played x steps) begin ∙ sym (ap (λ v. cond v c.args.self.now (with_played c.args.self.now steps)) none));
    }
