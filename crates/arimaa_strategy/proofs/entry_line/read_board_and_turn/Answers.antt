use Rattle.std.proofs.Common.{◌≡◌, ◌∙◌, sym, ap, subst, take, drop, refl}
use Rattle.arimaa_board.specs.Text.{IsBoardText}
use Rattle.arimaa_notation.specs.Grammar.{IsTurnText}
use Rattle.arimaa_notation.specs.Items.{without_first_blanks}
use Rattle.arimaa_strategy.proofs.Lemmas.EntryLines.{front_of, back_of, joined_again}
use Rattle.arimaa_strategy.proofs.entry_line.read_board_and_turn.Goals as goal

pub returns-in_default-clause-none : goal.returns-in_default-clause-none
returns-in_default-clause-none c = λ b ns h.
    let same : h.board ≡ c.split_at.result.0.now = front_of c.args.rest.now b ns h ∙ (ap (take 66) (sym c.trim_start-text.ensures) ∙ sym c.split_at.ensures.front) in
    c.in_default.not-Ok b ((c.read_board.ensures.reads b).1 (subst (λ z. IsBoardText z b) same h.shown))

pub returns-in_default-read_turn-clause-none : goal.returns-in_default-read_turn-clause-none
returns-in_default-read_turn-clause-none c = λ b ns h.
    let same : h.turn ≡ c.split_at.result.1.now = back_of c.args.rest.now b ns h ∙ (ap (drop 66) (sym c.trim_start-text.ensures) ∙ sym c.split_at.ensures.back) in
    c.in_default-read_turn.not-Ok ns ((c.read_turn.ensures.turn ns).1 (subst (λ z. IsTurnText z ns) same h.played))

pub returns-clause-form : goal.returns-clause-form
returns-clause-form c = record {
  board = c.split_at.result.0.now;
  turn = c.split_at.result.1.now;
  cut = joined_again (without_first_blanks c.args.rest.now) c.trim_start-text.result.now c.split_at.result.0.now c.split_at.result.1.now c.trim_start-text.ensures c.split_at.ensures.front c.split_at.ensures.back;
  shown = (c.in-Ok.ensures.reads c.in-Ok.board).0 refl;
  apart = sym c.begins_blank.ensures ∙ c.if-not-begins_blank.false;
  played = (c.in-Ok-read_turn.ensures.turn c.in-Ok-read_turn.turn).0 refl;
}
