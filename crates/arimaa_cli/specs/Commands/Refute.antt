-- What refute answers about a lawful record.
use Rattle.std.specs.Prelude.{◌≡◌, ◌≤◌, ℕ, List, ◌++◌, Some, codes}
use Rattle.arimaa_board.specs.declared.position.Position.{Position}
use Rattle.arimaa_forced.specs.Search.{crowd, size}
use Rattle.arimaa_judge.specs.Texts.{line}
use Rattle.arimaa_model.specs.Game.{barred_by, present}
use Rattle.arimaa_refute.specs.declared.escape.Escape.{Escape}
use Rattle.arimaa_refute.specs.declared.refute_answer.Refuted.{Refuted}
use Rattle.arimaa_refute.specs.declared.refute_answer.Refuted.TheVariants as refuted
use Rattle.arimaa_refute.specs.Refutations.{IsDone, IsRefuted}
use Rattle.arimaa_refute.specs.Text.{text_of_escapes}
use Rattle.arimaa_cli.specs.declared.answer.Answer.{Answer}
use Rattle.arimaa_cli.specs.declared.answer.Answer.TheVariants as answer
use Rattle.arimaa_cli.specs.declared.commands.prove.Asked.{Asked}
use Rattle.arimaa_cli.specs.declared.record.Game.{Game}
use Rattle.arimaa_cli.specs.Commands.Verify.{escapes_word}
use Rattle.arimaa_cli.specs.Positions.{IsAnswerAt}
use Rattle.arimaa_cli.specs.Texts.{crowded_text, spent_text}

-- a position that isn't won: its escapes
abbrev pub held_text : List Escape → List ℕ
held_text c = line (codes "held") ++ line escapes_word ++ text_of_escapes c

-- what the maker of escapes finds, as it is answered
abbrev pub answer_of_refuted : Refuted → Answer
answer_of_refuted (refuted.Held c) = answer.Done (held_text c)
answer_of_refuted refuted.Wins = answer.Answered (line (codes "wins"))
answer_of_refuted (refuted.Spent q n counted) = answer.Spent (spent_text q n counted)
answer_of_refuted (refuted.Crowded q n) = answer.Crowded (crowded_text q n)

-- the budget is at least what it costs to ask everything, and the room what the position itself
-- needs
pub record IsAmple (asked : Asked) (h : List Position) (p : Position) : Type 0 where
  pub budget : size (barred_by h) asked.depth p ≤ asked.settings.budget
  pub room : crowd (barred_by h) asked.depth p ≤ asked.settings.room

-- what the maker finds of the position p that the history h ends with: its own escapes, which hold
-- it; that it is won; or a stop with its cause, which doesn't come where budget and room are ample
pub record IsMade (asked : Asked) (h : List Position) (p : Position)
    (found : Refuted) : Type 0 where
  pub right : IsRefuted asked.attacker (barred_by h) asked.settings.budget asked.settings.room p
      asked.depth found
  pub complete : IsAmple asked h p → IsDone found

-- what is answered about the position p that the history h ends with
pub record IsToldOf (asked : Asked) (h : List Position) (p : Position) (a : Answer) : Type 0 where
  pub found : Refuted
  pub made : IsMade asked h p found
  pub told : a ≡ answer_of_refuted found

-- what refute answers about a lawful record of this game
abbrev pub IsRefuteAnswer : Asked → Game → Answer → Type 0
IsRefuteAnswer asked game a = IsAnswerAt (IsToldOf asked game.history) game a

-- budget and room are ample at the position that a game ends with
abbrev pub IsAmpleAt : Asked → Game → Type 0
IsAmpleAt asked game = (p : Position) → present game.history ≡ Some p → IsAmple asked game.history p
