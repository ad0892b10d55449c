-- What make answers: how the record is judged that its generator makes.
use Rattle.std.specs.Prelude.{◌≡◌, ◌<◌, ◌≤◌, ℕ, zero, suc, ◌+◌, ◌*◌, ◌/◌, ◌%◌, ◌^◌, List, [], ◌∷◌, ◌++◌, Option, None, Some, Result, Ok, Err, codes, length, slice_get}
use Rattle.std.specs.Fmt.{decimal}
use Rattle.arimaa_board.specs.declared.position.Position.{Position}
use Rattle.arimaa_board.specs.declared.position.Step.{Step}
use Rattle.arimaa_forced.specs.Entries.{steps_with_marks}
use Rattle.arimaa_judge.specs.declared.judgement.Judged.TheVariants as judgement
use Rattle.arimaa_judge.specs.declared.rule.Rule.{Rule}
use Rattle.arimaa_judge.specs.Judgement.{IsJudged}
use Rattle.arimaa_judge.specs.Texts.{line, state_line, text_of_bad}
use Rattle.arimaa_board.specs.declared.ending.Ending.{Ending}
use Rattle.arimaa_model.specs.Game.{barred_by, ending, present}
use Rattle.arimaa_model.specs.Results.{next}
use Rattle.arimaa_model.specs.Strategies.{first_turn}
use Rattle.arimaa_record.specs.declared.label.Label.{Label}
use Rattle.arimaa_record.specs.declared.line.RecordLine.TheVariants as lines
use Rattle.arimaa_record.specs.Label.{next_label}
use Rattle.arimaa_record.specs.Written.{ended_line}
use Rattle.arimaa_cli.specs.declared.answer.Answer.{Answer}
use Rattle.arimaa_cli.specs.declared.answer.Answer.TheVariants.{Answered, Crowded, Done}
use Rattle.arimaa_cli.specs.declared.commands.make.Making.{Making}
use Rattle.arimaa_cli.specs.Texts.{crowded_text}
use Rattle.arimaa_cli.specs.declared.commands.make.TheConstants.{MOST_PLACES, SETUPS}

-- the number that the generator goes on with
abbrev pub number_after : ℕ → ℕ
number_after number = (number * 6364136223846793005 + 1442695040888963407) % 2 ^ 64

-- the position q that a number picks from the list at p, and the first turn that leads to it
pub record IsPicked (number : ℕ) (barred : List Position) (p q : Position) (turn : List Step)
    : Type 0 where
  pub few : length (next barred p) ≤ MOST_PLACES
  pub place : slice_get (next barred p) (number / 2 ^ 33 % length (next barred p)) ≡ Some q
  pub first : first_turn p q ≡ Some turn

-- the line of a turn, with its removal marks
abbrev pub turn_line : Label → Position → List Step → List ℕ
turn_line due p turn = ended_line (lines.Turn due.number due.side (steps_with_marks p.board turn))

-- the game goes on, and stands at this position
pub record GoesOnAt (h : List Position) (p : Position) : Type 0 where
  pub on : ending h ≡ None
  pub last : present h ≡ Some p

-- what becomes of a record with so many turns to make, where the generator is at this number, this
-- label is due, and the game has this history: its text, or the position whose list is too long
pub data IsMadeFrom : ℕ → ℕ → Label → List Position → List ℕ → Result (List ℕ) Position
    → Type 0 where
  -- no more turns are to be made
  enough : (number : ℕ) (due : Label) (h : List Position) (text : List ℕ)
      → IsMadeFrom zero number due h text (Ok text)
  -- the game has ended
  over : (n number : ℕ) (due : Label) (h : List Position) (text : List ℕ) (e : Ending)
      → ending h ≡ Some e → IsMadeFrom n number due h text (Ok text)
  -- the list is too long
  crowded : (n number : ℕ) (due : Label) (h : List Position) (text : List ℕ) (p : Position)
      → GoesOnAt h p → MOST_PLACES < length (next (barred_by h) p)
      → IsMadeFrom (suc n) number due h text (Err p)
  -- one more turn
  turn : (n number : ℕ) (due : Label) (h : List Position) (text : List ℕ) (p q : Position)
      (steps : List Step) (made : Result (List ℕ) Position) → GoesOnAt h p
      → IsPicked (number_after number) (barred_by h) p q steps
      → IsMadeFrom n (number_after number) (next_label due) (h ++ q ∷ [])
      (text ++ turn_line due p steps) made
      → IsMadeFrom (suc n) number due h text made

-- the setups are a lawful record that ends with this position, and then this label is due
pub record IsStart (p : Position) (due : Label) : Type 0 where
  pub history : List Position
  pub turns : ℕ
  pub ended : Option Ending
  pub judged : IsJudged SETUPS.now (judgement.Lawful history turns ended due)
  pub last : present history ≡ Some p

-- the text of the record that is asked for, or the position whose list is too long
pub data IsMade (asked : Making) : Result (List ℕ) Position → Type 0 where
  -- turns are made from the position after the setups
  begun : (p : Position) (due : Label) → IsStart p due → (made : Result (List ℕ) Position)
      → IsMadeFrom asked.turns asked.number due (p ∷ []) SETUPS.now made → IsMade asked made
  -- without such a position no turn is made
  unbegun : ((p : Position) (due : Label) → IsStart p due → ⊥) → IsMade asked (Ok SETUPS.now)

-- what was made, by the position whose list was too long, if one was, and the text
abbrev pub made_of : Option Position → List ℕ → Result (List ℕ) Position
made_of None text = Ok text
made_of (Some p) text = Err p

-- a record that was made: the numbers of its turns and its bytes, and how its game stands
abbrev pub summary : ℕ → ℕ → Option Ending → Label → List ℕ
summary turns bytes ended next =
    line (codes "turns " ++ decimal turns) ++ line (codes "bytes " ++ decimal bytes)
    ++ state_line ended next

-- what make answers
pub data IsMakeAnswer (asked : Making) : Answer → Type 0 where
  -- a list is too long
  crowded : (p : Position) → IsMade asked (Err p)
      → IsMakeAnswer asked (Crowded (crowded_text p 1))
  -- a lawful record
  lawful : (text : List ℕ) (history : List Position) (turns : ℕ) (ended : Option Ending)
      (next : Label) → IsMade asked (Ok text)
      → IsJudged text (judgement.Lawful history turns ended next)
      → IsMakeAnswer asked (Done (summary turns (length text) ended next))
  -- a bad record
  bad : (text : List ℕ) (number : ℕ) (due : Label) (rule : Rule) → IsMade asked (Ok text)
      → IsJudged text (judgement.Bad number due rule)
      → IsMakeAnswer asked (Answered (text_of_bad number due rule))
