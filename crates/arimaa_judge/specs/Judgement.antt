-- What a record is: lawful, with its game, or bad at its first bad line.
use Rattle.std.specs.Prelude.{◌≡◌, ◌⊎◌, ℕ, ◌+◌, List, [], ◌∷◌, Option, None, Some, All, is_some, length, if◌then◌else◌}
use Rattle.arimaa_board.specs.Fit.{IsFit}
use Rattle.arimaa_board.specs.declared.ending.Ending.{Ending}
use Rattle.arimaa_model.specs.Game.{ending}
use Rattle.arimaa_game.specs.Play.{AreLawful, turns_in}
use Rattle.arimaa_record.specs.Grammar.{IsLineReading}
use Rattle.arimaa_record.specs.Lines.{lines_of}
use Rattle.arimaa_record.specs.declared.label.Label.{Label}
use Rattle.arimaa_judge.specs.declared.judgement.Judged.{Judged}
use Rattle.arimaa_judge.specs.declared.judgement.Judged.TheVariants.{Lawful, Bad}
use Rattle.arimaa_judge.specs.declared.rule.Rule.{Rule}
use Rattle.arimaa_judge.specs.RecordState.{Reading, RecordState, after_reading, before_lines, state_ending}
use Rattle.arimaa_judge.specs.RecordStateInvariant.{IsByWord}
use Rattle.arimaa_judge.specs.Rules.{rule_at}

-- a record whose lines broke no rule: its turns are those that stand
abbrev pub lawful_of : RecordState → Judged
lawful_of s = Lawful s.history (length s.labels) (state_ending s) s.due

-- the outcome at a line: where it breaks a rule the record is bad there, and else it is what the
-- later lines make it
abbrev pub IsOutcome : Option Rule → ℕ → Label → Judged → Type 0 → Type 0
IsOutcome (Some rule) number due judged later = judged ≡ Bad number due rule
IsOutcome None number due judged later = later

-- the judgement of these lines, the first of which has this number, where this is the state of the
-- record before them
abbrev pub IsJudgedFrom : RecordState → ℕ → List (List ℕ) → Judged → Type 0
IsJudgedFrom s number [] judged = judged ≡ lawful_of s
IsJudgedFrom s number (line ∷ later) judged =
    (r : Reading) × IsLineReading line r
    × IsOutcome (rule_at s r) number s.due judged
    (IsJudgedFrom (after_reading s r) (number + 1) later judged)

-- a line is taken, and leads to the next state, unless it breaks a rule: then all stays
pub record Accepts (s : RecordState) (due : Option Rule) (next : RecordState)
    (broken : Option Rule) (later : RecordState) : Type 0 where
  pub rule : due ≡ broken
  pub after : later ≡ (if is_some broken then s else next)

-- what a line does to the state of a record: where it breaks a rule, all stays
pub record TakesLine (s : RecordState) (line : List ℕ) (broken : Option Rule)
    (later : RecordState) : Type 0 where
  pub reading : Reading
  pub read : IsLineReading line reading
  pub rule : rule_at s reading ≡ broken
  pub after : later ≡ (if is_some broken then s else after_reading s reading)

-- the judgement of an input: its lines are taken in order, counted from 1
abbrev pub IsJudged : List ℕ → Judged → Type 0
IsJudged bytes judged = IsJudgedFrom before_lines 1 (lines_of bytes) judged

-- each position of a lawful record's game has a fit board
abbrev pub HasFitBoards : Judged → Type 0
HasFitBoards (Lawful history turns ended next) = All (λ q. IsFit q.board) history
HasFitBoards (Bad number due rule) = Unit {0}

-- in the game of a lawful record each position after the first is one that the rules of the game
-- allow after those before it, which had not ended the game
abbrev pub HasLawfulTurns : Judged → Type 0
HasLawfulTurns (Lawful history turns ended next) = AreLawful history
HasLawfulTurns (Bad number due rule) = Unit {0}

-- the turns of a lawful record are those that brought its positions about, all but the first
abbrev pub HasTurnCount : Judged → Type 0
HasTurnCount (Lawful history turns ended next) = turns ≡ turns_in history
HasTurnCount (Bad number due rule) = Unit {0}

-- the game of a lawful record has ended as the rules say, or by a word
abbrev pub HasEnding : Judged → Type 0
HasEnding (Lawful history turns ended next) =
    (ended ≡ ending history) ⊎ ((e : Ending) × (ended ≡ Some e) × IsByWord e)
HasEnding (Bad number due rule) = Unit {0}
