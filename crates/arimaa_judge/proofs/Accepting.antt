-- What lines that break no rule bring.
use Rattle.std.proofs.Common.{◌≡◌, ◌⊎◌, inl, inr, List, Option, None, Some, Ok, Err, ℕ, refl}
use Rattle.std.specs.Prelude.{IfOk, IfSome}
use Rattle.arimaa_board.specs.declared.ending.Ending.{Ending}
use Rattle.arimaa_record.specs.declared.line.RecordLine.{RecordLine}
use Rattle.arimaa_record.specs.declared.line.RecordLine.TheVariants as line
use Rattle.arimaa_record.specs.Grammar.{IsLineText, IsLineReading}
use Rattle.arimaa_judge.specs.Judgement.{Accepts}
use Rattle.arimaa_judge.specs.RecordState.{Reading, RecordState, after_line, declared_or}
use Rattle.arimaa_judge.specs.RecordStateInvariant.{IsByWord, IsGranted}
use Rattle.arimaa_judge.specs.Rules.{rule_after_closing}

-- after a closing line all stays
pub closed_stays : (s : RecordState) (l : RecordLine) → Accepts s (rule_after_closing l) (after_line s l) (rule_after_closing l) s
closed_stays s line.Blank = record { rule = refl; after = refl }
closed_stays s (line.Start number side board) = record { rule = refl; after = refl }
closed_stays s (line.Setup number side setup) = record { rule = refl; after = refl }
closed_stays s (line.Turn number side noted) = record { rule = refl; after = refl }
closed_stays s (line.Closing number side word) = record { rule = refl; after = refl }
closed_stays s (line.Bare number side) = record { rule = refl; after = refl }
closed_stays s (line.Takeback number side) = record { rule = refl; after = refl }

-- what the reader grants of a line
granted : (bytes : List ℕ) (l : RecordLine) → IsLineText bytes l → IsGranted l
granted bytes line.Blank text = tt
granted bytes (line.Start number side board) text = text.2.fit
granted bytes (line.Setup number side setup) text = text.2.1
granted bytes (line.Turn number side noted) text = tt
granted bytes (line.Closing number side word) text = tt
granted bytes (line.Bare number side) text = tt
granted bytes (line.Takeback number side) text = tt

pub granted_reading : (bytes : List ℕ) (r : Reading) → IsLineReading bytes r → IfOk r IsGranted
granted_reading bytes (Ok l) read = granted bytes l read
granted_reading bytes (Err f) read = tt

-- an ending that a word declared, and else that of the rules
pub ended_by : (word by_rules : Option Ending) → IfSome word IsByWord → (declared_or word by_rules ≡ by_rules) ⊎ ((e : Ending) × (declared_or word by_rules ≡ Some e) × IsByWord e)
ended_by (Some e) by_rules by_word = inr (e, refl, by_word)
ended_by None by_rules by_word = inl refl
