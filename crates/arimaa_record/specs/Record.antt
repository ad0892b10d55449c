-- Records: what the lines of an input say together.
use Rattle.std.specs.Prelude.{◌≡◌, ℕ, ◌+◌, List, [], ◌∷◌, ◌++◌, length, Result, Ok, Err}
use Rattle.arimaa_record.specs.declared.line.RecordLine.{RecordLine}
use Rattle.arimaa_record.specs.declared.fault.LineFault.{LineFault}
use Rattle.arimaa_record.specs.declared.fault.RecordFault.{RecordFault}
use Rattle.arimaa_record.specs.declared.fault.RecordFault.TheVariants.{Line, Memory}
use Rattle.arimaa_record.specs.Grammar.{IsLineText, IsLineFault}

-- these texts say these lines, one each, in order
abbrev pub AreLines : List (List ℕ) → List RecordLine → Type 0
AreLines [] [] = Unit {0}
AreLines [] (l ∷ ls) = ⊥
AreLines (text ∷ texts) [] = ⊥
AreLines (text ∷ texts) (l ∷ ls) = IsLineText text l × AreLines texts ls

-- the text of this number, counted from 1, has this fault, and each before it says a line
pub record IsFirstFault (texts : List (List ℕ)) (number : ℕ) (fault : LineFault) : Type 0 where
  pub before : List (List ℕ)
  pub text : List ℕ
  pub after : List (List ℕ)
  pub split : texts ≡ before ++ text ∷ after
  pub counted : number ≡ length before + 1
  pub lines : List RecordLine
  pub said : AreLines before lines
  pub faulty : IsLineFault text fault

-- what texts are read as, where there is memory
abbrev pub IsRecordReading : List (List ℕ) → Result (List RecordLine) RecordFault → Type 0
IsRecordReading texts (Ok ls) = AreLines texts ls
IsRecordReading texts (Err (Line number fault)) = IsFirstFault texts number fault
IsRecordReading texts (Err Memory) = Unit {0}
