-- The lines of a record: what a line says, and what is wrong with one that says nothing.
use Rattle.std.specs.Prelude.{◌≡◌, ◌≢◌, ◌⊎◌, ℕ, List, [], ◌∷◌, codes, Result, Ok, Err}
use Rattle.arimaa_board.specs.declared.piece.Piece.{Piece}
use Rattle.arimaa_board.specs.declared.turn.NotedStep.{NotedStep}
use Rattle.arimaa_board.specs.Text.{IsBoardText, reading_of}
use Rattle.arimaa_board.specs.declared.ending.Word.{Word}
use Rattle.arimaa_board.specs.declared.ending.Word.TheVariants.{Resigns, Time}
use Rattle.arimaa_notation.specs.Items.{items_of, IsFirstItem}
use Rattle.arimaa_notation.specs.Grammar.{AreSteps, AreEntries, IsTurnReading, IsSetupReading, AreTooManySteps, AreNoSetup}
use Rattle.arimaa_record.specs.declared.label.Label.{Label}
use Rattle.arimaa_record.specs.declared.line.RecordLine.{RecordLine}
use Rattle.arimaa_record.specs.declared.line.RecordLine.TheVariants as line
use Rattle.arimaa_record.specs.declared.fault.LineFault.{LineFault}
use Rattle.arimaa_record.specs.declared.fault.LineFault.TheVariants as fault
use Rattle.arimaa_record.specs.Label.{IsLabel, label_of}
use Rattle.arimaa_notation.specs.Items.{without_outer_blanks}

-- a comment: after any blanks the line begins with '#'
pub record IsComment (bytes : List ℕ) : Type 0 where
  pub item : List ℕ
  pub items : List (List ℕ)
  pub begun : items_of bytes ≡ (35 ∷ item) ∷ items

-- a line that says nothing: one of blanks alone, or a comment
abbrev pub IsBlankLine : List ℕ → Type 0
IsBlankLine bytes = (items_of bytes ≡ []) ⊎ IsComment bytes

-- a start line: the word, a label, and the rest of the line without the blanks at its ends, which
-- may be empty
pub record IsStartForm (bytes : List ℕ) (label : Label) (text : List ℕ) : Type 0 where
  pub after : List ℕ
  pub word : IsFirstItem bytes (codes "start") after
  pub item : List ℕ
  pub rest : List ℕ
  pub next : IsFirstItem after item rest
  pub named : IsLabel item label
  pub last : text ≡ without_outer_blanks rest

-- a line that begins with a label, after which these items follow
pub record IsLabelled (bytes : List ℕ) (label : Label) (items : List (List ℕ)) : Type 0 where
  pub item : List ℕ
  pub begun : items_of bytes ≡ item ∷ items
  pub named : IsLabel item label

-- the word that ends a game
abbrev pub text_of_word : Word → List ℕ
text_of_word Resigns = codes "resigns"
text_of_word Time = codes "time"

-- the word that takes a turn back
abbrev pub takeback_word : List ℕ
takeback_word = codes "takeback"

-- what may follow a label: nothing, entries, steps with their marks, a word that ends the game, or
-- the one that takes a turn back
abbrev pub IsContent : List (List ℕ) → Type 0
IsContent items =
    (items ≡ [])
    ⊎ ((es : List (ℕ × Piece)) × AreEntries items es)
    ⊎ ((ns : List NotedStep) × AreSteps items ns)
    ⊎ ((w : Word) × (items ≡ text_of_word w ∷ []))
    ⊎ (items ≡ takeback_word ∷ [])

-- what follows a label is not nothing and no word
pub record IsNoWord (items : List (List ℕ)) : Type 0 where
  pub some : items ≢ []
  pub no_word : (w : Word) → items ≢ text_of_word w ∷ []
  pub no_takeback : items ≢ takeback_word ∷ []

-- what follows a label is not nothing, no entries and no word
pub record IsNoOtherContent (items : List (List ℕ)) : Type 0 where
  pub others : IsNoWord items
  pub no_entries : (es : List (ℕ × Piece)) → ¬ AreEntries items es

-- a line of one of the forms, whatever it says
abbrev pub HasForm : List ℕ → Type 0
HasForm bytes =
    IsBlankLine bytes
    ⊎ ((label : Label) × (text : List ℕ) × IsStartForm bytes label text)
    ⊎ ((label : Label) × (items : List (List ℕ)) × IsLabelled bytes label items × IsContent items)

-- what a line says, without its end
abbrev pub IsLineText : List ℕ → RecordLine → Type 0
IsLineText bytes line.Blank = IsBlankLine bytes
IsLineText bytes (line.Start number side board) = (text : List ℕ)
    × IsStartForm bytes (label_of number side) text × IsBoardText text board
IsLineText bytes (line.Setup number side setup) = (items : List (List ℕ))
    × IsLabelled bytes (label_of number side) items × IsSetupReading items side (Ok setup)
IsLineText bytes (line.Turn number side noted) = (items : List (List ℕ))
    × IsLabelled bytes (label_of number side) items × IsTurnReading items (Ok noted)
IsLineText bytes (line.Closing number side word) = IsLabelled bytes (label_of number side)
    (text_of_word word ∷ [])
IsLineText bytes (line.Bare number side) = IsLabelled bytes (label_of number side) []
IsLineText bytes (line.Takeback number side) = IsLabelled bytes (label_of number side)
    (takeback_word ∷ [])

-- what is wrong with a line: it has none of the forms, its turn has more than four steps, its board
-- text is refused, or its entries are no setup
abbrev pub IsLineFault : List ℕ → LineFault → Type 0
IsLineFault bytes fault.Text = ¬ HasForm bytes
IsLineFault bytes (fault.Steps number side) = (items : List (List ℕ))
    × IsLabelled bytes (label_of number side) items × AreTooManySteps items
IsLineFault bytes (fault.BadStart number side why) = (text : List ℕ)
    × IsStartForm bytes (label_of number side) text × (reading_of text ≡ Err why)
IsLineFault bytes (fault.BadSetup number side) = (items : List (List ℕ))
    × IsLabelled bytes (label_of number side) items × (items ≢ []) × AreNoSetup items side

-- what a line is read as
abbrev pub IsLineReading : List ℕ → Result RecordLine LineFault → Type 0
IsLineReading bytes (Ok l) = IsLineText bytes l
IsLineReading bytes (Err f) = IsLineFault bytes f
