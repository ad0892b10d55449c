-- Texts of answers.
use Rattle.std.specs.Prelude.{ℕ, List, ◌∷◌, ◌++◌, codes}
use Rattle.std.specs.Fmt.{decimal}
use Rattle.arimaa_board.specs.declared.position.Position.{Position}
use Rattle.arimaa_board.specs.Text.{text_of}
use Rattle.arimaa_forced.specs.declared.entry.Entry.{Entry}
use Rattle.arimaa_judge.specs.Texts.{line}
use Rattle.arimaa_record.specs.Label.{letter_of_side}
use Rattle.arimaa_strategy.specs.WrittenForm.{text_of_strategy}

-- a question about a position: the letter of the side to move, the board, and the number of turns
abbrev pub question_text : Position → ℕ → List ℕ
question_text p n = letter_of_side p.side ∷ 32 ∷ text_of p.board ++ 32 ∷ decimal n

-- a question for which there is too little room
abbrev pub crowded_text : Position → ℕ → List ℕ
crowded_text p n = line (codes "crowded " ++ question_text p n)

-- a question that costs more than the budget, and how many questions were counted
abbrev pub spent_text : Position → ℕ → ℕ → List ℕ
spent_text p n counted = line (codes "spent " ++ question_text p n ++ 32 ∷ decimal counted)

-- no line of an input says a word
abbrev pub missing_text : List ℕ → List ℕ
missing_text word = line (codes "no " ++ word)

-- a line that is none of those that come after a word
abbrev pub bad_line_text : List ℕ → ℕ → List ℕ
bad_line_text word number = line (word ++ 32 ∷ decimal number ++ codes " text")

-- a first faulty entry, or 0 for the root, and the word for its first fault
abbrev pub refused_text : ℕ → List ℕ → List ℕ
refused_text entry why = line (codes "refused " ++ decimal entry ++ 32 ∷ why)

-- a forced win: its rank, and its strategy
abbrev pub win_text : ℕ → List Entry → List ℕ
win_text rank entries =
    line (codes "yes " ++ decimal rank) ++ line (codes "strategy") ++ text_of_strategy entries
