-- What a worker answers to a question.
use Rattle.std.specs.Prelude.{◌≡◌, ℕ, ◌<◌, true, false, List}
use Rattle.arimaa_board.specs.declared.piece.Color.{Color}
use Rattle.arimaa_board.specs.declared.position.Position.{Position}
use Rattle.arimaa_model.specs.Wins.{wins}
use Rattle.arimaa_forced.specs.Search.{cost, crowd}
use Rattle.arimaa_line.specs.declared.line.Line.{Line}
use Rattle.arimaa_search.specs.declared.answer.Asked.{Asked}
use Rattle.arimaa_search.specs.declared.answer.Asked.TheVariants.{Yes, No, Spent, Crowded}
use Rattle.arimaa_search.specs.Traces.{Tells}

-- the answer on p and n, with this room and this budget, where so many questions were opened: a
-- verdict is right, and a stop names the question and has its cause
abbrev pub IsAnswer : Color → List Position → ℕ → Position → ℕ → ℕ → ℕ → Asked → Type 0
IsAnswer a barred n p room budget counted Yes = wins a barred n p ≡ true
IsAnswer a barred n p room budget counted No = wins a barred n p ≡ false
IsAnswer a barred n p room budget counted (Spent q m k) =
    (q ≡ p) × (m ≡ n) × (k ≡ budget) × (counted ≡ budget) × (budget < cost a barred n p)
IsAnswer a barred n p room budget counted (Crowded q m) =
    (q ≡ p) × (m ≡ n) × (room < crowd barred n p)

-- the answer is yes or no
abbrev pub IsVerdict : Asked → Type 0
IsVerdict Yes = Unit {0}
IsVerdict No = Unit {0}
IsVerdict (Spent q m k) = ⊥
IsVerdict (Crowded q m) = ⊥

-- the line gives the answer, which is yes or no unless the budget is spent
abbrev pub IsTold : Line → Position → ℕ → Asked → Type 0
IsTold line p n Yes = Tells line p n true
IsTold line p n No = Tells line p n false
IsTold line p n (Spent q m k) = Unit {0}
IsTold line p n (Crowded q m) = ⊥
