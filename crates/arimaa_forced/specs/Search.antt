-- What it takes to find out who wins by force: how many questions, and how many positions are held
-- at once.
use Rattle.std.specs.Prelude.{ℕ, zero, suc, ◌+◌, max, Bool, not, List, [], ◌∷◌, length, Option, None, Some, sum_by, find, if◌then◌else◌}
use Rattle.arimaa_board.specs.declared.piece.Color.{Color}
use Rattle.arimaa_board.specs.Board.{same_color}
use Rattle.arimaa_board.specs.declared.position.Position.{Position}
use Rattle.arimaa_board.specs.declared.ending.Ending.{Ending}
use Rattle.arimaa_model.specs.DecidedPositions.{decided}
use Rattle.arimaa_model.specs.Results.{next}
use Rattle.arimaa_model.specs.Wins.{wins}

-- a number for a position that is not decided, and else another
abbrev pub if_open : Option Ending → ℕ → ℕ → ℕ
if_open None more closed = more
if_open (Some e) more closed = closed

-- the first of a list up to and including the first that ends it
abbrev pub up_to : (Position → Bool) → List Position → List Position
up_to ends [] = []
up_to ends (q ∷ qs) = q ∷ (if ends q then [] else up_to ends qs)

-- the sum over a list up to and including the first that ends it
abbrev pub sum_to : (Position → Bool) → (Position → ℕ) → List Position → ℕ
sum_to ends f [] = 0
sum_to ends f (q ∷ qs) = f q + (if ends q then 0 else sum_to ends f qs)

-- the largest number of a list, or 0
abbrev pub largest : (Position → ℕ) → List Position → ℕ
largest f [] = 0
largest f (q ∷ qs) = max (f q) (largest f qs)

-- whether a next position q of p is decisive: the attacker wins q within n turns and is to move at
-- p, or does not and isn't
abbrev pub is_decisive : Color → List Position → ℕ → Position → Position → Bool
is_decisive a barred n p q = if same_color p.side a then wins a barred n q else not
    (wins a barred n q)

-- the first decisive next position
abbrev pub first_decisive : Color → List Position → ℕ → Position → Option Position
first_decisive a barred n p = find (is_decisive a barred n p) (next barred p)

-- the next positions up to and including the first decisive one
abbrev pub looked_at : Color → List Position → ℕ → Position → List Position
looked_at a barred n p = up_to (is_decisive a barred n p) (next barred p)

-- the number of questions where each next position is asked about
unfoldable pub size : List Position → ℕ → Position → ℕ
size barred zero p = 1
size barred (suc n) p = if_open (decided p) (1 + sum_by (size barred n) (next barred p)) 1

-- the number of questions where the look ends at the first decisive position
unfoldable pub cost : Color → List Position → ℕ → Position → ℕ
cost a barred zero p = 1
cost a barred (suc n) p =
    if_open (decided p) (1 + sum_to (is_decisive a barred n p) (cost a barred n) (next barred p)) 1

-- the number of positions that are held at once
unfoldable pub crowd : List Position → ℕ → Position → ℕ
crowd barred zero p = 0
crowd barred (suc n) p =
    if_open (decided p) (length (next barred p) + largest (crowd barred n) (next barred p)) 0
