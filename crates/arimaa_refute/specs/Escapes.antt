-- Lists of escapes that hold a root: the attacker does not win it within so many turns.
use Rattle.std.specs.Prelude.{◌≡◌, ◌≢◌, ℕ, zero, suc, ◌-◌, ◌<◌, ◌≤◌, Bool, true, false, not, ◌&&◌, ◌||◌, List, [], ◌∷◌, ◌++◌, length, map, nat_le, Option, None, Some, IsTrue, if◌then◌else◌}
use Rattle.std.specs.List.{AllByRecursion, list_any, list_all}
use Rattle.arimaa_board.specs.declared.piece.Color.{Color}
use Rattle.arimaa_board.specs.Board.{same_color}
use Rattle.arimaa_board.specs.declared.position.Position.{Position}
use Rattle.arimaa_board.specs.declared.ending.Ending.{Ending}
use Rattle.arimaa_model.specs.DecidedPositions.{decided}
use Rattle.arimaa_model.specs.Results.{same_position, stands_in, next}
use Rattle.arimaa_model.specs.Wins.{is_nil}
use Rattle.arimaa_model.specs.Strategies.{result_at}
use Rattle.arimaa_forced.specs.declared.entry.Entry.{Entry}
use Rattle.arimaa_forced.specs.Entries.{planned_of, has_right_marks}
use Rattle.arimaa_refute.specs.declared.escape.Escape.{Escape}

-- the turn of each escape has a step
abbrev pub EscapesHaveSteps : List Escape → Type 0
EscapesHaveSteps c = AllByRecursion (λ e. 0 < length e.turn) c

-- the escape as an entry of a position, with its depth in the place of a rank
abbrev pub entry_of : Escape → Entry
entry_of e = record { position = e.position; rank = e.depth; turn = e.turn }

-- the position that an escape leads to, where its turn is one
abbrev pub result_of_escape : Escape → Option Position
result_of_escape e = result_at (planned_of (entry_of e))

-- whether an escape is one of q, and at least k deep
abbrev pub is_escape_of : Position → ℕ → Escape → Bool
is_escape_of q k e = same_position e.position q && nat_le k e.depth

-- whether a list has an escape of q that is at least k deep
abbrev pub has_escape : List Escape → Position → ℕ → Bool
has_escape c q k = list_any (is_escape_of q k) c

-- whether no turn is left to the question, and the defender has one
abbrev pub can_wait : ℕ → List Position → Bool
can_wait zero qs = not (is_nil qs)
can_wait (suc k) qs = false

-- whether a position with the defender to move is safe for k turns, by its ending
abbrev pub safe_for : Color → List Position → List Escape → ℕ → Position → Option Ending → Bool
safe_for a barred c k q (Some e) = not (same_color e.winner a)
safe_for a barred c k q None = can_wait k (next barred q) || has_escape c q k

-- whether a position with the defender to move is safe for k turns: it is decided for him, or it is
-- undecided and he can wait or has an escape that is deep enough
abbrev pub is_safe : Color → List Position → List Escape → ℕ → Position → Bool
is_safe a barred c k q = safe_for a barred c k q (decided q)

-- whether each position that the attacker may turn to is safe for the turns that are then left
abbrev pub are_safe : Color → List Position → List Escape → ℕ → List Position → Bool
are_safe a barred c zero qs = true
are_safe a barred c (suc k) qs = list_all (is_safe a barred c k) qs

-- whether a position with the attacker to move is held for n turns, by its ending
abbrev pub held_for : Color → List Position → List Escape → ℕ → Position → Option Ending → Bool
held_for a barred c n p (Some e) = not (same_color e.winner a)
held_for a barred c n p None = are_safe a barred c n (next barred p)

-- whether a position with the attacker to move is held for n turns: it is decided for the defender,
-- or it is undecided and each next position is safe
abbrev pub is_held : Color → List Position → List Escape → ℕ → Position → Bool
is_held a barred c n p = held_for a barred c n p (decided p)

-- whether the root is held for n turns
abbrev pub is_root_held : Color → List Position → List Escape → ℕ → Position → Bool
is_root_held a barred c n p =
    if same_color p.side a then is_held a barred c n p else is_safe a barred c n p

-- an escape that stands behind earlier ones is good
pub record IsGoodEscape (a : Color) (barred : List Position) (c earlier : List Escape)
    (e : Escape) : Type 0 where
  pub side : e.position.side ≢ a
  pub deep : 1 ≤ e.depth
  pub small : e.depth ≤ 20
  pub once : stands_in (map (λ x. x.position) earlier) e.position ≡ false
  pub undecided : decided e.position ≡ None
  pub marked : IsTrue (has_right_marks (entry_of e))
  pub result : Position
  pub turn : result_of_escape e ≡ Some result
  pub allowed : IsTrue (stands_in (next barred e.position) result)
  pub held : IsTrue (is_held a barred c (e.depth - 1) result)

-- each escape of a list that stands behind earlier ones is good
abbrev pub AreGoodEscapes : Color → List Position → List Escape → List Escape → List Escape
    → Type 0
AreGoodEscapes a barred c earlier [] = Unit {0}
AreGoodEscapes a barred c earlier (e ∷ es) = IsGoodEscape a barred c earlier e
    × AreGoodEscapes a barred c (earlier ++ e ∷ []) es

-- the escapes c hold the root p: the attacker a does not win it within n turns
pub record Holds (a : Color) (barred : List Position) (n : ℕ) (c : List Escape)
    (p : Position) : Type 0 where
  pub escapes : AreGoodEscapes a barred c [] c
  pub root : IsTrue (is_root_held a barred c n p)
