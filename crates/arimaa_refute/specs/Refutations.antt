-- What a maker of escapes answers.
use Rattle.std.specs.Prelude.{◌≡◌, ℕ, zero, suc, ◌<◌, ◌==◌, true, false, not, List, [], Option, if◌then◌else◌}
use Rattle.std.specs.List.{find}
use Rattle.arimaa_board.specs.declared.piece.Color.{Color}
use Rattle.arimaa_board.specs.declared.position.Position.{Position}
use Rattle.arimaa_model.specs.Results.{next}
use Rattle.arimaa_model.specs.Wins.{wins}
use Rattle.arimaa_forced.specs.Search.{cost, crowd}
use Rattle.arimaa_forced.specs.Needs.{InTree}
use Rattle.arimaa_refute.specs.declared.escape.Escape.{Escape}
use Rattle.arimaa_refute.specs.declared.failure.Reason.{Reason}
use Rattle.arimaa_refute.specs.declared.failure.Reason.TheVariants as reason
use Rattle.arimaa_refute.specs.declared.failure.Failure.{Failure}
use Rattle.arimaa_refute.specs.declared.failure.Failure.TheVariants as failure
use Rattle.arimaa_refute.specs.declared.refute_answer.Refuted.{Refuted}
use Rattle.arimaa_refute.specs.declared.refute_answer.Refuted.TheVariants as refuted
use Rattle.arimaa_refute.specs.Escapes.{Holds}
use Rattle.arimaa_refute.specs.OwnEscapes.{IsUnwon, after_escape, fresh, met_first, turns_left, escapes_of}

-- the attacker, the positions that may not be entered, the questions that may be opened for one,
-- the places of each region, and the question that all others come from: the root and its turns
pub record Terms : Type 0 where
  pub attacker : Color
  pub barred : List Position
  pub budget : ℕ
  pub room : ℕ
  pub root : Position
  pub turns : ℕ

-- the question whether q is won within k turns is in the tree of the root's
abbrev pub IsBelow : Terms → ℕ → Position → Type 0
IsBelow t k q = InTree t.barred t.root t.turns q k

-- the question on q and k is too dear for the budget, or too crowded for the room
abbrev pub HasCause : Terms → Position → ℕ → Reason → Type 0
HasCause t q k (reason.Spent counted) =
    (t.budget < cost t.attacker t.barred k q) × (counted ≡ t.budget)
HasCause t q k reason.Crowded = t.room < crowd t.barred k q

-- a question of the tree stopped with its cause, or memory ran out
abbrev pub IsFailure : Terms → Failure → Type 0
IsFailure t (failure.Stopped q k why) = IsBelow t k q × HasCause t q k why
IsFailure t failure.Memory = Unit {0}

-- the first next position of p that is not won within k turns
abbrev pub first_unwon : Color → List Position → ℕ → Position → Option Position
first_unwon a barred k p = find (λ q. not (wins a barred k q)) (next barred p)

-- a position that wants an escape with so many turns left, by a question of the tree
pub record WantsEscape (t : Terms) (turns : ℕ) (q : Position) : Type 0 where
  pub unwon : IsUnwon t.attacker t.barred turns q
  pub below : IsBelow t turns q

-- the positions that want an escape after one, where k turns are left after it
abbrev pub met_after : Color → List Position → ℕ → Position → List Position
met_after a barred zero q = []
met_after a barred (suc zero) q = []
met_after a barred (suc (suc k)) q = after_escape a barred (suc (suc k)) q

-- the positions that want an escape first, where a turn is left to them
abbrev pub first_queue : Color → List Position → ℕ → Position → List Position
first_queue a barred n p =
    if turns_left a n p == 0 then [] else fresh [] (met_first a barred p)

-- p is not won within n turns, and these are its own escapes, which hold it
pub record HasEscapes (a : Color) (barred : List Position) (p : Position) (n : ℕ)
    (c : List Escape) : Type 0 where
  pub lost : wins a barred n p ≡ false
  pub own : c ≡ escapes_of a barred n p
  pub holds : Holds a barred n c p

-- what an answer on the root p and n turns says: its own escapes; that it is won; or a question of
-- its tree with the cause of the stop
abbrev pub IsRefuted : Color → List Position → ℕ → ℕ → Position → ℕ → Refuted → Type 0
IsRefuted a barred budget room p n (refuted.Held c) = HasEscapes a barred p n c
IsRefuted a barred budget room p n refuted.Wins = wins a barred n p ≡ true
IsRefuted a barred budget room p n (refuted.Spent q k counted) =
    InTree barred p n q k × (budget < cost a barred k q) × (counted ≡ budget)
IsRefuted a barred budget room p n (refuted.Crowded q k) =
    InTree barred p n q k × (room < crowd barred k q)

-- the answer is neither spent nor crowded
abbrev pub IsDone : Refuted → Type 0
IsDone (refuted.Held c) = Unit {0}
IsDone refuted.Wins = Unit {0}
IsDone (refuted.Spent q k counted) = ⊥
IsDone (refuted.Crowded q k) = ⊥
