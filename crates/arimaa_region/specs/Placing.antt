-- What a placing does.
use Rattle.std.specs.Prelude.{ℕ, ◌≡◌, ◌↔◌, ◌≤◌, Bool, List, ◌∷◌, length, Some, IsTrue, Contains, slice_get, if◌then◌else◌}
use Rattle.arimaa_board.specs.declared.position.Position.{Position}
use Rattle.arimaa_region.specs.declared.placement.Placed.{Placed}
use Rattle.arimaa_region.specs.Placement.{is_there, is_full, IfThere, IfNew}
use Rattle.arimaa_region.specs.Same.{same_position, same_words, with_new}
use Rattle.arimaa_region.specs.Layout.{IsDistinct}
use Rattle.arimaa_region.specs.Segments.{Stacked, Held, top, below_top, live_of}

-- the segments with a value at the end of the top one, unless it stands in it
abbrev pub with_top_new : {X : Type 0} → (X → X → Bool) → List (List X) → X → List (List X)
with_top_new same segments x = with_new same (top segments) x ∷ below_top segments

-- a stack before and after a placing, with its answer
pub record IsPlaced {X : Type 0} (same : X → X → Bool) (old : Stacked X) (x : X) (result : Placed)
    (new : Stacked X) : Type 0 where
  -- `There` exactly where the top segment has the value
  pub there : IsTrue (is_there result) ↔ Contains (top old.segments) x
  -- `Full` exactly where it has not, and no place is free
  pub full : IsTrue (is_full result)
      ↔ ((¬ (Contains (top old.segments) x)) × (length (live_of old.segments) ≡ old.room))
  -- where the value is there, its place is one of the top segment's and has it
  pub its_place : IfThere result
      (λ n. (length (live_of (below_top old.segments)) ≤ n)
      × (slice_get (live_of old.segments) n ≡ Some x))
  -- a new value takes the next place
  pub new_place : IfNew result (λ n. n ≡ length (live_of old.segments))
  -- nothing changes but the top segment, and nothing at all where it was full
  pub after : new.segments
      ≡ (if is_full result then old.segments else with_top_new same old.segments x)
  -- nor does the room
  pub room : new.room ≡ old.room
  -- the top segment still has each value once
  pub distinct : IsDistinct (top new.segments)
  -- the segments below are as before
  pub below : below_top new.segments ≡ below_top old.segments
  -- none is opened or closed
  pub open_count : length new.segments ≡ length old.segments

-- the position at the end of the top segment, unless it stands in it
abbrev pub with_placed : Held → Position → Held
with_placed h p = record h { segments = with_top_new same_position h.segments p }

-- the words at the end of the top layer of the work part, unless they stand in it
abbrev pub with_words : Stacked (List ℕ) → List ℕ → Stacked (List ℕ)
with_words s w = record s { segments = with_top_new same_words s.segments w }
