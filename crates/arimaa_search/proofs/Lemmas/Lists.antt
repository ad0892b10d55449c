-- The places of the top segment.
use Rattle.std.proofs.Common.{◌≡◌, ℕ, ◌+◌, ◌≤◌, List, [], ◌∷◌, ◌++◌, length, drop, Some, ◌∙◌, sym, ap, arith, length-append, drop-drop}
use Rattle.std.specs.List.{slice_get}
use Rattle.std.proofs.Math.Seq.{drop-append_seam}
use Rattle.std.proofs.Math.ListN.{drop_of_length-le}
use Rattle.std.proofs.lemmas.List.{drop_more}
use Rattle.std.proofs.lemmas.Option.{get_or_from_slice_get, slice_get_within}
use Rattle.arimaa_region.specs.Segments.{live_of, below_top}

module _ {X : Type 0} where
  -- they come after those of the segments below
  pub top_places : (segments : List (List X)) (qs : List X) (first : ℕ) → segments ≡ qs ∷ below_top segments → first ≡ length (live_of (below_top segments)) → drop first (live_of segments) ≡ qs
  top_places segments qs first is at = (λ i. drop (at i) (live_of (is i))) ∙ drop-append_seam (live_of (below_top segments)) qs

  -- those after the first
  pub after_first : (segments : List (List X)) (qs : List X) (first : ℕ) → segments ≡ qs ∷ below_top segments → first ≡ length (live_of (below_top segments)) → drop (first + 1) (live_of segments) ≡ drop 1 qs
  after_first segments qs first is at = sym (drop-drop 1 first (live_of segments)) ∙ ap (drop 1) (top_places segments qs first is at)

  pub live-length : (segments : List (List X)) (qs : List X) (first : ℕ) → segments ≡ qs ∷ below_top segments → first ≡ length (live_of (below_top segments)) → length (live_of segments) ≡ first + length qs
  live-length segments qs first is at =
      let sum : length (live_of segments) ≡ length (live_of (below_top segments)) + length qs = ap (λ s. length (live_of s)) is ∙ length-append (live_of (below_top segments)) qs in
      omega arith

  -- a part is no longer than the whole
  pub part_length : (part rest whole : List X) (live first : ℕ) → whole ≡ part ++ rest → live ≡ first + length part → live ≤ first + length whole
  part_length part rest whole live first is count =
      let sum : length whole ≡ length part + length rest = ap (length {A = X}) is ∙ length-append part rest in
      omega arith

  -- the place that is looked at is the first of those left
  pub first_left : (xs : List X) (place : ℕ) (x : X) → slice_get xs place ≡ Some x → drop place xs ≡ x ∷ drop (place + 1) xs
  first_left xs place x there = drop_more xs place x (slice_get_within xs place x there) ∙ ap (λ y. y ∷ drop (place + 1) xs) (get_or_from_slice_get xs place x x there)

  pub none_left : (xs : List X) (place end : ℕ) → end ≡ length xs → end ≤ place → drop place xs ≡ []
  none_left xs place end is past = drop_of_length-le xs (omega arith)
