-- The places of the lines that begin records.
use Rattle.std.proofs.Common.{◌≡◌, ℕ, ◌+◌, ◌-◌, ◌<◌, ◌≤◌, min, true, false, List, [], ◌∷◌, ◌++◌, Option, None, Some, length, map, take, drop, refl, sym, ◌∙◌, ap, arith, zero-add, add_assoc, drop-drop, length-drop, append_assoc}
use Rattle.std.specs.Prelude.{IfSome}
use Rattle.std.specs.List.{position_or_len}
use Rattle.std.specs.Str.Lines.{strip_carriage_return}
use Rattle.std.proofs.lemmas.List.{append-nil, drop_all, map-append}
use Rattle.arimaa_record.specs.Lines.{is_feed, lines_of}
use Rattle.arimaa_record.proofs.Lemmas.LineLaws.{no_lines}
use Rattle.arimaa_archive.specs.declared.parts.Part.{Part}
use Rattle.arimaa_archive.specs.Archive.{IsLineStart, is_game_line, lines_before_game, lines_of_part, place_from, records_from, records_of}
use Rattle.arimaa_archive.proofs.LinePlaces.{line_alone, lines_front, lines_then}

-- the first byte begins a line
pub first_line_start : (bytes : List ℕ) → IsLineStart bytes 0
first_line_start bytes = record {
  within = omega arith;
  before = sym (ap (λ x. x ++ lines_before_game (lines_of bytes)) no_lines);
  records = refl;
  apart = λ m. rw zero-add (sym (ap (λ x. x ++ lines_of (take m bytes)) no_lines));
}

-- where no line is left
pub no_game_left : (bytes : List ℕ) (at : ℕ) → IsLineStart bytes at → length bytes ≤ at
    → (lines_of (take (length bytes) bytes) ≡ lines_before_game (lines_of bytes)) × (records_of (lines_of bytes) ≡ [])
no_game_left bytes at start past =
    let none : lines_of (drop at bytes) ≡ [] = ap lines_of (drop_all at bytes past) ∙ no_lines in
    let end : length bytes ≡ at = (let within = start.within in omega arith) in (
      ap (λ k. lines_of (take k bytes)) end
          ∙ (sym (append-nil (lines_of (take at bytes)))
          ∙ (ap (λ x. lines_of (take at bytes) ++ lines_before_game x) (sym none) ∙ sym start.before)),
      start.records ∙ ap records_of none,
    )

-- the line that begins at this place, as it is cut from what is left there
module _ (bytes rest line : List ℕ) (at n k : ℕ) (start : IsLineStart bytes at)
    (cut : rest ≡ drop at bytes) (some : 0 < length rest) (fits : n ≤ length rest)
    (is : n ≡ position_or_len is_feed rest) (end : k ≡ min (n + 1) (length rest))
    (bare : line ≡ strip_carriage_return (take n rest)) where
  next_rest : drop k rest ≡ drop (at + k) bytes
  next_rest = ap (drop k) cut ∙ drop-drop k at bytes

  line_then : lines_of (drop at bytes) ≡ line ∷ lines_of (drop (at + k) bytes)
  line_then =
      ap lines_of (sym cut) ∙ (lines_then rest n k some fits is end
      ∙ (ap (λ x. x ∷ lines_of (drop k rest)) (sym bare) ∙ ap (λ x. line ∷ lines_of x) next_rest))

  -- it begins a record
  pub game_here : is_game_line line ≡ true
      → (lines_of (take at bytes) ≡ lines_before_game (lines_of bytes))
      × (records_of (lines_of bytes) ≡ records_from bytes (Some (at + k)))
  game_here is_game = (
    sym (start.before ∙ (ap (λ x. lines_of (take at bytes) ++ lines_before_game x) line_then
        ∙ (rw is_game (append-nil (lines_of (take at bytes)))))),
    start.records ∙ (ap records_of line_then ∙ rw is_game refl),
  )

  front_then : (m : ℕ)
      → lines_of (take (k + m) (drop at bytes)) ≡ line ∷ lines_of (take m (drop (at + k) bytes))
  front_then m =
      ap (λ x. lines_of (take (k + m) x)) (sym cut) ∙ (lines_front rest n k m some fits is end
      ∙ (ap (λ x. x ∷ lines_of (take m (drop k rest))) (sym bare)
      ∙ ap (λ x. line ∷ lines_of (take m x)) next_rest))

  up_to_next : lines_of (take (at + k) bytes) ≡ lines_of (take at bytes) ++ line ∷ []
  up_to_next =
      start.apart k ∙ ap (λ x. lines_of (take at bytes) ++ x)
      (ap (λ x. lines_of (take k x)) (sym cut) ∙ (line_alone rest n k some fits is end
      ∙ ap (λ x. x ∷ []) (sym bare)))

  regrouped : (later : List (List ℕ))
      → lines_of (take at bytes) ++ line ∷ later ≡ lines_of (take (at + k) bytes) ++ later
  regrouped later =
      sym (ap (λ x. x ++ later) up_to_next ∙ append_assoc (lines_of (take at bytes)) (line ∷ []) later)

  -- it begins no record
  pub next_line_start : is_game_line line ≡ false → IsLineStart bytes (at + k)
  next_line_start is_other = record {
    within = omega (arith, length-drop at bytes, ap length cut, start.within);
    before = start.before ∙ (ap (λ x. lines_of (take at bytes) ++ lines_before_game x) line_then
        ∙ (rw is_other (regrouped (lines_before_game (lines_of (drop (at + k) bytes))))));
    records = start.records ∙ (ap records_of line_then ∙ rw is_other refl);
    apart = λ m.
        ap (λ j. lines_of (take j bytes)) (add_assoc at k m)
        ∙ (start.apart (k + m) ∙ (ap (λ x. lines_of (take at bytes) ++ x) (front_then m)
        ∙ regrouped (lines_of (take m (drop (at + k) bytes)))));
  }

-- the records of what follows a start
pub records_place_from : (bytes : List ℕ) (start : ℕ) (after : Option ℕ)
    → records_from (drop start bytes) after ≡ records_from bytes (place_from start after)
records_place_from bytes start None = refl
records_place_from bytes start (Some place) =
    ap (λ x. lines_before_game (lines_of x) ∷ records_of (lines_of x)) (drop-drop place start bytes)

-- a next place lies beyond the parts so far, and within the bytes
pub next_place : (start count size total : ℕ) (after : Option ℕ) → IfSome after (λ place. (0 < place) × (place ≤ size))
    → count ≤ start → start + size ≤ total → IfSome (place_from start after) (λ place. (count < place) × (place ≤ total))
next_place start count size total None is few fits = tt
next_place start count size total (Some place) is few fits = (omega arith, omega arith)

-- the records so far, with one more
pub one_part_more : (bytes : List ℕ) (parts : List Part) (start before : ℕ) (next : Option ℕ) (all : List (List (List ℕ)))
    → map (lines_of_part bytes) parts ++ records_from bytes (Some start) ≡ all
    → lines_of (take before (drop start bytes)) ≡ lines_before_game (lines_of (drop start bytes))
    → records_of (lines_of (drop start bytes)) ≡ records_from bytes next
    → map (lines_of_part bytes) (parts ++ record { start = start; end = start + before } ∷ []) ++ records_from bytes next ≡ all
one_part_more bytes parts start before next all so_far lines_are later =
    let part : Part = record { start = start; end = start + before } in
    let size : start + before - start ≡ before = omega arith in
    let lines : lines_of_part bytes part ≡ lines_before_game (lines_of (drop start bytes)) =
    ap (λ j. lines_of (take j (drop start bytes))) size ∙ lines_are in
    let rest : records_from bytes next ≡ records_of (lines_of (drop start bytes)) = sym later in
    ap (λ x. x ++ records_from bytes next) (map-append (lines_of_part bytes) parts (part ∷ []))
    ∙ (append_assoc (map (lines_of_part bytes) parts) (lines_of_part bytes part ∷ []) (records_from bytes next)
    ∙ (ap (λ (x : List (List (List ℕ))). map (lines_of_part bytes) parts ++ x) (λ i. lines i ∷ rest i) ∙ so_far))
