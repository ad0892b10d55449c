-- Lines that begin no record, since the word stands nowhere in them.
use Rattle.std.proofs.Common.{◌≡◌, ℕ, suc, zero, ◌+◌, ◌-◌, ◌<◌, ◌≤◌, ◌⊎◌, min, Bool, true, false, List, ◌++◌, codes, length, get_or, take, drop, slice_index, refl, sym, ◌∙◌, ap, subst, arith, ⊎_elim, true≢false, add_assoc, append_assoc, drop-drop, length-drop, length-take, take_all, ◌==◌, inl, inr}
use Rattle.std.specs.List.{position_or_len, prefix_len, suffix_len}
use Rattle.std.specs.Str.Lines.{strip_carriage_return}
use Rattle.std.proofs.lemmas.Bool.{cases_lt}
use Rattle.std.proofs.lemmas.List.{get_or-drop, get_or-take}
use Rattle.std.proofs.lemmas.List.Sums.{fails_before_first, position_or_len_is}
use Rattle.std.proofs.lemmas.Slice.Eq.{bytes_eq-Decides}
use Rattle.memchr.specs.Find.{OccursAt}
use Rattle.arimaa_notation.specs.Items.{is_blank, without_outer_blanks, without_first_blanks}
use Rattle.arimaa_record.specs.Lines.{is_feed, lines_of}
use Rattle.arimaa_archive.specs.Archive.{IsLineStart, is_game_line, lines_before_game, records_of}
use Rattle.arimaa_archive.proofs.RecordPlaces.{first_line_start, next_line_start}

-- a line start in what follows a line start
module _ (bytes : List ℕ) (at k : ℕ) (start : IsLineStart bytes at)
    (next : IsLineStart (drop at bytes) k) where
  rest_then : drop k (drop at bytes) ≡ drop (at + k) bytes
  rest_then = drop-drop k at bytes

  grouped : (later : List (List ℕ))
      → lines_of (take at bytes) ++ (lines_of (take k (drop at bytes)) ++ later)
      ≡ lines_of (take (at + k) bytes) ++ later
  grouped later =
      sym (ap (λ x. x ++ later) (start.apart k)
      ∙ append_assoc (lines_of (take at bytes)) (lines_of (take k (drop at bytes))) later)

  pub later_start : IsLineStart bytes (at + k)
  later_start = record {
    within = omega (arith, length-drop at bytes, start.within, next.within);
    before = start.before ∙ (ap (λ x. lines_of (take at bytes) ++ x) next.before
        ∙ (grouped (lines_before_game (lines_of (drop k (drop at bytes))))
        ∙ ap (λ x. lines_of (take (at + k) bytes) ++ lines_before_game (lines_of x)) rest_then));
    records = start.records ∙ (next.records ∙ ap (λ x. records_of (lines_of x)) rest_then);
    apart = λ m.
        ap (λ j. lines_of (take j bytes)) (add_assoc at k m)
        ∙ (start.apart (k + m) ∙ (ap (λ x. lines_of (take at bytes) ++ x) (next.apart m)
        ∙ (grouped (lines_of (take m (drop k (drop at bytes))))
        ∙ ap (λ x. lines_of (take (at + k) bytes) ++ lines_of (take m x)) rest_then)));
  }

-- what is cut out of a text stands there
cut_occurs : (xs word : List ℕ) (at n : ℕ) → take n (drop at xs) ≡ word → 0 < length word
    → OccursAt xs word at
cut_occurs xs word at n same some =
    let size : length (take n (drop at xs)) ≡ length word = ap length same in
    let least : length (take n (drop at xs)) ≡ min n (length (drop at xs)) = length-take n (drop at xs) in
    record {
      fits = omega (arith, size, least, length-drop at xs);
      reads = λ j less.
          sym (get_or-drop at xs j 0)
          ∙ (sym (get_or-take n (drop at xs) j 0 (omega (arith, size, least)))
          ∙ ap (λ x. get_or x j 0) same);
    }

-- what stands in a cut of a text stands in the text
occurs_in_all : (xs word : List ℕ) (at n b : ℕ) → 0 < length word
    → OccursAt (take n (drop at xs)) word b → OccursAt xs word (at + b)
occurs_in_all xs word at n b some there =
    let least : length (take n (drop at xs)) ≡ min n (length (drop at xs)) = length-take n (drop at xs) in
    record {
      fits = omega (arith, there.fits, least, length-drop at xs);
      reads = λ j less.
          ap (λ i. get_or xs i 0) (add_assoc at b j)
          ∙ (sym (get_or-drop at xs (b + j) 0)
          ∙ (sym (get_or-take n (drop at xs) (b + j) 0 (omega (arith, there.fits, least)))
          ∙ there.reads j less));
    }

-- a line that begins a record has the word in it
word_in : (line : List ℕ) → is_game_line line ≡ true → (b : ℕ) × OccursAt line (codes "game") b
word_in line is =
    let rest : List ℕ = without_first_blanks line in (
      prefix_len is_blank line,
      cut_occurs line (codes "game") (prefix_len is_blank line) (length rest - suffix_len is_blank rest)
          ((bytes_eq-Decides (without_outer_blanks line) (codes "game")).0 is) (omega arith),
    )

-- a line without its carriage return is a front of it
record IsFront (l : List ℕ) (m : ℕ) : Type 0 where
  pub same : strip_carriage_return l ≡ take m l
  pub fits : m ≤ length l

front_of : (l : List ℕ) → (m : ℕ) × IsFront l m
front_of l = by (slice_index l (length l - 1) == 13) refl
  where
    by : (t : Bool) → (slice_index l (length l - 1) == 13) ≡ t → (m : ℕ) × IsFront l m
    by true e = (length l - 1, record { same = rw e refl; fits = omega arith })
    by false e = (length l, record { same = rw e (sym (take_all (length l) l (omega arith))); fits = omega arith })

-- a first place lies within
first_within : (xs : List ℕ) → position_or_len is_feed xs ≤ length xs
first_within xs =
    ⊎_elim
    (λ (beyond : length xs < position_or_len is_feed xs).
    absurd (omega (
      arith,
      beyond,
      position_or_len_is is_feed xs (length xs) 0 (omega arith)
          (λ k below. fails_before_first is_feed xs k 0 (omega arith)) (λ more. absurd (omega arith)),
    )))
    (λ fits. fits)
    (cases_lt (length xs) (position_or_len is_feed xs))

-- a line start after another, up to a place
record IsNextStart (bytes : List ℕ) (m at next : ℕ) : Type 0 where
  pub more : at < next
  pub low : next ≤ m
  pub start : IsLineStart bytes next

-- the word stands nowhere up to this place, at which a line begins or all ends
module _ (bytes : List ℕ) (m : ℕ) (within : m ≤ length bytes)
    (never : (k : ℕ) → k + 4 ≤ m → OccursAt bytes (codes "game") k → ⊥)
    (ends : (m ≡ length bytes) ⊎ ((0 < m) × (is_feed (get_or bytes (m - 1) 0) ≡ true))) where
  -- a line that begins before it ends there at the latest
  line_ends : (at n : ℕ) → at < m → n ≡ position_or_len is_feed (drop at bytes)
      → n ≤ length (drop at bytes) → at + min (n + 1) (length (drop at bytes)) ≤ m
  line_ends at n less is fits =
      ⊎_elim
      (λ (all : m ≡ length bytes). omega (arith, length-drop at bytes))
      (λ (feed : (0 < m) × (is_feed (get_or bytes (m - 1) 0) ≡ true)).
      ⊎_elim
      (λ (beyond : m - 1 - at < n).
      let place : at + (m - 1 - at) ≡ m - 1 = omega arith in
      let other : is_feed (get_or (drop at bytes) (m - 1 - at) 0) ≡ false =
      fails_before_first is_feed (drop at bytes) (m - 1 - at) 0 (omega arith) in
      absurd (true≢false (sym feed.1 ∙ (ap (λ j. is_feed (get_or bytes j 0)) (sym place)
      ∙ (ap is_feed (sym (get_or-drop at bytes (m - 1 - at) 0)) ∙ other)))))
      (λ before. omega arith)
      (cases_lt (m - 1 - at) n))
      ends

  no_game : (at n : ℕ) → at + n ≤ m → (t : Bool)
      → is_game_line (strip_carriage_return (take n (drop at bytes))) ≡ t → t ≡ false
  no_game at n low false e = refl
  no_game at n low true e =
      let front = front_of (take n (drop at bytes)) in
      let word = word_in (strip_carriage_return (take n (drop at bytes))) e in
      let size = length-take n (drop at bytes) in
      let short = length-take front.0 (take n (drop at bytes)) in
      let there : OccursAt (take front.0 (take n (drop at bytes))) (codes "game") word.0 =
      subst (λ (x : List ℕ). OccursAt x (codes "game") word.0) front.1.same word.1 in
      let fits : word.0 + 4 ≤ length (take front.0 (take n (drop at bytes))) = there.fits in
      let inner : OccursAt (take n (drop at bytes)) (codes "game") (0 + word.0) =
      occurs_in_all (take n (drop at bytes)) (codes "game") 0 front.0 word.0 (omega arith) there in
      absurd (never (at + (0 + word.0)) (omega arith)
      (occurs_in_all bytes (codes "game") at n (0 + word.0) (omega arith) inner))

  next_start : (at n : ℕ) → at < m → n ≡ position_or_len is_feed (drop at bytes)
      → n ≤ length (drop at bytes) → IsLineStart bytes at
      → IsNextStart bytes m at (at + min (n + 1) (length (drop at bytes)))
  next_start at n less is fits start =
      let last = line_ends at n less is fits in
      let size = length-drop at bytes in
      let low : at + n ≤ m = omega arith in
      record {
        more = omega arith;
        low = last;
        start = next_line_start bytes (drop at bytes) (strip_carriage_return (take n (drop at bytes))) at n
            (min (n + 1) (length (drop at bytes))) start refl (omega arith) fits is refl refl
            (no_game at n low (is_game_line (strip_carriage_return (take n (drop at bytes)))) refl);
      }

  from_start : (fuel at : ℕ) → m ≤ at + fuel → at ≤ m → IsLineStart bytes at → IsLineStart bytes m
  from_start zero at few low start = subst (λ (x : ℕ). IsLineStart bytes x) (omega arith) start
  from_start (suc fuel) at few low start =
      ⊎_elim
      (λ (less : at < m).
      let next = next_start at (position_or_len is_feed (drop at bytes)) less refl (first_within (drop at bytes)) start in
      from_start fuel (at + min (position_or_len is_feed (drop at bytes) + 1) (length (drop at bytes)))
      (omega (arith, next.more)) next.low next.start)
      (λ past. subst (λ (x : ℕ). IsLineStart bytes x) (omega arith) start)
      (cases_lt at m)

  pub start_here : IsLineStart bytes m
  start_here = from_start m 0 (omega arith) (omega arith) (first_line_start bytes)

-- where the word stands nowhere, no line begins a record
pub no_word : (bytes : List ℕ)
    → ((k : ℕ) → 0 ≤ k → k < length bytes + 1 → OccursAt bytes (codes "game") k → ⊥)
    → IsLineStart bytes (length bytes)
no_word bytes never =
    start_here bytes (length bytes) (omega arith)
    (λ k fits there. never k (omega arith) (omega arith) there) (inl refl)

-- the line begins here in which the word comes first
pub word_first : (bytes front : List ℕ) (place feed : ℕ) → front ≡ take place bytes
    → ((k : ℕ) → 0 ≤ k → k < place → OccursAt bytes (codes "game") k → ⊥)
    → feed < length front → is_feed (get_or front feed 0) ≡ true → IsLineStart bytes (feed + 1)
word_first bytes front place feed cut never inside is =
    let size : length front ≡ min place (length bytes) = ap length cut ∙ length-take place bytes in
    let last : feed + 1 - 1 ≡ feed = omega arith in
    start_here bytes (feed + 1) (omega arith)
    (λ k fits there. never k (omega arith) (omega arith) there)
    (inr (
      omega arith,
      ap (λ j. is_feed (get_or bytes j 0)) last
          ∙ (sym (ap (λ x. is_feed (get_or x feed 0)) cut ∙ ap is_feed (get_or-take place bytes feed 0 (omega arith))) ∙ is),
    ))
