-- An input is parted at the first line that says a word.
use Rattle.std.proofs.Common.{◌≡◌, ℕ, ◌+◌, ◌<◌, ◌≤◌, List, [], ◌∷◌, ◌++◌, cond, length, take, drop, get_or, false, true, refl, sym, ◌∙◌, ap, subst, arith, inl, inr, append_assoc, length-append, length-drop, take_all, ⊎_elim}
use Rattle.std.specs.Prelude.{◌⊎◌, ◌==◌}
use Rattle.std.specs.List.{AllByRecursion, onto_first, position_or_len, slice_split}
use Rattle.std.specs.Str.Lines.{strip_carriage_return}
use Rattle.std.proofs.Math.Seq.{take-add}
use Rattle.std.proofs.lemmas.List.{append-nil, drop-drop, drop_all, get_or-take, get_or_append_left, length-take-le, take-append-drop, take-append-le, take-take}
use Rattle.std.proofs.lemmas.List.Sums.{position_or_len_is}
use Rattle.arimaa_record.specs.Lines.{is_feed, lines_of, lines_of_pieces}
use Rattle.arimaa_record.proofs.Lemmas.LineLaws.{lines-first, no_lines}
use Rattle.arimaa_record.proofs.Lemmas.PlainLaws.{all_append}
use Rattle.arimaa_cli.specs.Parts.{AreWholeLines, IsFirstLine, IsParted, NoneSays, Says}

-- ---- whole lines

whole_none : AreWholeLines []
whole_none after = ap (λ (ls : List (List ℕ)). ls ++ lines_of after) (sym no_lines)

whole_more : (xs ys : List ℕ) → AreWholeLines xs → AreWholeLines ys → AreWholeLines (xs ++ ys)
whole_more xs ys p q after =
    ap lines_of (append_assoc xs ys after)
    ∙ (p (ys ++ after)
    ∙ (ap (λ (ls : List (List ℕ)). lines_of xs ++ ls) (q after)
    ∙ (sym (append_assoc (lines_of xs) (lines_of ys) (lines_of after)) ∙ ap (λ (ls : List (List ℕ)). ls ++ lines_of after) (sym (p ys)))))

-- ---- the first line

-- where the first line feed stands at this place, the first line ends there
ended_line : (bytes : List ℕ) (n : ℕ) → n < length bytes → ((k : ℕ) → k < n → is_feed (get_or bytes k 0) ≡ false) → is_feed (get_or bytes n 0) ≡ true
    → (after : List ℕ) → lines_of (take (n + 1) bytes ++ after) ≡ strip_carriage_return (take n bytes) ∷ lines_of after
ended_line bytes n less before at after =
    let front = take (n + 1) bytes in
    let size : length front ≡ n + 1 = length-take-le (n + 1) bytes (omega arith) in
    let whole : length (front ++ after) ≡ n + 1 + length after = omega (arith, length-append front after) in
    let same : (k : ℕ) → k < n + 1 → get_or (front ++ after) k 0 ≡ get_or bytes k 0 =
    λ k small. get_or_append_left front after 0 k (omega arith) ∙ get_or-take (n + 1) bytes k 0 small in
    let first : position_or_len is_feed (front ++ after) ≡ n =
    position_or_len_is is_feed (front ++ after) n 0 (omega arith) (λ k small. ap is_feed (same k (omega arith)) ∙ before k small) (λ _. ap is_feed (same n (omega arith)) ∙ at) in
    let cut : take n (front ++ after) ≡ take n bytes = take-append-le n front after (omega arith) ∙ take-take n (n + 1) bytes (omega arith) in
    let rest : drop 1 (drop n (front ++ after)) ≡ after =
    drop-drop 1 n (front ++ after) ∙ (ap (λ (k : ℕ). drop k (front ++ after)) (sym size) ∙ drop_front front after) in
    lines-first (front ++ after) n (omega arith) (sym first) ∙ λ i. strip_carriage_return (cut i) ∷ lines_of (rest i)
  where
    drop_front : (xs ys : List ℕ) → drop (length xs) (xs ++ ys) ≡ ys
    drop_front [] ys = refl
    drop_front (x ∷ xs) ys = drop_front xs ys

-- a line feed stands at this place, and none before it
pub first_ended : (bytes : List ℕ) (n : ℕ) → n < length bytes → ((k : ℕ) → k < n → is_feed (get_or bytes k 0) ≡ false) → is_feed (get_or bytes n 0) ≡ true → IsFirstLine bytes (n + 1)
first_ended bytes n less before at =
    let line = strip_carriage_return (take n bytes) in
    let all = ended_line bytes n less before at in
    let alone : lines_of (take (n + 1) bytes) ≡ line ∷ [] = ap lines_of (sym (append-nil (take (n + 1) bytes))) ∙ (all [] ∙ ap (λ (ls : List (List ℕ)). line ∷ ls) no_lines) in
    record {
      some = omega arith;
      within = omega arith;
      line = line;
      alone = alone;
      whole = inr (λ after. all after ∙ ap (λ (ls : List (List ℕ)). ls ++ lines_of after) (sym alone));
    }

-- no line feed stands anywhere
pub first_open : (bytes : List ℕ) (n : ℕ) → 1 ≤ length bytes → n ≡ length bytes → ((k : ℕ) → k < length bytes → is_feed (get_or bytes k 0) ≡ false) → IsFirstLine bytes n
first_open bytes n some is before =
    let last : length bytes ≡ position_or_len is_feed bytes = sym (position_or_len_is is_feed bytes (length bytes) 0 (omega arith) before (λ more. absurd (omega arith))) in
    let nothing : drop 1 (drop (length bytes) bytes) ≡ [] = drop_all 1 (drop (length bytes) bytes) (omega (arith, length-drop (length bytes) bytes)) in
    let line = strip_carriage_return (take (length bytes) bytes) in
    let all : lines_of bytes ≡ line ∷ [] = lines-first bytes (length bytes) (omega arith) last ∙ ap (λ (ls : List (List ℕ)). line ∷ ls) (ap lines_of nothing ∙ no_lines) in
    record {
      some = omega arith;
      within = omega arith;
      line = line;
      alone = ap lines_of (take_all n bytes (omega arith)) ∙ all;
      whole = inl is;
    }

-- ---- the lines so far

-- so many bytes are so many lines, none of which says a word; whole lines, unless they are all bytes
pub record IsPassed (word bytes : List ℕ) (start lines : ℕ) : Type 0 where
  pub within : start ≤ length bytes
  pub whole : (start ≡ length bytes) ⊎ AreWholeLines (take start bytes)
  pub none : NoneSays word (take start bytes)
  pub counted : lines ≡ length (lines_of (take start bytes))
  pub few : lines ≤ start

pub passed_none : (word bytes : List ℕ) → IsPassed word bytes 0 0
passed_none word bytes = record {
  within = omega arith;
  whole = inr whole_none;
  none = subst (AllByRecursion (λ line. ¬ Says word line)) (sym no_lines) tt;
  counted = ap length (sym no_lines);
  few = omega arith;
}

module _ (word bytes : List ℕ) (start lines size : ℕ) (line : List ℕ) (back : List ℕ) (h : IsPassed word bytes start lines) (less : start < length bytes)
    (first : IsFirstLine (drop start bytes) size) (is : lines_of (drop start bytes) ≡ line ∷ lines_of back) where
  before : AreWholeLines (take start bytes)
  before = ⊎_elim (λ (e : start ≡ length bytes). absurd (omega arith)) (λ w. w) h.whole

  fits : start + size ≤ length bytes
  fits = let within = first.within in omega (arith, length-drop start bytes)

  -- the lines of what follows are the first one and those of the rest
  cut : lines_of (drop start bytes) ≡ first.line ∷ lines_of (drop size (drop start bytes))
  cut = ⊎_elim
      (λ (e : size ≡ length (drop start bytes)).
      let all : take size (drop start bytes) ≡ drop start bytes = take_all size (drop start bytes) (omega arith) in
      let nothing : drop size (drop start bytes) ≡ [] = drop_all size (drop start bytes) (omega arith) in
      ap lines_of (sym all) ∙ (first.alone ∙ ap (λ (ls : List (List ℕ)). first.line ∷ ls) (sym (ap lines_of nothing ∙ no_lines))))
      (λ w. ap lines_of (sym (take-append-drop size (drop start bytes))) ∙ (w (drop size (drop start bytes)) ∙ ap (λ (ls : List (List ℕ)). ls ++ lines_of (drop size (drop start bytes))) first.alone))
      first.whole

  same : first.line ≡ line
  same = let both = sym cut ∙ is in cc

  rest : drop size (drop start bytes) ≡ drop (start + size) bytes
  rest = drop-drop size start bytes

  more : lines_of (take (start + size) bytes) ≡ lines_of (take start bytes) ++ line ∷ []
  more = ap lines_of (take-add start size bytes) ∙ (before (take size (drop start bytes)) ∙ ap (λ (ls : List (List ℕ)). lines_of (take start bytes) ++ ls) (first.alone ∙ ap (λ (l : List ℕ). l ∷ []) same))

  -- the line says something else
  pub passed_more : ¬ Says word line → IsPassed word bytes (start + size) (lines + 1)
  passed_more other =
      let counted = h.counted in
      let few = h.few in
      let some = first.some in
      record {
        within = fits;
        whole = ⊎_elim (λ (e : size ≡ length (drop start bytes)). inl (omega (arith, length-drop start bytes)))
            (λ w. inr (subst AreWholeLines (sym (take-add start size bytes)) (whole_more (take start bytes) (take size (drop start bytes)) before w))) first.whole;
        none = subst (AllByRecursion (λ l. ¬ Says word l)) (sym more) (all_append (λ l. ¬ Says word l) (lines_of (take start bytes)) (line ∷ []) h.none (other, tt));
        counted = omega (arith, ap length more, length-append (lines_of (take start bytes)) (line ∷ []));
        few = omega arith;
      }

  -- the line says the word
  pub passed_parted : Says word line → IsParted word bytes (take start bytes) (drop (start + size) bytes)
  passed_parted says = record {
    line = line;
    lines = ap lines_of (sym (take-append-drop start bytes)) ∙ (before (drop start bytes) ∙ ap (λ (ls : List (List ℕ)). lines_of (take start bytes) ++ ls) (cut ∙ λ i. same i ∷ lines_of (rest i)));
    first = h.none;
    says = says;
  }

-- nothing is left
pub passed_all : (word bytes : List ℕ) (start lines : ℕ) → IsPassed word bytes start lines → drop start bytes ≡ [] → NoneSays word bytes
passed_all word bytes start lines h nothing =
    let all : take start bytes ≡ bytes = take_all start bytes (omega (arith, length-drop start bytes, ap length nothing)) in
    subst (NoneSays word) all h.none

-- ---- counts

one_piece : (last : List ℕ) → length (lines_of_pieces (last ∷ [])) ≤ 1
one_piece last = elim (length last == 0) as (λ v. length (cond v [] (strip_carriage_return last ∷ [])) ≤ 1) [ true ↦ omega arith | false ↦ omega arith ]

-- the pieces of a text give no more lines than the text has bytes
pieces_few : (bytes : List ℕ) → length (lines_of_pieces (slice_split is_feed bytes)) ≤ length bytes
pieces_few [] = omega arith
pieces_few (b ∷ bytes) = elim (is_feed b) as (λ v. length (lines_of_pieces (cond v ([] ∷ slice_split is_feed bytes) (onto_first b (slice_split is_feed bytes)))) ≤ length (b ∷ bytes)) [
  | true ↦ ended (slice_split is_feed bytes) (pieces_few bytes)
  | false ↦ longer (slice_split is_feed bytes) (pieces_few bytes)
] where
  ended : (pieces : List (List ℕ)) → length (lines_of_pieces pieces) ≤ length bytes → length (lines_of_pieces ([] ∷ pieces)) ≤ length (b ∷ bytes)
  ended [] few = omega arith
  ended (p ∷ pieces) few = omega arith

  longer : (pieces : List (List ℕ)) → length (lines_of_pieces pieces) ≤ length bytes → length (lines_of_pieces (onto_first b pieces)) ≤ length (b ∷ bytes)
  longer [] few = omega (arith, one_piece (b ∷ []))
  longer (p ∷ []) few = omega (arith, one_piece (b ∷ p))
  longer (p ∷ q ∷ pieces) few = omega arith

-- a text has no more lines than bytes
pub lines_few : (bytes : List ℕ) → length (lines_of bytes) ≤ length bytes
unfolding lines_of
lines_few bytes = pieces_few bytes
