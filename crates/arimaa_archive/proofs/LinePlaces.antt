-- The lines of the front of some bytes, and of what follows it.
use Rattle.std.proofs.Common.{◌≡◌, ℕ, suc, zero, ◌+◌, ◌<◌, ◌≤◌, min, List, [], ◌∷◌, length, take, drop, refl, sym, ◌∙◌, ap, arith, ⊎_elim, take_all, drop-drop, length-take, length-drop, add-zero}
use Rattle.std.specs.List.{position_or_len}
use Rattle.std.specs.Str.Lines.{strip_carriage_return}
use Rattle.std.proofs.lemmas.Bool.{cases_lt}
use Rattle.std.proofs.lemmas.List.{take-take, drop-take, drop_all, get_or-take}
use Rattle.std.proofs.lemmas.List.Sums.{fails_before_first, passes_at_first, position_or_len_is}
use Rattle.arimaa_record.specs.Lines.{is_feed, lines_of}
use Rattle.arimaa_record.proofs.Lemmas.LineLaws.{lines-first, no_lines}

take_none : (m : ℕ) (xs : List ℕ) → xs ≡ [] → take m xs ≡ []
take_none zero xs e = refl
take_none (suc m) xs e = rw e refl

-- the first line feed stands where it did, in a front that has it
feed_in_front : (xs : List ℕ) (n j : ℕ) → n ≡ position_or_len is_feed xs → n < length xs → n < j
    → n ≡ position_or_len is_feed (take j xs)
feed_in_front xs n j is less inside =
    let size : n ≤ length (take j xs) = simp length-take (omega arith) in
    let start : n < length xs = less in
    sym (position_or_len_is is_feed (take j xs) n 0 size
    (λ k below. rw (get_or-take j xs k 0 (omega arith)) (fails_before_first is_feed xs k 0 (omega arith)))
    (λ _. rw (get_or-take j xs n 0 inside) (rw is (passes_at_first is_feed xs 0 (omega arith)))))

-- the first line of a front that goes on after it
pub lines_front : (xs : List ℕ) (n k m : ℕ) → 0 < length xs → n ≤ length xs → n ≡ position_or_len is_feed xs
    → k ≡ min (n + 1) (length xs)
    → lines_of (take (k + m) xs) ≡ strip_carriage_return (take n xs) ∷ lines_of (take m (drop k xs))
lines_front xs n k m some fits is end =
    ⊎_elim
    (λ (less : n < length xs).
    let next : k ≡ n + 1 = omega arith in
    let size : 0 < length (take (k + m) xs) = simp length-take (omega arith) in
    lines-first (take (k + m) xs) n size (feed_in_front xs n (k + m) is less (omega arith))
    ∙ (ap (λ x. strip_carriage_return x ∷ lines_of (drop 1 (drop n (take (k + m) xs)))) (take-take n (k + m) xs (omega arith))
    ∙ ap (λ x. strip_carriage_return (take n xs) ∷ lines_of x)
    (drop-drop 1 n (take (k + m) xs) ∙ (ap (λ j. drop j (take (k + m) xs)) (sym next) ∙ drop-take k m xs))))
    (λ past.
    let last : k ≡ length xs = omega arith in
    let all : take (k + m) xs ≡ xs = take_all (k + m) xs (omega arith) in
    let none : drop k xs ≡ [] = drop_all k xs (omega arith) in
    let nothing : drop 1 (drop n xs) ≡ [] = drop-drop 1 n xs ∙ drop_all (n + 1) xs (omega arith) in
    ap lines_of all ∙ (lines-first xs n some is
    ∙ ap (λ x. strip_carriage_return (take n xs) ∷ lines_of x) (nothing ∙ sym (take_none m (drop k xs) none))))
    (cases_lt n (length xs))

module _ (xs : List ℕ) (n k : ℕ) (some : 0 < length xs) (fits : n ≤ length xs)
    (is : n ≡ position_or_len is_feed xs) (end : k ≡ min (n + 1) (length xs)) where
  -- the lines are the first one and those of what follows it
  pub lines_then : lines_of xs ≡ strip_carriage_return (take n xs) ∷ lines_of (drop k xs)
  lines_then =
      let all : take (k + length xs) xs ≡ xs = take_all (k + length xs) xs (omega arith) in
      let later : take (length xs) (drop k xs) ≡ drop k xs = take_all (length xs) (drop k xs) (omega (arith, length-drop k xs)) in
      ap lines_of (sym all) ∙ (lines_front xs n k (length xs) some fits is end
      ∙ ap (λ x. strip_carriage_return (take n xs) ∷ lines_of x) later)

  -- up to its end there is that line alone
  pub line_alone : lines_of (take k xs) ≡ strip_carriage_return (take n xs) ∷ []
  line_alone =
      ap (λ j. lines_of (take j xs)) (sym (add-zero k)) ∙ (lines_front xs n k 0 some fits is end
      ∙ ap (λ x. strip_carriage_return (take n xs) ∷ x) no_lines)
