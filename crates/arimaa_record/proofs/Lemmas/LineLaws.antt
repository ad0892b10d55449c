-- The first line of an input, and the lines after it.
use Rattle.std.proofs.Common.{◌≡◌, ℕ, ◌+◌, ◌<◌, ◌≤◌, List, [], ◌∷◌, length, take, drop, refl, sym, ◌∙◌, ap, arith, length-drop, take_all, cond, Bool, false, true≢false, ⊎_elim, ne_eqb, drop-drop}
use Rattle.std.specs.Prelude.{All, ◌==◌}
use Rattle.std.specs.List.{slice_split, position_or_len, before_first, after_first}
use Rattle.std.specs.Str.Lines.{strip_carriage_return}
use Rattle.std.proofs.Math.ListN.{drop_of_length-le}
use Rattle.std.proofs.lemmas.Bool.{cases_lt}
use Rattle.std.proofs.lemmas.List.Elements.{All-from_get_or}
use Rattle.std.proofs.lemmas.List.Splits.{slice_split_none, slice_split_first, length-slice_split}
use Rattle.std.proofs.lemmas.List.Sums.{fails_before_first}
use Rattle.arimaa_record.specs.Lines.{is_feed, lines_of_pieces, lines_of}

pub lines_of_pieces-cons : (x : List ℕ) (pieces : List (List ℕ)) → 0 < length pieces → lines_of_pieces (x ∷ pieces) ≡ strip_carriage_return x ∷ lines_of_pieces pieces
lines_of_pieces-cons x [] some = absurd (omega arith)
lines_of_pieces-cons x (y ∷ more) some = refl

pub no_lines : lines_of [] ≡ []
unfolding lines_of
no_lines = refl

-- one more is dropped
drop_one_more : (xs : List ℕ) (n : ℕ) → drop (n + 1) xs ≡ drop 1 (drop n xs)
drop_one_more xs n = sym (drop-drop 1 n xs)

-- where a line feed stands in the input, the first line ends there
ended_first : (bytes : List ℕ) → position_or_len is_feed bytes < length bytes → lines_of bytes ≡ strip_carriage_return (before_first is_feed bytes) ∷ lines_of (after_first is_feed bytes)
unfolding lines_of
ended_first bytes less =
    ap lines_of_pieces (slice_split_first is_feed bytes 0 less)
    ∙ lines_of_pieces-cons (before_first is_feed bytes) (slice_split is_feed (after_first is_feed bytes)) (omega (arith, length-slice_split is_feed (after_first is_feed bytes)))

-- where there is none, all is one line
pub only_line : (bytes : List ℕ) → 0 < length bytes → All (λ b. is_feed b ≡ false) bytes → lines_of bytes ≡ strip_carriage_return bytes ∷ []
unfolding lines_of
only_line bytes some all =
    ap lines_of_pieces (slice_split_none is_feed bytes all)
    ∙ ap (λ t. cond t [] (strip_carriage_return bytes ∷ [])) (ne_eqb (length bytes) 0 (λ z. omega arith))

no_feed : (bytes : List ℕ) → length bytes ≤ position_or_len is_feed bytes → All (λ b. is_feed b ≡ false) bytes
no_feed bytes past = All-from_get_or (λ b. is_feed b ≡ false) bytes 0 (λ i less. fails_before_first is_feed bytes i 0 (omega arith))

-- the first line and those of what follows it
pub lines-first : (bytes : List ℕ) (n : ℕ) → 0 < length bytes → n ≡ position_or_len is_feed bytes → lines_of bytes ≡ strip_carriage_return (take n bytes) ∷ lines_of (drop 1 (drop n bytes))
lines-first bytes n some is =
    ⊎_elim
    (λ (less : n < length bytes).
    ended_first bytes (omega arith)
    ∙ (ap (λ k. strip_carriage_return (take k bytes) ∷ lines_of (drop (k + 1) bytes)) (sym is) ∙ ap (λ x. strip_carriage_return (take n bytes) ∷ lines_of x) (drop_one_more bytes n)))
    (λ past.
    let all : take n bytes ≡ bytes = take_all n bytes past in
    let short : length (drop n bytes) ≤ 1 = omega (arith, length-drop n bytes) in
    let nothing : drop 1 (drop n bytes) ≡ [] = drop_of_length-le (drop n bytes) short in
    only_line bytes some (no_feed bytes (omega arith)) ∙ (ap (λ x. strip_carriage_return x ∷ []) (sym all) ∙ ap (λ x. strip_carriage_return (take n bytes) ∷ x) (sym (ap lines_of nothing ∙ no_lines))))
    (cases_lt n (length bytes))

-- the same, for the parts as a program cuts them
pub lines-cut : (bytes line rest front back : List ℕ) (n : ℕ) → 0 < length bytes → n ≡ position_or_len is_feed bytes → line ≡ take n bytes → rest ≡ drop n bytes
    → front ≡ strip_carriage_return line → back ≡ drop 1 rest → lines_of bytes ≡ front ∷ lines_of back
lines-cut bytes line rest front back n some is e_line e_rest e_front e_back =
    lines-first bytes n some is
    ∙ (ap (λ x. x ∷ lines_of (drop 1 (drop n bytes))) (sym (e_front ∙ ap strip_carriage_return e_line)) ∙ ap (λ x. front ∷ lines_of x) (sym (e_back ∙ ap (drop 1) e_rest)))

-- what a test for emptiness says where it fails
pub filled_by_test : (bytes : List ℕ) (empty : Bool) → empty ≡ (length bytes == 0) → empty ≡ false → 0 < length bytes
filled_by_test [] empty is none = absurd (true≢false (sym is ∙ none))
filled_by_test (b ∷ bs) empty is none = omega arith
