-- The items of a text, which blanks separate.
use Rattle.std.specs.Prelude.{◌≡◌, ℕ, ◌==◌, ◌<◌, Bool, true, false, ◌||◌, List, [], ◌∷◌, ◌++◌, ◌-◌, length, take, drop, filter, All}
use Rattle.std.specs.List.{slice_split, slice_index_or, prefix_len, suffix_len, position_or_len}

-- a space or a tab
abbrev pub is_blank : ℕ → Bool
is_blank b = b == 32 || b == 9

-- whether a piece of a text has a byte
abbrev pub is_filled : List ℕ → Bool
is_filled [] = false
is_filled (b ∷ bs) = true

-- the items of a text: what stands between blanks, but for empty pieces
unfoldable pub items_of : List ℕ → List (List ℕ)
items_of bytes = filter is_filled (slice_split is_blank bytes)

-- the first item of a text, and the bytes after it
pub record IsFirstItem (bytes item rest : List ℕ) : Type 0 where
  pub blanks : List ℕ
  pub cut : bytes ≡ blanks ++ (item ++ rest)
  pub blank : All (λ b. is_blank b ≡ true) blanks
  pub filled : 0 < length item
  pub solid : All (λ b. is_blank b ≡ false) item
  pub ended : is_blank (slice_index_or rest 0 32) ≡ true

-- a text without the blanks at its front
abbrev pub without_first_blanks : List ℕ → List ℕ
without_first_blanks bytes = drop (prefix_len is_blank bytes) bytes

-- a text without the blanks at its end
abbrev pub without_last_blanks : List ℕ → List ℕ
without_last_blanks bytes = take (length bytes - suffix_len is_blank bytes) bytes

-- a text without the blanks at its ends
abbrev pub without_outer_blanks : List ℕ → List ℕ
without_outer_blanks bytes = without_last_blanks (without_first_blanks bytes)

-- what stands before the first blank
abbrev pub before_blank : List ℕ → List ℕ
before_blank text = take (position_or_len is_blank text) text

-- the first blank and what follows it
abbrev pub from_blank : List ℕ → List ℕ
from_blank text = drop (position_or_len is_blank text) text

-- the first item of a text, empty where the text has none
abbrev pub word_of : List ℕ → List ℕ
word_of bytes = before_blank (without_first_blanks bytes)

-- what stands after the first item
abbrev pub after_word : List ℕ → List ℕ
after_word bytes = from_blank (without_first_blanks bytes)
