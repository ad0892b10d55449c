-- What is written is read back.
use Rattle.std.proofs.Common.{◌≡◌, ℕ, ◌+◌, ◌<◌, ◌≤◌, List, [], ◌∷◌, ◌++◌, length, take, get_or, refl, ◌∙◌, ap, subst, arith, Option, None, Some, false}
use Rattle.std.specs.Prelude.{All}
use Rattle.std.specs.List.{AllByRecursion}
use Rattle.std.proofs.lemmas.Bool.Decides.{nat_tests}
use Rattle.std.proofs.lemmas.List.Elements.{All-from_recursion, recursion_from_All, All-more}
use Rattle.std.proofs.lemmas.List.Sorted.{IsPermutation-refl}
use Rattle.arimaa_board.specs.declared.piece.Piece.{Piece}
use Rattle.arimaa_board.specs.declared.position.Step.{Step}
use Rattle.arimaa_board.specs.declared.square.Dir.{Dir}
use Rattle.arimaa_board.specs.declared.square.Dir.TheVariants.{North, East, South, West}
use Rattle.arimaa_board.specs.declared.turn.NotedStep.{NotedStep}
use Rattle.arimaa_board.specs.Setup.{Lineup, IsLineup}
use Rattle.arimaa_notation.specs.Items.{is_blank, items_of}
use Rattle.arimaa_notation.specs.Written.{letter_of_dir, text_of_step, text_of_mark, text_of_entry, items_of_mark, items_of_turn, items_of_entries, items_text, text_of_turn, text_of_setup}
use Rattle.arimaa_notation.specs.Grammar.{IsOnBoard, IsTurnText, IsSetupText}
use Rattle.arimaa_notation.proofs.Lemmas.WrittenLaws.{letter_seen}
use Rattle.arimaa_notation.proofs.Lemmas.ItemLaws.{items-item, items-blank, no_items}

-- an item of bytes above the space
pub record IsWord (item : List ℕ) : Type 0 where
  pub filled : 0 < length item
  pub seen : AllByRecursion (λ b. 32 < b) item

pub not_blank : (b : ℕ) → 32 < b → is_blank b ≡ false
not_blank b above = grind (arith, nat_tests)

solid : (item : List ℕ) → AllByRecursion (λ b. 32 < b) item → AllByRecursion (λ b. is_blank b ≡ false) item
solid [] all = tt
solid (b ∷ bs) all = (not_blank b all.0, solid bs all.1)

solid_all : (item : List ℕ) → IsWord item → All (λ b. is_blank b ≡ false) item
solid_all item word = All-from_recursion (λ b. is_blank b ≡ false) item (solid item word.seen)

-- items that are joined fall apart again
pub items-joined : (items : List (List ℕ)) → AllByRecursion IsWord items → items_of (items_text items) ≡ items
items-joined [] all = no_items
items-joined (x ∷ []) all = items-item x [] all.0.filled (solid_all x all.0) refl ∙ ap (λ y. x ∷ y) no_items
items-joined (x ∷ y ∷ ys) all =
    items-item x (32 ∷ items_text (y ∷ ys)) all.0.filled (solid_all x all.0) refl
    ∙ ap (λ z. x ∷ z) (items-blank 32 (items_text (y ∷ ys)) refl ∙ items-joined (y ∷ ys) all.1)

pub dir_seen : (d : Dir) → 32 < letter_of_dir d
dir_seen North = omega arith
dir_seen East = omega arith
dir_seen South = omega arith
dir_seen West = omega arith

step_word : (s : Step) → IsWord (text_of_step s)
step_word s = record { filled = omega arith; seen = (letter_seen s.piece, (omega arith, (omega arith, (dir_seen s.dir, tt)))) }

mark_word : (m : Piece × ℕ) → IsWord (text_of_mark m)
mark_word m = record { filled = omega arith; seen = (letter_seen m.0, (omega arith, (omega arith, (omega arith, tt)))) }

entry_word : (e : ℕ × Piece) → IsWord (text_of_entry e)
entry_word e = record { filled = omega arith; seen = (letter_seen e.1, (omega arith, (omega arith, tt))) }

turn_words : (ns : List NotedStep) → AllByRecursion IsWord (items_of_turn ns)
turn_words [] = tt
turn_words (n ∷ ns) = (step_word n.step, by_mark (turn_words ns) n.mark)
  where
    by_mark : AllByRecursion IsWord (items_of_turn ns) → (m : Option (Piece × ℕ)) → AllByRecursion IsWord (items_of_mark m ++ items_of_turn ns)
    by_mark rest None = rest
    by_mark rest (Some m) = (mark_word m, rest)

pub entry_words : (es : List (ℕ × Piece)) → AllByRecursion IsWord (items_of_entries es)
entry_words [] = tt
entry_words (e ∷ es) = (entry_word e, entry_words es)

-- the written form of a turn is a text of it
pub turn-back : (bytes : List ℕ) (ns : List NotedStep) → bytes ≡ text_of_turn ns → 0 < length ns → length ns ≤ 4 → AllByRecursion IsOnBoard ns → IsTurnText bytes ns
turn-back bytes ns is some few on =
    record { steps = record { spelled = ap items_of is ∙ items-joined (items_of_turn ns) (turn_words ns); on_board = on }; some = some; few = few }

-- the written form of a setup is a text of it
pub setup-back : (bytes : List ℕ) (s : Lineup) → bytes ≡ text_of_setup s → IsLineup s → AllByRecursion (λ e. e.0 < 64) s.pairs → IsSetupText bytes s.color s
setup-back bytes s is rule on =
    record {
      entries = (s.pairs, record { spelled = ap items_of is ∙ items-joined (items_of_entries s.pairs) (entry_words s.pairs); on_board = on }, IsPermutation-refl s.pairs);
      side = refl;
      rule = rule;
    }

-- what holds of the first, and of one more
pub all_more : {X : Type 0} (P : X → Type 0) (xs : List X) (i : ℕ) (x : X) → i < length xs → x ≡ get_or xs i x → AllByRecursion P (take i xs) → P x → AllByRecursion P (take (i + 1) xs)
all_more P xs i x less is all one = recursion_from_All P (take (i + 1) xs) (All-more P xs i x less (All-from_recursion P (take i xs) all) (subst P is one))
