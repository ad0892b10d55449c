-- Reading a turn: what holds in its midst, and that a text has one reading.
use Rattle.std.proofs.Common.{◌≡◌, ℕ, zero, suc, ◌+◌, ◌-◌, ◌<◌, ◌≤◌, List, [], ◌∷◌, ◌++◌, length, take, refl, sym, ◌∙◌, ap, subst, arith, append_assoc, length-append, Option, None, Some, inl, inr, ⊎_elim, Result, Ok, Err}
use Rattle.std.specs.Prelude.{IfSome, IfNone}
use Rattle.std.specs.List.{AllByRecursion}
use Rattle.std.proofs.lemmas.Bool.{cases_lt}
use Rattle.std.proofs.lemmas.List.{append-nil}
use Rattle.std.proofs.lemmas.Grind.{flat_map-append}
use Rattle.std.proofs.Math.Seq.{take-append_seam}
use Rattle.arimaa_board.specs.declared.piece.Piece.{Piece}
use Rattle.arimaa_board.specs.declared.position.Step.{Step}
use Rattle.arimaa_board.specs.declared.turn.NotedStep.{NotedStep}
use Rattle.arimaa_notation.specs.declared.fault.NoteFault.{NoteFault}
use Rattle.arimaa_notation.specs.declared.fault.NoteFault.TheVariants.{Token, Steps, Setup}
use Rattle.arimaa_notation.specs.Items.{items_of}
use Rattle.arimaa_notation.specs.Written.{text_of_step, text_of_mark, items_of_mark, items_of_step, items_of_turn}
use Rattle.arimaa_notation.specs.Grammar.{IsOnBoard, AreSteps, IsFirstBadItem, IsNamedItem, IsTurnReading}
use Rattle.arimaa_notation.proofs.Lemmas.GrammarLaws.{EndsUnmarked, ends_push, not_steps, front_of_turn, same_turn}

-- these steps have been read, and this text is left
pub record Midst (bytes text : List ℕ) (ns kept : List NotedStep) (count number : ℕ) : Type 0 where
  pub items : items_of bytes ≡ items_of_turn ns ++ items_of text
  pub on_board : AllByRecursion IsOnBoard ns
  pub closed : EndsUnmarked ns → (m : Piece × ℕ) (rest : List (List ℕ)) → m.1 < 64 → items_of text ≡ text_of_mark m ∷ rest → ⊥
  pub first_four : kept ≡ take 4 ns
  pub steps : count ≡ length ns
  pub numbered : number ≡ length (items_of_turn ns)
  pub fits : number + length text ≤ length bytes
  pub fewer : count ≤ number

pub take_front_one : {X : Type 0} (xs : List X) (y : X) (ys : List X) → take (suc (length xs)) (xs ++ y ∷ ys) ≡ xs ++ y ∷ []
take_front_one [] y ys = refl
take_front_one (x ∷ xs) y ys = ap (λ z. x ∷ z) (take_front_one xs y ys)

take_again : {X : Type 0} (k : ℕ) (xs : List X) (y : X) → take k (take k xs ++ y ∷ []) ≡ take k (xs ++ y ∷ [])
take_again zero xs y = refl
take_again (suc k) [] y = refl
take_again (suc k) (x ∷ xs) y = ap (λ z. x ∷ z) (take_again k xs y)

all_push : (P : NotedStep → Type 0) (ns : List NotedStep) (n : NotedStep) → AllByRecursion P ns → P n → AllByRecursion P (ns ++ n ∷ [])
all_push P [] n all one = (one, tt)
all_push P (m ∷ ns) n all one = (all.0, all_push P ns n all.1 one)

items-push : (ns : List NotedStep) (n : NotedStep) → items_of_turn (ns ++ n ∷ []) ≡ items_of_turn ns ++ items_of_step n
items-push ns n = flat_map-append items_of_step ns (n ∷ []) ∙ ap (λ x. items_of_turn ns ++ x) (append-nil (items_of_step n))

-- an item that is no step is the first bad one
pub midst-fault : (bytes text : List ℕ) (ns kept : List NotedStep) (count number : ℕ) (item : List ℕ) (rest : List (List ℕ)) → Midst bytes text ns kept count number → items_of text ≡ item ∷ rest
    → ((s : Step) → s.from < 64 → item ≡ text_of_step s → ⊥) → IsNamedItem (items_of bytes) (number + 1)
midst-fault bytes text ns kept count number item rest h next no_step =
    let all : items_of bytes ≡ items_of_turn ns ++ item ∷ rest = h.items ∙ ap (λ x. items_of_turn ns ++ x) next in
    let place : number + 1 - 1 ≡ length (items_of_turn ns) = omega (arith, h.numbered) in
    let more : number + 1 ≡ suc (length (items_of_turn ns)) = omega (arith, h.numbered) in
    let front : take (number + 1 - 1) (items_of bytes) ≡ items_of_turn ns = ap (λ k. take k (items_of bytes)) place ∙ (ap (take (length (items_of_turn ns))) all ∙ take-append_seam (items_of_turn ns) (item ∷ rest)) in
    let front_one : take (number + 1) (items_of bytes) ≡ items_of_turn ns ++ item ∷ [] = ap (λ k. take k (items_of bytes)) more ∙ (ap (take (suc (length (items_of_turn ns)))) all ∙ take_front_one (items_of_turn ns) item rest) in
    inr (record {
      before = (ns, record { spelled = front; on_board = h.on_board });
      bad = λ ms g. not_steps item no_step ns (λ ends m square is. h.closed ends m rest square (next ∙ ap (λ x. x ∷ rest) is)) ms (record { spelled = sym front_one ∙ g.spelled; on_board = g.on_board });
    })

-- one more step with its mark
pub midst-more : (bytes text after rest item : List ℕ) (ns kept kept_more : List NotedStep) (count number : ℕ) (n : NotedStep) → Midst bytes text ns kept count number
    → items_of text ≡ item ∷ items_of after → 1 + length after ≤ length text → item ≡ text_of_step n.step → n.step.from < 64
    → items_of after ≡ items_of_mark n.mark ++ items_of rest → IfSome n.mark (λ m. m.1 < 64)
    → IfNone n.mark ((m : Piece × ℕ) (more : List (List ℕ)) → m.1 < 64 → items_of rest ≡ text_of_mark m ∷ more → ⊥)
    → length (items_of_mark n.mark) + length rest ≤ length after → kept_more ≡ take 4 (kept ++ n ∷ [])
    → Midst bytes rest (ns ++ n ∷ []) kept_more (count + 1) (number + (1 + length (items_of_mark n.mark)))
midst-more bytes text after rest item ns kept kept_more count number n h next shorter step from mark square none fits is =
    let added : length (items_of_turn (ns ++ n ∷ [])) ≡ length (items_of_turn ns) + length (items_of_step n) = ap length (items-push ns n) ∙ length-append (items_of_turn ns) (items_of_step n) in
    record {
      items =
          h.items
          ∙ (ap (λ x. items_of_turn ns ++ x) (next ∙ (ap (λ x. x ∷ items_of after) step ∙ ap (λ x. text_of_step n.step ∷ x) mark))
          ∙ (sym (append_assoc (items_of_turn ns) (items_of_step n) (items_of rest)) ∙ ap (λ x. x ++ items_of rest) (sym (items-push ns n))));
      on_board = all_push IsOnBoard ns n h.on_board (from, square);
      closed = λ ends m more small same. closed_by n.mark (ends_push ns n ends) none m more small same;
      first_four = is ∙ (ap (λ x. take 4 (x ++ n ∷ [])) h.first_four ∙ take_again 4 ns n);
      steps = omega (arith, h.steps, length-append ns (n ∷ []));
      numbered = omega (arith, h.numbered, added);
      fits = omega (arith, h.fits);
      fewer = omega (arith, h.fewer);
    }
  where
    closed_by : (mark : Option (Piece × ℕ)) → mark ≡ None → IfNone mark ((m : Piece × ℕ) (more : List (List ℕ)) → m.1 < 64 → items_of rest ≡ text_of_mark m ∷ more → ⊥) → (m : Piece × ℕ) (more : List (List ℕ)) → m.1 < 64 → items_of rest ≡ text_of_mark m ∷ more → ⊥
    closed_by None e none = none
    closed_by (Some x) e none = cc

-- two readings of the same items are the same: what a turn's items are, and which item is named
reads_apart : (items : List (List ℕ)) (ns : List NotedStep) (number : ℕ) → AreSteps items ns → IsFirstBadItem items number → ⊥
reads_apart items ns number h bad =
    let front = front_of_turn ns number h.on_board in
    bad.bad front.0 (record { spelled = ap (take number) h.spelled ∙ front.1.spelled; on_board = front.1.on_board })

steps_apart : (items : List (List ℕ)) (ns : List NotedStep) (number : ℕ) → AreSteps items ns → 0 < length ns → IsNamedItem items number → ⊥
steps_apart items ns number h some (inl none) = no_items ns (sym h.spelled ∙ none.0) some
  where
    no_items : (ks : List NotedStep) → items_of_turn ks ≡ [] → 0 < length ks → ⊥
    no_items [] e some = omega arith
    no_items (k ∷ ks) e some = cc
steps_apart items ns number h some (inr bad) = reads_apart items ns number h bad

-- a front of a front
pub take_less : {X : Type 0} (xs : List X) (m k : ℕ) → m ≤ k → take m (take k xs) ≡ take m xs
take_less xs zero k less = refl
take_less [] (suc m) zero less = refl
take_less [] (suc m) (suc k) less = refl
take_less (x ∷ xs) (suc m) zero less = absurd (omega arith)
take_less (x ∷ xs) (suc m) (suc k) less = ap (λ z. x ∷ z) (take_less xs m k (omega arith))

not_before : (items : List (List ℕ)) (m n : ℕ) → IsFirstBadItem items m → IsFirstBadItem items n → m < n → ⊥
not_before items m n early late less =
    let before = late.before in
    let front = front_of_turn before.0 m before.1.on_board in
    let same : take m items ≡ take m (items_of_turn before.0) = sym (take_less items m (n - 1) (omega arith)) ∙ ap (take m) before.1.spelled in
    early.bad front.0 (record { spelled = same ∙ front.1.spelled; on_board = front.1.on_board })

none_bad : (number : ℕ) → IsFirstBadItem [] number → ⊥
none_bad number bad = bad.bad [] (record { spelled = take_none number; on_board = tt })
  where
    take_none : (k : ℕ) → take {A = List ℕ} k [] ≡ []
    take_none zero = refl
    take_none (suc k) = refl

same_number : (items : List (List ℕ)) (m n : ℕ) → IsNamedItem items m → IsNamedItem items n → m ≡ n
same_number items m n (inl a) (inl b) = a.1 ∙ sym b.1
same_number items m n (inl a) (inr b) = let P : List (List ℕ) → Type 0 = λ x. IsFirstBadItem x n in absurd (none_bad n (subst P a.0 b))
same_number items m n (inr a) (inl b) = let P : List (List ℕ) → Type 0 = λ x. IsFirstBadItem x m in absurd (none_bad m (subst P b.0 a))
same_number items m n (inr a) (inr b) =
    ⊎_elim (λ (less : m < n). absurd (not_before items m n a b less))
    (λ more. ⊎_elim (λ (less : n < m). absurd (not_before items n m b a less)) (λ less. omega arith) (cases_lt n m))
    (cases_lt m n)

same_items : (items : List (List ℕ)) (ns ms : List NotedStep) → AreSteps items ns → AreSteps items ms → ns ≡ ms
same_items items ns ms a b = same_turn ns ms (sym a.spelled ∙ b.spelled)

-- what items are read as is one
pub one_reading : (items : List (List ℕ)) (r s : Result (List NotedStep) NoteFault) → IsTurnReading items r → IsTurnReading items s → r ≡ s
one_reading items (Ok ns) (Ok ms) a b = ap Ok (same_items items ns ms a.0 b.0)
one_reading items (Ok ns) (Err (Token n)) a b = absurd (steps_apart items ns n a.0 a.1 b)
one_reading items (Ok ns) (Err Steps) a b = absurd (omega (arith, a.2, b.2, ap length (same_items items ns b.0 a.0 b.1)))
one_reading items (Ok ns) (Err Setup) a b = absurd b
one_reading items (Err (Token n)) (Ok ms) a b = absurd (steps_apart items ms n b.0 b.1 a)
one_reading items (Err (Token n)) (Err (Token m)) a b = ap (λ k. Err (Token k)) (same_number items n m a b)
one_reading items (Err (Token n)) (Err Steps) a b = absurd (steps_apart items b.0 n b.1 (omega (arith, b.2)) a)
one_reading items (Err (Token n)) (Err Setup) a b = absurd b
one_reading items (Err Steps) (Ok ms) a b = absurd (omega (arith, a.2, b.2, ap length (same_items items ms a.0 b.0 a.1)))
one_reading items (Err Steps) (Err (Token n)) a b = absurd (steps_apart items a.0 n a.1 (omega (arith, a.2)) b)
one_reading items (Err Steps) (Err Steps) a b = refl
one_reading items (Err Steps) (Err Setup) a b = absurd b
one_reading items (Err Setup) s a b = absurd a
