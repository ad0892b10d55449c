-- The items of turns: their fronts, and that no two turns have the same.
use Rattle.std.proofs.Common.{◌≡◌, ℕ, zero, suc, ◌<◌, List, [], ◌∷◌, ◌++◌, take, refl, sym, ap, Option, None, Some}
use Rattle.std.specs.Prelude.{IfSome}
use Rattle.std.specs.List.{AllByRecursion}
use Rattle.arimaa_board.specs.declared.piece.Piece.{Piece}
use Rattle.arimaa_board.specs.declared.position.Step.{Step}
use Rattle.arimaa_board.specs.declared.turn.NotedStep.{NotedStep}
use Rattle.arimaa_notation.specs.Written.{text_of_step, text_of_mark, items_of_mark, items_of_turn}
use Rattle.arimaa_notation.specs.Grammar.{IsOnBoard, AreSteps}
use Rattle.arimaa_notation.proofs.LetterLaws.{same_step, same_mark, step_no_mark}

-- a step without its mark
abbrev unmarked : NotedStep → NotedStep
unmarked n = record { step = n.step; mark = None }

-- each front of a turn's items is the items of steps and marks
pub front_of_turn : (ns : List NotedStep) (number : ℕ) → AllByRecursion IsOnBoard ns → (ms : List NotedStep) × AreSteps (take number (items_of_turn ns)) ms
front_of_turn ns zero on = ([], record { spelled = refl; on_board = tt })
front_of_turn [] (suc k) on = ([], record { spelled = refl; on_board = tt })
front_of_turn (n ∷ ns) (suc k) on = by_mark (λ j. front_of_turn ns j on.1) n.step n.mark on.0.0 on.0.1 k
  where
    by_mark : ((j : ℕ) → (ms : List NotedStep) × AreSteps (take j (items_of_turn ns)) ms) → (s : Step) (m : Option (Piece × ℕ)) → s.from < 64 → IfSome m (λ x. x.1 < 64) → (k : ℕ) → (ms : List NotedStep) × AreSteps (text_of_step s ∷ take k (items_of_mark m ++ items_of_turn ns)) ms
    by_mark front s None from mark k =
        let rest = front k in
        (record { step = s; mark = None } ∷ rest.0, record { spelled = ap (λ x. text_of_step s ∷ x) rest.1.spelled; on_board = ((from, tt), rest.1.on_board) })
    by_mark front s (Some m) from mark zero = (record { step = s; mark = None } ∷ [], record { spelled = refl; on_board = ((from, tt), tt) })
    by_mark front s (Some m) from mark (suc k) =
        let rest = front k in
        (record { step = s; mark = Some m } ∷ rest.0, record { spelled = ap (λ x. text_of_step s ∷ text_of_mark m ∷ x) rest.1.spelled; on_board = ((from, mark), rest.1.on_board) })

-- the first and the rest of equal lists
pub head_same : {X : Type 0} {x y : X} {xs ys : List X} → x ∷ xs ≡ y ∷ ys → x ≡ y
head_same e = cc

pub tail_same : {X : Type 0} {x y : X} {xs ys : List X} → x ∷ xs ≡ y ∷ ys → xs ≡ ys
tail_same e = cc

-- no turn begins with a mark
no_step_next : (x : Piece × ℕ) (rest : List (List ℕ)) (ks : List NotedStep) → text_of_mark x ∷ rest ≡ items_of_turn ks → ⊥
no_step_next x rest [] e = cc
no_step_next x rest (k ∷ ks) e = step_no_mark k.step x (sym (head_same e))

-- no two turns have the same items
pub same_turn : (ns ms : List NotedStep) → items_of_turn ns ≡ items_of_turn ms → ns ≡ ms
same_turn [] [] e = refl
same_turn [] (m ∷ ms) e = cc
same_turn (n ∷ ns) [] e = cc
same_turn (n ∷ ns) (m ∷ ms) e = by_marks (λ same. same_turn ns ms same) n.step m.step n.mark m.mark e
  where
    by_marks : (items_of_turn ns ≡ items_of_turn ms → ns ≡ ms) → (s t : Step) (a b : Option (Piece × ℕ)) → text_of_step s ∷ (items_of_mark a ++ items_of_turn ns) ≡ text_of_step t ∷ (items_of_mark b ++ items_of_turn ms) → record { step = s; mark = a } ∷ ns ≡ record { step = t; mark = b } ∷ ms
    by_marks same s t None None e =
        let first : s ≡ t = same_step s t (head_same e) in
        let rest : ns ≡ ms = same (tail_same e) in
        λ i. record { step = first i; mark = None } ∷ rest i
    by_marks same s t (Some a) (Some b) e =
        let first : s ≡ t = same_step s t (head_same e) in
        let mark : a ≡ b = same_mark a b (head_same (tail_same e)) in
        let rest : ns ≡ ms = same (tail_same (tail_same e)) in
        λ i. record { step = first i; mark = Some (mark i) } ∷ rest i
    by_marks same s t None (Some b) e = absurd (no_step_next b (items_of_turn ms) ns (sym (tail_same e)))
    by_marks same s t (Some a) None e = absurd (no_step_next a (items_of_turn ns) ms (tail_same e))

-- the last step has no mark
abbrev pub EndsUnmarked : List NotedStep → Type 0
EndsUnmarked [] = ⊥
EndsUnmarked (n ∷ []) = n.mark ≡ None
EndsUnmarked (n ∷ m ∷ ns) = EndsUnmarked (m ∷ ns)

ends_more : (n : NotedStep) (ns : List NotedStep) → EndsUnmarked ns → EndsUnmarked (n ∷ ns)
ends_more n [] h = absurd h
ends_more n (m ∷ ns) h = h

pub ends_push : (ns : List NotedStep) (n : NotedStep) → EndsUnmarked (ns ++ n ∷ []) → n.mark ≡ None
ends_push [] n h = h
ends_push (m ∷ []) n h = h
ends_push (m ∷ k ∷ ns) n h = ends_push (k ∷ ns) n h

module _ (x : List ℕ) (no_step : (s : Step) → s.from < 64 → x ≡ text_of_step s → ⊥) where
  -- an item that is no step, and no mark after a step without one, makes a turn's items no turn's
  not_extended : (ns ms : List NotedStep) → (EndsUnmarked ns → (m : Piece × ℕ) → m.1 < 64 → x ≡ text_of_mark m → ⊥) → AllByRecursion IsOnBoard ms → items_of_turn ns ++ x ∷ [] ≡ items_of_turn ms → ⊥
  not_extended [] [] no_mark on e = cc
  not_extended [] (m ∷ ms) no_mark on e = no_step m.step on.0.0 (head_same e)
  not_extended (n ∷ ns) [] no_mark on e = cc
  not_extended (n ∷ ns) (m ∷ ms) no_mark on e =
      by_marks ns (λ same. not_extended ns ms (λ ends. no_mark (ends_more n ns ends)) on.1 same) n.step m.step n.mark m.mark no_mark on.0.1 e
    where
      by_marks : (ks : List NotedStep) → (items_of_turn ks ++ x ∷ [] ≡ items_of_turn ms → ⊥) → (s t : Step) (a b : Option (Piece × ℕ)) → (EndsUnmarked (record { step = s; mark = a } ∷ ks) → (m : Piece × ℕ) → m.1 < 64 → x ≡ text_of_mark m → ⊥) → IfSome b (λ y. y.1 < 64) → text_of_step s ∷ ((items_of_mark a ++ items_of_turn ks) ++ x ∷ []) ≡ text_of_step t ∷ (items_of_mark b ++ items_of_turn ms) → ⊥
      by_marks ks rest s t None None no_mark on e = rest (tail_same e)
      by_marks ks rest s t (Some a) (Some b) no_mark on e = rest (tail_same (tail_same e))
      by_marks [] rest s t None (Some b) no_mark on e = no_mark refl b on (head_same (tail_same e))
      by_marks (k ∷ ks) rest s t None (Some b) no_mark on e = step_no_mark k.step b (head_same (tail_same e))
      by_marks ks rest s t (Some a) None no_mark on e = no_step_next a _ ms (tail_same e)

  pub not_steps : (ns : List NotedStep) → (EndsUnmarked ns → (m : Piece × ℕ) → m.1 < 64 → x ≡ text_of_mark m → ⊥) → (ms : List NotedStep) → AreSteps (items_of_turn ns ++ x ∷ []) ms → ⊥
  not_steps ns no_mark ms h = not_extended ns ms no_mark h.on_board h.spelled
