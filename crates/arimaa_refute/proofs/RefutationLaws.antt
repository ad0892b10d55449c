-- What the answer of a maker of escapes means.
use Rattle.std.proofs.Common.{◌≡◌, ℕ, zero, suc, ◌+◌, ◌-◌, ◌<◌, ◌≤◌, List, [], ◌∷◌, drop, None, Some, Bool, true, false, cond, is_none, inl, inr, ⊎_elim, refl, sym, ◌∙◌, ap, subst, arith, eqb-true, true≢false}
use Rattle.std.specs.Prelude.{◌==◌, IfOk, OnOk, Result, Ok, Err}
use Rattle.std.specs.List.{filter, find, slice_get}
use Rattle.std.proofs.lemmas.Bool.{false_from_ne_true}
use Rattle.arimaa_board.specs.declared.piece.Color.{Color}
use Rattle.arimaa_board.specs.Board.{same_color}
use Rattle.arimaa_board.specs.declared.position.Position.{Position}
use Rattle.arimaa_model.specs.DecidedPositions.{decided}
use Rattle.arimaa_model.specs.Members.{Stands}
use Rattle.arimaa_model.specs.Results.{first_occurrences, next}
use Rattle.arimaa_model.specs.Wins.{wins}
use Rattle.arimaa_model.specs.Strategies.{open_replies}
use Rattle.arimaa_model.proofs.Lemmas.Members.{In, In-filter}
use Rattle.arimaa_model.proofs.Lemmas.Meeting.{ready-wants, is_none-None}
use Rattle.arimaa_model.proofs.Lemmas.Positions.{In-stands}
use Rattle.arimaa_forced.specs.Needs.{InTree}
use Rattle.arimaa_forced.specs.Needs.InTree.{root as tree-root, later as tree-later}
use Rattle.arimaa_forced.specs.Search.{size, crowd}
use Rattle.arimaa_forced.proofs.Lemmas.Trees.{tree-size, tree-crowd, cost-size}
use Rattle.arimaa_region.specs.Segments.{live_of}
use Rattle.arimaa_search.proofs.Lemmas.Lists.{first_left}
use Rattle.arimaa_refute.specs.declared.escape.Escape.{Escape}
use Rattle.arimaa_refute.specs.declared.refute_answer.Refuted.{Refuted}
use Rattle.arimaa_refute.specs.declared.refute_answer.Refuted.TheVariants as refuted
use Rattle.arimaa_refute.specs.Escapes.{Holds}
use Rattle.arimaa_refute.specs.OwnEscapes.{fresh, escapes_from, met_first, turns_left, escapes_of}
use Rattle.arimaa_refute.specs.Refutations.{Terms, IsBelow, WantsEscape, first_queue, HasEscapes, IsRefuted, IsDone}
use Rattle.arimaa_refute.proofs.OwnEscapesHold.{In-fresh, open-unwon, own-holds}
use Rattle.arimaa_refute.proofs.Levels.{all-from, first-fresh, Making}

-- ---- a look through a list

-- the place that is looked at is the first of those left
pub place-left : (segments : List (List Position)) (qs : List Position) (place : ℕ) (x : Position) → segments ≡ qs ∷ [] → slice_get (live_of segments) place ≡ Some x → drop place qs ≡ x ∷ drop (place + 1) qs
place-left segments qs place x is there =
    let live : live_of segments ≡ qs = ap live_of is in
    first_left qs place x (ap (λ l. slice_get l place) (sym live) ∙ there)

In-dropped : (k : ℕ) (x : Position) (xs rest : List Position) → drop k xs ≡ x ∷ rest → In x xs
In-dropped zero x xs rest is = subst (λ (l : List Position). In x l) (sym is) (inl refl)
In-dropped (suc k) x [] rest is = let wrong : true ≡ false = cc in absurd (true≢false wrong)
In-dropped (suc k) x (y ∷ xs) rest is = inr (In-dropped k x xs rest is)

-- and stands among them
pub place-stands : (k : ℕ) (x : Position) (xs rest : List Position) → drop k xs ≡ x ∷ rest → Stands xs x
place-stands k x xs rest is = In-stands xs x (In-dropped k x xs rest is)

pub free-more : (t : Position → Bool) (qs : List Position) (place : ℕ) (q : Position) → drop place qs ≡ q ∷ drop (place + 1) qs → t q ≡ false → find t (drop place qs) ≡ find t qs → find t (drop (place + 1) qs) ≡ find t qs
free-more t qs place q next fails h = sym (ap (find t) next ∙ ap (λ v. cond v (Some q) (find t (drop (place + 1) qs))) fails) ∙ h

pub free-here : (t : Position → Bool) (qs : List Position) (place : ℕ) (q : Position) → drop place qs ≡ q ∷ drop (place + 1) qs → t q ≡ true → find t (drop place qs) ≡ find t qs → Some q ≡ find t qs
free-here t qs place q next passes h = sym (ap (find t) next ∙ ap (λ v. cond v (Some q) (find t (drop (place + 1) qs))) passes) ∙ h

pub free-none : (t : Position → Bool) (qs : List Position) (place : ℕ) → drop place qs ≡ [] → find t (drop place qs) ≡ find t qs → None ≡ find t qs
free-none t qs place none h = sym (ap (find t) none) ∙ h

-- ---- the first positions

module _ (t : Terms) (n : ℕ) (p : Position) (lost : wins t.attacker t.barred n p ≡ false) (below : IsBelow t n p) where
  abbrev a : Color
  a = t.attacker

  abbrev b : List Position
  b = t.barred

  own-wants : (k : ℕ) (q : Position) → n ≡ suc k → same_color p.side a ≡ true → In q (open_replies b p) → WantsEscape t k q
  own-wants k q more own i =
      let deep : wins a b (suc k) p ≡ false = ap (λ m. wins a b m p) (sym more) ∙ lost in
      let ready = ready-wants b p q i in
      record {
        unwon = open-unwon a b k p q own deep i;
        below = tree-later p q n k below ready.goes (In-stands (next b p) q ready.inside) (omega (arith, more));
      }

  other-wants : (q : Position) → same_color p.side a ≡ false → In q (filter (λ x. is_none (decided x)) (p ∷ [])) → WantsEscape t n q
  other-wants q other i =
      let parts = In-filter (λ x. is_none (decided x)) q (p ∷ []) i in
      let same : p ≡ q = ⊎_elim (λ (e : q ≡ p). sym e) (λ none. absurd none) parts.0 in
      record {
        unwon = record { side = ap (λ (x : Position). same_color x.side a) (sym same) ∙ other; undecided = is_none-None (decided q) parts.1; lost = ap (λ (x : Position). wins a b n x) (sym same) ∙ lost };
        below = subst (λ (x : Position). IsBelow t n x) same below;
      }

  first-wants : (k : ℕ) (q : Position) → turns_left a n p ≡ suc k → In q (met_first a b p) → WantsEscape t (suc k) q
  first-wants k q left i =
      elim (same_color p.side a) as (λ v. same_color p.side a ≡ v → cond v (n - 1) n ≡ suc k → In q (cond v (open_replies b p) (filter (λ x. is_none (decided x)) (p ∷ []))) → WantsEscape t (suc k) q) [
        | true ↦ λ own less j. own-wants (suc k) q (omega (arith, less)) own j
        | false ↦ λ other same j. subst (λ m. WantsEscape t m q) same (other-wants q other j)
      ] refl left i

  escapes-are : escapes_of a b n p ≡ escapes_from a b (turns_left a n p) [] (fresh [] (met_first a b p))
  unfolding escapes_of
  escapes-are = refl

  -- the first positions wait in the queue, and no escape is written
  pub making-start : Making t (escapes_of a b n p) (turns_left a n p) 0 (first_queue a b n p) []
  making-start = by (turns_left a n p) refl where
    by : (m : ℕ) → turns_left a n p ≡ m → Making t (escapes_of a b n p) m 0 (cond (m == 0) [] (fresh [] (met_first a b p))) []
    by zero left = record {
      inside = omega arith;
      whole = sym (escapes-are ∙ ap (λ m. escapes_from a b m [] (fresh [] (met_first a b p))) left);
      wants = tt;
    }
    by (suc k) left =
        let some : (suc k == 0) ≡ false = false_from_ne_true _ (λ e. let none : suc k ≡ 0 = eqb-true (suc k) 0 e in absurd (omega arith)) in
        subst (λ v. Making t (escapes_of a b n p) (suc k) 0 (cond v [] (fresh [] (met_first a b p))) []) (sym some)
        (record {
          inside = omega arith;
          whole = sym (escapes-are ∙ ap (λ m. escapes_from a b m [] (fresh [] (met_first a b p))) left);
          wants = all-from (WantsEscape t (suc k)) (fresh [] (met_first a b p)) (λ q i. first-wants k q left (In-fresh q [] (met_first a b p) i));
        })

-- the queue where the attacker is to move
pub first-own : (a : Color) (barred : List Position) (n : ℕ) (p : Position) → same_color p.side a ≡ true → 0 < turns_left a n p → first_occurrences [] (open_replies barred p) ≡ first_queue a barred n p
first-own a barred n p own some =
    let test : (turns_left a n p == 0) ≡ false = false_from_ne_true _ (λ e. let none : turns_left a n p ≡ 0 = eqb-true (turns_left a n p) 0 e in absurd (omega arith)) in
    first-fresh [] (open_replies barred p)
    ∙ sym (ap (λ v. cond v [] (fresh [] (met_first a barred p))) test ∙ ap (λ v. fresh [] (cond v (open_replies barred p) (filter (λ x. is_none (decided x)) (p ∷ [])))) own)

pub left-few : (a : Color) (n : ℕ) (p : Position) → turns_left a n p ≤ n
left-few a n p = elim (same_color p.side a) as (λ v. cond v (n - 1) n ≤ n) [ true ↦ omega arith | false ↦ omega arith ]

-- what holds where a call succeeds holds in another form
pub on-ok : {X E : Type 0} (r : Result X E) (P Q : Type 0) → (P → Q) → OnOk r P → OnOk r Q
on-ok (Ok x) P Q f h = f h
on-ok (Err e) P Q f h = h

-- ---- the answer

pub has-escapes : (a : Color) (barred : List Position) (p : Position) (n : ℕ) (c : List Escape) → n ≤ 20 → wins a barred n p ≡ false → c ≡ escapes_of a barred n p → HasEscapes a barred p n c
has-escapes a barred p n c small lost own = record { lost = lost; own = own; holds = subst (λ (l : List Escape). Holds a barred n l p) (sym own) (own-holds a barred n p small lost) }

-- with enough budget and room it is no stop
pub refuted-done : {E : Type 0} (a : Color) (barred : List Position) (budget room : ℕ) (p : Position) (n : ℕ) (r : Result Refuted E) → IfOk r (IsRefuted a barred budget room p n) → size barred n p ≤ budget → crowd barred n p ≤ room → IfOk r IsDone
refuted-done a barred budget room p n (Err e) told large wide = tt
refuted-done a barred budget room p n (Ok (refuted.Held c)) told large wide = tt
refuted-done a barred budget room p n (Ok refuted.Wins) told large wide = tt
refuted-done a barred budget room p n (Ok (refuted.Spent q k counted)) told large wide =
    let within = tree-size barred p n q k told.0 in
    let cheap = cost-size a barred k q in
    let dear = told.1 in
    absurd (omega arith)
refuted-done a barred budget room p n (Ok (refuted.Crowded q k)) told large wide =
    let within = tree-crowd barred p n q k told.0 in
    let long = told.1 in
    absurd (omega arith)

-- the question on the root is in its tree
pub below-root : (t : Terms) (n : ℕ) (p : Position) → t.root ≡ p → t.turns ≡ n → IsBelow t n p
below-root t n p root turns = subst (λ (x : Position). InTree t.barred t.root t.turns x n) root (subst (λ m. InTree t.barred t.root t.turns t.root m) turns tree-root)

-- an answer on the same terms
pub answer-same : {E : Type 0} (r : Result Refuted E) (t : Terms) (a : Color) (barred : List Position) (budget room : ℕ) (p : Position) (n : ℕ) → t.attacker ≡ a → t.barred ≡ barred → t.budget ≡ budget → t.room ≡ room
    → IfOk r (IsRefuted t.attacker t.barred t.budget t.room p n) → IfOk r (IsRefuted a barred budget room p n)
answer-same {E} r t a barred budget room p n own bars spend places told =
    let F : Color → Type 0 = λ x. IfOk r (IsRefuted x barred budget room p n) in
    let G : List Position → Type 0 = λ x. IfOk r (IsRefuted t.attacker x budget room p n) in
    let H : ℕ → Type 0 = λ x. IfOk r (IsRefuted t.attacker t.barred x room p n) in
    let I : ℕ → Type 0 = λ x. IfOk r (IsRefuted t.attacker t.barred t.budget x p n) in
    subst F own (subst G bars (subst H spend (subst I places told)))
