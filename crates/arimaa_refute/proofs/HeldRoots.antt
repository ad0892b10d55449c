-- A root that escapes hold is not won.
use Rattle.std.proofs.Common.{◌≡◌, ℕ, zero, suc, ◌-◌, ◌≤◌, List, [], ◌∷◌, ◌++◌, None, Some, true, false, not, inl, inr, ⊎_elim, refl, sym, ◌∙◌, ap, subst, arith, true≢false}
use Rattle.std.specs.List.{list_all}
use Rattle.std.proofs.lemmas.Bool.{leb-true, false_from_ne_true, not-true, both_ways, or_cases, and_parts}
use Rattle.arimaa_board.specs.declared.piece.Color.{Color}
use Rattle.arimaa_board.specs.Board.{same_color}
use Rattle.arimaa_board.specs.declared.position.Position.{Position}
use Rattle.arimaa_board.specs.declared.ending.Ending.{Ending}
use Rattle.arimaa_model.specs.DecidedPositions.{decided}
use Rattle.arimaa_model.specs.Results.{next}
use Rattle.arimaa_model.specs.Wins.{is_nil, wins, wins_among}
use Rattle.arimaa_model.proofs.Lemmas.WinsLaws.{wins-decided, wins-stuck, wins-end, wins-deeper}
use Rattle.arimaa_model.proofs.Lemmas.Ranking.{by-cases, some-length, wins-le}
use Rattle.arimaa_model.proofs.Lemmas.Members.{In, all-In, any-In}
use Rattle.arimaa_model.proofs.Lemmas.Positions.{same_position-Decides, same_color-Decides, stands-In, results-side, next-results}
use Rattle.arimaa_model.proofs.Lemmas.Meeting.{side-own}
use Rattle.arimaa_refute.specs.declared.escape.Escape.{Escape}
use Rattle.arimaa_refute.specs.Escapes.{is_escape_of, has_escape, can_wait, safe_for, is_safe, held_for, is_held, is_root_held, IsGoodEscape, AreGoodEscapes, Holds}

module _ (a : Color) (barred : List Position) (c : List Escape) where
  good-at : (earlier es : List Escape) (e : Escape) → AreGoodEscapes a barred c earlier es → In e es → (before : List Escape) × IsGoodEscape a barred c before e
  good-at earlier [] e good i = absurd i
  good-at earlier (x ∷ es) e good (inl same) = (earlier, subst (λ (y : Escape). IsGoodEscape a barred c earlier y) (sym same) good.0)
  good-at earlier (x ∷ es) e good (inr i) = good-at (earlier ++ x ∷ []) es e good.1 i

  -- no escape that is at least k deep is of a position that is won within k turns
  abbrev EscapesAt : ℕ → Type 0
  EscapesAt k = (e : Escape) → In e c → k ≤ e.depth → wins a barred k e.position ≡ false

  wait-lost : (k j : ℕ) (q : Position) → k ≤ j → decided q ≡ None → can_wait j (next barred q) ≡ true → wins a barred k q ≡ false
  wait-lost zero zero q le undecided waits = wins-end a barred q undecided (not-true (is_nil (next barred q)) waits)
  wait-lost (suc k) zero q le undecided waits = absurd (omega arith)
  wait-lost k (suc j) q le undecided waits = absurd (true≢false (sym waits))

  escape-here : (k j : ℕ) (q : Position) → k ≤ j → EscapesAt k → has_escape c q j ≡ true → wins a barred k q ≡ false
  escape-here k j q le lost has =
      let found = any-In (is_escape_of q j) c has in
      let parts = and_parts _ _ found.2 in
      let there : found.0.position ≡ q = (same_position-Decides found.0.position q).0 parts.0 in
      let deep : j ≤ found.0.depth = leb-true j found.0.depth parts.1 in
      subst (λ (x : Position). wins a barred k x ≡ false) there (lost found.0 found.1 (omega arith))

  -- a safe position is not won
  safe-lost : (k j : ℕ) (q : Position) → k ≤ j → EscapesAt k → is_safe a barred c j q ≡ true → wins a barred k q ≡ false
  safe-lost k j q le lost safe =
      elim (decided q) as (λ o. decided q ≡ o → safe_for a barred c j q o ≡ true → wins a barred k q ≡ false) [
        | Some e ↦ λ is h. wins-decided a barred q k e is ∙ not-true (same_color e.winner a) h
        | None ↦ λ undecided h. ⊎_elim
            (λ waits. wait-lost k j q le undecided waits)
            (λ has. escape-here k j q le lost has)
            (or_cases _ _ h)
      ] refl safe

  -- a position that is decided for the defender is not won
  decided-lost : (k m : ℕ) (p : Position) (e : Ending) → decided p ≡ Some e → is_held a barred c m p ≡ true → wins a barred k p ≡ false
  decided-lost k m p e is held =
      let now : held_for a barred c m p (Some e) ≡ true = rw is at held in
      wins-decided a barred p k e is ∙ not-true (same_color e.winner a) now

  held-now : (m : ℕ) (p : Position) → same_color p.side a ≡ true → is_held a barred c m p ≡ true → wins a barred 0 p ≡ false
  held-now m p own held =
      by-cases a barred p (wins a barred 0 p ≡ false)
      (λ e is. decided-lost 0 m p e is held)
      (λ undecided none. wins-stuck a barred p 0 undecided none ∙ ap not own)
      (λ q undecided i. wins-end a barred p undecided (some-length q (next barred p) i))

  held-later : (k m : ℕ) (p : Position) → same_color p.side a ≡ true → k ≤ m → EscapesAt k → is_held a barred c (suc m) p ≡ true → wins a barred (suc k) p ≡ false
  held-later k m p own le lost held =
      by-cases a barred p (wins a barred (suc k) p ≡ false)
      (λ e is. decided-lost (suc k) (suc m) p e is held)
      (λ undecided none. wins-stuck a barred p (suc k) undecided none ∙ ap not own)
      (λ q undecided i.
      let all : list_all (is_safe a barred c m) (next barred p) ≡ true = rw undecided at held in
      let deeper : wins a barred (suc k) p ≡ wins_among true (wins a barred k) (next barred p) =
      wins-deeper a barred p k undecided (some-length q (next barred p) i) ∙ ap (λ v. wins_among v (wins a barred k) (next barred p)) own in
      deeper
      ∙ false_from_ne_true _
      (λ some.
      let found = any-In (wins a barred k) (next barred p) some in
      let safe = all-In (is_safe a barred c m) found.0 (next barred p) all found.1 in
      both_ways _ (safe-lost k m found.0 le lost safe) found.2))

  -- where the result of an escape is not won, its position isn't won one turn deeper
  escape-deeper : (k : ℕ) (before : List Escape) (e : Escape) (good : IsGoodEscape a barred c before e) → wins a barred k good.result ≡ false → wins a barred (suc k) e.position ≡ false
  escape-deeper k before e good lost =
      let other : same_color e.position.side a ≡ false = false_from_ne_true _ (λ own. good.side ((same_color-Decides e.position.side a).0 own)) in
      let inside : In good.result (next barred e.position) = stands-In _ good.result good.allowed in
      let deeper : wins a barred (suc k) e.position ≡ wins_among false (wins a barred k) (next barred e.position) =
      wins-deeper a barred e.position k good.undecided (some-length good.result (next barred e.position) inside) ∙ ap (λ v. wins_among v (wins a barred k) (next barred e.position)) other in
      deeper ∙ false_from_ne_true _ (λ all. both_ways _ lost (all-In (wins a barred k) good.result (next barred e.position) all inside))

  result-own : (before : List Escape) (e : Escape) (good : IsGoodEscape a barred c before e) → same_color good.result.side a ≡ true
  result-own before e good =
      let other : same_color e.position.side a ≡ false = false_from_ne_true _ (λ own. good.side ((same_color-Decides e.position.side a).0 own)) in
      let inside : In good.result (next barred e.position) = stands-In _ good.result good.allowed in
      side-own a e.position good.result (results-side e.position good.result (next-results barred e.position good.result inside)) other

  module _ (good : AreGoodEscapes a barred c [] c) where
    escapes-lost : (k : ℕ) → EscapesAt k
    escapes-lost zero e i le =
        let g = good-at [] c e good i in
        let inside : In g.1.result (next barred e.position) = stands-In _ g.1.result g.1.allowed in
        wins-end a barred e.position g.1.undecided (some-length g.1.result (next barred e.position) inside)
    escapes-lost (suc zero) e i le =
        let g = good-at [] c e good i in
        escape-deeper 0 g.0 e g.1 (held-now (e.depth - 1) g.1.result (result-own g.0 e g.1) g.1.held)
    escapes-lost (suc (suc k)) e i le =
        let g = good-at [] c e good i in
        let more : e.depth - 1 ≡ suc (e.depth - 2) = omega arith in
        let held : is_held a barred c (suc (e.depth - 2)) g.1.result ≡ true = subst (λ (m : ℕ). is_held a barred c m g.1.result ≡ true) more g.1.held in
        escape-deeper (suc k) g.0 e g.1 (held-later k (e.depth - 2) g.1.result (result-own g.0 e g.1) (omega arith) (escapes-lost k) held)

  own-root : (n : ℕ) (p : Position) → AreGoodEscapes a barred c [] c → same_color p.side a ≡ true → is_held a barred c n p ≡ true → wins a barred n p ≡ false
  own-root zero p good own held = held-now 0 p own held
  own-root (suc n) p good own held = held-later n n p own (omega arith) (escapes-lost good n) held

  -- a root that is held is not won
  pub held-lost : (n : ℕ) (p : Position) → Holds a barred n c p → wins a barred n p ≡ false
  held-lost n p h =
      elim (same_color p.side a) as (λ v. same_color p.side a ≡ v → is_root_held a barred c n p ≡ true → wins a barred n p ≡ false) [
        | true ↦ λ own root. own-root n p h.escapes own (rw own at root)
        | false ↦ λ other root. safe-lost n n p (omega arith) (escapes-lost h.escapes n) (rw other at root)
      ] refl h.root

  pub held-fewer : (m n : ℕ) (p : Position) → m ≤ n → Holds a barred n c p → wins a barred m p ≡ false
  held-fewer m n p le h = false_from_ne_true _ (λ won. both_ways _ (held-lost n p h) (wins-le a barred m n p le won))
