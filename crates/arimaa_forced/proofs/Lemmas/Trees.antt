-- The questions of a tree are no larger than its root, and those of a need stand in the tree.
use Rattle.std.proofs.Common.{◌≡◌, ℕ, zero, suc, ◌+◌, ◌-◌, ◌<◌, ◌≤◌, List, [], ◌∷◌, Option, None, Some, Bool, true, false, cond, is_none, inl, inr, ⊎_elim, refl, sym, ◌∙◌, ap, subst, arith, true≢false}
use Rattle.std.specs.Prelude.{sum_by}
use Rattle.std.specs.List.{filter, flat_map, Contains}
use Rattle.std.proofs.lemmas.Bool.{cases_lt}
use Rattle.std.proofs.lemmas.List.Sums.{sum_by-cons}
use Rattle.arimaa_board.specs.declared.piece.Color.{Color}
use Rattle.arimaa_board.specs.Board.{same_color}
use Rattle.arimaa_board.specs.declared.position.Position.{Position}
use Rattle.arimaa_board.specs.declared.ending.Ending.{Ending}
use Rattle.arimaa_model.specs.DecidedPositions.{decided}
use Rattle.arimaa_model.specs.Results.{first_occurrences, next}
use Rattle.arimaa_model.specs.Wins.{wins}
use Rattle.arimaa_model.specs.Ranks.{rank_within}
use Rattle.arimaa_model.specs.Strategies.{Planned, entry_of, open_replies, open_after, first_met, after_entry, positions_met, strategy_of}
use Rattle.arimaa_model.proofs.Lemmas.Members.{In, In-filter, In-flat_map}
use Rattle.arimaa_model.proofs.Lemmas.Positions.{stands-In, In-stands, In-first}
use Rattle.arimaa_model.proofs.Lemmas.Ranking.{rank-is, rank-bound}
use Rattle.arimaa_model.proofs.Lemmas.Meeting.{Wants, ready-wants, entry-position, entry-rank, entry-has, result-other, want-ready, all-ready, In-map, contained}
use Rattle.arimaa_forced.specs.Search.{if_open, sum_to, largest, is_decisive, size, cost, crowd}
use Rattle.arimaa_forced.specs.Needs.{InTree, root, sooner, later, IsAsked, itself, place, InNeed, deepening, playing}
use Rattle.arimaa_forced.proofs.Lemmas.Deeper.{size-some, size-deeper, size-decided, crowd-deeper, crowd-decided}
use Rattle.arimaa_forced.proofs.Lemmas.Looks.{up_to-In}

-- ---- sums and largest numbers

sum_to-le : (ends : Position → Bool) (f g : Position → ℕ) → ((q : Position) → f q ≤ g q) → (qs : List Position) → sum_to ends f qs ≤ sum_by g qs
sum_to-le ends f g le [] = omega arith
sum_to-le ends f g le (q ∷ qs) =
    let whole = sum_by-cons g q qs in
    let deep = sum_to-le ends f g le qs in
    let here = le q in
    let some : cond {A = ℕ} (ends q) 0 (sum_to ends f qs) ≤ sum_by g qs = elim (ends q) as (λ v. cond v 0 (sum_to ends f qs) ≤ sum_by g qs) [ true ↦ omega arith | false ↦ deep ] in
    omega arith

sum_by-le : (f g : Position → ℕ) → ((q : Position) → f q ≤ g q) → (qs : List Position) → sum_by f qs ≤ sum_by g qs
sum_by-le f g le [] = omega arith
sum_by-le f g le (q ∷ qs) = let left = sum_by-cons f q qs in let right = sum_by-cons g q qs in let deep = sum_by-le f g le qs in let here = le q in omega arith

sum_by-In : (f : Position → ℕ) (x : Position) (qs : List Position) → In x qs → f x ≤ sum_by f qs
sum_by-In f x [] i = absurd i
sum_by-In f x (q ∷ qs) (inl e) = let whole = sum_by-cons f q qs in let same : f x ≡ f q = ap f e in omega arith
sum_by-In f x (q ∷ qs) (inr i) = let whole = sum_by-cons f q qs in let deep = sum_by-In f x qs i in omega arith

largest-le : (f g : Position → ℕ) → ((q : Position) → f q ≤ g q) → (qs : List Position) → largest f qs ≤ largest g qs
largest-le f g le [] = omega arith
largest-le f g le (q ∷ qs) = let deep = largest-le f g le qs in let here = le q in omega arith

largest-In : (f : Position → ℕ) (x : Position) (qs : List Position) → In x qs → f x ≤ largest f qs
largest-In f x [] i = absurd i
largest-In f x (q ∷ qs) (inl e) = let same : f x ≡ f q = ap f e in omega arith
largest-In f x (q ∷ qs) (inr i) = let deep = largest-In f x qs i in omega arith

open-le : (o : Option Ending) (k l closed : ℕ) → k ≤ l → if_open o k closed ≤ if_open o l closed
open-le None k l closed le = le
open-le (Some e) k l closed le = omega arith

-- ---- costs, and growing with the depth

pub cost-size : (a : Color) (barred : List Position) (n : ℕ) (p : Position) → cost a barred n p ≤ size barred n p
unfolding cost size
cost-size a barred zero p = omega arith
cost-size a barred (suc n) p = open-le (decided p) _ _ 1 (let deep = sum_to-le (is_decisive a barred n p) (cost a barred n) (size barred n) (cost-size a barred n) (next barred p) in omega arith)

-- what grows by one grows
grows : (f : ℕ → ℕ) → ((n : ℕ) → f n ≤ f (suc n)) → (d j : ℕ) → f j ≤ f (d + j)
grows f more zero j = let same : f (zero + j) ≡ f j = ap f (omega arith) in omega arith
grows f more (suc d) j = let deep = grows f more d j in let last = more (d + j) in let same : f (suc d + j) ≡ f (suc (d + j)) = ap f (omega arith) in omega arith

grows-le : (f : ℕ → ℕ) → ((n : ℕ) → f n ≤ f (suc n)) → (j n : ℕ) → j ≤ n → f j ≤ f n
grows-le f more j n le = let deep = grows f more (n - j) j in let same : f ((n - j) + j) ≡ f n = ap f (omega arith) in omega arith

module _ (barred : List Position) where
  size-more : (n : ℕ) (p : Position) → size barred n p ≤ size barred (suc n) p
  unfolding size
  size-more zero p = size-some barred p 1
  size-more (suc n) p = open-le (decided p) _ _ 1 (let deep = sum_by-le (size barred n) (size barred (suc n)) (size-more n) (next barred p) in omega arith)

  pub size-grows : (j n : ℕ) (p : Position) → j ≤ n → size barred j p ≤ size barred n p
  size-grows j n p le = grows-le (λ k. size barred k p) (λ k. size-more k p) j n le

  crowd-more : (n : ℕ) (p : Position) → crowd barred n p ≤ crowd barred (suc n) p
  unfolding crowd
  crowd-more zero p = omega arith
  crowd-more (suc n) p = open-le (decided p) _ _ 0 (let deep = largest-le (crowd barred n) (crowd barred (suc n)) (crowd-more n) (next barred p) in omega arith)

  pub crowd-grows : (j n : ℕ) (p : Position) → j ≤ n → crowd barred j p ≤ crowd barred n p
  crowd-grows j n p le = grows-le (λ k. crowd barred k p) (λ k. crowd-more k p) j n le

  -- a next position, one turn later
  size-next : (p q : Position) (j : ℕ) → decided p ≡ None → In q (next barred p) → size barred j q ≤ size barred (suc j) p
  size-next p q j undecided i = let whole = size-deeper barred p j undecided in let here = sum_by-In (size barred j) q (next barred p) i in omega arith

  crowd-next : (p q : Position) (j : ℕ) → decided p ≡ None → In q (next barred p) → crowd barred j q ≤ crowd barred (suc j) p
  crowd-next p q j undecided i = let whole = crowd-deeper barred p j undecided in let here = largest-In (crowd barred j) q (next barred p) i in omega arith

  -- ---- trees

  module _ (p : Position) (n : ℕ) where
    pub tree-size : (q : Position) (j : ℕ) → InTree barred p n q j → size barred j q ≤ size barred n p
    tree-size _ _ root = omega arith
    tree-size q j (sooner _ k _ t undecided less) = let deep = tree-size q k t in let here = size-grows j k q (omega arith) in omega arith
    tree-size r j (later q _ k _ t undecided stands less) =
        let deep = tree-size q k t in
        let here = size-next q r j undecided (stands-In (next barred q) r stands) in
        let more = size-grows (suc j) k q (omega arith) in
        omega arith

    pub tree-crowd : (q : Position) (j : ℕ) → InTree barred p n q j → crowd barred j q ≤ crowd barred n p
    tree-crowd _ _ root = omega arith
    tree-crowd q j (sooner _ k _ t undecided less) = let deep = tree-crowd q k t in let here = crowd-grows j k q (omega arith) in omega arith
    tree-crowd r j (later q _ k _ t undecided stands less) =
        let deep = tree-crowd q k t in
        let here = crowd-next q r j undecided (stands-In (next barred q) r stands) in
        let more = crowd-grows (suc j) k q (omega arith) in
        omega arith

    -- a question of the tree, up to its depth
    up-to : (q : Position) (k j : ℕ) → InTree barred p n q k → decided q ≡ None → j ≤ k → InTree barred p n q j
    up-to q k j t undecided le =
        ⊎_elim
        (λ (less : j < k). sooner q k j t undecided less)
        (λ (enough : k ≤ j). let same : k ≡ j = omega arith in subst (λ (m : ℕ). InTree barred p n q m) same t)
        (cases_lt j k)

    -- what is asked about an undecided position of the tree
    asked-tree : (a : Color) (x : Position) (m : ℕ) (q : Position) (j : ℕ) → InTree barred p n x m → decided x ≡ None → IsAsked a barred x m q j → InTree barred p n q j
    asked-tree a x m _ j t undecided (itself _ le) = up-to x m j t undecided le
    asked-tree a x m q j t undecided (place _ _ _ less stands) =
        later x q m j t undecided (In-stands (next barred x) q (up_to-In (is_decisive a barred j x) q (next barred x) (stands-In _ q stands))) less

-- ---- needs

is-next : (barred : List Position) (p r q : Position) (n k j : ℕ) → InTree barred p n r k → Wants barred r q → j < k → InTree barred p n q j
is-next barred p r q n k j t w less = later r q k j t w.goes (In-stands (next barred r) q w.inside) less

module _ (a : Color) (barred : List Position) (p : Position) (n r : ℕ) (small : r ≤ n) (undecided : decided p ≡ None) (won : wins a barred r p ≡ true) where
  abbrev rank : Position → ℕ
  rank x = rank_within a barred r x

  top : InTree barred p n p r
  top = up-to barred p n p n r root undecided small

  -- each position that is met stands in the tree, at its rank
  met-tree : (k : ℕ) (x : Position) → In x (positions_met a barred r p k) → InTree barred p n x (rank x)
  met-tree zero x i = ⊎_elim (λ none. absurd none) first (In-first x [] (first_met a barred p) i) where
    first : In x (first_met a barred p) → InTree barred p n x (rank x)
    first j =
        elim (same_color p.side a) as (λ v. same_color p.side a ≡ v → In x (cond v (filter (λ q. is_none (decided q)) (p ∷ [])) (open_replies barred p)) → InTree barred p n x (rank x)) [
          | true ↦ λ own l.
              let parts = In-filter (λ q. is_none (decided q)) x (p ∷ []) l in
              let same : x ≡ p = ⊎_elim (λ (e : x ≡ p). e) (λ none. absurd none) parts.0 in
              subst (λ (y : Position). InTree barred p n y (rank y)) (sym same) (up-to barred p n p r (rank p) top undecided (rank-bound a barred r p))
          | false ↦ λ other l.
              let wants = ready-wants barred p x l in
              let lower = (want-ready a barred r p x r other won (omega arith) wants).1 in
              is-next barred p p x n r (rank x) top wants lower
        ] refl j
  met-tree (suc k) x i =
      ⊎_elim
      (λ old. met-tree k x old)
      (λ new.
      let from = In-flat_map (after_entry a barred r) x (positions_met a barred r p k) new in
      let y : Position = from.0 in
      let ready = all-ready a barred r p won k y from.1 in
      let e = entry-has a barred r y ready in
      let more : rank y ≡ suc e.before = e.more in
      let bound = rank-bound a barred r y in
      let there : In x (open_replies barred e.result) = subst (λ (o : Option Position). In x (open_after barred o)) e.turn from.2 in
      let wants = ready-wants barred e.result x there in
      let lower = (want-ready a barred r e.result x e.before (result-other a barred r y ready e) e.exact.won (omega arith) wants).1 in
      let own = met-tree k y from.1 in
      let played : InTree barred p n e.result e.before = later y e.result (rank y) e.before own ready.undecided (In-stands (next barred y) e.result e.inside) (omega arith) in
      is-next barred p e.result x n e.before (rank x) played wants lower)
      (In-first x (positions_met a barred r p k) (flat_map (after_entry a barred r) (positions_met a barred r p k)) i)

  played-tree : (e : Planned) (q : Position) (j : ℕ) → Contains (strategy_of a barred r p) e → IsAsked a barred e.position e.rank q j → InTree barred p n q j
  unfolding strategy_of
  played-tree e q j there asked =
      let from = In-map (entry_of a barred r) e (positions_met a barred r p r) (contained _ e there.0 there.1 there.2) in
      let x : Position = from.0 in
      let ready = all-ready a barred r p won r x from.1 in
      let position : e.position ≡ x = ap (λ (y : Planned). y.position) from.2 ∙ entry-position a barred r x in
      let ranked : e.rank ≡ rank x = ap (λ (y : Planned). y.rank) from.2 ∙ entry-rank a barred r x in
      let here : IsAsked a barred x (rank x) q j = subst (λ (y : Position). IsAsked a barred y (rank x) q j) position (subst (λ (m : ℕ). IsAsked a barred e.position m q j) ranked asked) in
      asked-tree barred p n a x (rank x) q j (met-tree r x from.1) ready.undecided here

module _ (a : Color) (barred : List Position) (p : Position) (n : ℕ) where
  pub need-tree : (q : Position) (j : ℕ) → decided p ≡ None → InNeed a barred p n q j → InTree barred p n q j
  need-tree q j undecided (deepening _ _ asked) =
      asked-tree barred p n a p (rank_within a barred n p) q j (up-to barred p n p n (rank_within a barred n p) root undecided (rank-bound a barred n p)) undecided asked
  need-tree q j undecided (playing e _ _ won there asked) =
      played-tree a barred p n (rank_within a barred n p) (rank-bound a barred n p) undecided (rank-is a barred n p won).won e q j there asked

-- ---- needs, also of decided positions

-- the strategy of a decided position has no entry
no-entries : (a : Color) (barred : List Position) (p : Position) (r : ℕ) (e : Planned) (x : Ending) → decided p ≡ Some x → wins a barred r p ≡ true → Contains (strategy_of a barred r p) e → ⊥
unfolding strategy_of
no-entries a barred p r e x is won there = let from = In-map (entry_of a barred r) e (positions_met a barred r p r) (contained _ e there.0 there.1 there.2) in nothing r from.0 from.1 where
  first-none : first_met a barred p ≡ []
  first-none = elim (same_color p.side a) as (λ v. cond v (filter (λ q. is_none (decided q)) (p ∷ [])) (open_replies barred p) ≡ []) [ true ↦ rw is refl | false ↦ rw is refl ]

  nothing : (k : ℕ) (y : Position) → In y (positions_met a barred r p k) → ⊥
  nothing zero y i = subst (λ (l : List Position). In y (first_occurrences [] l)) first-none i
  nothing (suc k) y i =
      ⊎_elim
      (λ old. nothing k y old)
      (λ new. let from = In-flat_map (after_entry a barred r) y (positions_met a barred r p k) new in nothing k from.0 from.1)
      (In-first y (positions_met a barred r p k) (flat_map (after_entry a barred r) (positions_met a barred r p k)) i)

module _ (a : Color) (barred : List Position) (p : Position) (n : ℕ) (x : Ending) (is : decided p ≡ Some x) where
  asked-decided : (m : ℕ) (q : Position) (j : ℕ) → IsAsked a barred p m q j → q ≡ p
  asked-decided m _ j (itself _ le) = refl
  asked-decided m q j (place _ _ undecided less stands) = let wrong : true ≡ false = cc in absurd (true≢false wrong)

  need-decided : (q : Position) (j : ℕ) → InNeed a barred p n q j → q ≡ p
  need-decided q j (deepening _ _ asked) = asked-decided (rank_within a barred n p) q j asked
  need-decided q j (playing e _ _ won there asked) = absurd (no-entries a barred p (rank_within a barred n p) e x is (rank-is a barred n p won).won there)

module _ (a : Color) (barred : List Position) (p : Position) (n : ℕ) (q : Position) (j : ℕ) (need : InNeed a barred p n q j) where
  pub need-size : (size barred j q ≤ size barred n p) × (cost a barred j q ≤ size barred n p)
  need-size =
      let cheap = cost-size a barred j q in
      let both : size barred j q ≤ size barred n p → (size barred j q ≤ size barred n p) × (cost a barred j q ≤ size barred n p) = λ le. (le, omega arith) in
      both (elim (decided p) as (λ o. decided p ≡ o → size barred j q ≤ size barred n p) [
        | None ↦ λ undecided. tree-size barred p n q j (need-tree a barred p n q j undecided need)
        | Some e ↦ λ is.
            let same : size barred j q ≡ size barred j p = ap (size barred j) (need-decided a barred p n e is q j need) in
            let one = size-decided barred p j e is in
            let some = size-some barred p n in
            omega arith
      ] refl)

  pub need-crowd : crowd barred j q ≤ crowd barred n p
  need-crowd =
      elim (decided p) as (λ o. decided p ≡ o → crowd barred j q ≤ crowd barred n p) [
        | None ↦ λ undecided. tree-crowd barred p n q j (need-tree a barred p n q j undecided need)
        | Some e ↦ λ is.
            let same : crowd barred j q ≡ crowd barred j p = ap (crowd barred j) (need-decided a barred p n e is q j need) in
            let none = crowd-decided barred p j e is in
            omega arith
      ] refl
