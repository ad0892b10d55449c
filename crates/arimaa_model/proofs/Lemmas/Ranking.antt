-- Ranks, and what a rank says of the next positions.
use Rattle.std.proofs.Common.{◌≡◌, ℕ, zero, suc, ◌+◌, ◌-◌, ◌<◌, ◌≤◌, List, [], ◌∷◌, map, None, Some, Bool, true, false, cond, not, ◌⊎◌, inl, inr, ⊎_elim, refl, sym, ◌∙◌, ap, subst, arith, true≢false}
use Rattle.std.specs.List.{list_any, list_all}
use Rattle.std.proofs.lemmas.Bool.{false_from_ne_true, both_ways, not_from_false, not-true, and_parts, and_from, cases_lt}
use Rattle.arimaa_board.specs.declared.piece.Color.{Color}
use Rattle.arimaa_board.specs.Board.{same_color}
use Rattle.arimaa_board.specs.declared.position.Position.{Position}
use Rattle.arimaa_board.specs.declared.ending.Ending.{Ending}
use Rattle.arimaa_model.specs.DecidedPositions.{decided}
use Rattle.arimaa_model.specs.Results.{next}
use Rattle.arimaa_model.specs.Wins.{is_nil, wins, wins_among}
use Rattle.arimaa_model.proofs.Lemmas.WinsLaws.{wins-decided, wins-stuck, wins-end, wins-deeper}
use Rattle.arimaa_model.specs.Ranks.{IsRank, least_passing, rank_within, has_rank, above}
use Rattle.arimaa_model.proofs.Lemmas.Members.{In, In-any, In-all, all-In, any-In}

-- the least number that passes
pub least-bound : (test : ℕ → Bool) (n : ℕ) → least_passing test n ≤ n
least-bound test zero = omega arith
least-bound test (suc n) =
    let deep = least-bound (λ k. test (suc k)) n in
    elim (test zero) as (λ v. cond v zero (suc (least_passing (λ k. test (suc k)) n)) ≤ suc n) [ true ↦ omega arith | false ↦ omega arith ]

pub least-passes : (test : ℕ → Bool) (n : ℕ) → test n ≡ true → test (least_passing test n) ≡ true
least-passes test zero passes = passes
least-passes test (suc n) passes =
    elim (test zero) as (λ v. test zero ≡ v → test (cond v zero (suc (least_passing (λ k. test (suc k)) n))) ≡ true) [
      | true ↦ λ here. here
      | false ↦ λ _. least-passes (λ k. test (suc k)) n passes
    ] refl

pub least-least : (test : ℕ → Bool) (n k : ℕ) → test k ≡ true → least_passing test n ≤ k
least-least test zero k passes = omega arith
least-least test (suc n) zero passes = rw passes (omega arith)
least-least test (suc n) (suc k) passes =
    let deep = least-least (λ j. test (suc j)) n k passes in
    elim (test zero) as (λ v. cond v zero (suc (least_passing (λ j. test (suc j)) n)) ≤ suc k) [ true ↦ omega arith | false ↦ omega arith ]

pub least-is : (test : ℕ → Bool) (n k : ℕ) → k ≤ n → ((j : ℕ) → j < k → test j ≡ false) → (k ≡ n) ⊎ (test k ≡ true) → least_passing test n ≡ k
least-is test zero k small below last = omega arith
least-is test (suc n) zero small below last = ⊎_elim (λ (e : zero ≡ suc n). absurd (omega arith)) (λ (here : test zero ≡ true). rw here refl) last
least-is test (suc n) (suc k) small below last =
    let first : test zero ≡ false = below zero (omega arith) in
    let deep = least-is (λ j. test (suc j)) n k (omega arith) (λ j less. below (suc j) (omega arith)) (⊎_elim (λ (e : suc k ≡ suc n). let same : k ≡ n = omega arith in inl same) (λ here. inr here) last) in
    rw first (ap suc deep)

pub above-In : (f : Position → ℕ) (q : Position) (qs : List Position) → In q qs → f q < above (map f qs)
above-In f q [] i = absurd i
above-In f q (x ∷ qs) (inl e) = let same : f q ≡ f x = ap f e in omega arith
above-In f q (x ∷ qs) (inr i) = let deep = above-In f q qs i in omega arith

pub above-le : (f : Position → ℕ) (m : ℕ) (qs : List Position) → ((q : Position) → In q qs → f q < m) → above (map f qs) ≤ m
above-le f m [] each = omega arith
above-le f m (x ∷ qs) each =
    let here = each x (inl refl) in
    let rest = above-le f m qs (λ q i. each q (inr i)) in
    omega arith

pub some-length : (q : Position) (qs : List Position) → In q qs → is_nil qs ≡ false
some-length q [] i = absurd i
some-length q (x ∷ qs) i = refl

module _ (a : Color) (barred : List Position) where
  -- decided, with nobody to move, or with some next position
  pub by-cases : (p : Position) (Goal : Type 0) → ((e : Ending) → decided p ≡ Some e → Goal) → (decided p ≡ None → next barred p ≡ [] → Goal) → ((q : Position) → decided p ≡ None → In q (next barred p) → Goal) → Goal
  by-cases p Goal at_end at_stuck at_some =
      elim (decided p) as (λ o. decided p ≡ o → Goal) [
        | Some e ↦ λ is. at_end e is
        | None ↦ λ undecided. elim (next barred p) as (λ l. next barred p ≡ l → Goal) [
          | [] ↦ λ none. at_stuck undecided none
          | q ∷ qs ↦ λ is. at_some q undecided (subst (λ (l : List Position). In q l) (sym is) (inl refl))
        ] refl
      ] refl

  among-more : (own : Bool) (f g : Position → Bool) (qs : List Position) → ((q : Position) → f q ≡ true → g q ≡ true) → wins_among own f qs ≡ true → wins_among own g qs ≡ true
  among-more true f g qs more h = let found = any-In f qs h in In-any g found.0 qs found.1 (more found.0 found.2)
  among-more false f g qs more h = In-all g qs (λ x i. more x (all-In f x qs h i))

  pub wins-more : (n : ℕ) (p : Position) → wins a barred n p ≡ true → wins a barred (suc n) p ≡ true
  wins-more zero p won =
      by-cases p (wins a barred 1 p ≡ true)
      (λ e is. wins-decided a barred p 1 e is ∙ (sym (wins-decided a barred p 0 e is) ∙ won))
      (λ undecided none. wins-stuck a barred p 1 undecided none ∙ (sym (wins-stuck a barred p 0 undecided none) ∙ won))
      (λ q undecided i. absurd (both_ways _ (wins-end a barred p undecided (some-length q (next barred p) i)) won))
  wins-more (suc n) p won =
      by-cases p (wins a barred (suc (suc n)) p ≡ true)
      (λ e is. wins-decided a barred p (suc (suc n)) e is ∙ (sym (wins-decided a barred p (suc n) e is) ∙ won))
      (λ undecided none. wins-stuck a barred p (suc (suc n)) undecided none ∙ (sym (wins-stuck a barred p (suc n) undecided none) ∙ won))
      (λ q undecided i.
      let some = some-length q (next barred p) i in
      let now = sym (wins-deeper a barred p n undecided some) ∙ won in
      wins-deeper a barred p (suc n) undecided some ∙ among-more (same_color p.side a) (wins a barred n) (wins a barred (suc n)) (next barred p) (wins-more n) now)

  wins-add : (d k : ℕ) (p : Position) → wins a barred k p ≡ true → wins a barred (k + d) p ≡ true
  wins-add zero k p won = let same : k ≡ k + zero = omega arith in subst (λ (x : ℕ). wins a barred x p ≡ true) same won
  wins-add (suc d) k p won = let same : suc (k + d) ≡ k + suc d = omega arith in subst (λ (x : ℕ). wins a barred x p ≡ true) same (wins-more (k + d) p (wins-add d k p won))

  pub wins-le : (k m : ℕ) (p : Position) → k ≤ m → wins a barred k p ≡ true → wins a barred m p ≡ true
  wins-le k m p less won = let same : k + (m - k) ≡ m = omega arith in subst (λ (x : ℕ). wins a barred x p ≡ true) same (wins-add (m - k) k p won)

  pub rank-is : (n : ℕ) (p : Position) → wins a barred n p ≡ true → IsRank a barred p (rank_within a barred n p)
  unfolding rank_within
  rank-is n p won = record {
    won = least-passes (λ k. wins a barred k p) n won;
    least = λ k w. least-least (λ j. wins a barred j p) n k w;
  }

  pub rank-bound : (n : ℕ) (p : Position) → rank_within a barred n p ≤ n
  unfolding rank_within
  rank-bound n p = least-bound (λ k. wins a barred k p) n

  -- the first depth at which it is won, or the last
  pub rank-from : (n k : ℕ) (p : Position) → k ≤ n → ((j : ℕ) → j < k → wins a barred j p ≡ false) → (k ≡ n) ⊎ (wins a barred k p ≡ true) → k ≡ rank_within a barred n p
  unfolding rank_within
  rank-from n k p small below last = sym (least-is (λ j. wins a barred j p) n k small below last)

  -- the first depth at which it is won is the rank
  pub first-is-rank : (r : ℕ) (p : Position) → ((j : ℕ) → j < r → wins a barred j p ≡ false) → wins a barred r p ≡ true → IsRank a barred p r
  first-is-rank r p below won = record {
    won = won;
    least = λ k w. ⊎_elim (λ (less : k < r). absurd (both_ways _ (below k less) w)) (λ enough. enough) (cases_lt k r);
  }

  pub one-rank : (p : Position) (r t : ℕ) → IsRank a barred p r → IsRank a barred p t → r ≡ t
  one-rank p r t h k = let u = h.least t k.won in let v = k.least r h.won in omega arith

  pub has_rank-is : (r : ℕ) (p : Position) → has_rank a barred r p ≡ true → IsRank a barred p r
  has_rank-is zero p h = record { won = h; least = λ k w. omega arith }
  has_rank-is (suc r) p h =
      let parts = and_parts _ _ h in
      record {
        won = parts.0;
        least = λ k w. ⊎_elim (λ (below : k < suc r). absurd (both_ways _ (not-true _ parts.1) (wins-le k r p (omega arith) w))) (λ enough. enough) (cases_lt k (suc r));
      }

  -- a decided position that is won has the rank 0
  pub rank-decided : (p : Position) (e : Ending) → decided p ≡ Some e → same_color e.winner a ≡ true → IsRank a barred p 0
  rank-decided p e is won = record { won = wins-decided a barred p 0 e is ∙ won; least = λ k w. omega arith }

  pub rank-stuck : (p : Position) → same_color p.side a ≡ false → decided p ≡ None → next barred p ≡ [] → IsRank a barred p 0
  rank-stuck p other undecided none = record { won = wins-stuck a barred p 0 undecided none ∙ ap not other; least = λ k w. omega arith }

  -- what the rank of a position with a to move says
  pub record HasBest (p : Position) (r : ℕ) : Type 0 where
    pub before : ℕ
    pub more : r ≡ suc before
    pub best : Position
    pub inside : In best (next barred p)
    pub exact : has_rank a barred before best ≡ true

  -- a next position that is won within m turns has just this rank
  pub best-exact : (m : ℕ) (p q : Position) → same_color p.side a ≡ true → decided p ≡ None → IsRank a barred p (suc m) → In q (next barred p) → wins a barred m q ≡ true → has_rank a barred m q ≡ true
  best-exact zero p q own undecided rank i won = won
  best-exact (suc m) p q own undecided rank i won =
      and_from _ _ won (not_from_false _ (false_from_ne_true _ (λ sooner.
      let some = some-length q (next barred p) i in
      let shown : wins_among (same_color p.side a) (wins a barred m) (next barred p) ≡ true = rw own (In-any (wins a barred m) q (next barred p) i sooner) in
      let early = rank.least (suc m) (wins-deeper a barred p m undecided some ∙ shown) in
      omega arith)))

  pub own-rank : (p : Position) (r : ℕ) → same_color p.side a ≡ true → decided p ≡ None → IsRank a barred p r → HasBest p r
  own-rank p zero own undecided rank =
      by-cases p (HasBest p zero)
      (λ e is. let wrong : true ≡ false = cc in absurd (true≢false wrong))
      (λ _ none. absurd (both_ways _ (wins-stuck a barred p 0 undecided none ∙ ap not own) rank.won))
      (λ q _ i. absurd (both_ways _ (wins-end a barred p undecided (some-length q (next barred p) i)) rank.won))
  own-rank p (suc m) own undecided rank =
      by-cases p (HasBest p (suc m))
      (λ e is. let wrong : true ≡ false = cc in absurd (true≢false wrong))
      (λ _ none. absurd (both_ways _ (wins-stuck a barred p (suc m) undecided none ∙ ap not own) rank.won))
      (λ q _ i.
      let deeper = sym (wins-deeper a barred p m undecided (some-length q (next barred p) i)) ∙ rank.won in
      let some : list_any (wins a barred m) (next barred p) ≡ true = rw own at deeper in
      let found = any-In (wins a barred m) (next barred p) some in
      record { before = m; more = refl; best = found.0; inside = found.1; exact = best-exact m p found.0 own undecided rank found.1 found.2 })

  -- what the rank of a position with the other side to move says
  pub record HasReplies (p : Position) (r : ℕ) : Type 0 where
    pub before : ℕ
    pub more : r ≡ suc before
    pub each : (q : Position) → In q (next barred p) → wins a barred before q ≡ true

  pub other-won : (p q : Position) (r : ℕ) → same_color p.side a ≡ false → decided p ≡ None → In q (next barred p) → wins a barred r p ≡ true → HasReplies p r
  other-won p q zero other undecided i won = absurd (both_ways _ (wins-end a barred p undecided (some-length q (next barred p) i)) won)
  other-won p q (suc m) other undecided i won =
      let deeper = sym (wins-deeper a barred p m undecided (some-length q (next barred p) i)) ∙ won in
      let all : list_all (wins a barred m) (next barred p) ≡ true = rw other at deeper in
      record { before = m; more = refl; each = λ x j. all-In (wins a barred m) x (next barred p) all j }

  -- the rank of a position with the other side to move, from the ranks of its replies
  pub other-rank : (f : Position → ℕ) (p q : Position) (r : ℕ) → same_color p.side a ≡ false → decided p ≡ None → In q (next barred p) → IsRank a barred p r → ((x : Position) → In x (next barred p) → IsRank a barred x (f x)) → above (map f (next barred p)) ≡ r
  other-rank f p q r other undecided i rank ranks =
      let replies = other-won p q r other undecided i rank.won in
      let m : ℕ = replies.before in
      let more : r ≡ suc m = replies.more in
      let low : above (map f (next barred p)) ≤ r = above-le f r (next barred p) (λ x j. let le = (ranks x j).least m (replies.each x j) in omega arith) in
      let some = above-In f q (next barred p) i in
      let j : ℕ = above (map f (next barred p)) - 1 in
      let all = In-all (wins a barred j) (next barred p) (λ x k. let less = above-In f x (next barred p) k in wins-le (f x) j x (omega arith) (ranks x k).won) in
      let shown : wins_among (same_color p.side a) (wins a barred j) (next barred p) ≡ true = rw other all in
      let high = rank.least (suc j) (wins-deeper a barred p j undecided (some-length q (next barred p) i) ∙ shown) in
      omega arith
