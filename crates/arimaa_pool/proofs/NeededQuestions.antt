-- Questions that are needed.
use Rattle.std.proofs.Common.{ℕ, suc, ◌-◌, ◌≤◌, List, [], ◌∷◌, map, inl, inr, sym, ◌∙◌, subst, arith}
use Rattle.std.specs.List.{Contains}
use Rattle.arimaa_board.specs.declared.piece.Color.{Color}
use Rattle.arimaa_board.specs.declared.position.Position.{Position}
use Rattle.arimaa_model.specs.Ranks.{IsRank, rank_within}
use Rattle.arimaa_model.specs.Strategies.{entry_of, positions_met, strategy_of}
use Rattle.arimaa_model.proofs.Lemmas.Members.{In}
use Rattle.arimaa_model.proofs.Lemmas.Meeting.{entry-position, entry-rank}
use Rattle.arimaa_model.proofs.Lemmas.Ranking.{wins-le}
use Rattle.arimaa_model.proofs.Lemmas.Listed.{map-In}
use Rattle.arimaa_forced.specs.Needs.{IsAsked, InNeed, itself, deepening, playing}
use Rattle.arimaa_pool.proofs.RankBounds.{rank-same}

In-Contains : {X : Type 0} (x : X) (xs : List X) → In x xs → Contains xs x
In-Contains x [] i = absurd i
In-Contains x (y ∷ ys) (inl e) = (0, omega arith, sym e)
In-Contains x (y ∷ ys) (inr i) = let deep = In-Contains x ys i in (suc deep.0, let inside = deep.1 in omega arith, deep.2)

module _ (a : Color) (barred : List Position) (p : Position) (r : ℕ) (exact : IsRank a barred p r) where
  entry-listed : (q : Position) → In q (positions_met a barred r p r) → Contains (strategy_of a barred r p) (entry_of a barred r q)
  unfolding strategy_of
  entry-listed q i = In-Contains (entry_of a barred r q) (map (entry_of a barred r) (positions_met a barred r p r)) (map-In (entry_of a barred r) q (positions_met a barred r p r) i)

  -- what is asked about a position that is met
  pub met-need : (n : ℕ) → r ≤ n → (q : Position) → In q (positions_met a barred r p r) → (x : Position) (j : ℕ) → IsAsked a barred q (rank_within a barred r q) x j → InNeed a barred p n x j
  met-need n within q i x j asked =
      let same = rank-same a barred p r n exact within in
      let at : IsAsked a barred (entry_of a barred r q).position (entry_of a barred r q).rank x j =
      subst (λ (y : Position). IsAsked a barred y (entry_of a barred r q).rank x j) (sym (entry-position a barred r q)) (subst (λ (m : ℕ). IsAsked a barred q m x j) (sym (entry-rank a barred r q)) asked) in
      playing (entry_of a barred r q) x j (wins-le a barred r n p within exact.won) (subst (λ (m : ℕ). Contains (strategy_of a barred m p) (entry_of a barred r q)) (sym same) (entry-listed q i)) at

  -- the root at its rank
  pub root-need : (n : ℕ) → r ≤ n → InNeed a barred p n p r
  root-need n within = let same = rank-same a barred p r n exact within in deepening p r (itself r (omega arith))

  -- what is needed within as many turns as the rank is needed within more
  pub deeper-need : (n : ℕ) → r ≤ n → (x : Position) (j : ℕ) → InNeed a barred p r x j → InNeed a barred p n x j
  deeper-need n within x j (deepening _ _ asked) =
      let one = rank-same a barred p r r exact (omega arith) in
      let other = rank-same a barred p r n exact within in
      deepening x j (subst (λ (m : ℕ). IsAsked a barred p m x j) (one ∙ sym other) asked)
  deeper-need n within x j (playing e _ _ won there asked) =
      let one = rank-same a barred p r r exact (omega arith) in
      let other = rank-same a barred p r n exact within in
      playing e x j (wins-le a barred r n p within exact.won) (subst (λ (m : ℕ). Contains (strategy_of a barred m p) e) (one ∙ sym other) there) asked
