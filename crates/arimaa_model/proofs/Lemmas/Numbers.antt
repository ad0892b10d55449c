-- Steps and turns keep boards fit, and the number of each piece from growing.
use Rattle.std.proofs.Common.{◌≡◌, ◌≢◌, ℕ, zero, suc, ◌+◌, ◌<◌, ◌≤◌, List, [], ◌∷◌, length, get_or, count_by, Bool, true, false, cond, Option, None, Some, refl, sym, ◌∙◌, ap, arith, ⊎_elim, inl, inr, ◌⊎◌, length-set, true≢false}
use Rattle.std.specs.Prelude.{◌&&◌, ◌||◌}
use Rattle.std.proofs.lemmas.Bool.{and_parts, or_cases, cases_lt}
use Rattle.std.proofs.lemmas.List.{get_or_past}
use Rattle.std.proofs.lemmas.List.Sums.{sum_by-set, sum_by-cons}
use Rattle.arimaa_board.specs.declared.piece.Color.{Color}
use Rattle.arimaa_board.specs.declared.piece.Piece.{Piece}
use Rattle.arimaa_board.specs.declared.board.Board.{Board}
use Rattle.arimaa_board.specs.declared.position.Step.{Step}
use Rattle.arimaa_board.specs.Board.{at, put, moved, kept, settle, holds, count_of}
use Rattle.arimaa_board.specs.BoardLaws.{length-board_of, at-board_of, at-put_other}
use Rattle.arimaa_board.specs.Fit.{IsFit}
use Rattle.arimaa_model.specs.Moves.{fits, after, target, is_push, is_pull}
use Rattle.arimaa_model.specs.Turns.{after_all, has_cutting, is_turn}
use Rattle.arimaa_model.proofs.Lemmas.Pushers.{settle_twice, after_is, free_square, held_piece, on_board, kept_some}
use Rattle.arimaa_model.proofs.Lemmas.Shades.{across}
use Rattle.arimaa_model.proofs.Lemmas.Growing.{single_fits, half_fits, push_half, pull_single, pair_fits}
use Rattle.arimaa_model.proofs.Lemmas.Listed.{length-after}

-- ---- counts

module _ (p : Piece) where
  abbrev one : Option Piece → ℕ
  one o = cond (holds p o) 1 0

  fewer : (o q : Option Piece) → ((r : Piece) → o ≡ Some r → q ≡ o) → one o ≤ one q
  fewer None q same = omega arith
  fewer (Some r) q same = let e : q ≡ Some r = same r refl in rw e (omega arith)

  -- a list whose pieces stand at the same places of another
  fewer_in : (bs cs : List (Option Piece)) → length bs ≡ length cs → ((k : ℕ) (r : Piece) → get_or bs k None ≡ Some r → get_or cs k None ≡ Some r) → count_by (holds p) bs ≤ count_by (holds p) cs
  fewer_in [] cs long stands = omega arith
  fewer_in (o ∷ bs) [] long stands = absurd (omega arith)
  fewer_in (o ∷ bs) (q ∷ cs) long stands =
      let deep = fewer_in bs cs (omega arith) (λ k r e. stands (suc k) r e) in
      let here = fewer o q (λ r e. stands zero r e ∙ sym e) in
      let left = sum_by-cons one o bs in
      let right = sum_by-cons one q cs in
      omega arith

  settle-fewer : (b : Board) → length b ≡ 64 → count_of (settle b) p ≤ count_of b p
  unfolding settle
  settle-fewer b size = fewer_in (settle b) b (length-board_of (λ x. kept b x (at b x)) ∙ sym size) stands where
    stands : (k : ℕ) (r : Piece) → at (settle b) k ≡ Some r → at b k ≡ Some r
    stands k r e = ⊎_elim (λ small. kept_some b k (at b k) r (sym (at-board_of (λ x. kept b x (at b x)) k small) ∙ e)) (λ past. absurd (off k past e)) (cases_lt k 64) where
      off : (j : ℕ) → 64 ≤ j → at (settle b) j ≡ Some r → ⊥
      off j past f = let none : at (settle b) j ≡ None = get_or_past (settle b) j None (omega (arith, length-board_of (λ x. kept b x (at b x)))) in let wrong : true ≡ false = cc in true≢false wrong

  put-count : (b : Board) (s : ℕ) (o : Option Piece) → s < length b → count_of (put b s o) p + one (at b s) ≡ count_of b p + one o
  put-count b s o inside = sum_by-set one b s o None inside

  moved-same : (b : Board) (f t : ℕ) → f < length b → t < length b → f ≢ t → at b t ≡ None → count_of (moved b f t) p ≡ count_of b p
  moved-same b f t inf int apart free =
      let long : length (put b f None) ≡ length b = length-set b f None in
      let left = put-count b f None inf in
      let here : at (put b f None) t ≡ None = at-put_other b f t None (λ e. apart (sym e)) ∙ free in
      let goes : count_of (moved b f t) p + one (at (put b f None) t) ≡ count_of (put b f None) p + one (at b f) = put-count (put b f None) t (at b f) (omega arith) in
      let none : one (at (put b f None) t) ≡ 0 = ap one here in
      omega arith

-- ---- steps

module _ (b : Board) (s : Step) (size : length b ≡ 64) (fit : fits b s ≡ true) where
  step-parts : (t : ℕ) × (target s ≡ Some t) × (at b t ≡ None) × (at b s.from ≡ Some s.piece)
  unfolding fits
  step-parts =
      let parts = and_parts _ _ fit in
      let free = free_square b (target s) parts.1 in
      (free.0, free.1, free.2, held_piece s.piece (at b s.from) parts.0)

  pub step-fewer : (p : Piece) → count_of (after b s) p ≤ count_of b p
  step-fewer p =
      let (t, to, free, here) = step-parts in
      let small = on_board b s.from s.piece size here in
      let over = across s.from s.dir t small to in
      let inside = over.inside in
      let apart : s.from ≢ t = omega (arith, over.other) in
      let long : length (moved b s.from t) ≡ 64 = simp length-set size in
      let same = moved-same p b s.from t (omega arith) (omega arith) apart free in
      let less = settle-fewer p (moved b s.from t) long in
      let is : count_of (after b s) p ≡ count_of (settle (moved b s.from t)) p = ap (λ c. count_of c p) (after_is b s t to) in
      omega arith

  pub step-settled : settle (after b s) ≡ after b s
  step-settled =
      let (t, to, free, here) = step-parts in
      rw (after_is b s t to) (settle_twice (moved b s.from t))

-- a fit board stays fit after a step that fits
pub step-fit : (b : Board) (s : Step) → IsFit b → fits b s ≡ true → IsFit (after b s)
step-fit b s is fit = record {
  size = length-after b s is.size;
  counts = λ p. let less = step-fewer b s is.size fit p in let most = is.counts p in omega arith;
  settled = step-settled b s is.size fit;
}

-- ---- turns

cutting-cases : (a c d e : Bool) → (a && c || d && e) ≡ true → ((a ≡ true) × (c ≡ true)) ⊎ ((d ≡ true) × (e ≡ true))
cutting-cases true true d e h = inl (refl, refl)
cutting-cases true false true true h = inr (refl, refl)
cutting-cases false c true true h = inr (refl, refl)
cutting-cases true false true false h = absurd (cc)
cutting-cases true false false e h = absurd (cc)
cutting-cases false c true false h = absurd (cc)
cutting-cases false c false e h = absurd (cc)

-- a fact of boards that steps which fit keep is kept by steps that can be cut
module _ (P : Board → Type 0) (keeps : (b : Board) (s : Step) → P b → fits b s ≡ true → P (after b s)) (side : Color) where
  pair-first : (b : Board) (s t : Step) → (is_push b side s t || is_pull b side s t) ≡ true → fits b s ≡ true
  pair-first b s t h = ⊎_elim (λ push. half_fits b side s (push_half b side s t push)) (λ pull. single_fits b side s (pull_single b side s t pull)) (or_cases (is_push b side s t) (is_pull b side s t) h)

  pub cutting-keeps : (b : Board) (steps : List Step) → P b → has_cutting b side steps ≡ true → P (after_all b steps)
  cutting-keeps b [] holds cut = holds
  cutting-keeps b (s ∷ []) holds cut = keeps b s holds (single_fits b side s cut)
  cutting-keeps b (s ∷ t ∷ rest) holds cut =
      ⊎_elim
      (λ h. cutting-keeps (after b s) (t ∷ rest) (keeps b s holds (single_fits b side s h.0)) h.1)
      (λ h. cutting-keeps (after (after b s) t) rest (keeps (after b s) t (keeps b s holds (pair-first b s t h.0)) (pair_fits b side s t h.0)) h.1)
      (cutting-cases _ _ _ _ cut)

turn-cut : (b : Board) (side : Color) (steps : List Step) → is_turn b side steps ≡ true → has_cutting b side steps ≡ true
unfolding is_turn
turn-cut b side steps h = (and_parts _ _ (and_parts _ _ h).0).1

-- a turn keeps a fit board fit
pub turn-fit : (b : Board) (side : Color) (steps : List Step) → IsFit b → is_turn b side steps ≡ true → IsFit (after_all b steps)
turn-fit b side steps is turn = cutting-keeps IsFit step-fit side b steps is (turn-cut b side steps turn)

-- 64 squares, and no more of a piece than there were
record IsFewer (b : Board) (p : Piece) (c : Board) : Type 0 where
  size : length c ≡ 64
  less : count_of c p ≤ count_of b p

-- a turn keeps the number of each piece from growing
pub turn-fewer : (b : Board) (side : Color) (steps : List Step) (p : Piece) → length b ≡ 64 → is_turn b side steps ≡ true → count_of (after_all b steps) p ≤ count_of b p
turn-fewer b side steps p size turn =
    (cutting-keeps (IsFewer b p)
    (λ c s is fit. record { size = length-after c s is.size; less = (let now = step-fewer c s is.size fit p in let was = is.less in omega arith) })
    side b steps (record { size = size; less = omega arith }) (turn-cut b side steps turn)).less
