-- Single steps that commute: either order gives the same board.
use Rattle.std.proofs.Common.{◌≡◌, ◌≢◌, ℕ, ◌<◌, ◌==◌, ◌&&◌, List, [], ◌∷◌, Bool, true, false, cond, Option, None, Some, refl, sym, ◌∙◌, ap, subst, ⊎_elim, inl, inr, ◌⊎◌, arith, length, length-set, eq-eqb}
use Rattle.std.specs.Prelude.{◌||◌, not, is_none}
use Rattle.std.specs.List.{list_any}
use Rattle.std.proofs.lemmas.Bool.{cases_Bool, or_cases, or_parts, and_parts, not-true, true≢false, eqb-true, both_ways}
use Rattle.arimaa_board.specs.declared.piece.Color.{Color}
use Rattle.arimaa_board.specs.declared.piece.Piece.{Piece}
use Rattle.arimaa_board.specs.declared.square.Dir.{Dir}
use Rattle.arimaa_board.specs.declared.square.Dir.TheVariants.{North, East, South, West}
use Rattle.arimaa_board.specs.declared.board.Board.{Board}
use Rattle.arimaa_board.specs.declared.position.Step.{Step}
use Rattle.arimaa_board.specs.Square.{next_square, directions, is_trap}
use Rattle.arimaa_board.specs.Board.{at, put, moved, kept, settle, has_beside, color_at, holds}
use Rattle.arimaa_board.specs.BoardLaws.{same_boards, length-board_of, at-put, at-put_other, kept_off_traps}
use Rattle.arimaa_board.specs.Masks.{passes, is_beside}
use Rattle.arimaa_model.specs.Frozen.{is_frozen, is_held, beats, passes_at}
use Rattle.arimaa_model.specs.Moves.{target, enters, fits, is_free, after, is_own, goes_back, is_single}
use Rattle.arimaa_model.proofs.Lemmas.Shades.{across}
use Rattle.arimaa_model.proofs.Lemmas.Removals.{way_back}
use Rattle.arimaa_model.proofs.Lemmas.Pushers.{settle_twice, after_is, free_square, after_settled, on_board, held_piece, clear, beside_traps, list_any-agree, at-settle}
use Rattle.arimaa_step.specs.CommutingSteps.{is_of, is_close, is_trap_of, in_zone, commutes, MayBeTurned}

-- ---- tests of the four directions

none_any : (p : Dir → Bool) → list_any p directions ≡ false → (d : Dir) → p d ≡ false
none_any p h North = (or_parts (p North) (p East || (p South || (p West || false))) h).0
none_any p h East = (or_parts (p East) (p South || (p West || false)) (or_parts (p North) (p East || (p South || (p West || false))) h).1).0
none_any p h South = (or_parts (p South) (p West || false) (or_parts (p East) (p South || (p West || false)) (or_parts (p North) (p East || (p South || (p West || false))) h).1).1).0
none_any p h West = (or_parts (p West) false (or_parts (p South) (p West || false) (or_parts (p East) (p South || (p West || false)) (or_parts (p North) (p East || (p South || (p West || false))) h).1).1).1).0

some_any : (p : Dir → Bool) (ds : List Dir) → list_any p ds ≡ true → (d : Dir) × (p d ≡ true)
some_any p [] h = absurd (true≢false (sym h))
some_any p (d ∷ ds) h = ⊎_elim (λ e. (d, e)) (λ e. some_any p ds e) (or_cases (p d) (list_any p ds) h)

-- ---- squares that a step doesn't change

-- a square is none of two
abbrev pub Apart : ℕ → ℕ → ℕ → Type 0
Apart f g x = (x ≢ f) × (x ≢ g)

-- no square beside x is one of two
abbrev pub NotBeside : ℕ → ℕ → ℕ → Type 0
NotBeside f g x = (d : Dir) (y : ℕ) → next_square x d ≡ Some y → Apart f g y

-- a piece that goes from f to g changes nothing on x
pub record IsClear (f g x : ℕ) : Type 0 where
  pub apart : Apart f g x
  pub support : is_trap x ≡ true → NotBeside f g x

-- it changes nothing on x nor beside it
pub record IsAway (f g x : ℕ) : Type 0 where
  pub apart : Apart f g x
  pub beside : NotBeside f g x
  pub traps : (d : Dir) (y : ℕ) → next_square x d ≡ Some y → is_trap y ≡ true → NotBeside f g y

away_clear : (f g x : ℕ) → IsAway f g x → IsClear f g x
away_clear f g x h = record { apart = h.apart; support = λ _. h.beside }

away_beside : (f g x : ℕ) → IsAway f g x → (d : Dir) (y : ℕ) → next_square x d ≡ Some y → IsClear f g y
away_beside f g x h d y to = record { apart = h.beside d y to; support = λ trap. h.traps d y to trap }

-- where c and d are away from a and b, so are a and b from c and d
turned_away : (a b c d x : ℕ) → c < 64 → d < 64 → x < 64 → ((y : ℕ) → Apart a b y → y ≢ x) → IsAway a b c → IsAway a b d → IsAway c d x
turned_away a b c d x in_c in_d in_x is hc hd = record {
  apart = (λ e. is c hc.apart (sym e), λ e. is d hd.apart (sym e));
  beside = λ e y to. (not_beside c in_c hc e y to, not_beside d in_d hd e y to);
  traps = λ e y to trap k z on. (no_trap_of c hc e y to trap k z on, no_trap_of d hd e y to trap k z on);
} where
  not_beside : (u : ℕ) → u < 64 → IsAway a b u → (e : Dir) (y : ℕ) → next_square x e ≡ Some y → y ≢ u
  not_beside u in_u hu e y to same =
      let back = way_back x e y in_x to in
      let from : next_square u back.0 ≡ Some x = ap (λ (n : ℕ). next_square n back.0) (sym same) ∙ back.1 in
      is x (hu.beside back.0 x from) refl

  no_trap_of : (u : ℕ) → IsAway a b u → (e : Dir) (y : ℕ) → next_square x e ≡ Some y → is_trap y ≡ true → (k : Dir) (z : ℕ) → next_square y k ≡ Some z → z ≢ u
  no_trap_of u hu e y to trap k z on same =
      let in_y = (across x e y in_x to).inside in
      let back = way_back y k z in_y on in
      let from : next_square u back.0 ≡ Some y = ap (λ (n : ℕ). next_square n back.0) (sym same) ∙ back.1 in
      let home = way_back x e y in_x to in
      is x (hu.traps back.0 y from trap home.0 x home.1) refl

-- ---- boards

pub whole : (b : Board) → settle b ≡ b → length b ≡ 64
unfolding settle
whole b calm = ap length (sym calm) ∙ length-board_of (λ s. kept b s (at b s))

-- what stays on a square hangs on the squares beside it alone
kept_agree : (b c : Board) (x : ℕ) (o : Option Piece) → (is_trap x ≡ true → (d : Dir) (y : ℕ) → next_square x d ≡ Some y → at b y ≡ at c y) → kept b x o ≡ kept c x o
unfolding has_beside
kept_agree b c x None same = refl
kept_agree b c x (Some p) same =
    ⊎_elim
    (λ (trap : is_trap x ≡ true).
    let friends : has_beside b x p.color ≡ has_beside c x p.color =
    list_any-agree (λ d. color_at b p.color (next_square x d)) (λ d. color_at c p.color (next_square x d)) directions (λ d. one trap d (next_square x d) refl) in
    ap (λ v. cond (is_trap x && not v) None (Some p)) friends)
    (λ off. kept_off_traps b x (Some p) off ∙ sym (kept_off_traps c x (Some p) off))
    (cases_Bool (is_trap x)) where
      one : is_trap x ≡ true → (d : Dir) (o : Option ℕ) → next_square x d ≡ o → color_at b p.color o ≡ color_at c p.color o
      one trap d None to = refl
      one trap d (Some y) to = rw (same trap d y to) refl

moved_apart : (b : Board) (f g x : ℕ) → Apart f g x → at (moved b f g) x ≡ at b x
moved_apart b f g x far = at-put_other (put b f None) g x (at b f) far.1 ∙ at-put_other b f x None far.0

-- a piece that goes elsewhere leaves a square as it was
pub untouched : (b : Board) (f g x : ℕ) → settle b ≡ b → x < 64 → IsClear f g x → at (settle (moved b f g)) x ≡ at b x
untouched b f g x calm small far =
    at-settle (moved b f g) x small
    ∙ (ap (kept (moved b f g) x) (moved_apart b f g x far.apart)
    ∙ (kept_agree (moved b f g) b x (at b x) (λ trap d y to. moved_apart b f g y (far.support trap d y to))
    ∙ (sym (at-settle b x small) ∙ ap (λ c. at c x) calm)))

pub at-moved : (b : Board) (f g x : ℕ) → length b ≡ 64 → f < 64 → g < 64 → at (moved b f g) x ≡ cond (x == g) (at b f) (cond (x == f) None (at b x))
at-moved b f g x long in_f in_g =
    let inside : f < length b = omega arith in
    let long_put : length (put b f None) ≡ 64 = length-set b f None ∙ long in
    let inside_put : g < length (put b f None) = omega arith in
    at-put (put b f None) g (at b f) x inside_put ∙ ap (cond (x == g) (at b f)) (at-put b f None x inside)

-- boards that agree on the squares that matter give the same when a piece goes
pub same_there : (b c : Board) (f g x : ℕ) → length b ≡ 64 → length c ≡ 64 → f < 64 → g < 64 → x < 64 → at b f ≡ at c f → at b x ≡ at c x → (is_trap x ≡ true → (d : Dir) (y : ℕ) → next_square x d ≡ Some y → at b y ≡ at c y) → at (settle (moved b f g)) x ≡ at (settle (moved c f g)) x
same_there b c f g x long_b long_c in_f in_g small from here beside =
    at-settle (moved b f g) x small
    ∙ (ap (kept (moved b f g) x) (agree x here)
    ∙ (kept_agree (moved b f g) (moved c f g) x (at (moved c f g) x) (λ trap d y to. agree y (beside trap d y to))
    ∙ sym (at-settle (moved c f g) x small))) where
      agree : (y : ℕ) → at b y ≡ at c y → at (moved b f g) y ≡ at (moved c f g) y
      agree y same =
          at-moved b f g y long_b in_f in_g
          ∙ ((λ i. cond (y == g) (from i) (cond (y == f) None (same i)))
          ∙ sym (at-moved c f g y long_c in_f in_g))

-- whether a piece that goes from f to g may change what stands on x
abbrev touches : ℕ → ℕ → ℕ → Bool
touches f g x = (x == f || x == g) || (is_trap x && list_any (λ d. passes (λ y. y == f || y == g) (next_square x d)) directions)

neither : (f g x : ℕ) → (x == f || x == g) ≡ false → Apart f g x
neither f g x h =
    let parts = or_parts (x == f) (x == g) h in
    (λ e. both_ways (x == f) parts.0 (eq-eqb x f e), λ e. both_ways (x == g) parts.1 (eq-eqb x g e))

untouched_clear : (f g x : ℕ) → touches f g x ≡ false → IsClear f g x
untouched_clear f g x h =
    let parts = or_parts (x == f || x == g) (is_trap x && list_any (λ d. passes (λ y. y == f || y == g) (next_square x d)) directions) h in
    record {
      apart = neither f g x parts.0;
      support = λ trap d y to.
          let none : list_any (λ e. passes (λ z. z == f || z == g) (next_square x e)) directions ≡ false = ap (λ v. v && list_any (λ e. passes (λ z. z == f || z == g) (next_square x e)) directions) (sym trap) ∙ parts.1 in
          let one = none_any (λ e. passes (λ z. z == f || z == g) (next_square x e)) none d in
          neither f g y (sym (ap (passes (λ z. z == f || z == g)) to) ∙ one);
    }

-- one of the two squares
abbrev OneOf : ℕ → ℕ → ℕ → Type 0
OneOf f g x = (x ≡ f) ⊎ (x ≡ g)

one_of : (f g x : ℕ) → (x == f || x == g) ≡ true → OneOf f g x
one_of f g x h = ⊎_elim (λ e. inl (eqb-true x f e)) (λ e. inr (eqb-true x g e)) (or_cases (x == f) (x == g) h)

not_apart : (f g x y : ℕ) → OneOf f g x → Apart f g y → y ≢ x
not_apart f g x y one far same = ⊎_elim (λ e. far.0 (same ∙ e)) (λ e. far.1 (same ∙ e)) one

module _ (a b c d : ℕ) (in_c : c < 64) (in_d : d < 64) (hc : IsAway a b c) (hd : IsAway a b d) where
  -- beside a trap that is beside a or b
  beside_trap : (x y : ℕ) (e : Dir) → x < 64 → is_trap x ≡ true → next_square x e ≡ Some y → OneOf a b y → IsClear c d x
  beside_trap x y e small trap to one = record {
    apart = (off c hc, off d hd);
    support = λ _ k z on. (away c in_c hc k z on, away d in_d hd k z on);
  } where
    off : (u : ℕ) → IsAway a b u → x ≢ u
    off u hu same =
        let from : next_square u e ≡ Some y = ap (λ (n : ℕ). next_square n e) (sym same) ∙ to in
        not_apart a b y y one (hu.beside e y from) refl

    away : (u : ℕ) → u < 64 → IsAway a b u → (k : Dir) (z : ℕ) → next_square x k ≡ Some z → z ≢ u
    away u in_u hu k z on same =
        let back = way_back x k z small on in
        let from : next_square u back.0 ≡ Some x = ap (λ (n : ℕ). next_square n back.0) (sym same) ∙ back.1 in
        not_apart a b y y one (hu.traps back.0 x from trap e y to) refl

  -- what one piece touches the other doesn't
  touched_clear : (x : ℕ) → x < 64 → touches a b x ≡ true → IsClear c d x
  touched_clear x small h =
      ⊎_elim
      (λ one. away_clear c d x (turned_away a b c d x in_c in_d small (λ y far. not_apart a b x y (one_of a b x one) far) hc hd))
      (λ near.
      let parts = and_parts (is_trap x) (list_any (λ e. passes (λ y. y == a || y == b) (next_square x e)) directions) near in
      let way = some_any (λ e. passes (λ y. y == a || y == b) (next_square x e)) directions parts.1 in
      at_way x small parts.0 way.0 (next_square x way.0) refl way.1)
      (or_cases (x == a || x == b) (is_trap x && list_any (λ e. passes (λ y. y == a || y == b) (next_square x e)) directions) h) where
        at_way : (x : ℕ) → x < 64 → is_trap x ≡ true → (e : Dir) (o : Option ℕ) → next_square x e ≡ o → passes (λ y. y == a || y == b) o ≡ true → IsClear c d x
        at_way x small trap e None to h = absurd (true≢false (sym h))
        at_way x small trap e (Some y) to h = beside_trap x y e small trap to (one_of a b y h)

-- pieces that go from a to b and from c to d, in either order
module _ (m : Board) (a b c d : ℕ) (calm : settle m ≡ m) (in_a : a < 64) (in_b : b < 64) (in_c : c < 64) (in_d : d < 64) (hc : IsAway a b c) (hd : IsAway a b d) where
  abbrev M : Board
  M = settle (moved m a b)

  abbrev N : Board
  N = settle (moved m c d)

  calm_M : settle M ≡ M
  calm_M = settle_twice (moved m a b)

  calm_N : settle N ≡ N
  calm_N = settle_twice (moved m c d)

  ha : IsAway c d a
  ha = turned_away a b c d a in_c in_d in_a (λ y far. far.0) hc hd

  hb : IsAway c d b
  hb = turned_away a b c d b in_c in_d in_b (λ y far. far.1) hc hd

  -- a square that the first piece doesn't touch
  clear_first : (x : ℕ) → x < 64 → IsClear a b x → at (settle (moved N a b)) x ≡ at (settle (moved M c d)) x
  clear_first x small far =
      untouched N a b x calm_N small far
      ∙ sym (same_there M m c d x (whole M calm_M) (whole m calm) in_c in_d small (untouched m a b c calm in_c (away_clear a b c hc)) (untouched m a b x calm small far)
      (λ trap e y to. untouched m a b y calm (across x e y small to).inside (off_trap a b x far trap e y to))) where
        off_trap : (f g x : ℕ) → IsClear f g x → is_trap x ≡ true → (e : Dir) (y : ℕ) → next_square x e ≡ Some y → IsClear f g y
        off_trap f g x far trap e y to = record {
          apart = far.support trap e y to;
          support = λ also.
              let no : is_trap y ≡ false = not-true (is_trap y) (subst (λ o. clear o ≡ true) to (beside_traps x e trap)) in
              absurd (both_ways (is_trap y) no also);
        }

  -- one that the second doesn't touch
  clear_second : (x : ℕ) → x < 64 → IsClear c d x → at (settle (moved N a b)) x ≡ at (settle (moved M c d)) x
  clear_second x small far =
      same_there N m a b x (whole N calm_N) (whole m calm) in_a in_b small (untouched m c d a calm in_a (away_clear c d a ha)) (untouched m c d x calm small far)
      (λ trap e y to. untouched m c d y calm (across x e y small to).inside (off_trap c d x far trap e y to))
      ∙ sym (untouched M c d x calm_M small far) where
        off_trap : (f g x : ℕ) → IsClear f g x → is_trap x ≡ true → (e : Dir) (y : ℕ) → next_square x e ≡ Some y → IsClear f g y
        off_trap f g x far trap e y to = record {
          apart = far.support trap e y to;
          support = λ also.
              let no : is_trap y ≡ false = not-true (is_trap y) (subst (λ o. clear o ≡ true) to (beside_traps x e trap)) in
              absurd (both_ways (is_trap y) no also);
        }

  pub one_board : settle (moved N a b) ≡ settle (moved M c d)
  one_board =
      same_boards _ _ (whole _ (settle_twice (moved N a b))) (whole _ (settle_twice (moved M c d)))
      (λ x small. ⊎_elim
      (λ touched. clear_second x small (touched_clear a b c d in_c in_d hc hd x small touched))
      (λ free. clear_first x small (untouched_clear a b x free))
      (cases_Bool (touches a b x)))

-- ---- legality

module _ (m : Board) (f g : ℕ) (calm : settle m ≡ m) where
  abbrev L : Board
  L = settle (moved m f g)

  module _ (side : Color) (t : Step) (to : ℕ) (in_from : t.from < 64) (in_to : to < 64) (is : target t ≡ Some to) (from_away : IsAway f g t.from) (to_away : IsAway f g to) where
    same_from : at L t.from ≡ at m t.from
    same_from = untouched m f g t.from calm in_from (away_clear f g t.from from_away)

    same_to : at L to ≡ at m to
    same_to = untouched m f g to calm in_to (away_clear f g to to_away)

    same_beside : (e : Dir) (y : ℕ) → next_square t.from e ≡ Some y → at L y ≡ at m y
    same_beside e y on = untouched m f g y calm (across t.from e y in_from on).inside (away_beside f g t.from from_away e y on)

    same_test : (test : Piece → Bool) (e : Dir) (o : Option ℕ) → next_square t.from e ≡ o → passes_at L test o ≡ passes_at m test o
    same_test test e None on = refl
    same_test test e (Some y) on = rw (same_beside e y on) refl

    same_color_at : (c : Color) (e : Dir) (o : Option ℕ) → next_square t.from e ≡ o → color_at L c o ≡ color_at m c o
    same_color_at c e None on = refl
    same_color_at c e (Some y) on = rw (same_beside e y on) refl

    same_held : (p : Piece) → is_held L t.from p ≡ is_held m t.from p
    unfolding is_held has_beside
    same_held p = λ i.
        list_any-agree (λ e. passes_at L (λ q. beats q p) (next_square t.from e)) (λ e. passes_at m (λ q. beats q p) (next_square t.from e)) directions (λ e. same_test (λ q. beats q p) e (next_square t.from e) refl) i
        && not (list_any-agree (λ e. color_at L p.color (next_square t.from e)) (λ e. color_at m p.color (next_square t.from e)) directions (λ e. same_color_at p.color e (next_square t.from e) refl) i)

    same_frozen : is_frozen L t.from ≡ is_frozen m t.from
    same_frozen = by_content (at m t.from) refl where
      by_content : (o : Option Piece) → at m t.from ≡ o → is_frozen L t.from ≡ is_frozen m t.from
      by_content None e = let there : at L t.from ≡ None = same_from ∙ e in rw (there, e) refl
      by_content (Some p) e = let there : at L t.from ≡ Some p = same_from ∙ e in rw (there, e) (same_held p)

    pub same_single : is_single L side t ≡ is_single m side t
    unfolding is_single fits
    same_single =
        let free : is_free L (target t) ≡ is_free m (target t) = rw is (ap is_none same_to) in
        λ i. (((holds t.piece (same_from i) && free i) && is_own side t) && not (same_frozen i)) && not (goes_back t)

-- ---- from the test

off_step : (s : Step) (to n : ℕ) → target s ≡ Some to → is_of s n ≡ false → Apart s.from to n
off_step s to n is h =
    let parts = or_parts (n == s.from) (enters n (target s)) h in
    let other : (to == n) ≡ false = sym (ap (enters n) is) ∙ parts.1 in
    (λ e. both_ways (n == s.from) parts.0 (eq-eqb n s.from e), λ e. both_ways (to == n) other (eq-eqb to n (sym e)))

beside_off : (test : ℕ → Bool) (x : ℕ) → is_beside test x ≡ false → (d : Dir) (y : ℕ) → next_square x d ≡ Some y → test y ≡ false
beside_off test x h d y to = sym (ap (passes test) to) ∙ none_any (λ e. passes test (next_square x e)) h d

pub outside_away : (s : Step) (to n : ℕ) → target s ≡ Some to → in_zone s n ≡ false → IsAway s.from to n
unfolding in_zone is_close
outside_away s to n is h =
    let parts = or_parts (is_close s n) (is_beside (is_trap_of s) n) h in
    let near = or_parts (is_of s n) (is_beside (is_of s) n) parts.0 in
    record {
      apart = off_step s to n is near.0;
      beside = λ d y on. off_step s to y is (beside_off (is_of s) n near.1 d y on);
      traps = λ d y on trap e z from.
          let far : is_close s y ≡ false = ap (λ v. v && is_close s y) (sym trap) ∙ beside_off (is_trap_of s) n parts.1 d y on in
          let rest = or_parts (is_of s y) (is_beside (is_of s) y) far in
          off_step s to z is (beside_off (is_of s) y rest.1 e z from);
    }

-- a square outside, where a step enters one
pub outside_to : (s : Step) (o : Option ℕ) → passes (λ n. not (in_zone s n)) o ≡ true → (x : ℕ) × (o ≡ Some x) × (in_zone s x ≡ false)
outside_to s None h = absurd (true≢false (sym h))
outside_to s (Some x) h = (x, refl, not-true (in_zone s x) h)

-- what a single step says of its squares
pub record Goes (m : Board) (s : Step) : Type 0 where
  pub to : ℕ
  pub is : target s ≡ Some to
  pub from_inside : s.from < 64
  pub to_inside : to < 64
  pub fit : fits m s ≡ true

pub single_goes : (m : Board) (side : Color) (s : Step) → settle m ≡ m → is_single m side s ≡ true → Goes m s
unfolding is_single fits
single_goes m side s calm h =
    let parts = and_parts ((fits m s && is_own side s) && not (is_frozen m s.from)) (not (goes_back s)) h in
    let two = and_parts (fits m s && is_own side s) (not (is_frozen m s.from)) parts.0 in
    let fit : fits m s ≡ true = (and_parts (fits m s) (is_own side s) two.0).0 in
    let three = and_parts (holds s.piece (at m s.from)) (is_free m (target s)) fit in
    let square = free_square m (target s) three.1 in
    let small = on_board m s.from s.piece (whole m calm) (held_piece s.piece (at m s.from) three.0) in
    record { to = square.0; is = square.1; from_inside = small; to_inside = (across s.from s.dir square.0 small square.1).inside; fit = fit }

-- single steps that commute may be turned round
pub may_be_turned : (m : Board) (side : Color) (s t : Step) → settle m ≡ m → is_single m side s ≡ true → is_single (after m s) side t ≡ true → commutes s t ≡ true → MayBeTurned m side s t
unfolding commutes
may_be_turned m side s t calm first second far =
    let go = single_goes m side s calm first in
    let calm_s = after_settled m s go.fit in
    let then = single_goes (after m s) side t calm_s second in
    let parts = and_parts (not (in_zone s t.from)) (passes (λ n. not (in_zone s n)) (target t)) far in
    let out = outside_to s (target t) parts.1 in
    let a = s.from in
    let b = go.to in
    let c = t.from in
    let d = then.to in
    let same : out.0 ≡ d = cc (out.1, then.is) in
    let hc : IsAway a b c = outside_away s b c go.is (not-true (in_zone s c) parts.0) in
    let hd : IsAway a b d = subst (λ (n : ℕ). IsAway a b n) same (outside_away s b out.0 go.is out.2) in
    let ha : IsAway c d a = turned_away a b c d a then.from_inside then.to_inside go.from_inside (λ y apart. apart.0) hc hd in
    let hb : IsAway c d b = turned_away a b c d b then.from_inside then.to_inside go.to_inside (λ y apart. apart.1) hc hd in
    let made_s : after m s ≡ settle (moved m a b) = after_is m s b go.is in
    let made_t : after m t ≡ settle (moved m c d) = after_is m t d then.is in
    record {
      first = sym (same_single m a b calm side t d then.from_inside then.to_inside then.is hc hd) ∙ (sym (ap (λ k. is_single k side t) made_s) ∙ second);
      second = ap (λ k. is_single k side s) made_t ∙ (same_single m c d calm side s b go.from_inside go.to_inside go.is ha hb ∙ first);
      board =
          after_is (after m t) s b go.is
          ∙ (ap (λ k. settle (moved k a b)) made_t
          ∙ (one_board m a b c d calm go.from_inside go.to_inside then.from_inside then.to_inside hc hd
          ∙ (sym (ap (λ k. settle (moved k c d)) made_s)
          ∙ sym (after_is (after m s) t d then.is))));
    }
