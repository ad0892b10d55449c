-- A step on a settled board removes at most one piece, and it is the one that is named.
use Rattle.std.proofs.Common.{◌≡◌, ◌≢◌, ℕ, ◌+◌, ◌-◌, ◌%◌, ◌<◌, ◌≤◌, List, [], ◌∷◌, Bool, true, false, cond, Option, None, Some, refl, sym, ◌∙◌, ap, subst, ⊎_elim, arith, length, length-set}
use Rattle.std.specs.Prelude.{◌&&◌, ◌||◌, ◌==◌, not, nat_lt, nat_le, is_some}
use Rattle.std.specs.List.{list_any, find}
use Rattle.std.proofs.lemmas.Bool.{cases_eq, cases_Bool, or_cases, or_parts, and_parts, true≢false, eqb-true, both_ways, le-leb, lt-ltb, leb-true, ltb-true}
use Rattle.arimaa_board.specs.declared.piece.Piece.{Piece}
use Rattle.arimaa_board.specs.declared.square.Dir.{Dir}
use Rattle.arimaa_board.specs.declared.square.Dir.TheVariants.{North, East, South, West}
use Rattle.arimaa_board.specs.declared.board.Board.{Board}
use Rattle.arimaa_board.specs.Square.{next_square, directions, is_trap, traps}
use Rattle.arimaa_board.specs.Board.{at, put, moved, kept, settle, has_beside, color_at, holds}
use Rattle.arimaa_board.specs.Fit.{is_unsupported}
use Rattle.arimaa_board.specs.BoardLaws.{same_boards, at-put_same, at-put_other, at-board_of, length-board_of, kept_off_traps}
use Rattle.arimaa_board.specs.declared.position.Step.{Step}
use Rattle.arimaa_model.specs.Moves.{fits, after, target, is_free}
use Rattle.arimaa_model.specs.Marks.{removed_by, removed_to, content_at, mark_at, IsWithout}
use Rattle.arimaa_model.proofs.Lemmas.Shades.{across, some_if}
use Rattle.arimaa_model.proofs.Lemmas.Pushers.{held_piece, on_board, free_square, after_is, Going, moved_others, moved_from, size, kept_by_friend, friend_beside, kept_some}

-- the trap of a quarter of the board
abbrev trap_near : ℕ → ℕ
trap_near f = cond (nat_lt f 32) 16 40 + cond (nat_lt (f % 8) 4) 2 5

abbrev is_near : ℕ → Option ℕ → Bool
is_near y None = true
is_near y (Some f) = trap_near f == y

-- a square beside a trap is beside that of its quarter
beside_one : (y : ℕ) (d : Dir) (f : ℕ) → is_trap y ≡ true → next_square y d ≡ Some f → trap_near f ≡ y
beside_one y d f trap to = eqb-true (trap_near f) y (subst (λ o. is_near y o ≡ true) to near) where
  at18 : (e : Dir) → is_near 18 (next_square 18 e) ≡ true
  at18 North = refl
  at18 East = refl
  at18 South = refl
  at18 West = refl

  at21 : (e : Dir) → is_near 21 (next_square 21 e) ≡ true
  at21 North = refl
  at21 East = refl
  at21 South = refl
  at21 West = refl

  at42 : (e : Dir) → is_near 42 (next_square 42 e) ≡ true
  at42 North = refl
  at42 East = refl
  at42 South = refl
  at42 West = refl

  at45 : (e : Dir) → is_near 45 (next_square 45 e) ≡ true
  at45 North = refl
  at45 East = refl
  at45 South = refl
  at45 West = refl

  near : is_near y (next_square y d) ≡ true
  near =
      let G : ℕ → Type 0 = λ x. is_near x (next_square x d) ≡ true in
      ⊎_elim
      (λ h. ⊎_elim
      (λ k. ⊎_elim (λ e. subst G (sym (eqb-true y 18 e)) (at18 d)) (λ e. subst G (sym (eqb-true y 21 e)) (at21 d)) (or_cases (y == 18) (y == 21) k))
      (λ e. subst G (sym (eqb-true y 42 e)) (at42 d))
      (or_cases (y == 18 || y == 21) (y == 42) h))
      (λ e. subst G (sym (eqb-true y 45 e)) (at45 d))
      (or_cases (y == 18 || y == 21 || y == 42) (y == 45) trap)

-- where one test holds and a second does not, they differ at an element
differ_at : (p q : Dir → Bool) (ds : List Dir) → list_any p ds ≡ true → list_any q ds ≡ false → (d : Dir) × (p d ≡ true) × (q d ≡ false)
differ_at p q [] h k = absurd (true≢false (sym h))
differ_at p q (d ∷ ds) h k =
    let parts = or_parts (q d) (list_any q ds) k in
    ⊎_elim (λ e. (d, e, parts.0)) (λ e. differ_at p q ds e parts.1) (or_cases (p d) (list_any p ds) h)

-- the way back to the square that was left
pub way_back : (s : ℕ) (d : Dir) (t : ℕ) → s < 64 → next_square s d ≡ Some t → (e : Dir) × (next_square t e ≡ Some s)
way_back s North t small to =
    let h = some_if (nat_lt s 56) (s + 8) t to in
    let far : s + 8 ≡ t = h.1 in
    let le : 8 ≤ t = omega arith in
    let back : t - 8 ≡ s = omega arith in
    (South, rw (le-leb 8 t le) (ap Some back))
way_back s East t small to =
    let h = some_if (nat_lt (s % 8) 7) (s + 1) t to in
    let low : s % 8 < 7 = ltb-true (s % 8) 7 h.0 in
    let far : s + 1 ≡ t = h.1 in
    let le : 1 ≤ t % 8 = omega arith in
    let back : t - 1 ≡ s = omega arith in
    (West, rw (le-leb 1 (t % 8) le) (ap Some back))
way_back s South t small to =
    let h = some_if (nat_le 8 s) (s - 8) t to in
    let low : 8 ≤ s = leb-true 8 s h.0 in
    let far : s - 8 ≡ t = h.1 in
    let lt : t < 56 = omega arith in
    let back : t + 8 ≡ s = omega arith in
    (North, rw (lt-ltb t 56 lt) (ap Some back))
way_back s West t small to =
    let h = some_if (nat_le 1 (s % 8)) (s - 1) t to in
    let low : 1 ≤ s % 8 = leb-true 1 (s % 8) h.0 in
    let far : s - 1 ≡ t = h.1 in
    let lt : t % 8 < 7 = omega arith in
    let back : t + 1 ≡ s = omega arith in
    (East, rw (lt-ltb (t % 8) 7 lt) (ap Some back))

trap_near-trap : (f : ℕ) → is_trap (trap_near f) ≡ true
trap_near-trap f = four (nat_lt f 32) (nat_lt (f % 8) 4) where
  four : (u v : Bool) → is_trap (cond u 16 40 + cond v 2 5) ≡ true
  four true true = refl
  four true false = refl
  four false true = refl
  four false false = refl

-- of a test that fails at all traps but one
find_one : (test : ℕ → Bool) (f : ℕ) → ((x : ℕ) → is_trap x ≡ true → trap_near f ≢ x → test x ≡ false) → find test traps ≡ cond (test (trap_near f)) (Some (trap_near f)) None
find_one test f others = four (nat_lt f 32) (nat_lt (f % 8) 4) others where
  four : (u v : Bool) → ((x : ℕ) → is_trap x ≡ true → (cond u 16 40 + cond v 2 5) ≢ x → test x ≡ false) → find test traps ≡ cond (test (cond u 16 40 + cond v 2 5)) (Some (cond u 16 40 + cond v 2 5)) None
  four true true o = rw (o 21 refl (omega arith), o 42 refl (omega arith), o 45 refl (omega arith)) refl
  four true false o = rw (o 18 refl (omega arith), o 42 refl (omega arith), o 45 refl (omega arith)) refl
  four false true o = rw (o 18 refl (omega arith), o 21 refl (omega arith), o 45 refl (omega arith)) refl
  four false false o = rw (o 18 refl (omega arith), o 21 refl (omega arith), o 42 refl (omega arith)) refl

some_not : (o : Option Piece) → (is_some o && not (is_some o)) ≡ false
some_not None = refl
some_not (Some p) = refl

trap_small : (x : ℕ) → is_trap x ≡ true → x < 64
trap_small x trap =
    let G : ℕ → Type 0 = λ y. y < 64 in
    ⊎_elim
    (λ h. ⊎_elim
    (λ k. ⊎_elim (λ e. subst G (sym (eqb-true x 18 e)) (omega arith)) (λ e. subst G (sym (eqb-true x 21 e)) (omega arith)) (or_cases (x == 18) (x == 21) k))
    (λ e. subst G (sym (eqb-true x 42 e)) (omega arith))
    (or_cases (x == 18 || x == 21) (x == 42) h))
    (λ e. subst G (sym (eqb-true x 45 e)) (omega arith))
    (or_cases (x == 18 || x == 21 || x == 42) (x == 45) trap)

module _ (m : Board) (t : ℕ) (long : length m ≡ 64) (small : t < 64) (others : (x : ℕ) → x < 64 → t ≢ x → at (settle m) x ≡ at m x) (there : at (settle m) t ≡ kept m t (at m t)) where
  settled_long : length (settle m) ≡ 64
  unfolding settle
  settled_long = length-board_of (λ x. kept m x (at m x))

  nothing_lost : at (settle m) t ≡ at m t → settle m ≡ m
  nothing_lost stays =
      same_boards (settle m) m settled_long long
      (λ x inside. ⊎_elim (λ (e : t ≡ x). subst (λ y. at (settle m) y ≡ at m y) e stays) (others x inside) (cases_eq t x))

  one_lost : at (settle m) t ≡ None → settle m ≡ put m t None
  one_lost gone =
      let inside_m : t < length m = omega arith in
      let long_put : length (put m t None) ≡ 64 = length-set m t None ∙ long in
      same_boards (settle m) (put m t None) settled_long long_put
      (λ x inside. ⊎_elim
      (λ (e : t ≡ x). subst (λ y. at (settle m) y ≡ at (put m t None) y) e (gone ∙ sym (at-put_same m t None inside_m)))
      (λ far. let ne : x ≢ t = λ e. far (sym e) in others x inside far ∙ sym (at-put_other m t x None ne))
      (cases_eq t x))

  by_kept : (r : Piece) (k : Option Piece) → at m t ≡ Some r → kept m t (Some r) ≡ k → IsWithout m (settle m) (content_at m (cond (not (is_some k)) (Some t) None))
  by_kept r None e stays = let gone : at (settle m) t ≡ None = there ∙ (ap (kept m t) e ∙ stays) in rw e (e, one_lost gone)
  by_kept r (Some x) e stays =
      let same : Some r ≡ Some x = kept_some m t (Some r) x stays in
      nothing_lost (there ∙ (ap (kept m t) e ∙ (stays ∙ (sym same ∙ sym e))))

  by_content : (o : Option Piece) → at m t ≡ o → IsWithout m (settle m) (content_at m (cond (is_some o && not (is_some (kept m t o))) (Some t) None))
  by_content None e = nothing_lost (there ∙ (ap (kept m t) e ∙ sym e))
  by_content (Some r) e = by_kept r (kept m t (Some r)) e refl

  removal_from : IsWithout m (settle m) (content_at m (cond (is_unsupported m t) (Some t) None))
  removal_from = by_content (at m t) refl

module _ (b : Board) (f g : ℕ) (q : Piece) (go : Going b f g q) (way : (d : Dir) × (next_square g d ≡ Some f)) where
  abbrev M : Board
  M = moved b f g

  -- a trap that loses its piece is near f
  lost_near : (y : ℕ) (r : Piece) → y < 64 → is_trap y ≡ true → at M y ≡ Some r → has_beside M y r.color ≡ false → trap_near f ≡ y
  unfolding has_beside settle
  lost_near y r small trap there alone =
      ⊎_elim
      (λ (e : y ≡ g). let to : next_square y way.0 ≡ Some f = rw e way.1 in beside_one y way.0 f trap to)
      (λ ng.
      let nf : y ≢ f = λ e. let none : at M y ≡ None = rw e (moved_from b f g q go) in cc in
      let stood : at b y ≡ Some r = sym (moved_others b f g q go y nf ng) ∙ there in
      let was : at b y ≡ kept b y (at b y) = sym (ap (λ c. at c y) go.settled) ∙ at-board_of (λ s. kept b s (at b s)) y small in
      let stays : kept b y (Some r) ≡ Some r = sym (ap (kept b y) stood) ∙ (sym was ∙ stood) in
      let friends = friend_beside b y r trap stays in
      let at_d = differ_at (λ d. color_at b r.color (next_square y d)) (λ d. color_at M r.color (next_square y d)) directions friends alone in
      one y r trap at_d.0 (next_square y at_d.0) refl at_d.1 at_d.2)
      (cases_eq y g) where
        one : (x : ℕ) (p : Piece) → is_trap x ≡ true → (d : Dir) (o : Option ℕ) → next_square x d ≡ o → color_at b p.color o ≡ true → color_at M p.color o ≡ false → trap_near f ≡ x
        one x p t d None to h k = absurd (true≢false (sym h))
        one x p t d (Some z) to h k =
            ⊎_elim
            (λ (e : z ≡ f). let back : next_square x d ≡ Some f = to ∙ ap Some e in beside_one x d f t back)
            (λ nf. ⊎_elim
            (λ (e : z ≡ g). let none : at b z ≡ None = rw e go.free in absurd (true≢false (sym (rw none at h))))
            (λ ng. let same : at M z ≡ at b z = moved_others b f g q go z nf ng in absurd (both_ways (color_at b p.color (Some z)) (rw same at k) h))
            (cases_eq z g))
            (cases_eq z f)

  -- what stands on a square stays, unless it is the lost one
  stays_else : (x : ℕ) (o : Option Piece) → x < 64 → at M x ≡ o → trap_near f ≢ x → kept M x o ≡ o
  stays_else x None small e far = refl
  stays_else x (Some r) small e far =
      ⊎_elim
      (λ trap. ⊎_elim (λ friend. kept_by_friend M x r friend) (λ alone. absurd (far (lost_near x r small trap e alone))) (cases_Bool (has_beside M x r.color)))
      (λ off. kept_off_traps M x (Some r) off)
      (cases_Bool (is_trap x))

  supported_else : (x : ℕ) → is_trap x ≡ true → trap_near f ≢ x → x < 64 → is_unsupported M x ≡ false
  supported_else x trap far small =
      let stays : kept M x (at M x) ≡ at M x = stays_else x (at M x) small refl far in
      rw stays (some_not (at M x))

  -- the one trap that may lose a piece
  abbrev T : ℕ
  T = trap_near f

  long : length M ≡ 64
  long =
      let whole = size b f g q go in
      simp length-set whole

  settled_else : (x : ℕ) → x < 64 → T ≢ x → at (settle M) x ≡ at M x
  unfolding settle
  settled_else x small far = at-board_of (λ s. kept M s (at M s)) x small ∙ stays_else x (at M x) small refl far

  near_small : T < 64
  near_small = four (nat_lt f 32) (nat_lt (f % 8) 4) where
    four : (u v : Bool) → (cond u 16 40 + cond v 2 5) < 64
    four true true = omega arith
    four true false = omega arith
    four false true = omega arith
    four false false = omega arith

  settled_there : at (settle M) T ≡ kept M T (at M T)
  unfolding settle
  settled_there = at-board_of (λ s. kept M s (at M s)) T near_small

  removal : IsWithout M (settle M) (content_at M (find (is_unsupported M) traps))
  removal =
      let one : find (is_unsupported M) traps ≡ cond (is_unsupported M T) (Some T) None = find_one (is_unsupported M) f (λ x trap far. supported_else x trap far (trap_small x trap)) in
      rw one (removal_from M T long near_small settled_else settled_there)

-- a step on a settled board removes the named piece, and no other
pub removal_law : (b : Board) (s : Step) (to : ℕ) → settle b ≡ b → fits b s ≡ true → target s ≡ Some to → IsWithout (moved b s.from to) (after b s) (removed_by b s)
unfolding fits removed_by settle
removal_law b s to calm fit at_to =
    let parts = and_parts (holds s.piece (at b s.from)) (is_free b (target s)) fit in
    let here = held_piece s.piece (at b s.from) parts.0 in
    let whole : length b ≡ 64 = ap length (sym calm) ∙ length-board_of (λ x. kept b x (at b x)) in
    let small = on_board b s.from s.piece whole here in
    let square = free_square b (target s) parts.1 in
    let same : square.0 ≡ to = cc (square.1, at_to) in
    let free : at b to ≡ None = ap (at b) (sym same) ∙ square.2 in
    let go : Going b s.from to s.piece = record { settled = calm; here = here; free = free; from = small; next = across s.from s.dir to small at_to } in
    rw (after_is b s to at_to, at_to) (removal b s.from to s.piece go (way_back s.from s.dir to small at_to))

-- a test's first place among the traps is a trap
found_trap : (test : ℕ → Bool) (t : ℕ) → find test traps ≡ Some t → is_trap t ≡ true
found_trap test t e =
    four (test 18) (test 21) (test 42) (test 45) e where
      four : (u v w x : Bool) → cond u (Some 18) (cond v (Some 21) (cond w (Some 42) (cond x (Some 45) None))) ≡ Some t → is_trap t ≡ true
      four true v w x h = let same : 18 ≡ t = cc in subst (λ (k : ℕ). is_trap k ≡ true) same refl
      four false true w x h = let same : 21 ≡ t = cc in subst (λ (k : ℕ). is_trap k ≡ true) same refl
      four false false true x h = let same : 42 ≡ t = cc in subst (λ (k : ℕ). is_trap k ≡ true) same refl
      four false false false true h = let same : 45 ≡ t = cc in subst (λ (k : ℕ). is_trap k ≡ true) same refl
      four false false false false h = absurd (cc)

-- what a step removes stood on a trap
pub removed_from_trap : (b : Board) (s : Step) (q : Piece) (t : ℕ) → removed_by b s ≡ Some (q, t) → is_trap t ≡ true
unfolding removed_by
removed_from_trap b s q t e = by_target (target s) e where
  at_trap : (m : Board) (o : Option ℕ) → find (is_unsupported m) traps ≡ o → content_at m o ≡ Some (q, t) → is_trap t ≡ true
  at_trap m None found h = absurd (cc)
  at_trap m (Some y) found h = by_content (at m y) h where
    by_content : (c : Option Piece) → mark_at y c ≡ Some (q, t) → is_trap t ≡ true
    by_content None k = absurd (cc)
    by_content (Some r) k = let pair : (r, y) ≡ (q, t) = cc in let same : y ≡ t = ap (λ (z : Piece × ℕ). z.1) pair in subst (λ (x : ℕ). is_trap x ≡ true) same (found_trap (is_unsupported m) y found)

  by_target : (o : Option ℕ) → removed_to b s.from o ≡ Some (q, t) → is_trap t ≡ true
  by_target None h = absurd (cc)
  by_target (Some to) h = at_trap (moved b s.from to) (find (is_unsupported (moved b s.from to)) traps) refl h
