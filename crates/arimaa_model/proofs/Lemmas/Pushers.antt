-- The first half of a push never freezes or frees the pusher.
use Rattle.std.proofs.Common.{◌≡◌, ◌≢◌, ℕ, ◌<◌, ◌≤◌, List, [], ◌∷◌, Bool, true, false, cond, Option, None, Some, refl, sym, ◌∙◌, ap, subst, ⊎_elim, arith, length, get_or-set_same, get_or-set_other, length-set}
use Rattle.std.specs.Prelude.{◌&&◌, ◌||◌, ◌==◌, not, nat_lt, is_none}
use Rattle.std.specs.List.{list_any}
use Rattle.std.proofs.lemmas.Bool.{not-true, cases_eq, cases_lt, or_cases, or_left, or_right, and_parts, true≢false, eqb-true, ltb-true, le-ltb}
use Rattle.arimaa_board.specs.declared.piece.Color.{Color}
use Rattle.arimaa_board.specs.declared.piece.Piece.{Piece}
use Rattle.arimaa_board.specs.declared.square.Dir.{Dir}
use Rattle.arimaa_board.specs.declared.square.Dir.TheVariants.{North, East, South, West}
use Rattle.arimaa_board.specs.declared.board.Board.{Board}
use Rattle.arimaa_board.specs.Piece.{strength, code_of, piece_of_code}
use Rattle.arimaa_board.specs.Square.{next_square, directions, is_trap}
use Rattle.std.proofs.lemmas.List.{get_or_past}
use Rattle.arimaa_board.specs.Board.{at, put, moved, kept, settle, has_beside, color_at, holds, same_color}
use Rattle.arimaa_board.specs.BoardLaws.{same_boards, length-board_of, at-board_of, kept_off_traps}
use Rattle.arimaa_board.specs.CodeLaws.{piece_of_code-code_of_content}
use Rattle.arimaa_model.specs.Frozen.{is_frozen, is_held, beats, passes_at}
use Rattle.arimaa_model.specs.Moves.{can_push, fits, after, is_free, target, enters}
use Rattle.arimaa_board.specs.declared.position.Step.{Step}
pub use Rattle.arimaa_board.specs.ColorLaws.{same_color-refl}
use Rattle.std.proofs.Math.Bool.{and-false}
use Rattle.arimaa_model.proofs.Lemmas.Shades.{shade, Across, across}

-- a test that holds for fewer directions
pub list_any-mono : (p q : Dir → Bool) (ds : List Dir) → ((d : Dir) → p d ≡ true → q d ≡ true) → list_any p ds ≡ true → list_any q ds ≡ true
list_any-mono p q [] le h = h
list_any-mono p q (d ∷ ds) le h = ⊎_elim (λ e. or_left (q d) (list_any q ds) (le d e)) (λ e. or_right (q d) (list_any q ds) (list_any-mono p q ds le e)) (or_cases (p d) (list_any p ds) h)

pub list_any-agree : (p q : Dir → Bool) (ds : List Dir) → ((d : Dir) → p d ≡ q d) → list_any p ds ≡ list_any q ds
list_any-agree p q [] same = refl
list_any-agree p q (d ∷ ds) same = λ i. same d i || list_any-agree p q ds same i

-- the piece that a square holds
pub held_piece : (p : Piece) (o : Option Piece) → holds p o ≡ true → o ≡ Some p
held_piece p None h = absurd (true≢false (sym h))
held_piece p (Some q) h = sym (piece_of_code-code_of_content (Some q)) ∙ (ap piece_of_code (eqb-true (code_of q) (code_of p) h) ∙ piece_of_code-code_of_content (Some p))

pub not_itself : (p : Piece) → beats p p ≡ false
not_itself p = rw (same_color-refl p.color) refl

-- what is beaten does not beat, and is no friend
pub not_both : (p q : Piece) → beats p q ≡ true → beats q p ≡ false
not_both p q h =
    let parts = and_parts (not (same_color p.color q.color)) (nat_lt (strength q.kind) (strength p.kind)) h in
    let weaker : strength q.kind < strength p.kind = ltb-true (strength q.kind) (strength p.kind) parts.1 in
    let no : nat_lt (strength p.kind) (strength q.kind) ≡ false = le-ltb (strength p.kind) (strength q.kind) (omega arith) in
    rw no (and-false (not (same_color q.color p.color)))

pub no_friend : (p q : Piece) → beats p q ≡ true → same_color p.color q.color ≡ false
no_friend p q h = not-true (same_color p.color q.color) (and_parts (not (same_color p.color q.color)) (nat_lt (strength q.kind) (strength p.kind)) h).0

-- what stays on a square stood there
pub kept_some : (b : Board) (s : ℕ) (o : Option Piece) (p : Piece) → kept b s o ≡ Some p → o ≡ Some p
kept_some b s None p h = h
kept_some b s (Some r) p h =
    elim (is_trap s && not (has_beside b s r.color)) as (λ v. cond v None (Some r) ≡ Some p → Some r ≡ Some p) [ true ↦ λ e. absurd (cc) | false ↦ λ e. e ] h

-- a friend beside a piece that stays on a trap
pub friend_beside : (b : Board) (s : ℕ) (r : Piece) → is_trap s ≡ true → kept b s (Some r) ≡ Some r → has_beside b s r.color ≡ true
friend_beside b s r trap h =
    let G : Bool → Type 0 = λ v. cond (v && not (has_beside b s r.color)) None (Some r) ≡ Some r in
    let e : cond (not (has_beside b s r.color)) None (Some r) ≡ Some r = subst G trap h in
    elim (has_beside b s r.color) as (λ v. cond (not v) None (Some r) ≡ Some r → v ≡ true) [ true ↦ λ _. refl | false ↦ λ x. absurd (cc) ] e

-- a friend beside keeps a piece
pub kept_by_friend : (b : Board) (s : ℕ) (r : Piece) → has_beside b s r.color ≡ true → kept b s (Some r) ≡ Some r
kept_by_friend b s r friend =
    elim (is_trap s) as (λ v. cond (v && not (has_beside b s r.color)) None (Some r) ≡ Some r) [ true ↦ rw friend refl | false ↦ refl ]

both : (x a b : Bool) → (x ≡ true → a ≡ b) → (x && not a) ≡ (x && not b)
both true a b h = ap not (h refl)
both false a b h = refl

-- whether there is no such square, or no trap
abbrev pub clear : Option ℕ → Bool
clear None = true
clear (Some y) = not (is_trap y)

-- the squares beside a trap are no traps
pub beside_traps : (s : ℕ) (d : Dir) → is_trap s ≡ true → clear (next_square s d) ≡ true
beside_traps s d trap =
    let G : ℕ → Type 0 = λ x. clear (next_square x d) ≡ true in
    ⊎_elim
    (λ h. ⊎_elim
    (λ k. ⊎_elim (λ e. subst G (sym (eqb-true s 18 e)) (at18 d)) (λ e. subst G (sym (eqb-true s 21 e)) (at21 d)) (or_cases (s == 18) (s == 21) k))
    (λ e. subst G (sym (eqb-true s 42 e)) (at42 d))
    (or_cases (s == 18 || s == 21) (s == 42) h))
    (λ e. subst G (sym (eqb-true s 45 e)) (at45 d))
    (or_cases (s == 18 || s == 21 || s == 42) (s == 45) trap) where
      at18 : (e : Dir) → clear (next_square 18 e) ≡ true
      at18 North = refl
      at18 East = refl
      at18 South = refl
      at18 West = refl

      at21 : (e : Dir) → clear (next_square 21 e) ≡ true
      at21 North = refl
      at21 East = refl
      at21 South = refl
      at21 West = refl

      at42 : (e : Dir) → clear (next_square 42 e) ≡ true
      at42 North = refl
      at42 East = refl
      at42 South = refl
      at42 West = refl

      at45 : (e : Dir) → clear (next_square 45 e) ≡ true
      at45 North = refl
      at45 East = refl
      at45 South = refl
      at45 West = refl

module _ (b : Board) where
  pub at-settle : (s : ℕ) → s < 64 → at (settle b) s ≡ kept b s (at b s)
  unfolding settle
  at-settle s small = at-board_of (λ x. kept b x (at b x)) s small

  friend_settled : (s : ℕ) (c : Color) → s < 64 → is_trap s ≡ true → has_beside b s c ≡ true → has_beside (settle b) s c ≡ true
  unfolding has_beside
  friend_settled s c small trap h =
      list_any-mono (λ d. color_at b c (next_square s d)) (λ d. color_at (settle b) c (next_square s d)) directions (λ d e. one d (next_square s d) refl e) h where
        one : (d : Dir) (o : Option ℕ) → next_square s d ≡ o → color_at b c o ≡ true → color_at (settle b) c o ≡ true
        one d None to e = e
        one d (Some y) to e =
            let a = across s d y small to in
            let off : is_trap y ≡ false = not-true (is_trap y) (subst (λ o. clear o ≡ true) to (beside_traps s d trap)) in
            let stays : at (settle b) y ≡ at b y = at-settle y a.inside ∙ kept_off_traps b y (at b y) off in
            rw stays e

  kept_twice : (s : ℕ) (o : Option Piece) → s < 64 → at (settle b) s ≡ o → kept (settle b) s o ≡ o
  kept_twice s None small e = refl
  kept_twice s (Some r) small e =
      elim (is_trap s) as (λ v. is_trap s ≡ v → kept (settle b) s (Some r) ≡ Some r) [
        | true ↦ λ trap.
            let stays : kept b s (at b s) ≡ Some r = sym (at-settle s small) ∙ e in
            let stood : at b s ≡ Some r = kept_some b s (at b s) r stays in
            kept_by_friend (settle b) s r (friend_settled s r.color small trap (friend_beside b s r trap (ap (kept b s) (sym stood) ∙ stays)))
        | false ↦ λ off. kept_off_traps (settle b) s (Some r) off
      ] refl

-- to settle twice is to settle once
pub settle_twice : (b : Board) → settle (settle b) ≡ settle b
unfolding settle
settle_twice b =
    same_boards (settle (settle b)) (settle b) (size_of (settle b)) (size_of b)
    (λ s small. at-settle (settle b) s small ∙ kept_twice b s (at (settle b) s) small refl) where
      size_of : (c : Board) → length (settle c) ≡ 64
      size_of c = length-board_of (λ x. kept c x (at c x))

-- a settled board, and a piece on f that goes to g beside it
pub record Going (b : Board) (f g : ℕ) (q : Piece) : Type 0 where
  pub settled : settle b ≡ b
  pub here : at b f ≡ Some q
  pub free : at b g ≡ None
  pub from : f < 64
  pub next : Across f g

module _ (b : Board) (f g : ℕ) (q : Piece) (go : Going b f g q) where
  pub size : length b ≡ 64
  unfolding settle
  size = ap length (sym go.settled) ∙ length-board_of (λ s. kept b s (at b s))

  abbrev pub Moved : Board
  Moved = moved b f g

  pub differ : f ≢ g
  differ = omega (arith, go.next.other)

  pub moved_others : (x : ℕ) → x ≢ f → x ≢ g → at Moved x ≡ at b x
  moved_others x nf ng = get_or-set_other (put b f None) g x (at b f) None ng ∙ get_or-set_other b f x None None nf

  pub moved_from : at Moved f ≡ None
  moved_from =
      let inside : f < length b = omega (arith, size, go.from) in
      get_or-set_other (put b f None) g f (at b f) None differ ∙ get_or-set_same b f None None inside

  pub at-after : (x : ℕ) → x < 64 → at (settle Moved) x ≡ kept Moved x (at Moved x)
  unfolding settle
  at-after x small = at-board_of (λ s. kept Moved s (at Moved s)) x small

  after_from : at (settle Moved) f ≡ None
  after_from = at-after f go.from ∙ rw moved_from refl

  friend_stays : (x : ℕ) (c : Color) → x < 64 → shade x ≡ shade f → has_beside b x c ≡ true → has_beside Moved x c ≡ true
  unfolding has_beside
  friend_stays x c small like h =
      list_any-mono (λ d. color_at b c (next_square x d)) (λ d. color_at Moved c (next_square x d)) directions (λ d e. one d (next_square x d) refl e) h where
        one : (d : Dir) (o : Option ℕ) → next_square x d ≡ o → color_at b c o ≡ true → color_at Moved c o ≡ true
        one d None to e = e
        one d (Some y) to e =
            let a = across x d y small to in
            let nf : y ≢ f = omega (arith, a.other, like) in
            ⊎_elim
            (λ (same : y ≡ g). let none : at b y ≡ None = rw same go.free in absurd (true≢false (sym (rw none at e))))
            (λ ng. let stays : at Moved y ≡ at b y = moved_others y nf ng in rw stays e)
            (cases_eq y g)

  -- a square of the shade of f keeps its content
  kept_like : (x : ℕ) (o : Option Piece) → x < 64 → shade x ≡ shade f → at b x ≡ o → kept Moved x o ≡ o
  unfolding settle
  kept_like x None small like e = refl
  kept_like x (Some r) small like e =
      elim (is_trap x) as (λ v. is_trap x ≡ v → kept Moved x (Some r) ≡ Some r) [
        | true ↦ λ trap.
            let was : at b x ≡ kept b x (at b x) = sym (ap (λ c. at c x) go.settled) ∙ at-board_of (λ s. kept b s (at b s)) x small in
            let stays : kept b x (Some r) ≡ Some r = sym (ap (kept b x) e) ∙ (sym was ∙ e) in
            kept_by_friend Moved x r (friend_stays x r.color small like (friend_beside b x r trap stays))
        | false ↦ λ off. kept_off_traps Moved x (Some r) off
      ] refl

  same_like : (x : ℕ) → x < 64 → shade x ≡ shade f → x ≢ f → x ≢ g → at (settle Moved) x ≡ at b x
  same_like x small like nf ng = at-after x small ∙ (ap (kept Moved x) (moved_others x nf ng) ∙ kept_like x (at b x) small like refl)

  -- beside a stronger enemy of q at y, only f changes what a test sees that q does not pass
  module _ (y : ℕ) (d : Dir) (small : y < 64) (to : next_square y d ≡ Some f) where
    like_f : (e : Dir) (x : ℕ) → next_square y e ≡ Some x → (x < 64) × (shade x ≡ shade f)
    like_f e x at_x =
        let a = across y e x small at_x in
        let c = across y d f small to in
        (a.inside, omega (arith, a.other, c.other))

    not_g : (e : Dir) (x : ℕ) → next_square y e ≡ Some x → x ≢ g
    not_g e x at_x = let l = like_f e x at_x in omega (arith, l.1, go.next.other)

    test_same : (test : Piece → Bool) → test q ≡ false → (e : Dir) (o : Option ℕ) → next_square y e ≡ o → passes_at b test o ≡ passes_at (settle Moved) test o
    test_same test fails e None at_x = refl
    test_same test fails e (Some x) at_x =
        ⊎_elim
        (λ (same : x ≡ f). let before : at b x ≡ Some q = rw same go.here in let then : at (settle Moved) x ≡ None = rw same after_from in rw (before, then) fails)
        (λ nf. let l = like_f e x at_x in let stays : at (settle Moved) x ≡ at b x = same_like x l.0 l.1 nf (not_g e x at_x) in rw stays refl)
        (cases_eq x f)

    color_same : (c : Color) → same_color c q.color ≡ false → (e : Dir) (o : Option ℕ) → next_square y e ≡ o → color_at b c o ≡ color_at (settle Moved) c o
    color_same c fails e None at_x = refl
    color_same c fails e (Some x) at_x =
        ⊎_elim
        (λ (same : x ≡ f). let before : at b x ≡ Some q = rw same go.here in let then : at (settle Moved) x ≡ None = rw same after_from in rw (before, then) fails)
        (λ nf. let l = like_f e x at_x in let stays : at (settle Moved) x ≡ at b x = same_like x l.0 l.1 nf (not_g e x at_x) in rw stays refl)
        (cases_eq x f)

    held_same : (p : Piece) → beats p q ≡ true → is_held b y p ≡ is_held (settle Moved) y p
    unfolding is_held has_beside
    held_same p h = λ i.
        list_any-agree (λ e. passes_at b (λ r. beats r p) (next_square y e)) (λ e. passes_at (settle Moved) (λ r. beats r p) (next_square y e)) directions
        (λ e. test_same (λ r. beats r p) (not_both p q h) e (next_square y e) refl) i
        && not (list_any-agree (λ e. color_at b p.color (next_square y e)) (λ e. color_at (settle Moved) p.color (next_square y e)) directions
        (λ e. color_same p.color (no_friend p q h) e (next_square y e) refl) i)

    -- the pusher as it stands after the first half
    pusher_same : (p : Piece) → at (settle Moved) y ≡ Some p → (beats p q && not (is_frozen (settle Moved) y)) ≡ can_push b q (Some y)
    pusher_same p there =
        ⊎_elim
        (λ (same : y ≡ g).
        let long : length (put b f None) ≡ 64 = simp length-set size in
        let inside : y < length (put b f None) = omega arith in
        let arrives : at Moved y ≡ at b f = subst (λ x. at (put (put b f None) x (at b f)) y ≡ at b f) same (get_or-set_same (put b f None) y (at b f) None inside) in
        let stood : at Moved y ≡ Some p = kept_some Moved y (at Moved y) p (sym (at-after y small) ∙ there) in
        let itself : p ≡ q = cc (arrives, stood, go.here) in
        let none : at b y ≡ None = rw same go.free in
        let fails : beats p q ≡ false = subst (λ r. beats r q ≡ false) (sym itself) (not_itself q) in
        rw (none, fails) refl)
        (λ ng.
        let a = across y d f small to in
        let nf : y ≢ f = omega (arith, a.other) in
        let stood : at Moved y ≡ Some p = kept_some Moved y (at Moved y) p (sym (at-after y small) ∙ there) in
        let before : at b y ≡ Some p = sym (moved_others y nf ng) ∙ stood in
        rw (there, before, before) (both (beats p q) (is_held (settle Moved) y p) (is_held b y p) (λ h. sym (held_same p h))))
        (cases_eq y g)

pub after_is : (b : Board) (t : Step) (to : ℕ) → target t ≡ Some to → after b t ≡ settle (moved b t.from to)
unfolding after
after_is b t to e = rw e refl

-- a square that is free is there, and empty
pub free_square : (b : Board) (o : Option ℕ) → is_free b o ≡ true → (x : ℕ) × (o ≡ Some x) × (at b x ≡ None)
free_square b None h = absurd (true≢false (sym h))
free_square b (Some x) h = (x, refl, is_none-true (at b x) h) where
  is_none-true : (o : Option Piece) → is_none o ≡ true → o ≡ None
  is_none-true None e = refl
  is_none-true (Some p) e = absurd (true≢false (sym e))

entered : (f : ℕ) (o : Option ℕ) → enters f o ≡ true → o ≡ Some f
entered f None h = absurd (true≢false (sym h))
entered f (Some x) h = ap Some (eqb-true x f h)

pub after_settled : (b : Board) (t : Step) → fits b t ≡ true → settle (after b t) ≡ after b t
unfolding fits
after_settled b t h =
    let to = free_square b (target t) (and_parts (holds t.piece (at b t.from)) (is_free b (target t)) h).1 in
    rw (after_is b t to.0 to.1) (settle_twice (moved b t.from to.0))

-- a square with a piece on it is on the board
pub on_board : (b : Board) (s : ℕ) (p : Piece) → length b ≡ 64 → at b s ≡ Some p → s < 64
on_board b s p long h =
    ⊎_elim (λ small. small) (λ (big : 64 ≤ s). let past : length b ≤ s = omega arith in let none : at b s ≡ None = get_or_past b s None past in absurd (cc)) (cases_lt s 64)

-- a piece could push before a first half where it beats the pushed piece and is free after it
pub same_pusher : (b : Board) (side : Color) (t s : Step) → settle b ≡ b → fits b t ≡ true → fits (after b t) s ≡ true → enters t.from (target s) ≡ true → (beats s.piece t.piece && not (is_frozen (after b t) s.from)) ≡ can_push b t.piece (Some s.from)
unfolding fits settle
same_pusher b side t s calm first second into =
    let one = and_parts (holds t.piece (at b t.from)) (is_free b (target t)) first in
    let two = and_parts (holds s.piece (at (after b t) s.from)) (is_free (after b t) (target s)) second in
    let to = free_square b (target t) one.1 in
    let here = held_piece t.piece (at b t.from) one.0 in
    let made = after_is b t to.0 to.1 in
    let there : at (settle (moved b t.from to.0)) s.from ≡ Some s.piece = ap (λ c. at c s.from) (sym made) ∙ held_piece s.piece (at (after b t) s.from) two.0 in
    let small : s.from < 64 = on_board (settle (moved b t.from to.0)) s.from s.piece (length-board_of _) there in
    let back = entered t.from (target s) into in
    let beside = across s.from s.dir t.from small back in
    let go : Going b t.from to.0 t.piece = record {
      settled = calm;
      here = here;
      free = to.2;
      from = beside.inside;
      next = across t.from t.dir to.0 beside.inside to.1;
    } in
    rw made (pusher_same b t.from to.0 t.piece go s.from s.dir small back s.piece there)
