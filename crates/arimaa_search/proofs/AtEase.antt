-- A piece at ease that goes makes a turn of one step.
use Rattle.std.proofs.Common.{◌≡◌, ◌≢◌, ℕ, ◌<◌, ◌≤◌, ◌&&◌, true, false, List, [], ◌∷◌, length, Option, None, Some, refl, sym, ◌∙◌, ap, arith, true≢false, eq-eqb, ⊎_elim}
use Rattle.std.specs.Prelude.{◌||◌, not, is_some}
use Rattle.std.specs.List.{filter}
use Rattle.std.proofs.lemmas.Bool.{and_parts, or_cases}
use Rattle.arimaa_board.specs.declared.board.Board.{Board}
use Rattle.arimaa_board.specs.declared.piece.Color.{Color}
use Rattle.arimaa_board.specs.declared.piece.Color.TheVariants.{Gold, Silver}
use Rattle.arimaa_board.specs.declared.piece.Kind.TheVariants.{Rabbit}
use Rattle.arimaa_board.specs.declared.piece.Piece.{Piece}
use Rattle.arimaa_board.specs.declared.position.Position.{Position}
use Rattle.arimaa_board.specs.declared.position.Step.{Step}
use Rattle.arimaa_board.specs.declared.square.Dir.{Dir}
use Rattle.arimaa_board.specs.Board.{at, holds, holds_color}
use Rattle.arimaa_board.specs.ColorLaws.{same_color-Decides}
use Rattle.arimaa_board.specs.Masks.{passes}
use Rattle.arimaa_board.specs.Piece.{code_of, other_color, piece_of}
use Rattle.arimaa_board.specs.Square.{next_square}
use Rattle.arimaa_model.specs.Moves.{after, is_back, is_rabbit}
use Rattle.arimaa_model.specs.Relations.{IsFrozen, IsSingle, IsTurn, StandsBeside, Fits}
use Rattle.arimaa_model.specs.Results.{next, results, stands_in, step_of, position_of}
use Rattle.arimaa_search.specs.AtEase.{is_beside_color, is_at_ease, goes_at_ease}
use Rattle.arimaa_board.specs.Board.{put, moved, kept, settle}
use Rattle.arimaa_board.specs.BoardLaws.{at-board_of}
use Rattle.arimaa_board.specs.Square.{directions}
use Rattle.arimaa_board.specs.declared.square.Dir.TheVariants.{North, East, South, West}
use Rattle.std.proofs.Common.{get_or-set_same, get_or-set_other, inl, inr}
use Rattle.std.proofs.lemmas.Bool.{cases_lt}
use Rattle.std.proofs.lemmas.List.{get_or_past}
use Rattle.arimaa_model.proofs.Lemmas.Distinct.{turns-reach}
use Rattle.arimaa_model.proofs.Lemmas.Members.{In, any-In, In-any}
use Rattle.arimaa_model.proofs.Lemmas.Pushers.{after_is}
use Rattle.arimaa_model.proofs.Lemmas.RelatedMoves.{goes_back-Decides}
use Rattle.arimaa_model.proofs.Lemmas.Shades.{across}

-- what stands on a square, by a test of it
some_piece : (c : Color) (o : Option Piece) → holds_color c o ≡ true → (q : Piece) × (o ≡ Some q) × (q.color ≡ c)
some_piece c None h = absurd (true≢false (sym h))
some_piece c (Some q) h = (q, refl, sym ((same_color-Decides c q.color).0 h))

some_square : (b : Board) (c : Color) (o : Option ℕ) → passes (λ m. holds_color c (at b m)) o ≡ true → (t : ℕ) × (o ≡ Some t) × (holds_color c (at b t) ≡ true)
some_square b c None h = absurd (true≢false (sym h))
some_square b c (Some t) h = (t, refl, h)

free_square : (b : Board) (o : Option ℕ) → passes (λ m. not (is_some (at b m))) o ≡ true → (t : ℕ) × (o ≡ Some t) × (at b t ≡ None)
free_square b None h = absurd (true≢false (sym h))
free_square b (Some t) h = (t, refl, none (at b t) h) where
  none : (o : Option Piece) → not (is_some o) ≡ true → o ≡ None
  none None h = refl
  none (Some p) h = absurd (true≢false (sym h))

in_directions : (d : Dir) → In d directions
in_directions North = inl refl
in_directions East = inr (inl refl)
in_directions South = inr (inr (inl refl))
in_directions West = inr (inr (inr (inl refl)))

-- a square is beside a colour just where a piece of it stands beside the square
beside_some : (b : Board) (c : Color) (n : ℕ) → is_beside_color b c n ≡ true → (q : Piece) × StandsBeside b n q × (q.color ≡ c)
beside_some b c n h =
    let way = any-In (λ d. passes (λ m. holds_color c (at b m)) (next_square n d)) directions h in
    let square = some_square b c (next_square n way.0) way.2 in
    let piece = some_piece c (at b square.0) square.2 in
    (piece.0, (way.0, square.0, square.1, piece.1), piece.2)

some_beside : (b : Board) (c : Color) (n : ℕ) (q : Piece) → StandsBeside b n q → q.color ≡ c → is_beside_color b c n ≡ true
some_beside b c n q stands color =
    let held : holds_color c (at b stands.1) ≡ true = rw stands.3 ((same_color-Decides c q.color).1 (sym color)) in
    let passed : passes (λ m. holds_color c (at b m)) (next_square n stands.0) ≡ true = rw stands.2 held in
    In-any (λ d. passes (λ m. holds_color c (at b m)) (next_square n d)) stands.0 directions (in_directions stands.0) passed

other_of : (c d : Color) → d ≢ c → d ≡ other_color c
other_of Gold Gold apart = absurd (apart refl)
other_of Gold Silver apart = refl
other_of Silver Gold apart = refl
other_of Silver Silver apart = absurd (apart refl)

-- a piece at ease is not frozen
not_frozen : (b : Board) (c : Color) (n : ℕ) → is_at_ease b c n ≡ true → IsFrozen b n → ⊥
not_frozen b c n ease frozen =
    let parts = and_parts (holds_color c (at b n)) (is_beside_color b c n || not (is_beside_color b (other_color c) n)) ease in
    let own = some_piece c (at b n) parts.0 in
    let same : own.0 ≡ frozen.0 = cc in
    let color : frozen.0.color ≡ c = ap (λ (p : Piece). p.color) (sym same) ∙ own.2 in
    ⊎_elim
    (λ with_friend. let friend = beside_some b c n with_friend in frozen.2.alone friend.0 friend.1 (friend.2 ∙ sym color))
    (λ alone.
    let enemy = frozen.2.enemy in
    let other : enemy.0.color ≡ other_color c = other_of c enemy.0.color (λ e. enemy.2 (e ∙ sym color)) in
    let there : is_beside_color b (other_color c) n ≡ true = some_beside b (other_color c) n enemy.0 enemy.1 other in
    true≢false (sym alone ∙ ap not there))
    (or_cases (is_beside_color b c n) (not (is_beside_color b (other_color c) n)) parts.1)

-- a rabbit of the side is what its test says
is_rabbit_of : (c : Color) (p : Piece) → p.color ≡ c → p.kind ≡ Rabbit → holds (piece_of c Rabbit) (Some p) ≡ true
is_rabbit_of c p color kind =
    let same : p ≡ piece_of c Rabbit = λ i. record { color = color i; kind = kind i } in
    eq-eqb (code_of p) (code_of (piece_of c Rabbit)) (ap code_of same)

-- a piece at ease that goes makes a single step
going_single : (b : Board) (c : Color) (d : Dir) (n : ℕ) → goes_at_ease b c d n ≡ true → (p : Piece) × IsSingle b c (step_of n d p)
going_single b c d n goes =
    let rabbit = holds (piece_of c Rabbit) (at b n) in
    let outer = and_parts (is_at_ease b c n && not (is_back c d && rabbit)) (passes (λ m. not (is_some (at b m))) (next_square n d)) goes in
    let inner = and_parts (is_at_ease b c n) (not (is_back c d && rabbit)) outer.0 in
    let here = and_parts (holds_color c (at b n)) (is_beside_color b c n || not (is_beside_color b (other_color c) n)) inner.0 in
    let own = some_piece c (at b n) here.0 in
    let s = step_of n d own.0 in (
      own.0,
      record {
        fits = record { named = own.1; free = free_square b (next_square n d) outer.1 };
        own = own.2;
        moves = not_frozen b c n inner.0;
        forward = λ back.
            let parts = and_parts (is_rabbit own.0.kind) (is_back own.0.color d) ((goes_back-Decides s).1 back) in
            let dir : is_back c d ≡ true = ap (λ x. is_back x d) (sym own.2) ∙ parts.1 in
            let it : rabbit ≡ true = rw own.1 (is_rabbit_of c own.0 own.2 back.0) in
            let both : not (is_back c d && rabbit) ≡ false = rw (dir, it) refl in
            true≢false (sym inner.1 ∙ both);
      },
    )

-- the square that a single step leaves is empty after it
left_empty : (b : Board) (s : Step) → s.from < 64 → Fits b s → at (after b s) s.from ≡ None
unfolding settle
left_empty b s small fit =
    let free = fit.free in
    let over = across s.from s.dir free.0 small free.1 in
    let apart : s.from ≢ free.0 = omega (arith, over.other) in
    let inside : s.from < length b =
    ⊎_elim
    (λ (e : s.from < length b). e)
    (λ (e : length b ≤ s.from). let none : at b s.from ≡ None = get_or_past b s.from None e in let some : at b s.from ≡ Some s.piece = fit.named in let wrong : true ≡ false = cc in absurd (true≢false wrong))
    (cases_lt s.from (length b)) in
    let left : at (moved b s.from free.0) s.from ≡ None = get_or-set_other (put b s.from None) free.0 s.from (at b s.from) None apart ∙ get_or-set_same b s.from None None inside in
    ap (λ c. at c s.from) (after_is b s free.0 free.1) ∙ (at-board_of (λ x. kept (moved b s.from free.0) x (at (moved b s.from free.0) x)) s.from small ∙ rw left refl)

-- so a single step is a turn
single_turn : (b : Board) (c : Color) (s : Step) → s.from < 64 → IsSingle b c s → IsTurn b c (s ∷ []) (after b s)
single_turn b c s small single = record {
  some = omega arith;
  few = omega arith;
  moves = single;
  leads = refl;
  changes = λ same.
      let none : at b s.from ≡ None = ap (λ x. at x s.from) (sym same) ∙ left_empty b s small single.fits in
      let some : at b s.from ≡ Some s.piece = single.fits.named in
      let wrong : true ≡ false = cc in true≢false wrong;
}

some_in_list : (qs : List Position) (q : Position) → stands_in qs q ≡ true → 0 < length qs
some_in_list [] q h = absurd (true≢false (sym h))
some_in_list (x ∷ xs) q h = omega arith

-- a piece at ease that goes leaves its side a turn
pub going_turn : (p : Position) (d : Dir) (n : ℕ) → length p.board ≡ 64 → n < 64 → goes_at_ease p.board p.side d n ≡ true → 0 < length (results p)
going_turn p d n size small goes =
    let step = going_single p.board p.side d n goes in
    let s = step_of n d step.0 in
    let c = after p.board s in
    some_in_list (results p) (position_of c p) (turns-reach p (s ∷ []) c size (single_turn p.board p.side s small step.1))

-- where nothing is barred all results are next positions
pub none_barred : (barred : List Position) (p : Position) → barred ≡ [] → 0 < length (results p) → 0 < length (next barred p)
none_barred barred p none some =
    let all : next barred p ≡ results p = ap (λ l. next l p) none ∙ keeps (results p) in rw all some where
      keeps : (qs : List Position) → filter (λ q. not (stands_in [] q)) qs ≡ qs
      keeps [] = refl
      keeps (q ∷ qs) = ap (λ l. q ∷ l) (keeps qs)
