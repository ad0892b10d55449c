-- The masks of what may move say which steps a state accepts.
use Rattle.std.proofs.Common.{◌≡◌, ℕ, ◌<◌, ◌≤◌, ◌&&◌, Bool, true, false, cond, Option, None, Some, refl, sym, ◌∙◌, ap, arith, eq-eqb}
use Rattle.std.specs.Prelude.{◌||◌, not, nat_le, is_some, is_none, is_ok}
use Rattle.std.proofs.lemmas.Bool.Decides.{nat_tests}
use Rattle.std.proofs.Math.Bool.{or-false, and_comm, and-true}
use Rattle.arimaa_board.specs.declared.piece.Color.{Color}
use Rattle.arimaa_board.specs.declared.piece.Color.TheVariants.{Gold, Silver}
use Rattle.arimaa_board.specs.declared.piece.Kind.{Kind}
use Rattle.arimaa_board.specs.declared.piece.Kind.TheVariants.{Rabbit, Cat, Dog, Horse, Camel, Elephant}
use Rattle.arimaa_board.specs.declared.piece.Piece.{Piece}
use Rattle.arimaa_board.specs.declared.square.Dir.{Dir}
use Rattle.arimaa_board.specs.declared.square.Dir.TheVariants.{North, East, South, West}
use Rattle.arimaa_board.specs.declared.board.Board.{Board}
use Rattle.arimaa_board.specs.declared.position.Step.{Step}
use Rattle.arimaa_board.specs.Piece.{piece_of, code_of}
use Rattle.arimaa_board.specs.Square.{next_square}
use Rattle.arimaa_board.specs.Board.{at, same_color, holds}
use Rattle.arimaa_board.specs.Masks.{IsMaskOf, passes}
use Rattle.arimaa_model.specs.Frozen.{beats, is_frozen, is_held}
use Rattle.arimaa_model.specs.Moves.{is_free, fits, is_rabbit, is_back, goes_back, is_single, is_half, has_pusher, enters}
use Rattle.arimaa_model.specs.Faults.{unless}
use Rattle.arimaa_model.specs.Results.{step_of}
use Rattle.arimaa_step.specs.declared.state.TurnState.{TurnState}
use Rattle.arimaa_step.specs.Next.{could_push, completes_push, completes_pull, cuts_next, next_answer}
use Rattle.arimaa_step.specs.declared.accepted_steps.AcceptedSteps.{AcceptedSteps}
use Rattle.arimaa_step.specs.AcceptedSteps.{AreAccepted, AreEnding, accepts, accepts_content, ends_by, ends_content, may_go, may_be_pushed, is_left, may_push, may_be_pulled}

-- laws of tests
pub and_true : (x : Bool) → (x && true) ≡ x
and_true = and-true

pub and_false : (x : Bool) → (x && false) ≡ false
and_false true = refl
and_false false = refl

not_turned : (x y g : Bool) → g ≡ y → (x && not y) ≡ (x && not g)
not_turned x y g e = ap (λ v. x && not v) (sym e)

last_first : (q f l : Bool) → ((q && f) && l) ≡ (f && (l && q))
last_first true true true = refl
last_first true true false = refl
last_first true false l = refl
last_first false true true = refl
last_first false true false = refl
last_first false false l = refl

turned_or : (a h e : Bool) → ((a || h) || e) ≡ ((a || e) || h)
turned_or true h e = refl
turned_or false true true = refl
turned_or false true false = refl
turned_or false false true = refl
turned_or false false false = refl

any_move : (f c a h u w pu pl : Bool) → pu ≡ (f && u) → pl ≡ (f && w) → (f && ((c && a || c && h) || (u || w))) ≡ ((c && (f && a) || (pu || pl)) || c && (f && h))
any_move false false a h u w pu pl e d = rw (e, d) refl
any_move false true a h u w pu pl e d = rw (e, d) refl
any_move true false a h u w pu pl e d = rw (e, d) (sym (or-false (u || w)))
any_move true true a h u w pu pl e d = rw (e, d) (turned_or a h (u || w))

any_end : (f c a u w pu pl : Bool) → pu ≡ (f && u) → pl ≡ (f && w) → (f && (c && a || (u || w))) ≡ (c && (f && a) || (pu || pl))
any_end false false a u w pu pl e d = rw (e, d) refl
any_end false true a u w pu pl e d = rw (e, d) refl
any_end true c a u w pu pl e d = rw (e, d) refl

absorbed : (x y : Bool) → ((x || y) && x) ≡ x
absorbed true y = refl
absorbed false true = refl
absorbed false false = refl

left_and : (f o z g : Bool) → (((f && o) && z) && g) ≡ (f && ((o && z) && g))
left_and true o z g = refl
left_and false o z g = refl

half_and : (f o h : Bool) → ((f && o) && h) ≡ (f && (o && h))
half_and true o h = refl
half_and false o h = refl

-- a square is free where nothing stands on it
free_is : (b : Board) (t : Option ℕ) → passes (λ m. not (is_some (at b m))) t ≡ is_free b t
free_is b None = refl
free_is b (Some m) = here (at b m)
  where
    here : (o : Option Piece) → not (is_some o) ≡ is_none o
    here None = refl
    here (Some p) = refl

-- a square is entered where the step's target is that square
enters_is : (left : ℕ × Piece) (t : Option ℕ) → passes (is_left (Some left)) t ≡ enters left.0 t
enters_is left None = refl
enters_is left (Some m) = refl

never_left : (t : Option ℕ) → passes (is_left None) t ≡ false
never_left None = refl
never_left (Some m) = refl

holds_self : (p : Piece) → holds p (Some p) ≡ true
holds_self p = eq-eqb (code_of p) (code_of p) refl

-- a rabbit of the side, of the pieces of the side
rabbit_of : (side : Color) (k : Kind) → holds (piece_of side Rabbit) (Some (piece_of side k)) ≡ is_rabbit k
rabbit_of Gold Rabbit = refl
rabbit_of Gold Cat = refl
rabbit_of Gold Dog = refl
rabbit_of Gold Horse = refl
rabbit_of Gold Camel = refl
rabbit_of Gold Elephant = refl
rabbit_of Silver Rabbit = refl
rabbit_of Silver Cat = refl
rabbit_of Silver Dog = refl
rabbit_of Silver Horse = refl
rabbit_of Silver Camel = refl
rabbit_of Silver Elephant = refl

-- what the masks say of a single step is what its test says
going_is : (side d : Color) (k : Kind) (dir : Dir) (z : Bool) → ((same_color side d && not z) && not (is_back side dir && holds (piece_of side Rabbit) (Some (piece_of d k)))) ≡ ((same_color d side && not z) && not (is_rabbit k && is_back d dir))
going_is Gold Gold k dir z = not_turned (not z) (is_back Gold dir && holds (piece_of Gold Rabbit) (Some (piece_of Gold k))) (is_rabbit k && is_back Gold dir) (and_comm (is_rabbit k) (is_back Gold dir) ∙ ap (λ v. is_back Gold dir && v) (sym (rabbit_of Gold k)))
going_is Gold Silver k dir z = refl
going_is Silver Gold k dir z = refl
going_is Silver Silver k dir z = not_turned (not z) (is_back Silver dir && holds (piece_of Silver Rabbit) (Some (piece_of Silver k))) (is_rabbit k && is_back Silver dir) (and_comm (is_rabbit k) (is_back Silver dir) ∙ ap (λ v. is_back Silver dir && v) (sym (rabbit_of Silver k)))

cut_and : (c x y : Bool) → ((c && x) && not y) ≡ (c && (x && not y))
cut_and true x y = refl
cut_and false x y = refl

unless_none : {E V : Type 0} (x : Bool) (e : E) (v : V) → is_ok (unless (cond x None (Some e)) v) ≡ x
unless_none true e v = refl
unless_none false e v = refl

-- the answer is Ok where a step is a move or begins or ends one
ok_is : (st : TurnState) (s : Step) → st.count < 4 → is_ok (next_answer st s) ≡ (cuts_next st s || st.cut && is_half st.board st.start.side s)
unfolding next_answer
ok_is st s few =
    let early : nat_le 4 st.count ≡ false = grind (arith, nat_tests) in
    rw early (unless_none (cuts_next st s || st.cut && is_half st.board st.start.side s) _ _)

module _ (st : TurnState) (dir : Dir) (n : ℕ) (p : Piece) (e : at st.board n ≡ Some p) where
  abbrev b : Board
  b = st.board

  abbrev side : Color
  side = st.start.side

  abbrev s : Step
  s = step_of n dir p

  abbrev free : Bool
  free = is_free b (next_square n dir)

  fits_is : fits b s ≡ free
  unfolding fits
  fits_is = rw (e, holds_self p) refl

  single_is : is_single b side s ≡ (free && ((same_color p.color side && not (is_frozen b n)) && not (goes_back s)))
  unfolding is_single
  single_is = rw fits_is (left_and free (same_color p.color side) (not (is_frozen b n)) (not (goes_back s)))

  half_is : is_half b side s ≡ (free && (not (same_color p.color side) && has_pusher b p n))
  unfolding is_half
  half_is = rw fits_is (half_and free (not (same_color p.color side)) (has_pusher b p n))

  could_is : (left : ℕ × Piece) → could_push st left.1 s ≡ may_push st (Some left) n
  could_is left = rw (e, e) refl

  push_is : (open_push : Option (ℕ × Piece)) → completes_push st s open_push ≡ (free && (passes (is_left open_push) (next_square n dir) && may_push st open_push n))
  push_is None = rw never_left (sym (and_false free))
  push_is (Some left) = rw (fits_is, could_is left, enters_is left (next_square n dir)) (last_first (may_push st (Some left) n) free (enters left.0 (next_square n dir)))

  pull_is : (open_pull : Option (ℕ × Piece)) → completes_pull st s open_pull ≡ (free && (passes (is_left open_pull) (next_square n dir) && may_be_pulled b open_pull n))
  pull_is None = rw never_left (sym (and_false free))
  pull_is (Some left) = rw (fits_is, e, enters_is left (next_square n dir)) (last_first (beats left.1 p) free (enters left.0 (next_square n dir)))

-- what the masks say of a square, seen from what stands there
abbrev pub is_marked : TurnState → Dir → ℕ → Option Piece → Bool
is_marked st dir n o =
    (is_some o && passes (λ m. not (is_some (at st.board m))) (next_square n dir))
    && (((may_go st n && not (is_back st.start.side dir && holds (piece_of st.start.side Rabbit) (at st.board n))) || may_be_pushed st n)
    || ((passes (is_left st.open_push) (next_square n dir) && may_push st st.open_push n) || (passes (is_left st.open_pull) (next_square n dir) && may_be_pulled st.board st.open_pull n)))

-- what the masks say of a square from which a step ends a move, seen from what stands there
abbrev pub is_ending : TurnState → Dir → ℕ → Option Piece → Bool
is_ending st dir n o =
    (is_some o && passes (λ m. not (is_some (at st.board m))) (next_square n dir))
    && ((may_go st n && not (is_back st.start.side dir && holds (piece_of st.start.side Rabbit) (at st.board n)))
    || ((passes (is_left st.open_push) (next_square n dir) && may_push st st.open_push n) || (passes (is_left st.open_pull) (next_square n dir) && may_be_pulled st.board st.open_pull n)))

module _ (st : TurnState) (dir : Dir) (n : ℕ) (few : st.count < 4) where
  ending_piece : (p : Piece) → at st.board n ≡ Some p → is_ending st dir n (Some p) ≡ ends_content st dir n (Some p)
  ending_piece p e =
      let side : Color = st.start.side in
      let s : Step = step_of n dir p in
      let free : Bool = is_free st.board (next_square n dir) in
      let alone : Bool = (same_color p.color side && not (is_frozen st.board n)) && not (goes_back s) in
      let going : (may_go st n && not (is_back side dir && holds (piece_of side Rabbit) (at st.board n))) ≡ (st.cut && alone) =
      rw e (cut_and st.cut (same_color side p.color && not (is_held st.board n p)) (is_back side dir && holds (piece_of side Rabbit) (Some p)) ∙ ap (λ v. st.cut && v) (going_is side p.color p.kind dir (is_held st.board n p))) in
      let pushes : Bool = passes (is_left st.open_push) (next_square n dir) && may_push st st.open_push n in
      let pulls : Bool = passes (is_left st.open_pull) (next_square n dir) && may_be_pulled st.board st.open_pull n in
      let push : Bool = completes_push st s st.open_push in
      let pull : Bool = completes_pull st s st.open_pull in
      let masks : is_ending st dir n (Some p) ≡ (free && (st.cut && alone || (pushes || pulls))) =
      ap (λ v. v && ((may_go st n && not (is_back side dir && holds (piece_of side Rabbit) (at st.board n))) || (pushes || pulls))) (free_is st.board (next_square n dir))
      ∙ ap (λ v. free && (v || (pushes || pulls))) going in
      let cuts : cuts_next st s ≡ (st.cut && (free && alone) || (push || pull)) =
      ap (λ v. st.cut && v || (push || pull)) (single_is st dir n p e) in
      let ok : ends_content st dir n (Some p) ≡ cuts_next st s =
      ap (λ v. v && cuts_next st s) (ok_is st s few) ∙ absorbed (cuts_next st s) (st.cut && is_half st.board side s) in
      masks
      ∙ (any_end free st.cut alone pushes pulls push pull (push_is st dir n p e st.open_push) (pull_is st dir n p e st.open_pull)
      ∙ (sym cuts ∙ sym ok))

  ending_content : (o : Option Piece) → at st.board n ≡ o → is_ending st dir n o ≡ ends_content st dir n o
  ending_content None e = refl
  ending_content (Some p) e = ending_piece p e

  pub ending_marked : is_ending st dir n (at st.board n) ≡ ends_by st dir n
  ending_marked = ending_content (at st.board n) refl

module _ (st : TurnState) (dir : Dir) (n : ℕ) (few : st.count < 4) where
  marked_piece : (p : Piece) → at st.board n ≡ Some p → is_marked st dir n (Some p) ≡ is_ok (next_answer st (step_of n dir p))
  marked_piece p e =
      let side : Color = st.start.side in
      let free : Bool = is_free st.board (next_square n dir) in
      let alone : Bool = (same_color p.color side && not (is_frozen st.board n)) && not (goes_back (step_of n dir p)) in
      let begins : Bool = not (same_color p.color side) && has_pusher st.board p n in
      let going : (may_go st n && not (is_back side dir && holds (piece_of side Rabbit) (at st.board n))) ≡ (st.cut && alone) =
      rw e (cut_and st.cut (same_color side p.color && not (is_held st.board n p)) (is_back side dir && holds (piece_of side Rabbit) (Some p)) ∙ ap (λ v. st.cut && v) (going_is side p.color p.kind dir (is_held st.board n p))) in
      let pushed : may_be_pushed st n ≡ (st.cut && begins) = rw e refl in
      let pushes : Bool = passes (is_left st.open_push) (next_square n dir) && may_push st st.open_push n in
      let pulls : Bool = passes (is_left st.open_pull) (next_square n dir) && may_be_pulled st.board st.open_pull n in
      let push : Bool = completes_push st (step_of n dir p) st.open_push in
      let pull : Bool = completes_pull st (step_of n dir p) st.open_pull in
      let masks : is_marked st dir n (Some p) ≡ (free && ((st.cut && alone || st.cut && begins) || (pushes || pulls))) =
      ap (λ v. v && (((may_go st n && not (is_back side dir && holds (piece_of side Rabbit) (at st.board n))) || may_be_pushed st n) || (pushes || pulls))) (free_is st.board (next_square n dir))
      ∙ (ap (λ v. free && ((v || may_be_pushed st n) || (pushes || pulls))) going
      ∙ ap (λ v. free && ((st.cut && alone || v) || (pushes || pulls))) pushed) in
      let moves : (cuts_next st (step_of n dir p) || st.cut && is_half st.board side (step_of n dir p)) ≡ ((st.cut && (free && alone) || (push || pull)) || st.cut && (free && begins)) =
      ap (λ v. (st.cut && v || (push || pull)) || st.cut && is_half st.board side (step_of n dir p)) (single_is st dir n p e)
      ∙ ap (λ v. (st.cut && (free && alone) || (push || pull)) || st.cut && v) (half_is st dir n p e) in
      masks
      ∙ (any_move free st.cut alone begins pushes pulls push pull (push_is st dir n p e st.open_push) (pull_is st dir n p e st.open_pull)
      ∙ (sym moves ∙ sym (ok_is st (step_of n dir p) few)))

  marked_content : (o : Option Piece) → at st.board n ≡ o → is_marked st dir n o ≡ accepts_content st dir n o
  marked_content None e = refl
  marked_content (Some p) e = marked_piece p e

  pub marked : is_marked st dir n (at st.board n) ≡ accepts st dir n
  marked = marked_content (at st.board n) refl

-- a state with four steps accepts none
full_content : (st : TurnState) (dir : Dir) (n : ℕ) → nat_le 4 st.count ≡ true → (o : Option Piece) → accepts_content st dir n o ≡ false
unfolding next_answer
full_content st dir n late None = refl
full_content st dir n late (Some p) = rw late refl

pub full_refuses : (st : TurnState) (dir : Dir) (n : ℕ) → 4 ≤ st.count → accepts st dir n ≡ false
full_refuses st dir n full = let late : nat_le 4 st.count ≡ true = grind (arith, nat_tests) in full_content st dir n late (at st.board n)

full_content_ends : (st : TurnState) (dir : Dir) (n : ℕ) → nat_le 4 st.count ≡ true → (o : Option Piece) → ends_content st dir n o ≡ false
unfolding next_answer
full_content_ends st dir n late None = refl
full_content_ends st dir n late (Some p) = rw late refl

pub full_never_ends : (st : TurnState) (dir : Dir) (n : ℕ) → 4 ≤ st.count → ends_by st dir n ≡ false
full_never_ends st dir n full = let late : nat_le 4 st.count ≡ true = grind (arith, nat_tests) in full_content_ends st dir n late (at st.board n)

pub ends_by_direction : (st : TurnState) (steps : AcceptedSteps) → IsMaskOf (ends_by st North) steps.north → IsMaskOf (ends_by st East) steps.east → IsMaskOf (ends_by st South) steps.south → IsMaskOf (ends_by st West) steps.west → AreEnding st steps
ends_by_direction st steps n e s w North = n
ends_by_direction st steps n e s w East = e
ends_by_direction st steps n e s w South = s
ends_by_direction st steps n e s w West = w

pub by_direction : (st : TurnState) (steps : AcceptedSteps) → IsMaskOf (accepts st North) steps.north → IsMaskOf (accepts st East) steps.east → IsMaskOf (accepts st South) steps.south → IsMaskOf (accepts st West) steps.west → AreAccepted st steps
by_direction st steps n e s w North = n
by_direction st steps n e s w East = e
by_direction st steps n e s w South = s
by_direction st steps n e s w West = w
