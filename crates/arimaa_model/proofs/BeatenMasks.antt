-- Frozen pieces, pushers and weaker pieces as masks.
use Rattle.std.proofs.Common.{◌≡◌, ℕ, ◌&&◌, Bool, true, false, Option, None, Some, ◌⊎◌, inl, inr, ⊎_elim, subst, refl, sym}
use Rattle.std.specs.Prelude.{◌||◌, not, nat_lt}
use Rattle.std.proofs.lemmas.Bool.{and_right}
use Rattle.arimaa_board.proofs.Lemmas.Masks.{by_content}
use Rattle.arimaa_board.proofs.Lemmas.Friends.{beside_agree, friend_beside}
use Rattle.arimaa_board.specs.declared.piece.Color.{Color}
use Rattle.arimaa_board.specs.declared.piece.Color.TheVariants.{Gold, Silver}
use Rattle.arimaa_board.specs.declared.piece.Kind.{Kind}
use Rattle.arimaa_board.specs.declared.piece.Kind.TheVariants.{Rabbit, Cat, Dog, Horse, Camel, Elephant}
use Rattle.arimaa_board.specs.declared.piece.Piece.{Piece}
use Rattle.arimaa_board.specs.declared.board.Board.{Board}
use Rattle.arimaa_board.specs.Piece.{piece_of, other_color, strength}
use Rattle.arimaa_board.specs.Board.{at, same_color, holds_color, has_beside}
use Rattle.arimaa_board.specs.Masks.{passes, is_beside, holds_kind, holds_above, holds_below}
use Rattle.arimaa_board.specs.ColorLaws.{same_color-sym}
use Rattle.arimaa_model.specs.Frozen.{beats, passes_at, any_beside, is_held, is_frozen, is_unfrozen, is_beaten, is_beaten_kind}
use Rattle.arimaa_model.specs.Moves.{can_push, has_pusher, is_pushable}

enemy_color : (c d : Color) → same_color (other_color c) d ≡ not (same_color d c)
enemy_color Gold Gold = refl
enemy_color Gold Silver = refl
enemy_color Silver Gold = refl
enemy_color Silver Silver = refl

same_or_apart : (c d : Color) → (c ≡ d) ⊎ (same_color c d ≡ false)
same_or_apart Gold Gold = inl refl
same_or_apart Gold Silver = inr refl
same_or_apart Silver Gold = inr refl
same_or_apart Silver Silver = inl refl

-- none is stronger than an elephant
top : (o : Option Piece) → holds_above Elephant o ≡ false
top = by_content (λ o. holds_above Elephant o ≡ false) refl refl refl refl refl refl refl refl refl refl refl refl refl

-- of the five tests the one of the kind that stands there
chosen : (c : Color) (k : Kind) (t : Kind → Bool) → t Elephant ≡ false → (((((holds_kind Rabbit (Some (piece_of c k)) && t Rabbit) || (holds_kind Cat (Some (piece_of c k)) && t Cat)) || (holds_kind Dog (Some (piece_of c k)) && t Dog)) || (holds_kind Horse (Some (piece_of c k)) && t Horse)) || (holds_kind Camel (Some (piece_of c k)) && t Camel)) ≡ t k
chosen c Rabbit t none = elim (t Rabbit) as (λ v. ((((v || false) || false) || false) || false) ≡ v) [ true ↦ refl | false ↦ refl ]
chosen c Cat t none = elim (t Cat) as (λ v. (((v || false) || false) || false) ≡ v) [ true ↦ refl | false ↦ refl ]
chosen c Dog t none = elim (t Dog) as (λ v. ((v || false) || false) ≡ v) [ true ↦ refl | false ↦ refl ]
chosen c Horse t none = elim (t Horse) as (λ v. (v || false) ≡ v) [ true ↦ refl | false ↦ refl ]
chosen c Camel t none = refl
chosen c Elephant t none = sym none

module _ (b : Board) (test : ℕ → Bool) where
  -- whether a piece stands there that passes and is stronger than a kind
  abbrev is_stronger : Kind → ℕ → Bool
  is_stronger k m = test m && holds_above k (at b m)

  no_stronger : (n : ℕ) → is_beside (is_stronger Elephant) n ≡ false
  no_stronger n = beside_agree (passes (is_stronger Elephant)) (λ _. false) each n
    where
      each : (o : Option ℕ) → passes (is_stronger Elephant) o ≡ false
      each None = refl
      each (Some m) = and_right (test m) (holds_above Elephant (at b m)) (top (at b m))

  -- what the masks of the five weaker kinds say of a square
  abbrev is_beaten_of : ℕ → Option Piece → Bool
  is_beaten_of n o = ((((holds_kind Rabbit o && is_beside (is_stronger Rabbit) n) || (holds_kind Cat o && is_beside (is_stronger Cat) n)) || (holds_kind Dog o && is_beside (is_stronger Dog) n)) || (holds_kind Horse o && is_beside (is_stronger Horse) n)) || (holds_kind Camel o && is_beside (is_stronger Camel) n)

  beaten_content : (n : ℕ) (o : Option Piece) → is_beaten_of n o ≡ is_beaten b test n o
  beaten_content n None = refl
  beaten_content n (Some p) = chosen p.color p.kind (λ j. is_beside (is_stronger j) n) (no_stronger n)

  pub beaten_kinds : (n : ℕ) → ((((is_beaten_kind b test Rabbit n || is_beaten_kind b test Cat n) || is_beaten_kind b test Dog n) || is_beaten_kind b test Horse n) || is_beaten_kind b test Camel n) ≡ is_beaten b test n (at b n)
  beaten_kinds n = beaten_content n (at b n)

module _ (b : Board) where
  -- an enemy of a piece that is stronger
  stronger_here : (p : Piece) (m : ℕ) (o : Option Piece) → at b m ≡ o → (holds_color (other_color p.color) (at b m) && holds_above p.kind (at b m)) ≡ passes_at b (λ q. beats q p) (Some m)
  stronger_here p m None e = rw e refl
  stronger_here p m (Some q) e = rw (e, enemy_color p.color q.color) refl

  pub enemy_beside : (p : Piece) (n : ℕ) → is_beside (λ m. holds_color (other_color p.color) (at b m) && holds_above p.kind (at b m)) n ≡ any_beside b n (λ q. beats q p)
  enemy_beside p n = beside_agree (passes (λ m. holds_color (other_color p.color) (at b m) && holds_above p.kind (at b m))) (passes_at b (λ q. beats q p)) each n
    where
      each : (o : Option ℕ) → passes (λ m. holds_color (other_color p.color) (at b m) && holds_above p.kind (at b m)) o ≡ passes_at b (λ q. beats q p) o
      each None = refl
      each (Some m) = stronger_here p m (at b m) refl

  -- an enemy of a piece that is weaker
  weaker_content : (p : Piece) (m : ℕ) (o : Option Piece) → at b m ≡ o → (holds_color (other_color p.color) (at b m) && holds_below p.kind (at b m)) ≡ passes_at b (λ q. beats p q) (Some m)
  weaker_content p m None e = rw e refl
  weaker_content p m (Some q) e = rw (e, enemy_color p.color q.color, same_color-sym q.color p.color) refl

  pub weaker_here : (p : Piece) (m : ℕ) → (holds_color (other_color p.color) (at b m) && holds_below p.kind (at b m)) ≡ passes_at b (λ q. beats p q) (Some m)
  weaker_here p m = weaker_content p m (at b m) refl

  pub weaker_beside : (p : Piece) (n : ℕ) → is_beside (λ m. passes_at b (λ q. beats p q) (Some m)) n ≡ any_beside b n (λ q. beats p q)
  weaker_beside p n = beside_agree (passes (λ m. passes_at b (λ q. beats p q) (Some m))) (passes_at b (λ q. beats p q)) each n
    where
      each : (o : Option ℕ) → passes (λ m. passes_at b (λ q. beats p q) (Some m)) o ≡ passes_at b (λ q. beats p q) o
      each None = refl
      each (Some m) = refl

  swapped : (x y : Bool) → (not x && y) ≡ (y && not x)
  swapped true true = refl
  swapped true false = refl
  swapped false true = refl
  swapped false false = refl

  module _ (c : Color) (n : ℕ) where
    -- what the masks of the frozen pieces of a colour say of a square
    abbrev is_marked : Option Piece → Bool
    is_marked o = (holds_color c o && not (is_beside (λ m. holds_color c (at b m)) n)) && is_beaten b (λ m. holds_color (other_color c) (at b m)) n o

    own : (k : Kind) → is_marked (Some (piece_of c k)) ≡ (holds_color c (Some (piece_of c k)) && is_held b n (piece_of c k))
    unfolding is_held
    own k = rw (enemy_beside (piece_of c k) n, friend_beside b c n) (alike c (any_beside b n (λ q. beats q (piece_of c k))) (has_beside b n c))
      where
        alike : (d : Color) (t f : Bool) → ((same_color d d && not f) && t) ≡ (same_color d d && (t && not f))
        alike Gold t f = swapped f t
        alike Silver t f = swapped f t

    stands : (d : Color) (k : Kind) → is_marked (Some (piece_of d k)) ≡ (holds_color c (Some (piece_of d k)) && is_held b n (piece_of d k))
    stands d k =
        ⊎_elim
        (λ (same : c ≡ d). subst (λ x. is_marked (Some (piece_of x k)) ≡ (holds_color c (Some (piece_of x k)) && is_held b n (piece_of x k))) same (own k))
        (λ apart. rw apart refl)
        (same_or_apart c d)

    marked_here : (o : Option Piece) → at b n ≡ o → is_marked o ≡ (holds_color c (at b n) && is_frozen b n)
    marked_here None e = rw e refl
    marked_here (Some p) e = rw e (stands p.color p.kind)

    pub frozen_marked : is_marked (at b n) ≡ (holds_color c (at b n) && is_frozen b n)
    frozen_marked = marked_here (at b n) refl

    unfrozen_parts : (x y : Bool) → (x && not (x && y)) ≡ (x && not y)
    unfrozen_parts true y = refl
    unfrozen_parts false y = refl

    pub unfrozen_marked : (holds_color c (at b n) && not (holds_color c (at b n) && is_frozen b n)) ≡ is_unfrozen b c n
    unfrozen_marked = unfrozen_parts (holds_color c (at b n)) (is_frozen b n)

  turned_and : (x y z : Bool) → ((x && z) && y) ≡ ((x && y) && z)
  turned_and true true true = refl
  turned_and true true false = refl
  turned_and true false true = refl
  turned_and true false false = refl
  turned_and false y z = refl

  -- a piece that can push another
  pusher_content : (p : Piece) (m : ℕ) (o : Option Piece) → at b m ≡ o → (is_unfrozen b (other_color p.color) m && holds_above p.kind (at b m)) ≡ can_push b p (Some m)
  pusher_content p m None e = rw e refl
  pusher_content p m (Some q) e = rw (e, e, enemy_color p.color q.color) (turned_and (not (same_color q.color p.color)) (nat_lt (strength p.kind) (strength q.kind)) (not (is_held b m q)))

  pub pusher_here : (p : Piece) (m : ℕ) → (is_unfrozen b (other_color p.color) m && holds_above p.kind (at b m)) ≡ can_push b p (Some m)
  pusher_here p m = pusher_content p m (at b m) refl

  pub pusher_beside : (p : Piece) (n : ℕ) → is_beside (λ m. can_push b p (Some m)) n ≡ has_pusher b p n
  unfolding has_pusher
  pusher_beside p n = beside_agree (passes (λ m. can_push b p (Some m))) (can_push b p) each n
    where
      each : (o : Option ℕ) → passes (λ m. can_push b p (Some m)) o ≡ can_push b p o
      each None = refl
      each (Some m) = refl

  able_beside : (p : Piece) (n : ℕ) → is_beside (λ m. is_unfrozen b (other_color p.color) m && holds_above p.kind (at b m)) n ≡ has_pusher b p n
  unfolding has_pusher
  able_beside p n = beside_agree (passes (λ m. is_unfrozen b (other_color p.color) m && holds_above p.kind (at b m))) (can_push b p) each n
    where
      each : (o : Option ℕ) → passes (λ m. is_unfrozen b (other_color p.color) m && holds_above p.kind (at b m)) o ≡ can_push b p o
      each None = refl
      each (Some m) = pusher_here p m

  pushable_of : (side d : Color) (k : Kind) (n : ℕ) → (same_color (other_color side) d && is_beaten b (is_unfrozen b side) n (Some (piece_of d k))) ≡ (not (same_color d side) && has_pusher b (piece_of d k) n)
  pushable_of Gold Gold k n = refl
  pushable_of Gold Silver k n = able_beside (piece_of Silver k) n
  pushable_of Silver Gold k n = able_beside (piece_of Gold k) n
  pushable_of Silver Silver k n = refl

  pub pushable_content : (side : Color) (n : ℕ) (o : Option Piece) → (holds_color (other_color side) o && is_beaten b (is_unfrozen b side) n o) ≡ is_pushable b side n o
  pushable_content side n None = refl
  pushable_content side n (Some p) = pushable_of side p.color p.kind n
