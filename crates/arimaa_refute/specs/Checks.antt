-- What the answer of the checker means.
use Rattle.std.specs.Prelude.{◌≡◌, ℕ, ◌+◌, ◌<◌, ◌≤◌, ⊤, ◌⊎◌, List, [], ◌∷◌, ◌++◌, length, false, None, Some}
use Rattle.std.specs.List.{Contains}
use Rattle.arimaa_board.specs.declared.piece.Color.{Color}
use Rattle.arimaa_board.specs.Piece.{other_color}
use Rattle.arimaa_board.specs.declared.position.Position.{Position}
use Rattle.arimaa_model.specs.DecidedPositions.{decided}
use Rattle.arimaa_model.specs.Results.{stands_in, next}
use Rattle.arimaa_model.specs.Wins.{wins}
use Rattle.arimaa_strategy.specs.Faults.{led_to}
use Rattle.arimaa_refute.specs.declared.escape.Escape.{Escape}
use Rattle.arimaa_refute.specs.declared.verify_answer.Flaw.{Flaw}
use Rattle.arimaa_refute.specs.declared.verify_answer.Flaw.TheVariants as flaw
use Rattle.arimaa_refute.specs.declared.verify_answer.Verified.{Verified}
use Rattle.arimaa_refute.specs.declared.verify_answer.Verified.TheVariants as verified
use Rattle.arimaa_refute.specs.Escapes.{entry_of, is_root_held, Holds}
use Rattle.arimaa_refute.specs.OwnEscapes.{escapes_of}
use Rattle.arimaa_refute.specs.Flaws.{positions_of, flaw_of, AreFlawless}
use Rattle.arimaa_refute.specs.Text.{HasDepth}

-- an escape from the attacker a: the defender is to move, and the depth is from 1 to 20
pub record IsFrom (a : Color) (e : Escape) : Type 0 where
  pub side : e.position.side ≡ other_color a
  pub depth : HasDepth e

-- a fact, where the escapes are accepted
abbrev pub IfAccepted : Verified → Type 0 → Type 0
IfAccepted verified.Accepted P = P
IfAccepted (verified.Refused entry why) P = ⊤
IfAccepted (verified.Crowded q) P = ⊤

-- a fact of the escape and its flaw, where the escapes are refused
abbrev pub IfRefused : Verified → (ℕ → Flaw → Type 0) → Type 0
IfRefused verified.Accepted P = ⊤
IfRefused (verified.Refused entry why) P = P entry why
IfRefused (verified.Crowded q) P = ⊤

-- a fact of the position, where there was too little room
abbrev pub IfCrowded : Verified → (Position → Type 0) → Type 0
IfCrowded verified.Accepted P = ⊤
IfCrowded (verified.Refused entry why) P = ⊤
IfCrowded (verified.Crowded q) P = P q

-- this escape, counted from 1, has this flaw, and no escape before it has one
pub record IsFirstFlaw (a : Color) (barred : List Position) (c : List Escape) (number : ℕ)
    (why : Flaw) : Type 0 where
  pub earlier : List Escape
  pub escape : Escape
  pub later : List Escape
  pub split : c ≡ earlier ++ escape ∷ later
  pub counted : number ≡ length earlier + 1
  pub good : AreFlawless a barred c [] earlier
  pub faulty : flaw_of a barred c earlier escape ≡ Some why

-- the root is not held for n turns, as entry 0, and no escape has a flaw
pub record IsRootFlaw (a : Color) (barred : List Position) (n : ℕ) (c : List Escape)
    (p : Position) (number : ℕ) (why : Flaw) : Type 0 where
  pub zero : number ≡ 0
  pub root : why ≡ flaw.Root
  pub good : AreFlawless a barred c [] c
  pub open_root : is_root_held a barred c n p ≡ false

-- the replies to q are asked for: an escape of depth above 1 leads to it, or it is the root with
-- the attacker to move and n is above 0; and it is undecided
pub data AreAsked (a : Color) (barred : List Position) (n : ℕ) (c : List Escape) (p : Position)
    : Position → Type 0 where
  escape : (e : Escape) (q : Position) → Contains c e → 1 < e.depth
      → led_to barred (entry_of e) ≡ Some q → decided q ≡ None
      → AreAsked a barred n c p q
  root : p.side ≡ a → 1 ≤ n → decided p ≡ None → AreAsked a barred n c p p

-- there is room for the replies to each position whose replies are asked for
abbrev pub HasRoom : Color → List Position → ℕ → ℕ → List Escape → Position → Type 0
HasRoom a barred n room c p =
    (q : Position) → AreAsked a barred n c p q → length (next barred q) ≤ room

-- an escape of depth above 1 leads to q, whose replies are asked for before any flaw is found
pub record IsFirstAsked (a : Color) (barred : List Position) (c : List Escape)
    (q : Position) : Type 0 where
  pub earlier : List Escape
  pub escape : Escape
  pub later : List Escape
  pub split : c ≡ earlier ++ escape ∷ later
  pub good : AreFlawless a barred c [] earlier
  pub once : stands_in (positions_of earlier) escape.position ≡ false
  pub undecided : decided escape.position ≡ None
  pub deep : 1 < escape.depth
  pub leads : led_to barred (entry_of escape) ≡ Some q
  pub open_result : decided q ≡ None

-- the replies to the root are asked for, and no escape has a flaw
pub record IsRootAsked (a : Color) (barred : List Position) (n : ℕ) (c : List Escape)
    (p q : Position) : Type 0 where
  pub root : q ≡ p
  pub good : AreFlawless a barred c [] c
  pub side : p.side ≡ a
  pub deep : 1 ≤ n
  pub undecided : decided p ≡ None

-- what an answer to the escapes c of the root p says, where n turns are asked about and lists have
-- so much room
pub record IsVerified (a : Color) (barred : List Position) (n room : ℕ) (c : List Escape)
    (p : Position) (answer : Verified) : Type 0 where
  -- accepted escapes hold the root
  pub accepted : IfAccepted answer (Holds a barred n c p)
  -- so the attacker does not win it within n turns
  pub lost : IfAccepted answer (wins a barred n p ≡ false)
  -- refused ones have this first flaw
  pub refused : IfRefused answer
      (λ number why. IsFirstFlaw a barred c number why ⊎ IsRootFlaw a barred n c p number why)
  -- the replies to a position are too many, and are asked for before any flaw is found
  pub crowded : IfCrowded answer
      (λ q. (room < length (next barred q))
      × (IsFirstAsked a barred c q ⊎ IsRootAsked a barred n c p q))
  -- where there is room for all replies that are asked for, escapes that hold the root are accepted
  pub complete : HasRoom a barred n room c p → Holds a barred n c p → answer ≡ verified.Accepted
  -- and so are the own escapes of a root that is not won within n turns
  pub own : wins a barred n p ≡ false → n ≤ 20 → c ≡ escapes_of a barred n p
      → HasRoom a barred n room c p → answer ≡ verified.Accepted
