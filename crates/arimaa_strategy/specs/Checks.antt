-- What the answer of the checker means.
use Rattle.std.specs.Prelude.{◌≡◌, ◌≢◌, ℕ, ◌+◌, ◌<◌, ◌≤◌, ⊤, ◌⊎◌, List, [], ◌∷◌, ◌++◌, length, map, None, Some, IsTrue}
use Rattle.std.specs.List.{Contains}
use Rattle.arimaa_board.specs.declared.piece.Color.{Color}
use Rattle.arimaa_board.specs.declared.position.Position.{Position}
use Rattle.arimaa_model.specs.DecidedPositions.{decided}
use Rattle.arimaa_model.specs.Results.{next}
use Rattle.arimaa_model.specs.Wins.{wins}
use Rattle.arimaa_model.specs.Game.{barred_by, present}
use Rattle.arimaa_model.specs.Ranks.{IsRank}
use Rattle.arimaa_model.specs.Strategies.{find_entry, strategy_of}
use Rattle.arimaa_forced.specs.declared.entry.Entry.{Entry}
use Rattle.arimaa_forced.specs.Acceptance.{root_rank}
use Rattle.arimaa_forced.specs.Entries.{AcceptsEntries, entry_with_marks}
use Rattle.arimaa_forced.specs.Play.{WinsEveryPlay}
use Rattle.arimaa_strategy.specs.declared.check_answer.Why.{Why}
use Rattle.arimaa_strategy.specs.declared.check_answer.Checked.{Checked}
use Rattle.arimaa_strategy.specs.declared.check_answer.Checked.TheVariants as checked
use Rattle.arimaa_strategy.specs.Entries.{plan_of}
use Rattle.arimaa_strategy.specs.Faults.{led_to, fault_of, root_fault, AreFaultless}

-- a fact of the rank, where the strategy is accepted
abbrev pub IfAccepted : Checked → (ℕ → Type 0) → Type 0
IfAccepted (checked.Accepted rank) P = P rank
IfAccepted (checked.Refused entry why) P = ⊤
IfAccepted (checked.Crowded q) P = ⊤

-- a fact of the entry and its fault, where the strategy is refused
abbrev pub IfRefused : Checked → (ℕ → Why → Type 0) → Type 0
IfRefused (checked.Accepted rank) P = ⊤
IfRefused (checked.Refused entry why) P = P entry why
IfRefused (checked.Crowded q) P = ⊤

-- a fact of the position, where there was too little room
abbrev pub IfCrowded : Checked → (Position → Type 0) → Type 0
IfCrowded (checked.Accepted rank) P = ⊤
IfCrowded (checked.Refused entry why) P = ⊤
IfCrowded (checked.Crowded q) P = P q

-- this entry, counted from 1, has this fault, and no entry before it has one
pub record IsFirstFault (a : Color) (barred : List Position) (s : List Entry) (number : ℕ)
    (why : Why) : Type 0 where
  pub earlier : List Entry
  pub entry : Entry
  pub later : List Entry
  pub split : s ≡ earlier ++ entry ∷ later
  pub counted : number ≡ length earlier + 1
  pub good : AreFaultless a barred s [] earlier
  pub faulty : fault_of a barred s earlier entry ≡ Some why

-- the root has this fault, as entry 0, and no entry has one
pub record IsRootFault (a : Color) (barred : List Position) (n : ℕ) (s : List Entry) (p : Position)
    (number : ℕ) (why : Why) : Type 0 where
  pub zero : number ≡ 0
  pub good : AreFaultless a barred s [] s
  pub faulty : root_fault a barred n s p ≡ Some why

-- the replies to q are asked for: an entry leads to it, or it is the root with the other side to
-- move; and it is undecided
pub data AreAsked (a : Color) (barred : List Position) (s : List Entry) (p : Position) : Position
    → Type 0 where
  entry : (e : Entry) (q : Position) → Contains s e → led_to barred e ≡ Some q → decided q ≡ None
      → AreAsked a barred s p q
  root : p.side ≢ a → decided p ≡ None → AreAsked a barred s p p

-- there is room for the replies to each position whose replies are asked for
abbrev pub HasRoom : Color → List Position → ℕ → List Entry → Position → Type 0
HasRoom a barred room s p = (q : Position) → AreAsked a barred s p q → length (next barred q) ≤ room

-- an entry leads to q, whose replies are asked for before any fault is found
pub record IsFirstAsked (a : Color) (barred : List Position) (s : List Entry)
    (q : Position) : Type 0 where
  pub earlier : List Entry
  pub entry : Entry
  pub later : List Entry
  pub split : s ≡ earlier ++ entry ∷ later
  pub good : AreFaultless a barred s [] earlier
  pub once : find_entry (plan_of earlier) entry.position ≡ None
  pub undecided : decided entry.position ≡ None
  pub leads : led_to barred entry ≡ Some q
  pub open_result : decided q ≡ None

-- the replies to the root are asked for, and no entry has a fault
pub record IsRootAsked (a : Color) (barred : List Position) (s : List Entry)
    (p q : Position) : Type 0 where
  pub root : q ≡ p
  pub good : AreFaultless a barred s [] s
  pub side : p.side ≢ a
  pub undecided : decided p ≡ None

-- what an answer to the strategy s of the root p says, where n turns are asked about and lists have
-- so much room
pub record IsChecked (a : Color) (barred : List Position) (n room : ℕ) (s : List Entry)
    (p : Position) (answer : Checked) : Type 0 where
  -- an accepted strategy wins within n turns, and this is the rank of its root
  pub accepted : IfAccepted answer
      (λ rank. AcceptsEntries a barred n s p × (rank ≡ root_rank a barred (plan_of s) p))
  -- a refused one has this first fault
  pub refused : IfRefused answer
      (λ number why. IsFirstFault a barred s number why ⊎ IsRootFault a barred n s p number why)
  -- the replies to a position are too many, and are asked for before any fault is found
  pub crowded :
      IfCrowded answer
      (λ q. (room < length (next barred q))
      × (IsFirstAsked a barred s q ⊎ IsRootAsked a barred s p q))
  -- where there is room for all replies that are asked for, a strategy that wins within n turns is
  -- accepted
  pub complete : HasRoom a barred room s p → AcceptsEntries a barred n s p
      → answer ≡ checked.Accepted (root_rank a barred (plan_of s) p)
  -- and so is the own strategy of a root that is won within n turns, with the rank of the root
  pub own : (r : ℕ) → IsRank a barred p r → r ≤ n
      → s ≡ map entry_with_marks (strategy_of a barred r p)
      → HasRoom a barred room s p → answer ≡ checked.Accepted r

-- within so many turns, the attacker who plays the entries wins every play that goes on after the
-- history h
pub record IsWonBy (a : Color) (h : List Position) (s : List Entry) (rank : ℕ) : Type 0 where
  pub plays : WinsEveryPlay a (plan_of s) rank h
  pub won : (p : Position) → present h ≡ Some p → IsTrue (wins a (barred_by h) rank p)
