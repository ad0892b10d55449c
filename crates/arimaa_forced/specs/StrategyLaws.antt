-- Laws on strategies, as facts for contracts.
use Rattle.std.specs.Prelude.{◌≡◌, ◌↔◌, ℕ, List, map, Some, IsTrue}
use Rattle.arimaa_board.specs.declared.piece.Color.{Color}
use Rattle.arimaa_board.specs.declared.position.Position.{Position}
use Rattle.arimaa_model.specs.Members.{Stands}
use Rattle.arimaa_model.specs.Wins.{wins}
use Rattle.arimaa_model.specs.Ranks.{IsRank}
use Rattle.arimaa_model.specs.Game.{barred_by, present}
use Rattle.arimaa_model.specs.Strategies.{Planned, strategy_of, IsStrategyOf}
use Rattle.arimaa_forced.specs.Acceptance.{Accepts, root_rank}
use Rattle.arimaa_forced.specs.Play.{WinsEveryPlay}
use Rattle.arimaa_forced.specs.declared.entry.Entry.{Entry}
use Rattle.arimaa_forced.specs.Entries.{planned_of, entry_with_marks, AcceptsEntries}
use Rattle.arimaa_forced.specs.Meetings.{IsMet}

-- what is accepted wins every play, with the history growing
abbrev pub AcceptedPlays : Type 0
AcceptedPlays =
    (a : Color) (h : List Position) (p : Position) (n : ℕ) (s : List Planned) → present h ≡ Some p
    → Accepts a (barred_by h) n s p → WinsEveryPlay a s n h

-- where a strategy is accepted, the root is won within n turns
abbrev pub AcceptedIsWon : Type 0
AcceptedIsWon =
    (a : Color) (barred : List Position) (p : Position) (n : ℕ) (s : List Planned)
    → Accepts a barred n s p → IsTrue (wins a barred n p)

-- and within the rank that the strategy gives it
abbrev pub AcceptedAtItsRank : Type 0
AcceptedAtItsRank =
    (a : Color) (barred : List Position) (p : Position) (n : ℕ) (s : List Planned)
    → Accepts a barred n s p → Accepts a barred (root_rank a barred s p) s p

-- a position's own strategy is accepted
abbrev pub OwnIsAccepted : Type 0
OwnIsAccepted =
    (a : Color) (barred : List Position) (p : Position) (r : ℕ) → IsRank a barred p r
    → Accepts a barred r (strategy_of a barred r p) p

-- with the rank of the position
abbrev pub OwnHasRank : Type 0
OwnHasRank =
    (a : Color) (barred : List Position) (p : Position) (r : ℕ) → IsRank a barred p r
    → root_rank a barred (strategy_of a barred r p) p ≡ r

-- the strategy of the present position wins every play within its rank
abbrev pub OwnPlays : Type 0
OwnPlays =
    (a : Color) (h : List Position) (p : Position) (r : ℕ) → present h ≡ Some p
    → IsRank a (barred_by h) p r → WinsEveryPlay a (strategy_of a (barred_by h) r p) r h

-- accepted entries win every play
abbrev pub EntriesPlay : Type 0
EntriesPlay =
    (a : Color) (h : List Position) (p : Position) (n : ℕ) (s : List Entry) → present h ≡ Some p
    → AcceptsEntries a (barred_by h) n s p → WinsEveryPlay a (map planned_of s) n h

-- a position's own strategy is accepted with its right marks
abbrev pub OwnEntriesAreAccepted : Type 0
OwnEntriesAreAccepted =
    (a : Color) (barred : List Position) (p : Position) (r : ℕ) → IsRank a barred p r
    → AcceptsEntries a barred r (map entry_with_marks (strategy_of a barred r p)) p

-- and without them it is what it was
abbrev pub EntriesArePlanned : Type 0
EntriesArePlanned = (s : List Planned) → map planned_of (map entry_with_marks s) ≡ s

-- a position's own strategy has an entry just for each position that is met where its entries are
-- played
abbrev pub EntriesAreMet : Type 0
EntriesAreMet =
    (a : Color) (barred : List Position) (p : Position) (s : List Planned) (q : Position)
    → IsStrategyOf a barred p s → Stands (map (λ e. e.position) s) q ↔ IsMet a barred s p q
