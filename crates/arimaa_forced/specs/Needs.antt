-- The questions that a question leads to: all that may be asked, and those that are needed.
use Rattle.std.specs.Prelude.{◌≡◌, ℕ, ◌<◌, ◌≤◌, List, None, IsTrue}
use Rattle.std.specs.List.{Contains}
use Rattle.arimaa_board.specs.declared.piece.Color.{Color}
use Rattle.arimaa_board.specs.declared.position.Position.{Position}
use Rattle.arimaa_model.specs.DecidedPositions.{decided}
use Rattle.arimaa_model.specs.Results.{next}
use Rattle.arimaa_model.specs.Members.{Stands}
use Rattle.arimaa_model.specs.Wins.{wins}
use Rattle.arimaa_model.specs.Ranks.{rank_within}
use Rattle.arimaa_model.specs.Strategies.{Planned, strategy_of}
use Rattle.arimaa_forced.specs.Search.{looked_at}

-- the question whether q is won within j turns is in the tree of that on p and n
pub data InTree (barred : List Position) (p : Position) (n : ℕ) : Position → ℕ → Type 0 where
  root : InTree barred p n p n
  sooner : (q : Position) (k j : ℕ) → InTree barred p n q k → decided q ≡ None → j < k
      → InTree barred p n q j
  later : (q r : Position) (k j : ℕ) → InTree barred p n q k → decided q ≡ None
      → Stands (next barred q) r → j < k
      → InTree barred p n r j

-- what is asked about p within up to m turns: p itself, and the next positions up to the first
-- decisive one
pub data IsAsked (a : Color) (barred : List Position) (p : Position) (m : ℕ) : Position → ℕ
    → Type 0 where
  itself : (j : ℕ) → j ≤ m → IsAsked a barred p m p j
  place : (q : Position) (j : ℕ) → decided p ≡ None → j < m → Stands (looked_at a barred j p) q
      → IsAsked a barred p m q j

-- the question on q and j is needed for that on p and n: up to the rank of p, and where p is won,
-- for each entry of its strategy
pub data InNeed (a : Color) (barred : List Position) (p : Position) (n : ℕ) : Position → ℕ
    → Type 0 where
  deepening : (q : Position) (j : ℕ) → IsAsked a barred p (rank_within a barred n p) q j
      → InNeed a barred p n q j
  playing : (e : Planned) (q : Position) (j : ℕ) → IsTrue (wins a barred n p)
      → Contains (strategy_of a barred (rank_within a barred n p) p) e
      → IsAsked a barred e.position e.rank q j
      → InNeed a barred p n q j
