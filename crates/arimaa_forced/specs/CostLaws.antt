-- Laws on sizes, costs, crowds, trees and needs, as facts for contracts.
use Rattle.std.specs.Prelude.{◌≡◌, false, ℕ, ◌+◌, ◌≤◌, List, length, None, IsTrue, sum_by}
use Rattle.arimaa_board.specs.declared.piece.Color.{Color}
use Rattle.arimaa_board.specs.declared.position.Position.{Position}
use Rattle.arimaa_model.specs.DecidedPositions.{decided}
use Rattle.arimaa_model.specs.Results.{next}
use Rattle.arimaa_model.specs.Wins.{wins}
use Rattle.arimaa_model.specs.Ranks.{IsRank, rank_within}
use Rattle.arimaa_forced.specs.Search.{looked_at, size, cost, crowd, largest}
use Rattle.arimaa_forced.specs.Needs.{InTree, InNeed}

-- the size of an undecided position one turn deeper
abbrev pub SizeOneDeeper : Type 0
SizeOneDeeper =
    (barred : List Position) (n : ℕ) (p : Position) → decided p ≡ None
    → size barred (n + 1) p ≡ 1 + sum_by (size barred n) (next barred p)

-- the cost of an undecided position one turn deeper
abbrev pub CostOneDeeper : Type 0
CostOneDeeper =
    (a : Color) (barred : List Position) (n : ℕ) (p : Position) → decided p ≡ None
    → cost a barred (n + 1) p ≡ 1 + sum_by (cost a barred n) (looked_at a barred n p)

-- the crowd of an undecided position one turn deeper
abbrev pub CrowdOneDeeper : Type 0
CrowdOneDeeper =
    (barred : List Position) (n : ℕ) (p : Position) → decided p ≡ None
    → crowd barred (n + 1) p ≡ length (next barred p) + largest (crowd barred n) (next barred p)

-- a question costs at least itself
abbrev pub CostIsSome : Type 0
CostIsSome = (a : Color) (barred : List Position) (n : ℕ) (p : Position) → 1 ≤ cost a barred n p

-- and at most the size, also of a deeper question; a deeper question may cost less, since its look
-- may end sooner
abbrev pub CostWithinSize : Type 0
CostWithinSize =
    (a : Color) (barred : List Position) (j n : ℕ) (p : Position) → j ≤ n
    → cost a barred j p ≤ size barred n p

-- sizes grow with the depth
abbrev pub SizesGrow : Type 0
SizesGrow =
    (barred : List Position) (j n : ℕ) (p : Position) → j ≤ n → size barred j p ≤ size barred n p

-- crowds grow with the depth
abbrev pub CrowdsGrow : Type 0
CrowdsGrow =
    (barred : List Position) (j n : ℕ) (p : Position) → j ≤ n → crowd barred j p ≤ crowd barred n p

-- no question of a tree has a larger size
abbrev pub TreeWithinSize : Type 0
TreeWithinSize =
    (barred : List Position) (n : ℕ) (p : Position) (j : ℕ) (q : Position) → InTree barred p n q j
    → size barred j q ≤ size barred n p

-- nor a larger crowd
abbrev pub TreeWithinCrowd : Type 0
TreeWithinCrowd =
    (barred : List Position) (n : ℕ) (p : Position) (j : ℕ) (q : Position) → InTree barred p n q j
    → crowd barred j q ≤ crowd barred n p

-- what is needed for an undecided position is part of its tree
abbrev pub NeedIsInTree : Type 0
NeedIsInTree =
    (a : Color) (barred : List Position) (n : ℕ) (p : Position) (j : ℕ) (q : Position)
    → decided p ≡ None → InNeed a barred p n q j → InTree barred p n q j

-- what is needed costs at most the size of the root
abbrev pub NeedWithinSize : Type 0
NeedWithinSize =
    (a : Color) (barred : List Position) (n : ℕ) (p : Position) (j : ℕ) (q : Position)
    → InNeed a barred p n q j
    → (size barred j q ≤ size barred n p) × (cost a barred j q ≤ size barred n p)

-- and is no more crowded than the root
abbrev pub NeedWithinCrowd : Type 0
NeedWithinCrowd =
    (a : Color) (barred : List Position) (n : ℕ) (p : Position) (j : ℕ) (q : Position)
    → InNeed a barred p n q j → crowd barred j q ≤ crowd barred n p

-- a need goes as deep as the rank of a position that is won
abbrev pub NeedGoesToTheRank : Type 0
NeedGoesToTheRank =
    (a : Color) (barred : List Position) (n : ℕ) (p : Position) → IsTrue (wins a barred n p)
    → IsRank a barred p (rank_within a barred n p)

-- and to the whole depth where it is not won
abbrev pub NeedGoesToTheDepth : Type 0
NeedGoesToTheDepth =
    (a : Color) (barred : List Position) (n : ℕ) (p : Position) → wins a barred n p ≡ false
    → rank_within a barred n p ≡ n
