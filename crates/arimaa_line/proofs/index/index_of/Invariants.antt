use Rattle.std.proofs.Common.{◌≡◌, ◌+◌}
use Rattle.arimaa_line.specs.Index.{side_share, board_share}
use Rattle.arimaa_line.proofs.Sums.{mask_share}
use Rattle.arimaa_line.proofs.index.index_of.Given as goal

-- what was added, and what the squares left add, is the whole
abbrev pub invariant-loop-rest : goal.invariant-loop-rest
invariant-loop-rest l = l.sum + mask_share l.rest l.position.board 64 ≡ side_share l.position.side + board_share l.position.board 64

abbrev pub decreases-loop-rest : goal.decreases-loop-rest
decreases-loop-rest l = l.rest
