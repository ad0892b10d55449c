use Rattle.std.proofs.Common.{◌≡◌, ◌+◌, ◌*◌, drop}
use Rattle.arimaa_model.specs.Wins.{wins, wins_among}
use Rattle.arimaa_model.proofs.forced_win.+wins.Given as goal

abbrev pub decreases-plain_wins : goal.decreases-plain_wins
decreases-plain_wins l = 2 * l.depth

abbrev pub decreases-wins_among : goal.decreases-wins_among
decreases-wins_among l = 2 * l.depth + 1

abbrev pub invariant-wins_among-loop-q : goal.invariant-wins_among-loop-q
invariant-wins_among-loop-q l = wins_among l.any (wins l.attacker l.barred l.depth) (drop l.q-index l.list) ≡ wins_among l.any (wins l.attacker l.barred l.depth) l.list
