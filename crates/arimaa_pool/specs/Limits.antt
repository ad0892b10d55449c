-- The limits of a prover's settings.
use Rattle.std.specs.Prelude.{◌*◌, ◌≤◌, ◌^◌}
use Rattle.arimaa_pool.specs.declared.settings.Settings.{Settings}

-- 1 to 16 workers, 1 to 262,144 lines, a budget from 1 to 2^40, a room from 1 to 1,048,576, and
-- workers times room at most 4,194,304
pub record AreWithinLimits (s : Settings) : Type 0 where
  pub some_workers : 1 ≤ s.workers
  pub most_workers : s.workers ≤ 16
  pub some_lines : 1 ≤ s.lines
  pub most_lines : s.lines ≤ 262144
  pub some_budget : 1 ≤ s.budget
  pub most_budget : s.budget ≤ 2 ^ 40
  pub some_room : 1 ≤ s.room
  pub most_room : s.room ≤ 1048576
  pub room_of_all : s.workers * s.room ≤ 4194304
