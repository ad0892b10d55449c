-- The least depth at which a position is won.
use Rattle.std.specs.Prelude.{◌≡◌, ℕ, ◌≤◌, Bool, false, not, ◌&&◌, ◌||◌, nat_lt, Option, None, Some, Result, Ok, Err, if◌then◌else◌}
use mathlib.Core.Bool.{beq}
use Rattle.arimaa_board.specs.declared.position.Position.{Position}
use Rattle.arimaa_model.specs.Wins.{wins}
use Rattle.arimaa_model.specs.Ranks.{IsRank}
use Rattle.arimaa_pool.specs.declared.stop.Stop.{Stop}
use Rattle.arimaa_pool.specs.declared.stopped_job.StoppedJob.{StoppedJob}
use Rattle.arimaa_pool.specs.Terms.{Terms}

-- the rank of p, where it is at most n
abbrev pub IsFound : Terms → Position → ℕ → Option ℕ → Type 0
IsFound t p n (Some r) = (r ≤ n) × IsRank t.attacker t.barred p r
IsFound t p n None = wins t.attacker t.barred n p ≡ false

-- the stop of a job gives way to a decisive job that comes before it, and where the other side is
-- to move to any
abbrev pub gives_stop : ℕ → ℕ → Bool → ℕ → Bool
gives_stop least count own job = nat_lt job least && (own || not (nat_lt least count))

-- the verdict of a depth with `count` jobs: the side to move decides just where a decisive job was
-- found
abbrev pub depth_answer : ℕ → ℕ → Bool → Option StoppedJob → Result Bool Stop
depth_answer least count own None = Ok (beq (nat_lt least count) own)
depth_answer least count own (Some s) =
    if gives_stop least count own s.job then Err s.stop else Ok (beq (nat_lt least count) own)
