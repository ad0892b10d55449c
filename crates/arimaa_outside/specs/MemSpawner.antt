-- What a spawner in memory shows.
use Rattle.std.specs.Prelude.{◌≡◌, ℕ, ◌∷◌, [], ◌++◌, List, drop}
use Rattle.arimaa_outside.specs.Calls.{Tally, after_fault, after_success}
use Rattle.arimaa_outside.specs.Counts.{Counts, capped_sum, no_counts}
use Rattle.arimaa_outside.specs.MemPort.{Talking, port_counts}
use Rattle.arimaa_outside.specs.declared.open_answer.OpenAnswer.{OpenAnswer}
use Rattle.arimaa_outside.specs.declared.open_answer.OpenAnswer.TheVariants.{Opened, Failed}

-- the ports to hand out, those taken back, what it answered, its calls (their faults with those of
-- ports taken back), its stops and lines
pub record Spawning : Type 0 where
  pub waiting : List Talking
  pub back : List Talking
  pub answers : List OpenAnswer
  pub calls : Tally
  pub stops : ℕ
  pub lines : ℕ

-- its three counts
abbrev pub spawner_counts : Spawning → Counts
spawner_counts spawner = record
    { faults = spawner.calls.faults; stops = spawner.stops; lines = spawner.lines }

-- The port has counted nothing yet.
abbrev pub IsFresh : Talking → Type 0
IsFresh port = port_counts port ≡ no_counts

-- the spawner once it handed out its next port for this program
abbrev pub after_opening : Spawning → List ℕ → Spawning
after_opening spawner program = record spawner {
  waiting = drop 1 spawner.waiting;
  answers = spawner.answers ++ Opened program ∷ [];
  calls = after_success spawner.calls;
}

-- the spawner once a call of `open` for this program has failed
abbrev pub after_refusing : Spawning → List ℕ → Spawning
after_refusing spawner program = record spawner
    { answers = spawner.answers ++ Failed program ∷ []; calls = after_fault spawner.calls }

-- the spawner once it took this port back
abbrev pub after_closing : Spawning → Talking → Spawning
after_closing spawner port = record spawner {
  back = spawner.back ++ port ∷ [];
  calls = record spawner.calls { faults = capped_sum spawner.calls.faults port.calls.faults };
  stops = capped_sum spawner.stops port.stops;
  lines = capped_sum spawner.lines port.lines;
}
