-- The workers of a meet.
use Rattle.std.specs.Prelude.{◌≡◌, ℕ, List, Option, true}
use Rattle.arimaa_outside.specs.Counts.{Counts}
use Rattle.arimaa_outside.specs.declared.port_answer.PortAnswer.{PortAnswer}
use Rattle.arimaa_meet.specs.declared.meet.Meet.{Meet}
use Rattle.arimaa_meet.specs.declared.workers.Worker.{Worker}
use Rattle.arimaa_meet.specs.Seats.{Seat, Terms}
use Rattle.arimaa_meet.specs.Shares.{HasPlayedShare}

-- what the matches of a meet are played under
abbrev pub terms_of : Meet → Terms
terms_of meet = record { words = meet.words.now; control = meet.control }

-- a worker has played its matches, and they are told, unless memory ran out
pub record HasWorked {S K L : Type 0} (sent : L → Option (List (List ℕ)))
    (answers : L → Option (List PortAnswer)) (counts : L → Counts) (seat : S → K → Seat L)
    (meet : Meet) (old new : Worker S K) : Type 0 where
  pub told : new.finished ≡ true → HasPlayedShare sent answers counts (terms_of meet)
      meet.pairs.items old.number meet.workers (seat old.spawner old.clock)
      (seat new.spawner new.clock) new.told.items
