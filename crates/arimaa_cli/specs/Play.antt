-- The command play: the words that ask for a match between two programs, and what comes of it.
use Rattle.std.specs.Prelude.{◌≡◌, ◌≢◌, ◌⊎◌, ℕ, List, [], ◌∷◌, Option, Result, Ok, Err, IfOk, codes}
use Rattle.std.specs.declared.alloc.AllocError.{AllocError}
use Rattle.arimaa_outside.specs.Counts.{Counts}
use Rattle.arimaa_outside.specs.declared.port_answer.PortAnswer.{PortAnswer}
use Rattle.arimaa_outside.specs.declared.status.Status.{Status}
use Rattle.arimaa_outside.specs.declared.status.Status.TheVariants.{Done, EngineFault, Memory, WriteFault}
use Rattle.arimaa_engine.specs.declared.fault.EngineFault.{EngineFault as Fault}
use Rattle.arimaa_engine.specs.Faults.{IsCause}
use Rattle.arimaa_time.specs.Fields.{IsControl}
use Rattle.arimaa_match.specs.declared.ending.MatchDone.{MatchDone}
use Rattle.arimaa_match.specs.declared.ending.MatchEnd.{MatchEnd}
use Rattle.arimaa_match.specs.declared.ending.MatchEnd.TheVariants as end
use Rattle.arimaa_match.specs.Parts.{IsNoMemory}
use Rattle.arimaa_match.specs.Programs.{Programs, ProgramsWent, Spawned}
use Rattle.arimaa_match.specs.Records.{IsLawfulMatch}
use Rattle.arimaa_match.specs.Texts.{text_of_match}
use Rattle.arimaa_cli.specs.declared.play.Pairing.{Pairing}
use Rattle.arimaa_outside.specs.Writing.{EndsWith}
use Rattle.arimaa_cli.specs.declared.commands.Command.{Command}
use Rattle.arimaa_cli.specs.Commands.{AreWords, IsTextWord}

-- the words ask for a match: its name, Gold's program and Silver's, and a text that is this
-- control's
pub record AsksToPlay (words : List (List ℕ)) (asked : Pairing) : Type 0 where
  pub text : List ℕ
  pub form : words ≡ codes "play" ∷ asked.gold ∷ asked.silver ∷ text ∷ []
  pub gold : IsTextWord asked.gold
  pub silver : IsTextWord asked.silver
  pub plain : IsTextWord text
  pub control : IsControl text asked.control

-- the words that name the programs of a match that is asked for
abbrev pub programs_of : Pairing → Programs
programs_of asked = record { gold = asked.gold; silver = asked.silver }

-- the words ask for no match
abbrev pub AsksNoMatch : List (List ℕ) → Type 0
AsksNoMatch words = (asked : Pairing) → AsksToPlay words asked → ⊥

-- the words of a command ask for no match
abbrev pub CommandsAreNoMatches : Type 0
CommandsAreNoMatches =
    (words : List (List ℕ)) (c : Command) → AreWords words c → AsksNoMatch words

-- the status of a match that has ended so
abbrev pub status_at : MatchEnd → Status
status_at (end.Won winner why) = Done
status_at end.Limit = Done
status_at (end.Engine side why) = EngineFault

-- what came of a match is told: its text, whole unless a write failed, or nothing where memory ran
-- out
abbrev pub IsTold : Status → Option (List ℕ) → Option (List ℕ) → Result MatchDone AllocError
    → Type 0
IsTold result before after (Err e) = (result ≡ Memory) × (after ≡ before)
IsTold result before after (Ok m) =
    EndsWith result before after (status_at m.ending) (text_of_match m)
    ⊎ ((result ≡ Memory) × (after ≡ before))

-- an engine met a fault, and this is its cause in what the spawner counted, with the links that it
-- took back
pub record HasEngineFault (counts now : Counts) : Type 0 where
  pub why : Fault
  pub cause : IsCause counts now why
  pub no_memory : IsNoMemory why

-- how the match that was asked for went and what was told of it, by what the spawner tells and
-- counts, the moments of the clock, and the bytes of the sink
pub record Played {L : Type 0} (sent : L → Option (List (List ℕ)))
    (answers : L → Option (List PortAnswer)) (link_counts : L → Counts) (asked : Pairing)
    (result : Status) (old new : Spawned L) (counts now : Counts)
    (moments later : Option (List ℕ)) (before after : Option (List ℕ)) : Type 0 where
  -- the programs that were started are those that were asked for, and what came of the match is
  -- what the fold over the answers and the moments gives
  pub outcome : Result MatchDone AllocError
  pub went : ProgramsWent sent answers link_counts asked.control (programs_of asked) old new
      moments later outcome
  pub told : IsTold result before after outcome
  -- the judge finds the record lawful, with the match's winner and cause
  pub lawful : IfOk outcome (λ m. result ≢ Memory → IsLawfulMatch m)
  -- the status of an engine's fault has its cause, and the others are these
  pub engine_fault : result ≡ EngineFault → HasEngineFault counts now
  pub others : (result ≡ Done)
      ⊎ ((result ≡ EngineFault) ⊎ ((result ≡ WriteFault) ⊎ (result ≡ Memory)))
