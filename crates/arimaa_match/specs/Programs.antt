-- A match between two programs that are started for it.
use Rattle.std.specs.Prelude.{◌≡◌, ◌⊎◌, ℕ, List, [], ◌∷◌, false, Option, Result, Ok, Err, alloc_error}
use Rattle.std.specs.declared.alloc.AllocError.{AllocError}
use Rattle.arimaa_board.specs.declared.piece.Color.{Color}
use Rattle.arimaa_board.specs.declared.piece.Color.TheVariants.{Gold, Silver}
use Rattle.arimaa_outside.specs.Counts.{Counts}
use Rattle.arimaa_outside.specs.OpenAnswers.{refused_open}
use Rattle.arimaa_outside.specs.ToldLines.{told_after, told_before}
use Rattle.arimaa_outside.specs.declared.open_answer.OpenAnswer.{OpenAnswer}
use Rattle.arimaa_outside.specs.declared.open_answer.OpenAnswer.TheVariants.{Opened}
use Rattle.arimaa_outside.specs.declared.port_answer.PortAnswer.{PortAnswer}
use Rattle.arimaa_outside.specs.declared.port_fault.PortFault.{PortFault}
use Rattle.arimaa_outside.specs.declared.port_fault.PortFault.TheVariants as port
use Rattle.arimaa_time.specs.declared.control.Control.{Control}
use Rattle.arimaa_engine.specs.declared.fault.EngineFault.{EngineFault}
use Rattle.arimaa_engine.specs.declared.fault.EngineFault.TheVariants as fault
use Rattle.arimaa_engine.specs.Faults.{IsCause}
use Rattle.arimaa_engine.specs.Session.{opening}
use Rattle.arimaa_match.specs.declared.ending.MatchDone.{MatchDone}
use Rattle.arimaa_match.specs.declared.ending.MatchEnd.{MatchEnd}
use Rattle.arimaa_match.specs.declared.ending.MatchEnd.TheVariants as end
use Rattle.arimaa_match.specs.declared.side_fault.SideFault.{SideFault}
use Rattle.arimaa_match.specs.Match.{match_of, quitting}
use Rattle.arimaa_match.specs.Parts.{IsNoMemory, Part, Went, and_then, value_part, scene_of, view_of, with_engine}

-- no match has begun, because of a side's fault
abbrev pub unbegun : Color → EngineFault → MatchDone
unbegun side why = record { written = []; ending = end.Engine side why; log = [] }

-- what follows once Gold's session is open and Silver's was to be: where Silver's met a fault,
-- Gold's is ended
abbrev pub after_silver : Control → Result (Unit {0}) SideFault → Part MatchDone
after_silver control (Ok _) = match_of control
after_silver control (Err f) =
    and_then (quitting Gold false) (λ _. value_part (unbegun f.side f.fault))

-- Silver's session is opened, once Gold's is open
abbrev pub opening_silver : Control → Part MatchDone
opening_silver control = and_then (with_engine Silver (opening control)) (after_silver control)

-- what follows once Gold's session was to be opened
abbrev pub after_gold : Control → Result (Unit {0}) SideFault → Part MatchDone
after_gold control (Ok _) = opening_silver control
after_gold control (Err f) = value_part (unbegun f.side f.fault)

-- a match between two programs that were started: Gold's session is opened, then Silver's
unfoldable pub match_of_programs : Control → Part MatchDone
match_of_programs control = and_then (with_engine Gold (opening control)) (after_gold control)

-- what comes of a match where the program of a side was not started
abbrev pub unstarted : Color → PortFault → Result MatchDone AllocError
unstarted side port.Failed = Ok (unbegun side fault.Failed)
unstarted side port.Memory = Err alloc_error

-- what comes of a match where the session of a side was not opened
abbrev pub unopened : Color → EngineFault → Result MatchDone AllocError
unopened side fault.Memory = Err alloc_error
unopened side fault.Failed = Ok (unbegun side fault.Failed)
unopened side fault.Ended = Ok (unbegun side fault.Ended)
unopened side fault.Long = Ok (unbegun side fault.Long)
unopened side fault.Silent = Ok (unbegun side fault.Silent)
unopened side (fault.Version text) = Ok (unbegun side (fault.Version text))

-- the words that name the programs of both sides
pub record Programs : Type 0 where
  pub gold : List ℕ
  pub silver : List ℕ

-- what a spawner tells: the links to hand out, those that it took back, and its answers
pub record Spawned (L : Type 0) : Type 0 where
  pub waiting : Option (List L)
  pub back : Option (List L)
  pub answers : Option (List OpenAnswer)

-- what a spawner tells, by the words for it
abbrev pub spawned_of : {S L : Type 0} → (S → Option (List L)) → (S → Option (List L))
    → (S → Option (List OpenAnswer)) → S → Spawned L
spawned_of waiting back answers s = record {
  waiting = waiting s;
  back = back s;
  answers = answers s;
}

-- in a call a spawner handed out these links, took back those, and gave these answers
pub record Hands {L : Type 0} (old new : Spawned L) (out returned : List L)
    (given : List OpenAnswer) : Type 0 where
  pub waiting : old.waiting ≡ told_before out new.waiting
  pub back : new.back ≡ told_after old.back returned
  pub answers : new.answers ≡ told_after old.answers given

-- Gold's program was not started
pub record GoldUnstarted {L : Type 0} (program : List ℕ) (old new : Spawned L)
    (result : Result MatchDone AllocError) : Type 0 where
  pub refusal : PortFault
  pub hands : Hands old new [] [] (refused_open program refusal)
  pub outcome : result ≡ unstarted Gold refusal

-- Silver's program was not started, and Gold's link was given back as it was
pub record SilverUnstarted {L : Type 0} (programs : Programs) (old new : Spawned L)
    (result : Result MatchDone AllocError) : Type 0 where
  pub refusal : PortFault
  pub gold : L
  pub hands : Hands old new (gold ∷ []) (gold ∷ [])
      (Opened programs.gold ∷ refused_open programs.silver refusal)
  pub outcome : result ≡ unstarted Silver refusal

module _ {L : Type 0} (sent : L → Option (List (List ℕ))) (answers : L → Option (List PortAnswer))
    (counts : L → Counts) where
  -- both programs were started, the match went so over their links, and both were given back,
  -- Gold's first
  pub record BothStarted (control : Control) (programs : Programs) (old new : Spawned L)
      (before after : Option (List ℕ)) (result : Result MatchDone AllocError) : Type 0 where
    pub gold : L
    pub silver : L
    pub gold_back : L
    pub silver_back : L
    pub hands : Hands old new (gold ∷ silver ∷ []) (gold_back ∷ silver_back ∷ [])
        (Opened programs.gold ∷ Opened programs.silver ∷ [])
    pub went : Went (match_of_programs control)
        (scene_of (view_of sent answers counts gold) (view_of sent answers counts silver) before)
        (scene_of (view_of sent answers counts gold_back)
        (view_of sent answers counts silver_back) after)
        result

  -- a match between these programs went so; before both are started the clock is not asked
  abbrev pub ProgramsWent : Control → Programs → Spawned L → Spawned L → Option (List ℕ)
      → Option (List ℕ) → Result MatchDone AllocError → Type 0
  ProgramsWent control programs old new before after result =
      ((after ≡ before) × (GoldUnstarted programs.gold old new result
      ⊎ SilverUnstarted programs old new result))
      ⊎ BothStarted control programs old new before after result

-- where an engine fault ends a match between programs, it is none of memory and has its cause in
-- what the spawner counted, with the links that it took back
abbrev pub HasSpawnerCause : Counts → Counts → MatchEnd → Type 0
HasSpawnerCause before now (end.Engine side why) = IsCause before now why × IsNoMemory why
HasSpawnerCause before now (end.Won winner cause) = Unit {0}
HasSpawnerCause before now end.Limit = Unit {0}
