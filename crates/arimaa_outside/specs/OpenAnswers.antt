-- What a spawner answered to each call of `open`, and how many links it took back.
use Rattle.std.specs.Prelude.{ℕ, ◌<◌, ◌≤◌, ◌∷◌, [], Bool, true, false, IfSome, List, Option, Result, Ok, Err, count_by, length}
use Rattle.arimaa_outside.specs.declared.open_answer.OpenAnswer.{OpenAnswer}
use Rattle.arimaa_outside.specs.declared.open_answer.OpenAnswer.TheVariants.{Opened, Failed}
use Rattle.arimaa_outside.specs.declared.port_fault.PortFault.{PortFault}
use Rattle.arimaa_outside.specs.declared.port_fault.PortFault.TheVariants as fault

-- what a call of `open` that was refused answered, which named this program: want of memory is no
-- answer
abbrev pub refused_open : List ℕ → PortFault → List OpenAnswer
refused_open program fault.Failed = Failed program ∷ []
refused_open program fault.Memory = []

-- what a call of `open` answered that named this program
abbrev pub open_answer : {T : Type 0} → List ℕ → Result T PortFault → List OpenAnswer
open_answer program (Ok _) = Opened program ∷ []
open_answer program (Err refusal) = refused_open program refusal

-- Whether a call handed out a link.
abbrev pub is_opened : OpenAnswer → Bool
is_opened (Opened program) = true
is_opened (Failed program) = false

-- How many links were handed out.
abbrev pub opened_count : List OpenAnswer → ℕ
opened_count answers = count_by is_opened answers

-- Where both are told, fewer links were taken back than handed out.
abbrev pub TookBackFewer : {L : Type 0} → Option (List L) → Option (List OpenAnswer) → Type 0
TookBackFewer back answers = IfSome back
    (λ back. IfSome answers (λ answers. length back < opened_count answers))

-- Where both are told, no more links were taken back than handed out.
abbrev pub TookBackNoMore : {L : Type 0} → Option (List L) → Option (List OpenAnswer) → Type 0
TookBackNoMore back answers = IfSome back
    (λ back. IfSome answers (λ answers. length back ≤ opened_count answers))
