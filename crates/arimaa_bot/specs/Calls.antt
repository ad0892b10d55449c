-- What a call does to a port, and how a run of the bot ends.
use Rattle.std.specs.Prelude.{◌≡◌, ◌≢◌, ℕ, List, [], ◌∷◌, ◌++◌, Option, Result, Ok, Err}
use Rattle.arimaa_aei.specs.Commands.{command_of}
use Rattle.arimaa_outside.specs.Counts.{Counts}
use Rattle.arimaa_outside.specs.Faults.{HasRisen}
use Rattle.arimaa_outside.specs.ToldLines.{told_after}
use Rattle.arimaa_outside.specs.declared.port_answer.PortAnswer.{PortAnswer}
use Rattle.arimaa_outside.specs.declared.port_answer.PortAnswer.TheVariants as answer
use Rattle.arimaa_outside.specs.declared.speech.Said.TheVariants as said
use Rattle.arimaa_outside.specs.declared.port_fault.PortFault.{PortFault}
use Rattle.arimaa_outside.specs.declared.port_fault.PortFault.TheVariants as port
use Rattle.arimaa_bot.specs.declared.bot_end.BotEnd.{BotEnd}
use Rattle.arimaa_bot.specs.declared.bot_end.BotEnd.TheVariants as end
use Rattle.arimaa_bot.specs.declared.lookahead.Lookahead.{Lookahead}
use Rattle.arimaa_bot.specs.declared.reply.Reply.{Reply}
use Rattle.arimaa_bot.specs.declared.stage.Stage.{Stage}
use Rattle.arimaa_bot.specs.Replies.{lines_of}
use Rattle.arimaa_bot.specs.Stages.{stage_after}
use Rattle.arimaa_bot.specs.Talk.{IsLast, IsReply, IsSession, all_sent, heard_line}

-- what a port tells: its answers, and the lines that it was sent
pub record Told : Type 0 where
  pub answers : Option (List PortAnswer)
  pub sent : Option (List (List ℕ))

-- what a port tells, by the words for it
abbrev pub told_by : {P : Type 0} → (P → Option (List PortAnswer)) → (P → Option (List (List ℕ)))
    → P
    → Told
told_by answers sent port = record { answers = answers port; sent = sent port }

-- a port gave these answers and was sent these lines
pub record Passed (old new : Told) (answers : List PortAnswer) (sent : List (List ℕ)) : Type 0 where
  pub answers_are : new.answers ≡ told_after old.answers answers
  pub sent_are : new.sent ≡ told_after old.sent sent

-- of some lines the first ones were sent, and then this was answered in place of the next
pub record BrokeOff (lines : List (List ℕ)) (old new : Told) (last : List PortAnswer)
    : Type 0 where
  pub first : List (List ℕ)
  pub next : List ℕ
  pub later : List (List ℕ)
  pub parts : lines ≡ first ++ next ∷ later
  pub passed : Passed old new (all_sent first ++ last) first

-- lines were sent, all of them or as far as the port took them
abbrev pub WereSent : List (List ℕ) → Told → Told → Result (Unit {0}) PortFault → Type 0
WereSent lines old new (Ok _) = Passed old new (all_sent lines) lines
WereSent lines old new (Err port.Failed) = BrokeOff lines old new (answer.Failed ∷ [])
WereSent lines old new (Err port.Memory) = BrokeOff lines old new []

-- what the port counted where a call of it was refused, or not
abbrev pub HasFailed : Counts → Counts → Result (Unit {0}) PortFault → Type 0
HasFailed before now (Ok _) = now.faults ≡ before.faults
HasFailed before now (Err port.Failed) = HasRisen before.faults now.faults
HasFailed before now (Err port.Memory) = now.faults ≡ before.faults

-- what the port counted where a session ended so
abbrev pub IsCause : Counts → Counts → BotEnd → Type 0
IsCause before now end.Ended = HasRisen before.stops now.stops
IsCause before now end.Long = HasRisen before.stops now.stops
IsCause before now end.Fault = HasRisen before.faults now.faults
IsCause before now _ = Unit {0}

-- how a session ends where its port refused a call
abbrev pub end_of : PortFault → BotEnd
end_of port.Failed = end.Fault
end_of port.Memory = end.Memory

-- the same of a call that ended the session or not: unless it ends by a fault no call failed
abbrev pub IsCauseOf : Counts → Counts → Result (Unit {0}) BotEnd → Type 0
IsCauseOf before now (Ok _) = now.faults ≡ before.faults
IsCauseOf before now (Err e) =
    IsCause before now e × (e ≢ end.Fault → now.faults ≡ before.faults)

-- the port was listened to: a line, or how the session ends
abbrev pub HeardSo : Told → Told → List ℕ → Result (Unit {0}) BotEnd → Type 0
HeardSo old new line (Ok _) = Passed old new (heard_line line ∷ []) []
HeardSo old new line (Err end.Ended) = Passed old new (answer.Heard said.Ended ∷ []) []
HeardSo old new line (Err end.Long) = Passed old new (answer.Heard said.Long ∷ []) []
HeardSo old new line (Err end.Fault) = Passed old new (answer.Failed ∷ []) []
HeardSo old new line (Err end.Memory) = Passed old new [] []
HeardSo old new line (Err _) = ⊥

-- a line was heard and replied to
pub record IsRepliedTo (ahead : Lookahead) (at after : Stage) (old new : Told) : Type 0 where
  pub line : List ℕ
  pub reply : Reply
  pub is_reply : IsReply ahead at (command_of line) reply
  pub after_is : after ≡ stage_after at (command_of line)
  pub passed : Passed old new (heard_line line ∷ all_sent (lines_of reply)) (lines_of reply)

-- the session has ended so
pub record HasEnded (ahead : Lookahead) (at : Stage) (old new : Told) (e : BotEnd) : Type 0 where
  pub answers : List PortAnswer
  pub sent : List (List ℕ)
  pub last : IsLast ahead at answers sent e
  pub passed : Passed old new answers sent

-- a line was heard and replied to, or the session has ended
abbrev pub IsDealt : Lookahead → Stage → Stage → Told → Told → Result (Unit {0}) BotEnd → Type 0
IsDealt ahead at after old new (Ok _) = IsRepliedTo ahead at after old new
IsDealt ahead at after old new (Err e) = HasEnded ahead at old new e

-- a session with a port went so
pub record HadSession (ahead : Lookahead) (old new : Told) (e : BotEnd) : Type 0 where
  pub answers : List PortAnswer
  pub sent : List (List ℕ)
  pub session : IsSession ahead answers sent e
  pub passed : Passed old new answers sent
