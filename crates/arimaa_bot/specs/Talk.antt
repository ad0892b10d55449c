-- The talk of the bot with its controller.
use Rattle.std.specs.Prelude.{◌≡◌, ℕ, ◌<◌, Bool, List, [], ◌∷◌, ◌++◌, map, length, Option, None, Some, Result, Ok, Err, if◌then◌else◌}
use Rattle.arimaa_aei.specs.Commands.{command_of}
use Rattle.arimaa_aei.specs.declared.command.Command.{Command}
use Rattle.arimaa_aei.specs.declared.command.Command.TheVariants as command
use Rattle.arimaa_aei.specs.declared.command.CommandFault.{CommandFault}
use Rattle.arimaa_aei.specs.declared.command.CommandFault.TheVariants as fault
use Rattle.arimaa_outside.specs.declared.port_answer.PortAnswer.{PortAnswer}
use Rattle.arimaa_outside.specs.declared.port_answer.PortAnswer.TheVariants as answer
use Rattle.arimaa_outside.specs.declared.speech.Said.TheVariants as said
use Rattle.arimaa_bot.specs.declared.bot_end.BotEnd.{BotEnd}
use Rattle.arimaa_bot.specs.declared.bot_end.BotEnd.TheVariants as end
use Rattle.arimaa_bot.specs.declared.lookahead.Lookahead.{Lookahead}
use Rattle.arimaa_bot.specs.declared.reply.Reply.{Reply}
use Rattle.arimaa_bot.specs.declared.reply.Reply.TheVariants as reply
use Rattle.arimaa_bot.specs.declared.session.TheConstants.{MOST_LINES}
use Rattle.arimaa_bot.specs.declared.stage.Stage.{Stage}
use Rattle.arimaa_bot.specs.declared.stage.Stage.TheVariants as stage
use Rattle.arimaa_bot.specs.Choice.{IsChoice}
use Rattle.arimaa_bot.specs.Replies.{lines_of}
use Rattle.arimaa_bot.specs.Stages.{stage_after, stage_told}

-- the reply to a setup or a turn that is told: none where it is lawful
abbrev pub reply_told : Option Stage → Reply
reply_told (Some after) = reply.Nothing
reply_told None = reply.Illegal

-- the same by whether it is lawful
abbrev pub reply_lawful : Bool → Reply
reply_lawful lawful = if lawful then reply.Nothing else reply.Illegal

-- the reply to a refused line
abbrev pub reply_refused : CommandFault → Reply
reply_refused fault.Unknown = reply.Unknown
reply_refused fault.Argument = reply.Argument

-- what the bot may reply to a line that says this; to `quit` it has no reply
abbrev pub IsReply : Lookahead → Stage → Result Command CommandFault → Reply → Type 0
IsReply ahead at (Ok command.Aei) r = r ≡ reply.Greeting
IsReply ahead at (Ok command.IsReady) r = r ≡ reply.Ready
IsReply ahead at (Ok command.NewGame) r = r ≡ reply.Nothing
IsReply ahead at (Ok (command.SetPosition p)) r = r ≡ reply.Nothing
IsReply ahead at (Ok (command.SetOption name value)) r = r ≡ reply.Nothing
IsReply ahead at (Ok (command.MakeMove noted)) r =
    r ≡ reply_told (stage_told at (command.MakeMove noted))
IsReply ahead at (Ok (command.MakeSetup setup)) r =
    r ≡ reply_told (stage_told at (command.MakeSetup setup))
IsReply ahead at (Ok command.Go) r =
    (text : List ℕ) × IsChoice ahead at text × (r ≡ reply.BestMove text)
IsReply ahead at (Ok command.Stop) r = r ≡ reply.Nothing
IsReply ahead at (Ok command.Quit) r = ⊥
IsReply ahead at (Err why) r = r ≡ reply_refused why

-- the reply to what a line says, if there is one; there is none to `quit` alone
abbrev pub MatchReply : Lookahead → Stage → Result Command CommandFault → Option Reply → Type 0
MatchReply ahead at says None = says ≡ Ok command.Quit
MatchReply ahead at says (Some r) = IsReply ahead at says r

-- the same of a command
abbrev pub IsReplyOrQuit : Lookahead → Stage → Command → Option Reply → Type 0
IsReplyOrQuit ahead at c r = MatchReply ahead at (Ok c) r

-- the port gave this line
abbrev pub heard_line : List ℕ → PortAnswer
heard_line line = answer.Heard (said.Line line)

-- the port sent each of these lines
abbrev pub all_sent : List (List ℕ) → List PortAnswer
all_sent lines = map (λ _. answer.Sent) lines

-- line by line, each reply was sent before the next line was heard: the lines heard, what the port
-- answered, the lines sent, and the stage that the game has come to
pub data AreReplied (ahead : Lookahead)
    : List (List ℕ) → List PortAnswer → List (List ℕ) → Stage → Type 0 where
  none_yet : AreReplied ahead [] [] [] stage.Unset
  one_more : (lines : List (List ℕ)) (answers : List PortAnswer) (sent : List (List ℕ)) (at : Stage)
      (line : List ℕ) (r : Reply) → AreReplied ahead lines answers sent at
      → IsReply ahead at (command_of line) r
      → AreReplied ahead (lines ++ line ∷ []) (answers ++ heard_line line ∷ all_sent (lines_of r))
      (sent ++ lines_of r) (stage_after at (command_of line))

-- the lines that were replied to
pub record Talk (ahead : Lookahead) : Type 0 where
  pub lines : List (List ℕ)
  pub answers : List PortAnswer
  pub sent : List (List ℕ)
  pub at : Stage
  pub replied : AreReplied ahead lines answers sent at

-- how a session ends at a stage: the last answers of the port, the last lines sent, and the end
pub data IsLast (ahead : Lookahead) (at : Stage)
    : List PortAnswer → List (List ℕ) → BotEnd → Type 0 where
  -- the controller says `quit`
  quits : (line : List ℕ) → command_of line ≡ Ok command.Quit
      → IsLast ahead at (heard_line line ∷ []) [] end.Quit
  -- its lines have ended
  ended : IsLast ahead at (answer.Heard said.Ended ∷ []) [] end.Ended
  -- a line is too long
  too_long : IsLast ahead at (answer.Heard said.Long ∷ []) [] end.Long
  -- the port fails where it is listened to, or where a line of a reply is sent
  unheard : IsLast ahead at (answer.Failed ∷ []) [] end.Fault
  unsent : (line : List ℕ) (r : Reply) (first : List (List ℕ)) (next : List ℕ)
      (later : List (List ℕ)) → IsReply ahead at (command_of line) r
      → lines_of r ≡ first ++ next ∷ later
      → IsLast ahead at (heard_line line ∷ (all_sent first ++ answer.Failed ∷ [])) first end.Fault
  -- there is no memory for a line, for a reply, or for a line of a reply
  no_line : IsLast ahead at [] [] end.Memory
  no_reply : (line : List ℕ) → IsLast ahead at (heard_line line ∷ []) [] end.Memory
  half_sent : (line : List ℕ) (r : Reply) (first : List (List ℕ)) (next : List ℕ)
      (later : List (List ℕ)) → IsReply ahead at (command_of line) r
      → lines_of r ≡ first ++ next ∷ later
      → IsLast ahead at (heard_line line ∷ all_sent first) first end.Memory

-- a whole session: what the port answered, the lines that were sent, and the end
pub data IsSession (ahead : Lookahead) : List PortAnswer → List (List ℕ) → BotEnd → Type 0 where
  -- after lines that were replied to, something ends it
  stopped : (t : Talk ahead) (answers : List PortAnswer) (sent : List (List ℕ)) (e : BotEnd)
      → length t.lines < MOST_LINES → IsLast ahead t.at answers sent e
      → IsSession ahead (t.answers ++ answers) (t.sent ++ sent) e
  -- as many lines were replied to as the bot hears
  enough : (t : Talk ahead) → length t.lines ≡ MOST_LINES
      → IsSession ahead t.answers t.sent end.Limit
