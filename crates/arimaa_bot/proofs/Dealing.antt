-- A line that is heard and replied to, or that ends the session.
use Rattle.std.proofs.Common.{◌≡◌, ◌∙◌, ◌++◌, ℕ, List, [], ◌∷◌, Ok, Err, refl, subst}
use Rattle.std.proofs.lemmas.List.{append-nil}
use Rattle.arimaa_aei.specs.Commands.{command_of}
use Rattle.arimaa_aei.specs.declared.command.Command.TheVariants as command
use Rattle.arimaa_outside.specs.Counts.{Counts}
use Rattle.arimaa_outside.specs.declared.port_answer.PortAnswer.{PortAnswer}
use Rattle.arimaa_outside.specs.declared.port_answer.PortAnswer.TheVariants as answer
use Rattle.arimaa_outside.specs.declared.port_fault.PortFault.{PortFault}
use Rattle.arimaa_outside.specs.declared.port_fault.PortFault.TheVariants as port
use Rattle.arimaa_outside.specs.declared.speech.Said.TheVariants as said
use Rattle.arimaa_bot.specs.declared.bot_end.BotEnd.{BotEnd}
use Rattle.arimaa_bot.specs.declared.bot_end.BotEnd.TheVariants as end
use Rattle.arimaa_bot.specs.declared.lookahead.Lookahead.{Lookahead}
use Rattle.arimaa_bot.specs.declared.reply.Reply.{Reply}
use Rattle.arimaa_bot.specs.declared.stage.Stage.{Stage}
use Rattle.arimaa_bot.specs.Calls.{HasEnded, HasFailed, HeardSo, IsCauseOf, IsRepliedTo, Passed, Told, WereSent, end_of}
use Rattle.arimaa_bot.specs.Replies.{lines_of}
use Rattle.arimaa_bot.specs.Stages.{stage_after}
use Rattle.arimaa_bot.specs.Talk.{IsReply, all_sent, ended, half_sent, heard_line, no_line, no_reply, quits, too_long, unheard, unsent}
use Rattle.arimaa_bot.proofs.Causes.{later_faults}
use Rattle.arimaa_bot.proofs.Passing.{passed_both}

-- no line was heard
pub unheard_ends : (ahead : Lookahead) (at : Stage) (old new : Told) (line : List ℕ) (e : BotEnd) → HeardSo old new line (Err e) → HasEnded ahead at old new e
unheard_ends ahead at old new line end.Ended h = record { answers = answer.Heard said.Ended ∷ []; sent = []; last = ended; passed = h }
unheard_ends ahead at old new line end.Long h = record { answers = answer.Heard said.Long ∷ []; sent = []; last = too_long; passed = h }
unheard_ends ahead at old new line end.Fault h = record { answers = answer.Failed ∷ []; sent = []; last = unheard; passed = h }
unheard_ends ahead at old new line end.Memory h = record { answers = []; sent = []; last = no_line; passed = h }
unheard_ends ahead at old new line end.Quit h = absurd h
unheard_ends ahead at old new line end.Words h = absurd h
unheard_ends ahead at old new line end.Limit h = absurd h

module _ (ahead : Lookahead) (at : Stage) (old mid : Told) (line : List ℕ) (told : Passed old mid (heard_line line ∷ []) []) where
  -- there is no memory for the reply
  pub unthought_ends : HasEnded ahead at old mid end.Memory
  unthought_ends = record { answers = heard_line line ∷ []; sent = []; last = no_reply line; passed = told }

  -- the line is `quit`
  pub quit_ends : command_of line ≡ Ok command.Quit → HasEnded ahead at old mid end.Quit
  quit_ends says = record { answers = heard_line line ∷ []; sent = []; last = quits line says; passed = told }

  module _ (new : Told) (r : Reply) (reply : IsReply ahead at (command_of line) r) where
    -- the reply was sent
    pub replied : (after : Stage) → after ≡ stage_after at (command_of line) → Passed mid new (all_sent (lines_of r)) (lines_of r) → IsRepliedTo ahead at after old new
    replied after is sent = record {
      line = line;
      reply = r;
      is_reply = reply;
      after_is = is;
      passed = passed_both old mid new (heard_line line ∷ []) (all_sent (lines_of r)) [] (lines_of r) told sent;
    }

    -- a line of it was not sent
    pub unsent_ends : (e : PortFault) → WereSent (lines_of r) mid new (Err e) → HasEnded ahead at old new (end_of e)
    unsent_ends port.Failed b = record {
      answers = heard_line line ∷ (all_sent b.first ++ answer.Failed ∷ []);
      sent = b.first;
      last = unsent line r b.first b.next b.later reply b.parts;
      passed = passed_both old mid new (heard_line line ∷ []) (all_sent b.first ++ answer.Failed ∷ []) [] b.first told b.passed;
    }
    unsent_ends port.Memory b = record {
      answers = heard_line line ∷ all_sent b.first;
      sent = b.first;
      last = half_sent line r b.first b.next b.later reply b.parts;
      passed = passed_both old mid new (heard_line line ∷ []) (all_sent b.first) [] b.first told
          (subst (λ (a : List PortAnswer). Passed mid new a b.first) (append-nil (all_sent b.first)) b.passed);
    }

-- the cause of an end where a line of a reply was not sent
pub unsent_cause : (old mid new : Counts) (e : PortFault) → mid.faults ≡ old.faults → HasFailed mid new (Err e) → IsCauseOf old new (Err (end_of e))
unsent_cause old mid new port.Failed same failed = (later_faults old.faults mid.faults new.faults same failed, λ other. absurd (other refl))
unsent_cause old mid new port.Memory same kept = (tt, λ _. kept ∙ same)
