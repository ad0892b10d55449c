-- A session, line by line.
use Rattle.std.proofs.Common.{◌≡◌, ◌∙◌, ◌++◌, ◌+◌, ◌<◌, ◌≤◌, ℕ, List, [], ◌∷◌, length, length-append, ap, refl, sym, subst, arith}
use Rattle.arimaa_aei.specs.Commands.{command_of}
use Rattle.arimaa_outside.specs.declared.port_answer.PortAnswer.{PortAnswer}
use Rattle.arimaa_bot.specs.declared.bot_end.BotEnd.{BotEnd}
use Rattle.arimaa_bot.specs.declared.bot_end.BotEnd.TheVariants as end
use Rattle.arimaa_bot.specs.declared.lookahead.Lookahead.{Lookahead}
use Rattle.arimaa_bot.specs.declared.stage.Stage.{Stage}
use Rattle.arimaa_bot.specs.declared.stage.Stage.TheVariants as stage
use Rattle.arimaa_bot.specs.Calls.{HadSession, HasEnded, IsRepliedTo, Passed, Told}
use Rattle.arimaa_bot.specs.Replies.{lines_of}
use Rattle.arimaa_bot.specs.Stages.{stage_after}
use Rattle.arimaa_bot.specs.Talk.{IsLast, IsReply, IsSession, Talk, all_sent, ended, enough, half_sent, heard_line, no_line, no_reply, none_yet, one_more, quits, stopped, too_long, unheard, unsent}
use Rattle.arimaa_bot.proofs.Passing.{passed_both, passed_nothing}

-- so many lines were replied to, and the game has come to this stage
pub record Midst (ahead : Lookahead) (k : ℕ) (at : Stage) (old now : Told) : Type 0 where
  pub talk : Talk ahead
  pub many : length talk.lines ≡ k
  pub stage_is : talk.at ≡ at
  pub passed : Passed old now talk.answers talk.sent

pub midst_begun : (ahead : Lookahead) (old : Told) → Midst ahead 0 stage.Unset old old
midst_begun ahead old = record {
  talk = record { lines = []; answers = []; sent = []; at = stage.Unset; replied = none_yet };
  many = refl;
  stage_is = refl;
  passed = passed_nothing old;
}

pub midst_more : (ahead : Lookahead) (k : ℕ) (at after : Stage) (old mid new : Told) → Midst ahead k at old mid → IsRepliedTo ahead at after mid new → Midst ahead (k + 1) after old new
midst_more ahead k at after old mid new m r =
    let t : Talk ahead = m.talk in
    let whole = length-append t.lines (r.line ∷ []) in
    let many = m.many in
    record {
      talk = record {
        lines = t.lines ++ r.line ∷ [];
        answers = t.answers ++ heard_line r.line ∷ all_sent (lines_of r.reply);
        sent = t.sent ++ lines_of r.reply;
        at = stage_after t.at (command_of r.line);
        replied = one_more t.lines t.answers t.sent t.at r.line r.reply t.replied (subst (λ (s : Stage). IsReply ahead s (command_of r.line) r.reply) (sym m.stage_is) r.is_reply);
      };
      many = omega arith;
      stage_is = ap (λ (s : Stage). stage_after s (command_of r.line)) m.stage_is ∙ sym r.after_is;
      passed = passed_both old mid new t.answers (heard_line r.line ∷ all_sent (lines_of r.reply)) t.sent (lines_of r.reply) m.passed r.passed;
    }

pub midst_ended : (ahead : Lookahead) (k : ℕ) (at : Stage) (old mid new : Told) (e : BotEnd) → k < 1000000 → Midst ahead k at old mid → HasEnded ahead at mid new e → HadSession ahead old new e
midst_ended ahead k at old mid new e below m done =
    let t : Talk ahead = m.talk in
    let many = m.many in
    record {
      answers = t.answers ++ done.answers;
      sent = t.sent ++ done.sent;
      session = stopped t done.answers done.sent e (omega arith) (subst (λ (s : Stage). IsLast ahead s done.answers done.sent e) (sym m.stage_is) done.last);
      passed = passed_both old mid new t.answers done.answers t.sent done.sent m.passed done.passed;
    }

pub midst_enough : (ahead : Lookahead) (k : ℕ) (at : Stage) (old now : Told) → 1000000 ≤ k → k ≤ 1000000 → Midst ahead k at old now → HadSession ahead old now end.Limit
midst_enough ahead k at old now least most m =
    let t : Talk ahead = m.talk in
    let many = m.many in
    record { answers = t.answers; sent = t.sent; session = enough t (omega arith); passed = m.passed }

-- no session ends by its words
unworded : (ahead : Lookahead) (at : Stage) (a : List PortAnswer) (s : List (List ℕ)) (e : BotEnd) → IsLast ahead at a s e → e ≡ end.Words → ⊥
unworded ahead at a s e (quits line says) is = cc
unworded ahead at a s e ended is = cc
unworded ahead at a s e too_long is = cc
unworded ahead at a s e unheard is = cc
unworded ahead at a s e (unsent line r first next later reply parts) is = cc
unworded ahead at a s e no_line is = cc
unworded ahead at a s e (no_reply line) is = cc
unworded ahead at a s e (half_sent line r first next later reply parts) is = cc

session_unworded : (ahead : Lookahead) (a : List PortAnswer) (s : List (List ℕ)) (e : BotEnd) → IsSession ahead a s e → e ≡ end.Words → ⊥
session_unworded ahead a s e (stopped t answers sent why few is_last) is = unworded ahead t.at answers sent why is_last is
session_unworded ahead a s e (enough t many) is = cc

pub never_words : (ahead : Lookahead) (old new : Told) (e : BotEnd) → HadSession ahead old new e → e ≡ end.Words → ⊥
never_words ahead old new e h is = session_unworded ahead h.answers h.sent e h.session is
