use Rattle.std.proofs.Common.{◌≡◌, ◌∙◌, List, Ok, ap, subst, sym, ℕ}
use Rattle.arimaa_aei.specs.Commands.{command_of}
use Rattle.arimaa_aei.specs.declared.command.Command.TheVariants as command
use Rattle.arimaa_bot.specs.declared.bot_end.BotEnd.{BotEnd}
use Rattle.arimaa_bot.specs.Calls.{HasEnded, told_by}
use Rattle.arimaa_bot.specs.Talk.{IsReply, MatchReply}
use Rattle.arimaa_bot.proofs.Dealing.{quit_ends, unheard_ends, unsent_ends, unthought_ends}
use Rattle.arimaa_bot.proofs.session.deal.Goals as goal

pub returns-in-Err-clause-dealt : goal.returns-in-Err-clause-dealt
returns-in-Err-clause-dealt g c = unheard_ends c.args.ahead.now c.args.stage.now _ _ c.hear.new.line.items c.in-Err.end c.in-Err.ensures.heard

pub returns-in-Err-respond-clause-dealt : goal.returns-in-Err-respond-clause-dealt
returns-in-Err-respond-clause-dealt g c = unthought_ends c.args.ahead.now c.args.stage.now _ _ c.hear.new.line.items c.in-Ok.ensures.heard

pub returns-in-None-clause-dealt : goal.returns-in-None-clause-dealt
returns-in-None-clause-dealt g c =
    let says : command_of c.deref.result.now ≡ Ok command.Quit =
    subst (MatchReply c.args.ahead.now c.args.stage.now (command_of c.deref.result.now)) c.in-None.is c.in-Ok-respond.ensures.reply in
    quit_ends c.args.ahead.now c.args.stage.now _ _ c.hear.new.line.items c.in-Ok.ensures.heard (ap command_of (sym c.deref.ensures.value) ∙ says)

pub returns-clause-dealt : goal.returns-clause-dealt
returns-clause-dealt g c =
    let p = g.P.Port in
    let a = c.args.ahead.now in
    let s = c.args.stage.now in
    let said : IsReply a s (command_of c.deref.result.now) c.in-Some.reply =
    subst (MatchReply a s (command_of c.deref.result.now)) c.in-Some.is c.in-Ok-respond.ensures.reply in
    let reply = subst (λ (line : List ℕ). IsReply a s (command_of line) c.in-Some.reply) c.deref.ensures.value said in
    let old = told_by p.answers p.sent c.args.port.now in
    let new = told_by p.answers p.sent c.send_reply.new.port in
    subst (λ (e : BotEnd). HasEnded a s old new e) (sym c.end_of.ensures)
    (unsent_ends a s old (told_by p.answers p.sent c.hear.new.port) c.hear.new.line.items c.in-Ok.ensures.heard new c.in-Some.reply reply c.in-Err-send_reply.fault c.in-Err-send_reply.ensures.sent)
