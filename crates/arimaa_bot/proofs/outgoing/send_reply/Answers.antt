use Rattle.std.proofs.Common.{◌≡◌, rules, subst, sym}
use Rattle.std.specs.Prelude.{codes}
use Rattle.arimaa_bot.specs.declared.reply.Reply.{Reply}
use Rattle.arimaa_bot.specs.Calls.{WereSent, told_by}
use Rattle.arimaa_bot.specs.Replies.{lines_of}
use Rattle.arimaa_bot.proofs.Passing.{four_sent}
use Rattle.arimaa_bot.proofs.outgoing.send_reply.Goals as goal

pub returns-in-Greeting-clause-sent : goal.returns-in-Greeting-clause-sent
returns-in-Greeting-clause-sent g c =
    let p = g.P.Port in
    let version : c.as_slice.result.now ≡ codes "protocol-version 1" = search rules in
    let name : c.as_slice-in-Greeting.result.now ≡ codes "id name arimaa_bot" = search rules in
    let author : c.as_slice-in-Greeting-2.result.now ≡ codes "id author arimaa" = search rules in
    let done : c.as_slice-in-Greeting-3.result.now ≡ codes "aeiok" = search rules in
    let old = told_by p.answers p.sent c.args.port.now in
    let new = told_by p.answers p.sent c.send_all.new.port in
    subst (λ (r : Reply). WereSent (lines_of r) old new c.send_all.result) (sym c.in-Greeting.is)
    (four_sent c.as_slice.result.now c.as_slice-in-Greeting.result.now c.as_slice-in-Greeting-2.result.now c.as_slice-in-Greeting-3.result.now
    (codes "protocol-version 1") (codes "id name arimaa_bot") (codes "id author arimaa") (codes "aeiok")
    old new c.send_all.result version name author done c.send_all.ensures.sent)
