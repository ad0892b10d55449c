use Rattle.std.proofs.Common.{[], Bor, List, ℕ}
use Rattle.arimaa_bot.specs.Calls.{told_by}
use Rattle.arimaa_bot.proofs.Passing.{sent_down, sent_up}
use Rattle.arimaa_bot.proofs.outgoing.+send_all.Goals as goal

pub returns-in-Ok-clause-sent : goal.returns-in-Ok-clause-sent
returns-in-Ok-clause-sent g t c =
    let p = g.P.Port in
    let line : Bor (List ℕ) → List ℕ = λ l. l.now in
    sent_up c.args.lines.now line (record { ref_ptr = (0, 0); now = [] })
    (told_by p.answers p.sent c.args.port.now) (told_by p.answers p.sent c.send.new.self) (told_by p.answers p.sent c.send_all.new.port)
    c.send_all.result c.in-len1-up.len_at_least c.in-Ok.ensures.answer c.in-Ok.ensures.sent c.send_all.ensures.sent

pub returns-in-Err-clause-sent : goal.returns-in-Err-clause-sent
returns-in-Err-clause-sent g t c =
    let p = g.P.Port in
    let line : Bor (List ℕ) → List ℕ = λ l. l.now in
    sent_down c.args.lines.now line (record { ref_ptr = (0, 0); now = [] })
    (told_by p.answers p.sent c.args.port.now) (told_by p.answers p.sent c.send.new.self)
    c.in-Err.fault c.in-len1-up.len_at_least c.in-Err.ensures.answer c.in-Err.ensures.kept
