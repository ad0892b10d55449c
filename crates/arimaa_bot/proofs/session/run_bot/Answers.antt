use Rattle.std.proofs.Common.{subst}
use Rattle.arimaa_bot.specs.declared.lookahead.Lookahead.{Lookahead}
use Rattle.arimaa_bot.specs.Calls.{HadSession, told_by}
use Rattle.arimaa_bot.proofs.LookaheadForms.{one_lookahead}
use Rattle.arimaa_bot.proofs.session.run_bot.Goals as goal

pub returns-in-Some-clause-session : goal.returns-in-Some-clause-session
returns-in-Some-clause-session g c = λ ahead asks.
    let same = one_lookahead c.args.words.now c.in-Some.ahead ahead c.in-Some.ensures.asked asks in
    let p = g.P.Port in
    subst (λ (l : Lookahead). HadSession l (told_by p.answers p.sent c.args.port.now) (told_by p.answers p.sent c.talk.new.port) c.talk.result) same c.talk.ensures.session

pub returns-in-None-clause-session : goal.returns-in-None-clause-session
returns-in-None-clause-session g c = λ ahead asks. absurd (c.in-None.ensures.none ahead asks)
