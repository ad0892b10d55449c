use Rattle.std.proofs.Common.{◌≡◌}
use Rattle.arimaa_outside.specs.Counts.{NeverFall}
use Rattle.arimaa_bot.specs.Calls.{told_by}
use Rattle.arimaa_bot.specs.Stages.{IsWhole}
use Rattle.arimaa_bot.proofs.Midst.{Midst}
use Rattle.arimaa_bot.proofs.session.talk.Given as goal

abbrev pub invariant-loop-heard : goal.invariant-loop-heard
invariant-loop-heard g l =
    let p = g.P.Port in
    record {
      midst : Midst l.ahead l.heard l.stage (told_by p.answers p.sent l.initial.port) (told_by p.answers p.sent l.port);
      whole : IsWhole l.stage;
      faults : (p.counts l.port).faults ≡ (p.counts l.initial.port).faults;
      never_falls : NeverFall (p.counts l.initial.port) (p.counts l.port);
    }
