use Rattle.arimaa_match.specs.Parts.{AreWhole, ports, scene}
use Rattle.arimaa_match.proofs.Counted.{NeitherFell}
use Rattle.arimaa_match.proofs.Turns.{Midst}
use Rattle.arimaa_match.proofs.play.play.Given as goal

abbrev pub invariant-loop-booked : goal.invariant-loop-booked
invariant-loop-booked g l =
    let p = g.P.Port in
    record {
      are_whole : AreWhole l.gold l.silver;
      fell : NeitherFell (ports p.sent p.answers p.counts l.initial.gold l.initial.silver)
          (ports p.sent p.answers p.counts l.gold l.silver);
      midst : Midst l.initial.umpire l.umpire l.booked
          (scene p.sent p.answers p.counts l.initial.gold l.initial.silver
          (g.K.Clock.given l.initial.clock))
          (scene p.sent p.answers p.counts l.gold l.silver (g.K.Clock.given l.clock));
    }
