use Rattle.std.proofs.Common.{refl, ◌∙◌}
use Rattle.arimaa_match.specs.Records.{state_after}
use Rattle.arimaa_meet.proofs.Counting.{counted_is, judged_match}
use Rattle.arimaa_meet.proofs.meet.play_pair.Goals as goal

pub returns : goal.returns
returns g c =
    let s = state_after c.in-Ok.done.written in
    record {
      the_match = judged_match c.args.pair c.in-Ok.done s;
      programs = refl;
      plays = record {
        went = rw (← c.program-gold.ensures, ← c.program-silver.ensures) c.in-Ok.ensures.went;
        cause = c.in-Ok.ensures.cause;
      };
      telling = record {
        text = c.in-Ok-match_text.ensures.text;
        counted_so = c.of.ensures ∙ counted_is c.args.pair c.in-Ok.done s;
        judged = c.in-Ok-match_text.ensures.lawful c.in-Ok.ensures.written;
      };
    }
