use Rattle.std.proofs.Common.{arith, length-drop, length-take}
use Rattle.arimaa_outside.proofs.Lemmas.Content.{took_more}
use Rattle.arimaa_outside.proofs.sink.write_all.Goals as goal

pub loop-written-preserved : goal.loop-written-preserved
loop-written-preserved g c =
    let bound = simp (length-take, length-drop) at c.in_ok-written.ensures.bound in
    record {
      within = omega arith;
      added = took_more _ _ _ c.args.bytes.now _ _ c.loop-written.invariant.added c.in_ok-written.ensures.added;
      sound = cc (c.in_ok-written.ensures.sound, c.loop-written.invariant.sound);
    }
