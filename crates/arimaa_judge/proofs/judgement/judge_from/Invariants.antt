use Rattle.std.proofs.Common.{◌≡◌, ◌+◌, ◌-◌, length}
use Rattle.arimaa_outside.specs.declared.source.TheConstants.{INPUT_LIMIT}
use Rattle.arimaa_judge.proofs.RecordReading.{Reading}
use Rattle.arimaa_judge.proofs.judgement.judge_from.Given as goal

-- the lines so far were read and taken, and no read has failed
abbrev pub invariant-lines : goal.invariant-lines
invariant-lines g l = record {
  reading : Reading l.reader l.progress (g.I.Source.remaining l.initial.input) (g.I.Source.remaining l.input);
  sound : g.I.Source.faults l.input ≡ g.I.Source.faults l.initial.input;
}

-- the bytes that may still be taken and those that are held
abbrev pub decreases-lines : goal.decreases-lines
decreases-lines g l = (INPUT_LIMIT - l.reader.taken) + length l.reader.held
