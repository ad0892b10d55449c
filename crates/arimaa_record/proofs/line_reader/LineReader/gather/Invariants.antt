use Rattle.std.proofs.Common.{◌≡◌, ◌≤◌, ◌-◌}
use Rattle.arimaa_outside.specs.declared.source.TheConstants.{INPUT_LIMIT}
use Rattle.arimaa_record.proofs.Lemmas.LineGathering.{Midway}
use Rattle.arimaa_record.proofs.line_reader.LineReader.gather.Given as goal

-- the bytes that came and were held before are the line so far and those that are held
abbrev pub invariant-pieces : goal.invariant-pieces
invariant-pieces g l = record {
  midway : Midway l.fn.self.held l.fn.self.taken l.self.held l.self.line.items l.self.taken
      (g.I.Source.remaining l.initial.input) (g.I.Source.remaining l.input);
  limit : l.self.taken ≤ INPUT_LIMIT;
  ended : l.self.is_ended ≡ l.fn.self.is_ended;
  failed : l.self.has_failed ≡ l.fn.self.has_failed;
  sound : g.I.Source.faults l.input ≡ g.I.Source.faults l.initial.input;
}

abbrev pub decreases-pieces : goal.decreases-pieces
decreases-pieces g l = INPUT_LIMIT - l.self.taken
