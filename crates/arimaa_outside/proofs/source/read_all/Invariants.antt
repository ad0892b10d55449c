use Rattle.std.proofs.Common.{◌-◌, ◌≡◌, ◌≤◌, vec_len}
use Rattle.std.specs.Io.KnownBytes.{prepend_known}
use Rattle.arimaa_outside.specs.declared.source.TheConstants.{INPUT_LIMIT}
use Rattle.arimaa_outside.proofs.source.read_all.Given as goal

-- the bytes so far are what was taken, within the limit, and no read has failed
abbrev pub invariant-pieces : goal.invariant-pieces
invariant-pieces g l = record {
  limit : vec_len l.bytes ≤ INPUT_LIMIT;
  taken : g.S.Source.remaining l.initial.source ≡ prepend_known l.bytes.items (g.S.Source.remaining l.source);
  sound : g.S.Source.faults l.source ≡ g.S.Source.faults l.initial.source;
}

abbrev pub decreases-pieces : goal.decreases-pieces
decreases-pieces g l = INPUT_LIMIT - vec_len l.bytes
