use Rattle.std.proofs.lemmas.Result.{err_from_is_err_and}
use Rattle.arimaa_outside.proofs.Lemmas.Content.{gave_both}
use Rattle.arimaa_outside.proofs.source.read_all.Goals as goal

pub returns-then-count-len-clause-lost : goal.returns-then-count-len-clause-lost
returns-then-count-len-clause-lost g c =
    (_, gave_both _ _ _ _ _ c.pieces.invariant.taken c.in_ok-count.ensures.taken)

pub returns-in_err-extend_from_slice-clause-lost :
    goal.returns-in_err-extend_from_slice-clause-lost
returns-in_err-extend_from_slice-clause-lost g c =
    let p = err_from_is_err_and c.from_residual-in_err-extend_from_slice.result c.from_residual-in_err-extend_from_slice.ensures.1 in
    rw (p.1) (_, gave_both _ _ _ _ _ c.pieces.invariant.taken c.in_ok-count.ensures.taken)
