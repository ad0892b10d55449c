use Rattle.std.proofs.Common.{subst}
use Rattle.std.specs.Prelude.{is_ok, is_err}
use Rattle.arimaa_results.specs.Additions.{IsFilled}
use Rattle.arimaa_results.proofs.turn_walk.fill_last.Goals as goal

pub returns-clause-filled : goal.returns-clause-filled
returns-clause-filled c =
    let r = c.fill_ends.result in
    subst (λ l. IsFilled c.args.region.now c.fill_ends.new.region (is_ok r) (is_err r) l) (c.of.ensures c.args.barred.now) c.fill_ends.ensures.filled
