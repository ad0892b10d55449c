use Rattle.std.proofs.Common.{arith, sym, ◌∙◌}
use Rattle.arimaa_results.specs.ListsToWin.{is_won_by}
use Rattle.arimaa_results.proofs.Adding.{any_on_top}
use Rattle.arimaa_results.proofs.layer_lists.is_any_won.Goals as goal

pub returns-then-is_won_by : goal.returns-then-is_won_by
returns-then-is_won_by c = λ _. any_on_top (is_won_by c.args.side) c.args.region.now.segments c.loop-place.place c.get-reached.result (omega (arith, c.requires, c.loop-place.auto.place)) c.get-reached.ensures (sym c.is_won_by.ensures ∙ c.if-is_won_by.true)
