use Rattle.arimaa_cli.proofs.Agreeing.{enough_stops_none}
use Rattle.arimaa_cli.proofs.laws.stops_need_more.Goals as goal

pub returns : goal.returns
returns c = enough_stops_none c.needs_are_within_the_root.ensures.crowd
