use Rattle.arimaa_time.proofs.Cutting.{fields_left-length}
use Rattle.arimaa_time.proofs.fields.Fields.has_more.Goals as goal

pub returns : goal.returns
returns c = let e = c.is_some.ensures in let v = c.self.view_is in fields_left-length c.self.inside.left c.args.self.now c.is_some.result c.self.view_is c.is_some.ensures
