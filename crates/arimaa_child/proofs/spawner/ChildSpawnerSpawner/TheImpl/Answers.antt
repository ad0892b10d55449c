use Rattle.std.proofs.Common.{refl}
use Rattle.arimaa_child.proofs.Untold.{untold_err, untold_ok}
use Rattle.arimaa_child.proofs.spawner.ChildSpawnerSpawner.TheImpl.Goals as goal

pub open-tells : goal.open-tells
open-tells g c = record {
  link = untold_ok _ c.result;
  fresh = c.ensures.fresh;
  kept = untold_err _ c.result;
  answer = refl;
  back = refl;
  balance = tt;
  sound = c.ensures.sound;
  failed = c.ensures.failed;
  never_falls = c.ensures.never_falls;
}
