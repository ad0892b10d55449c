use Rattle.std.proofs.Common.{◌≡◌, Option, None, Some, IfSome, refl}
use Rattle.arimaa_line.specs.declared.bounds.Bounds.{Bounds}
use Rattle.arimaa_line.proofs.Lemmas.Truth.{true_is_line, truth_said}
use Rattle.arimaa_table.specs.declared.view.Setting.{Setting}
use Rattle.arimaa_table.proofs.table.Table.read.Goals as goal

if_some : (P : Bounds → Type 0) (o : Option Bounds) → ((k : Bounds) → o ≡ Some k → P k) → IfSome o P
if_some P None all = tt
if_some P (Some k) all = all k refl

pub read-requires : goal.read-requires
read-requires c = let k : Setting = c.args.self.now.words.shared.key in true_is_line k.attacker k.barred c.args.line.now c.requires

pub returns-clause-right : goal.returns-clause-right
returns-clause-right c = let k : Setting = c.args.self.now.words.shared.key in if_some _ c.read.result (λ b e. truth_said k.attacker k.barred c.args.line.now b c.requires ((c.read.ensures b).0 e).0)
