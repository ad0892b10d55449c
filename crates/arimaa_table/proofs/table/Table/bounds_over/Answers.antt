use Rattle.arimaa_line.proofs.Lemmas.Truth.{true_is_line}
use Rattle.arimaa_table.specs.declared.view.Setting.{Setting}
use Rattle.arimaa_table.proofs.table.Table.bounds_over.Goals as goal

pub bounds_over-requires : goal.bounds_over-requires
bounds_over-requires c = let k : Setting = c.args.self.now.words.shared.key in true_is_line k.attacker k.barred c.args.line.now c.requires.line
