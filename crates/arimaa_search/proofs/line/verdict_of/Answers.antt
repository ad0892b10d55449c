use Rattle.std.proofs.Common.{refl}
use Rattle.arimaa_table.specs.Passes.{setting_of}
use Rattle.arimaa_search.proofs.Leaves.{tells, answer_at}
use Rattle.arimaa_search.proofs.line.verdict_of.Goals as goal

pub returns-clause-verdict : goal.returns-clause-verdict
returns-clause-verdict c =
    let a = (setting_of c.args.table.now).attacker in let barred = (setting_of c.args.table.now).barred in
    let said = (c.in_ok-bounds.ensures.says c.in_ok-bounds.bounds).0 refl in
    answer_at c.answers.result a barred c.args.depth c.in_ok-bounds.bounds.position c.args.p.now said.1 (c.answers.ensures.right a barred c.in_ok-bounds.ensures.right)

pub returns-clause-told : goal.returns-clause-told
returns-clause-told c =
    let said = (c.in_ok-bounds.ensures.says c.in_ok-bounds.bounds).0 refl in
    tells c.answers.result c.args.line.now c.args.p.now c.args.depth c.in_ok-bounds.bounds said.0 said.1 c.answers.ensures.no c.answers.ensures.yes
