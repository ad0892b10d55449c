use Rattle.std.proofs.Common.{ap, rules, arith, subst}
use Rattle.atomic_table.specs.Table.{Me}
use Rattle.arimaa_line.specs.declared.line.Line.{Line}
use Rattle.arimaa_line.specs.declared.bounds.Bounds.{Bounds}
use Rattle.arimaa_line.specs.Lines.{IsLineOf, LosesNoBound}
use Rattle.arimaa_line.proofs.Lemmas.Truth.{says_truth, loses_none-said}
use Rattle.arimaa_table.specs.declared.view.Setting.{Setting}
use Rattle.arimaa_table.specs.declared.view.PassView.{PassView}
use Rattle.arimaa_table.proofs.CallSteps.{given_back, may_give_newer, only_here}
use Rattle.arimaa_table.proofs.table.Table.add.Goals as goal

pub returns-in_default-clause-only_here : goal.returns-in_default-clause-only_here
returns-in_default-clause-only_here c = let v : PassView = c.args.pass.now.seat.me.0 in
    let e = given_back c.args.self.now.words.shared.key v c.args.place _ _ _ _ _ c.requires.pass.1 c.requires.place c.in-Ok.ensures.took c.give.ensures.gave in
    only_here v _ c.args.place _ (search rules) (ap (λ (y : Me Line PassView). y.0) e)

pub give-requires-in-Ok-clause-table : goal.give-requires-in-Ok-clause-table
give-requires-in-Ok-clause-table c = let k : Setting = c.args.self.now.words.shared.key in
    (search rules, may_give_newer k c.args.pass.now.seat.me.0 c.args.place _ _ _ _ c.requires.pass.1 c.requires.place c.in-Ok.ensures.took (omega (arith, c.encode.ensures.stamp)) (says_truth k.attacker k.barred _ _ c.encode.ensures.reads_back c.bounds_over-bounds.ensures.right))

pub returns-in-Some-clause-only_here : goal.returns-in-Some-clause-only_here
returns-in-Some-clause-only_here c = let v : PassView = c.args.pass.now.seat.me.0 in
    let e = given_back c.args.self.now.words.shared.key v c.args.place _ _ _ _ _ c.requires.pass.1 c.requires.place c.in-Ok.ensures.took c.give-in-Ok.ensures.gave in
    only_here v _ c.args.place _ (search rules) (ap (λ (y : Me Line PassView). y.0) e)

pub returns-in-Some-clause-answer : goal.returns-in-Some-clause-answer
returns-in-Some-clause-answer c = record {
  line = c.in-Ok.line;
  bounds = c.bounds_over-bounds.result;
  stamp = search rules;
  most = search rules;
  position = c.bounds_over-bounds.ensures.position;
  keeps_known = c.bounds_over-bounds.ensures.keeps_known;
  keeps_line = c.bounds_over-bounds.ensures.keeps_line;
  right = c.bounds_over-bounds.ensures.right;
  took = record {
    is_true = search rules;
    no_older = search rules;
    took = search rules;
    kept = search rules;
    once = search rules;
    last = search rules;
    after = search rules;
    steps = search rules;
    first = search rules;
    bounds = subst (λ (x : Line). (j : Bounds) → IsLineOf x j → LosesNoBound c.in-Ok.line j) c.encode.ensures.words (loses_none-said c.in-Ok.line c.encode.result c.bounds_over-bounds.result c.encode.ensures.reads_back c.bounds_over-bounds.ensures.keeps_line);
  };
}
