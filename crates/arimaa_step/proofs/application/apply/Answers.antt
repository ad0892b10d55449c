use Rattle.std.proofs.Common.{◌≡◌, ◌∙◌, ap}
use Rattle.arimaa_model.specs.Faults.{apply_result}
use Rattle.arimaa_step.proofs.Lemmas.Outcomes.{apply_law}
use Rattle.arimaa_step.proofs.application.apply.Goals as goal

pub returns-clause-turn : goal.returns-clause-turn
returns-clause-turn c q =
    let is : c.apply_steps.result ≡ apply_result c.args.p.now c.args.turn.now = c.apply_steps.ensures ∙ ap (apply_result c.args.p.now) c.steps.ensures.value in
    rw is (apply_law c.args.p.now c.args.turn.now c.steps.ensures.few q)
