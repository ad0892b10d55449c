use Rattle.std.proofs.Common.{◌≡◌, ◌∙◌, ap}
use Rattle.arimaa_step.specs.MarkRules.{marks_fit}
use Rattle.arimaa_step.proofs.MarkLaws.{marks_fit-MarksFit, marks_fit-marks_right}
use Rattle.arimaa_step.proofs.marks.marks_fit.Goals as goal

pub returns-clause-meaning : goal.returns-clause-meaning
returns-clause-meaning c =
    let is : c.all_fit.result ≡ marks_fit c.args.rule c.args.p.now.board c.args.noted.now = c.all_fit.ensures ∙ ap (marks_fit c.args.rule c.args.p.now.board) c.steps.ensures.value in
    rw is (marks_fit-MarksFit c.args.rule c.args.p.now.board c.args.noted.now)

pub returns-clause-required : goal.returns-clause-required
returns-clause-required c required =
    c.all_fit.ensures
    ∙ (ap (marks_fit c.args.rule c.args.p.now.board) c.steps.ensures.value
    ∙ (ap (λ rule. marks_fit rule c.args.p.now.board c.args.noted.now) required ∙ marks_fit-marks_right c.args.p.now.board c.args.noted.now))
