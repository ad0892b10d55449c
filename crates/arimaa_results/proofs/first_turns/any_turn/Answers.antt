use Rattle.std.proofs.Common.{◌∙◌, sym}
use Rattle.arimaa_model.specs.Results.{results}
use Rattle.arimaa_results.proofs.Lemmas.Found.{any-positive, positive-any}
use Rattle.arimaa_results.proofs.first_turns.any_turn.Goals as goal

pub returns : goal.returns
returns c =
    let some = c.is_some.ensures ∙ c.first_turn_where.ensures.some in
    (λ found. any-positive (results c.args.p.now) (sym some ∙ found), λ more. some ∙ positive-any (results c.args.p.now) more)
