use Rattle.std.proofs.Common.{◌∙◌, sym}
use Rattle.std.proofs.lemmas.Option.{IfSome_then}
use Rattle.arimaa_model.specs.Results.{results}
use Rattle.arimaa_results.proofs.Lemmas.Found.{first_turn-is, any-stands, brings-reached}
use Rattle.arimaa_results.proofs.first_turns.first_turn.Goals as goal

pub returns-clause-first : goal.returns-clause-first
returns-clause-first c = c.first_turn_where.ensures.first ∙ first_turn-is c.args.p.now c.args.reached.now

pub returns-clause-some : goal.returns-clause-some
returns-clause-some c =
    let same = c.first_turn_where.ensures.some ∙ any-stands c.args.p.now c.args.reached.now (results c.args.p.now) in
    (λ found. sym same ∙ found, λ stands. same ∙ stands)

pub returns-clause-reaches : goal.returns-clause-reaches
returns-clause-reaches c = IfSome_then c.first_turn_where.result c.first_turn_where.ensures.wanted (brings-reached c.args.p.now c.args.reached.now)
