use Rattle.std.proofs.Common.{◌∙◌, sym, not, Bool}
use Rattle.arimaa_board.specs.declared.position.Position.{Position}
use Rattle.arimaa_model.specs.Results.{results, stands_in}
use Rattle.arimaa_results.proofs.Lemmas.Found.{any-filter, filter-any}
use Rattle.arimaa_results.proofs.first_turns.any_result.Goals as goal

pub returns : goal.returns
returns c =
    let allowed : Position → Bool = λ q. not (stands_in c.args.barred.now q) in
    let some = c.is_some.ensures ∙ c.first_turn_where.ensures.some in
    (λ found. any-filter allowed (results c.args.p.now) (sym some ∙ found), λ kept. some ∙ filter-any allowed (results c.args.p.now) kept)
