use Rattle.std.proofs.Common.{◌≡◌, length, arith, sym, ◌∙◌, eqb-true, take_all}
use Rattle.std.proofs.lemmas.List.{take-append-le}
use Rattle.arimaa_notation.proofs.turn.keep.Goals as goal

pub returns-then-is_full : goal.returns-then-is_full
returns-then-is_full c =
    let kept = c.args.steps.now.items in
    let full : length kept ≡ 4 = eqb-true (length kept) 4 (sym c.is_full.ensures.value ∙ c.if-is_full.true) in
    sym (take-append-le 4 kept _ (omega arith) ∙ take_all 4 kept (omega arith))
