use Rattle.std.proofs.Common.{◌≡◌, ◌+◌, [], ◌∷◌, ◌++◌, length, take, arith, sym, ◌∙◌, ap, subst, take_all, List}
use Rattle.std.specs.List.{AllByRecursion}
use Rattle.arimaa_board.specs.declared.turn.NotedStep.{NotedStep}
use Rattle.std.proofs.lemmas.List.{take_more}
use Rattle.std.specs.Prelude.{fold}
use Rattle.arimaa_notation.specs.Written.{with_item, text_of_turn, items_of_step}
use Rattle.arimaa_notation.specs.Grammar.{IsOnBoard}
use Rattle.arimaa_notation.proofs.Lemmas.ReadingBack.{all_more, turn-back}
use Rattle.arimaa_notation.proofs.Lemmas.WrittenLaws.{turn-more, length-more}
use Rattle.arimaa_notation.proofs.writer.turn_text.Goals as goal

pub loop-noted-preserved : goal.loop-noted-preserved
loop-noted-preserved c =
    let n = c.noted-item.result in
    let ns = c.steps-noted-items.result.now in
    let i = c.loop-noted.noted-index in
    let here : take (i + 1) ns ≡ take i ns ++ n ∷ [] = take_more ns i n c.loop-noted-test.true ∙ ap (λ x. take i ns ++ x ∷ []) (sym c.noted-item.is) in
    let added : c.push_noted.new.text.bytes ≡ fold with_item (text_of_turn (take i ns)) (items_of_step n) = c.push_noted.ensures.items ∙ ap (λ t. fold with_item t (items_of_step n)) c.loop-noted.invariant.0 in (
      added ∙ (turn-more (take i ns) n ∙ ap text_of_turn (sym here)),
      omega (arith, ap length c.push_noted.ensures.items, length-more c.loop-noted.text.bytes n i c.loop-noted.invariant.1),
      all_more IsOnBoard ns i n c.loop-noted-test.true c.noted-item.is c.loop-noted.invariant.2 c.push_noted.ensures.on_board,
    )

pub returns-clause-reads_back : goal.returns-clause-reads_back
returns-clause-reads_back c =
    let ns = c.steps-noted-items.result.now in
    let whole : take c.loop-noted.noted-index ns ≡ c.args.turn.now = take_all c.loop-noted.noted-index ns (omega arith) ∙ c.steps-noted-items.ensures.value in
    let P : List NotedStep → Type 0 = AllByRecursion IsOnBoard in
    turn-back c.loop-noted.text.bytes c.args.turn.now (c.loop-noted.invariant.0 ∙ ap text_of_turn whole) c.requires c.steps-noted-items.ensures.few (subst P whole c.loop-noted.invariant.2)
