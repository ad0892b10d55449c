use Rattle.std.proofs.Common.{◌≡◌, ◌<◌, List, ℕ, take, ap, length, ◌∙◌, arith, take_all, subst}
use Rattle.std.specs.List.{AllByRecursion}
use Rattle.arimaa_board.specs.declared.piece.Piece.{Piece}
use Rattle.arimaa_notation.specs.Written.{items_text, items_of_entries}
use Rattle.arimaa_notation.proofs.Lemmas.WrittenLaws.{size-lineup}
use Rattle.arimaa_notation.proofs.Lemmas.ReadingBack.{setup-back}
use Rattle.arimaa_notation.proofs.writer.setup_text.Goals as goal

pub loop-square-init : goal.loop-square-init
loop-square-init c =
    let size : length c.pairs-square-items.result.now ≡ 16 = ap length c.pairs-square-items.ensures.value ∙ size-lineup _ c.pairs-square-items.ensures.rule in
    (c.new-text.ensures, omega (arith, ap length c.new-text.ensures), size, tt)

pub returns-clause-reads_back : goal.returns-clause-reads_back
returns-clause-reads_back c =
    let es = c.pairs-square-items.result.now in
    let whole : take c.loop-square.square-index es ≡ c.args.setup.now.pairs = take_all c.loop-square.square-index es (omega arith) ∙ c.pairs-square-items.ensures.value in
    let P : List (ℕ × Piece) → Type 0 = AllByRecursion (λ e. e.0 < 64) in
    setup-back c.loop-square.text.bytes c.args.setup.now (c.loop-square.invariant.0 ∙ ap (λ x. items_text (items_of_entries x)) whole) c.pairs-square-items.ensures.rule (subst P whole c.loop-square.invariant.3)
