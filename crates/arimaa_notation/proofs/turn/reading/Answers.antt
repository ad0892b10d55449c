use Rattle.std.proofs.Common.{◌+◌, ◌++◌, [], ◌∷◌, ℕ, subst, sym}
use Rattle.arimaa_board.specs.declared.turn.NotedStep.{NotedStep}
use Rattle.arimaa_notation.specs.Items.{items_of}
use Rattle.arimaa_notation.proofs.Lemmas.TurnReading.{Midst, midst-fault, midst-more}
use Rattle.arimaa_notation.proofs.turn.reading.Goals as goal

pub returns-in_default-read_step : goal.returns-in_default-read_step
returns-in_default-read_step c =
    midst-fault c.args.bytes.now c.loop-item.text.now c.loop-item.invariant.0 c.loop-item.steps.items c.loop-item.count c.loop-item.number c.in-Some.item.now (items_of c.in-Some.after.now)
    c.loop-item.invariant.1 c.in-Some.ensures.items c.in_default-read_step.ensures.none

pub loop-item-preserved : goal.loop-item-preserved
loop-item-preserved c =
    let step = c.in-Some-read_step.step in
    let mark = c.mark_at_front-mark.result.0 in
    let rest = c.mark_at_front-mark.result.1.now in
    let n : NotedStep = record { step = step; mark = mark } in
    let old = c.loop-item.invariant in
    let more = midst-more c.args.bytes.now c.loop-item.text.now c.in-Some.after.now rest c.in-Some.item.now old.0 c.loop-item.steps.items c.keep.new.steps.items c.loop-item.count c.loop-item.number n old.1
    c.in-Some.ensures.items c.in-Some.ensures.shorter c.in-Some-read_step.ensures.some.0 c.in-Some-read_step.ensures.some.1 c.mark_at_front-mark.ensures.items c.mark_at_front-mark.ensures.on_board
    c.mark_at_front-mark.ensures.none c.mark_at_front-mark.ensures.fits c.keep.ensures in
    let P : ℕ → Type 0 = λ k. Midst c.args.bytes.now rest (old.0 ++ n ∷ []) c.keep.new.steps.items (c.loop-item.count + 1) (c.loop-item.number + (1 + k)) in
    (old.0 ++ n ∷ [], subst P (sym c.mark_len.ensures.value) more)
