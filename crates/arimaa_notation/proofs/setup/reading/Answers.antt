use Rattle.std.proofs.Common.{◌++◌, [], ◌∷◌, ℕ}
use Rattle.arimaa_board.specs.declared.piece.Piece.{Piece}
use Rattle.arimaa_notation.specs.Items.{items_of}
use Rattle.arimaa_notation.proofs.Lemmas.SetupReading.{midst-fault, midst-more, midst-refused}
use Rattle.arimaa_notation.proofs.setup.reading.Goals as goal

pub returns-in_default-read_entry : goal.returns-in_default-read_entry
returns-in_default-read_entry c =
    midst-fault c.args.bytes.now c.loop-item.text.now c.loop-item.invariant.0 c.loop-item.entries c.loop-item.count c.in-Some.item.now (items_of c.in-Some.rest.now) c.loop-item.invariant.1
    c.in-Some.ensures.items c.in_default-read_entry.ensures.none

pub loop-item-preserved : goal.loop-item-preserved
loop-item-preserved c =
    let old = c.loop-item.invariant in
    let e : ℕ × Piece = c.in-Some-read_entry.entry in (
      old.0 ++ e ∷ [],
      midst-more c.args.bytes.now c.loop-item.text.now c.in-Some.item.now c.in-Some.rest.now old.0 c.loop-item.entries c.keep.new.entries c.loop-item.count e old.1 c.in-Some.ensures.items
          c.in-Some.ensures.shorter c.in-Some-read_entry.ensures.some.0 c.in-Some-read_entry.ensures.some.1 c.keep.ensures,
    )

pub returns-then-count-ne16 : goal.returns-then-count-ne16
returns-then-count-ne16 c =
    midst-refused c.args.bytes.now c.loop-item.text.now c.loop-item.invariant.0 c.loop-item.entries c.loop-item.count c.args.color c.loop-item.invariant.1 c.in_default.ensures.none
    (λ full _. c.if-count-ne16.true full)
