use Rattle.std.proofs.Common.{[], ◌∷◌, length, arith, ◌∙◌, ap, take_all, length-append, get_or}
use Rattle.arimaa_notation.specs.Written.{with_item}
use Rattle.arimaa_notation.proofs.Lemmas.WrittenLaws.{with_item-more, with_item-spaced, with_item-first}
use Rattle.arimaa_notation.proofs.writer.push_item.Goals as goal
use Rattle.arimaa_notation.proofs.writer.push_item.Goals.{then-not-is_empty, else-not-is_empty}

pub loop-byte-init : goal.loop-byte-init
loop-byte-init g c =
    elim c.if-not-is_empty.branch [
      | then-not-is_empty w ↦ (
        ap (λ t. t.bytes) w.text-is ∙ (w.push_byte.ensures ∙ with_item-spaced c.args.text.now.bytes c.is_empty.result c.is_empty.ensures w.if-not-is_empty.true),
        omega (arith, ap (λ t. length t.bytes) w.text-is, ap length w.push_byte.ensures, length-append c.args.text.now.bytes (32 ∷ []), c.requires.room),
      )
      | else-not-is_empty w ↦ (
        ap (λ t. t.bytes) w.text-is ∙ with_item-first c.args.text.now.bytes c.is_empty.result c.is_empty.ensures w.if-not-is_empty.false,
        omega (arith, ap (λ t. length t.bytes) w.text-is, c.requires.room),
      )
    ]

pub loop-byte-preserved : goal.loop-byte-preserved
loop-byte-preserved g c =
    let more = c.push_byte-in-loop-byte.ensures in (
      with_item-more c.args.text.now.bytes c.args.item.now c.loop-byte.text.bytes c.push_byte-in-loop-byte.new.text.bytes c.loop-byte.byte-index c.loop-byte-test.true c.loop-byte.invariant.0 more,
      omega (arith, ap length more, length-append c.loop-byte.text.bytes (get_or c.args.item.now c.loop-byte.byte-index 0 ∷ []), c.loop-byte.invariant.1),
    )

pub returns : goal.returns
returns g c = c.loop-byte.invariant.0 ∙ ap (with_item c.args.text.now.bytes) (take_all c.loop-byte.byte-index c.args.item.now c.loop-byte-test.false)
