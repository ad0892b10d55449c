use Rattle.std.proofs.Common.{length, drop, sym, ◌∙◌, ap, eqb-true}
use Rattle.arimaa_notation.specs.Items.{IsFirstItem}
use Rattle.arimaa_notation.proofs.Lemmas.ItemLaws.{first-split, first-shorter, items-first, items-none}
use Rattle.arimaa_notation.proofs.items.first_item.Goals as goal

pub returns-then-is_empty-clause-none : goal.returns-then-is_empty-clause-none
returns-then-is_empty-clause-none c =
    let bytes = c.args.bytes.now in
    items-none bytes
    (ap (λ n. length (drop n bytes)) (sym c.blanks_before.ensures.value) ∙ (ap length (sym c.split_at.ensures.back) ∙ eqb-true _ 0 (sym c.is_empty.ensures ∙ c.if-is_empty.true)))

first : (c : goal.After-split_at-2) → IsFirstItem c.args.bytes.now c.split_at-2.result.0.now c.split_at-2.result.1.now
first c =
    first-split c.args.bytes.now c.split_at.result.1.now c.split_at-2.result.0.now c.split_at-2.result.1.now c.blanks_before.result c.item_len.result c.is_empty.result
    c.split_at.ensures.back c.blanks_before.ensures.value c.is_empty.ensures c.if-is_empty.false c.split_at-2.ensures.front c.split_at-2.ensures.back c.item_len.ensures.value

pub returns-clause-first : goal.returns-clause-first
returns-clause-first c = first c

pub returns-clause-items : goal.returns-clause-items
returns-clause-items c = items-first _ _ _ (first c)

pub returns-clause-shorter : goal.returns-clause-shorter
returns-clause-shorter c = first-shorter _ _ _ (first c)
