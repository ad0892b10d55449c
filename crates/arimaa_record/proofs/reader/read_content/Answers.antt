use Rattle.std.proofs.Common.{◌∙◌, sym, true≢false}
use Rattle.arimaa_notation.specs.Items.{items_of}
use Rattle.arimaa_record.proofs.ReaderLaws.{no_word, no_entry}
use Rattle.arimaa_record.proofs.reader.read_content.Goals as goal

pub returns-else-item-eq3 : goal.returns-else-item-eq3
returns-else-item-eq3 c = λ bytes h. c.read_steps.ensures bytes h (record {
  others = no_word c.args.text.now c.in-Some.item.now (items_of c.in-Some.rest.now)
      c.in-Some.ensures.items (λ w is. c.in_default-only_word.not-Some w ((c.only_word.ensures w).1 is))
      (λ is. true≢false (sym (c.is_only_takeback.ensures.1 is) ∙ c.if-is_only_takeback.false));
  no_entries = no_entry c.args.text.now c.in-Some.item.now (items_of c.in-Some.rest.now)
      c.in-Some.ensures.items c.if-item-eq3.false;
})
