use Rattle.std.proofs.Common.{◌≡◌, List, take, ◌∙◌, ap, subst, take_all}
use Rattle.std.specs.List.{AllByRecursion}
use Rattle.arimaa_notation.proofs.Lemmas.ReadingBack.{all_more}
use Rattle.arimaa_forced.specs.declared.entry.Entry.{Entry}
use Rattle.arimaa_strategy.specs.WrittenForm.{text_of_strategy}
use Rattle.arimaa_strategy.proofs.ReadingBack.{ReadsBack, strategy_more, strategy_back}
use Rattle.arimaa_strategy.proofs.written_form.strategy_text.Goals as goal

pub loop-entry-preserved : goal.loop-entry-preserved
loop-entry-preserved c =
    let es = c.entries-entry-items.result.now in
    let i = c.loop-entry.entry-index in
    let e = c.entry-item.result in (
      strategy_more es i e c.loop-entry.text.items c.push_entry.new.text.items c.loop-entry-test.true c.entry-item.is c.loop-entry.invariant.0 c.in_ok-push_entry.ensures.text,
      all_more ReadsBack es i e c.loop-entry-test.true c.entry-item.is c.loop-entry.invariant.1 c.push_entry.ensures.reads_back,
    )

pub returns-clause-reads_back : goal.returns-clause-reads_back
returns-clause-reads_back c =
    let es = c.entries-entry-items.result.now in
    let whole : take c.loop-entry.entry-index es ≡ c.args.strategy.now = take_all c.loop-entry.entry-index es c.loop-entry-test.false ∙ c.entries-entry-items.ensures.value in
    let P : List Entry → Type 0 = AllByRecursion ReadsBack in
    λ a. strategy_back a c.loop-entry.text.items c.args.strategy.now (c.loop-entry.invariant.0 ∙ ap text_of_strategy whole) (subst P whole c.loop-entry.invariant.1)
