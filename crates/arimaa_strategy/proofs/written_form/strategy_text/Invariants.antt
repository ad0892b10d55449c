use Rattle.std.proofs.Common.{◌≡◌, take}
use Rattle.std.specs.List.{AllByRecursion}
use Rattle.arimaa_strategy.specs.WrittenForm.{text_of_strategy}
use Rattle.arimaa_strategy.proofs.ReadingBack.{ReadsBack}
use Rattle.arimaa_strategy.proofs.written_form.strategy_text.Given as goal

abbrev pub invariant-loop-entry : goal.invariant-loop-entry
invariant-loop-entry l = (l.text.items ≡ text_of_strategy (take l.entry-index l.entry-items)) × AllByRecursion ReadsBack (take l.entry-index l.entry-items)
