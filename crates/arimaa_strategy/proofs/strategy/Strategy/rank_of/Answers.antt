use Rattle.std.proofs.Common.{◌∙◌, sym, ap, List, Option, ℕ, get_or, Some}
use Rattle.std.specs.Option.{option_map}
use Rattle.arimaa_model.specs.Strategies.{Planned}
use Rattle.arimaa_forced.specs.declared.entry.Entry.{Entry}
use Rattle.arimaa_strategy.proofs.Lemmas.PlaceLaws.{found_at, found_nowhere}
use Rattle.arimaa_strategy.proofs.strategy.Strategy.rank_of.Goals as goal

abbrev rank_in : Option Planned → Option ℕ
rank_in o = option_map (λ (e : Planned). e.rank) o

pub returns-in-None : goal.returns-in-None
returns-in-None c = sym (ap rank_in (found_nowhere c.args.self.now c.args.p.now (sym c.in-None.ensures.place)))

pub returns-in-Some : goal.returns-in-Some
returns-in-Some c =
    let found = found_at c.args.self.now c.args.p.now c.in-Some.place c.index-entries-place.result (sym c.in-Some.ensures.place) in
    ap (λ (es : List Entry). Some (get_or es c.in-Some.place c.index-entries-place.result).rank) c.entries.ensures.value ∙ sym (ap rank_in found)
