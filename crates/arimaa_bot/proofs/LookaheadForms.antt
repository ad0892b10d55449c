-- What words ask for.
use Rattle.std.proofs.Common.{◌≡◌, ◌≤◌, ℕ, List, Option, None, Some, sym, ◌∙◌, ap, subst, arith}
use Rattle.std.specs.Option.{unwrap_or}
use Rattle.arimaa_options.specs.declared.search_options.SearchOptions.{SearchOptions}
use Rattle.arimaa_options.specs.Options.{AreOptions}
use Rattle.arimaa_options.specs.Options as options
use Rattle.arimaa_options.proofs.Lemmas.OptionForms.{one_options}
use Rattle.arimaa_bot.specs.declared.lookahead.Lookahead.{Lookahead}
use Rattle.arimaa_bot.specs.Lookaheads.{AreWithinRanges, AskFor, lookahead_of}

-- words ask for one thing
pub one_lookahead : (ws : List (List ℕ)) (l m : Lookahead) → AskFor ws l → AskFor ws m → l ≡ m
one_lookahead ws l m p q = p.set ∙ ap lookahead_of (one_options ws p.options q.options p.given q.given) ∙ sym q.set

usual : (d : Option ℕ) → unwrap_or d 0 ≤ 20 → unwrap_or d 1 ≤ 20
usual None h = omega arith
usual (Some n) h = h

given : (d : Option ℕ) → unwrap_or d 1 ≤ 20 → unwrap_or d 0 ≤ 20
given None h = omega arith
given (Some n) h = h

-- words that are options within their ranges ask for what these set
pub asked : (ws : List (List ℕ)) (o : SearchOptions) (l : Lookahead) → AreOptions ws o → options.AreWithinRanges o → l ≡ lookahead_of o → AskFor ws l
asked ws o l are within set =
    let ranges : AreWithinRanges (lookahead_of o) = record { depth = usual o.depth within.depth; limits = within.limits } in
    record { options = o; given = are; set = set; ranges = subst AreWithinRanges (sym set) ranges }

-- options out of their ranges ask for nothing
pub asks_nothing : (ws : List (List ℕ)) (l : Lookahead) → ((o : SearchOptions) → AreOptions ws o → options.AreWithinRanges o → ⊥) → AskFor ws l → ⊥
asks_nothing ws l none asks =
    let within : AreWithinRanges (lookahead_of asks.options) = subst AreWithinRanges asks.set asks.ranges in
    none asks.options asks.given (record { depth = given asks.options.depth within.depth; limits = within.limits })
