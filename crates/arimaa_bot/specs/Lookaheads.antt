-- How far the bot looks ahead, from its words.
use Rattle.std.specs.Prelude.{◌≡◌, ◌≤◌, ℕ, List}
use Rattle.std.specs.Option.{unwrap_or}
use Rattle.arimaa_pool.specs.Limits.{AreWithinLimits}
use Rattle.arimaa_options.specs.declared.search_options.SearchOptions.{SearchOptions}
use Rattle.arimaa_options.specs.Options.{AreOptions}
use Rattle.arimaa_bot.specs.declared.lookahead.Lookahead.{Lookahead}

-- what options set: their depth, and else 1, and their settings
abbrev pub lookahead_of : SearchOptions → Lookahead
lookahead_of o = record { depth = unwrap_or o.depth 1; settings = o.settings }

-- the depth is at most 20, and the settings are within the prover's limits
pub record AreWithinRanges (l : Lookahead) : Type 0 where
  pub depth : l.depth ≤ 20
  pub limits : AreWithinLimits l.settings

-- the words are options that ask for this
pub record AskFor (words : List (List ℕ)) (l : Lookahead) : Type 0 where
  pub options : SearchOptions
  pub given : AreOptions words options
  pub set : l ≡ lookahead_of options
  pub ranges : AreWithinRanges l
