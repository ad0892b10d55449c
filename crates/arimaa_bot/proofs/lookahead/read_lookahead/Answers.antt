use Rattle.arimaa_options.proofs.Lemmas.OptionForms.{if_none}
use Rattle.arimaa_bot.specs.declared.lookahead.Lookahead.{Lookahead}
use Rattle.arimaa_bot.specs.Lookaheads.{AskFor}
use Rattle.arimaa_bot.proofs.LookaheadForms.{asked, asks_nothing}
use Rattle.arimaa_bot.proofs.lookahead.read_lookahead.Goals as goal

pub returns-clause-asked : goal.returns-clause-asked
returns-clause-asked c = asked c.args.words.now c.in_ok-options.options c.lookahead_of.result c.in_ok-options.ensures.form c.in_ok-options.ensures.ranges c.lookahead_of.ensures

pub returns-clause-ranges : goal.returns-clause-ranges
returns-clause-ranges c = (asked c.args.words.now c.in_ok-options.options c.lookahead_of.result c.in_ok-options.ensures.form c.in_ok-options.ensures.ranges c.lookahead_of.ensures).ranges

pub returns-in_err-options-clause-none : goal.returns-in_err-options-clause-none
returns-in_err-options-clause-none c = if_none c.from_residual.result ((l : Lookahead) → AskFor c.args.words.now l → ⊥) (λ l. asks_nothing c.args.words.now l c.in_err-options.ensures.none)
