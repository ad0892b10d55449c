use Rattle.std.proofs.Common.{◌∙◌, sym}
use Rattle.arimaa_notation.proofs.Lemmas.GrammarLaws.{same_turn}
use Rattle.arimaa_notation.proofs.laws.turns_apart.Goals as goal

pub returns : goal.returns
returns c = λ bytes ns ms a b. same_turn ns ms (sym a.steps.spelled ∙ b.steps.spelled)
