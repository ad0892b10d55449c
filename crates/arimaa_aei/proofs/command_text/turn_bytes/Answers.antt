use Rattle.std.proofs.Common.{◌≡◌, List, ℕ, ◌∙◌, subst, codes, ap}
use Rattle.arimaa_notation.specs.Grammar.{IsTurnText}
use Rattle.arimaa_notation.specs.Written.{text_of_turn}
use Rattle.arimaa_aei.specs.Commands.{command_of}
use Rattle.arimaa_aei.specs.Written.{with_text}
use Rattle.arimaa_aei.proofs.CommandsBack.{line_back, turn_back_some}
use Rattle.arimaa_aei.proofs.command_text.turn_bytes.Goals as goal

pub returns-clause-reads_back : goal.returns-clause-reads_back
returns-clause-reads_back c =
    let bytes : c.as_bytes.result.now ≡ text_of_turn c.args.noted.now = c.as_bytes.ensures.value ∙ (c.deref.ensures.0 ∙ c.turn_text.ensures.text) in
    let P : List ℕ → Type 0 = λ text. IsTurnText text c.args.noted.now in
    line_back c.word_with_text.result (λ line. line.items) (with_text (codes "makemove") c.as_bytes.result.now) _ _
    (λ some. ap (λ text. command_of (with_text (codes "makemove") text)) bytes ∙ turn_back_some c.args.noted.now (subst P c.turn_text.ensures.text c.turn_text.ensures.reads_back))
    c.word_with_text.ensures
