use Rattle.std.proofs.Common.{◌≡◌, List, ℕ, ◌∙◌, subst, codes, ap}
use Rattle.arimaa_notation.specs.Grammar.{IsSetupText}
use Rattle.arimaa_notation.specs.Written.{text_of_setup}
use Rattle.arimaa_aei.specs.Commands.{command_of}
use Rattle.arimaa_aei.specs.Written.{with_text}
use Rattle.arimaa_aei.proofs.CommandsBack.{line_back_always, setup_told_back}
use Rattle.arimaa_aei.proofs.command_text.setup_bytes.Goals as goal

pub returns-clause-reads_back : goal.returns-clause-reads_back
returns-clause-reads_back c =
    let setup = c.args.setup.now in
    let bytes : c.as_bytes.result.now ≡ text_of_setup setup = c.as_bytes.ensures.value ∙ (c.deref.ensures.0 ∙ c.setup_text.ensures.text) in
    let P : List ℕ → Type 0 = λ text. IsSetupText text setup.color setup in
    line_back_always c.word_with_text.result (λ line. line.items) (with_text (codes "makemove") c.as_bytes.result.now) _
    (ap (λ text. command_of (with_text (codes "makemove") text)) bytes ∙ setup_told_back setup c.setup_text.ensures.reads_back.rule (subst P c.setup_text.ensures.text c.setup_text.ensures.reads_back))
    c.word_with_text.ensures
