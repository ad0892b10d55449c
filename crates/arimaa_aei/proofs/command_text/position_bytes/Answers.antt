use Rattle.std.proofs.Common.{◌≡◌, ◌∙◌, ap, rules, sym}
use Rattle.arimaa_board.specs.Text.{reading_of}
use Rattle.arimaa_aei.specs.Commands.{command_of}
use Rattle.arimaa_aei.specs.Written.{text_of_command}
use Rattle.arimaa_aei.specs.declared.command.Command.TheVariants.{SetPosition}
use Rattle.arimaa_aei.proofs.CommandsBack.{position_set_back}
use Rattle.arimaa_aei.proofs.command_text.position_bytes.Goals as goal

pub returns-clause-reads_back : goal.returns-clause-reads_back
returns-clause-reads_back c =
    let text : c.extend_from_slice.new.self.items ≡ text_of_command (SetPosition c.args.position.now) = search rules in
    λ fit. ap command_of text ∙ position_set_back c.args.position.now (ap reading_of (sym c.board_text.ensures.text) ∙ c.board_text.ensures.reads_back fit)
