use Rattle.std.proofs.Common.{◌≡◌, ◌∙◌, ap, rules, arith}
use Rattle.arimaa_aei.specs.Commands.{command_of}
use Rattle.arimaa_aei.specs.Written.{text_of_command}
use Rattle.arimaa_aei.specs.declared.command.Command.TheVariants.{SetOption}
use Rattle.arimaa_aei.proofs.CommandsBack.{option_set_back}
use Rattle.arimaa_aei.proofs.command_text.option_bytes.Goals as goal

pub returns-clause-reads_back : goal.returns-clause-reads_back
returns-clause-reads_back c =
    let text : c.extend_from_slice-3.new.self.items ≡ text_of_command (SetOption c.args.name c.args.value) = search rules in
    let bound = c.ranges.value.fits in
    ap command_of text ∙ option_set_back c.args.name c.args.value (omega arith)
