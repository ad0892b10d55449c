use Rattle.std.proofs.Common.{ap, sym}
use Rattle.arimaa_notation.specs.Items.{after_word}
use Rattle.arimaa_aei.specs.Commands.{command_of, command_said}
use Rattle.arimaa_aei.specs.Words.{command_word_of}
use Rattle.arimaa_aei.proofs.command_reader.read_command.Goals as goal

pub returns-in_default : goal.returns-in_default
unfolding command_of command_word_of
returns-in_default c =
    sym (ap (λ word. command_said (command_word_of word) (after_word c.args.line.now)) c.in_default.ensures.no_word)
