use Rattle.std.proofs.Common.{ap, sym, ◌∙◌}
use Rattle.arimaa_notation.proofs.Lemmas.Reading.{no_turn}
use Rattle.arimaa_aei.specs.Commands.{move_said, turn_told}
use Rattle.arimaa_aei.proofs.command_reader.read_move.Goals as goal

pub returns-in_default : goal.returns-in_default
returns-in_default c =
    sym (ap (λ word. move_said word c.args.rest.now) c.in_default.ensures.no_word ∙ ap turn_told (no_turn c.args.rest.now c.in_default.ensures.none))
