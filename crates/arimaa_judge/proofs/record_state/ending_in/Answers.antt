use Rattle.std.proofs.Common.{◌∙◌, sym}
use Rattle.arimaa_game.proofs.Lemmas.Endings.{unclosed-ending}
use Rattle.arimaa_judge.proofs.record_state.ending_in.Goals as goal

pub returns-in-Playing : goal.returns-in-Playing
returns-in-Playing c =
    rw c.in-Playing.is (c.ending.ensures ∙ sym (unclosed-ending c.in-Playing.game.history c.in-Playing.game.closing (rw c.in-Playing.is at c.requires).unclosed))
