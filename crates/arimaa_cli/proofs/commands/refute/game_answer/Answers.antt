use Rattle.std.proofs.Common.{ap, is_some}
use Rattle.std.proofs.lemmas.Result.{IfOk-weaker}
use Rattle.arimaa_game.proofs.Lemmas.Endings.{present-some}
use Rattle.arimaa_cli.specs.Positions.IsAnswerAt.{told, unasked}
use Rattle.arimaa_cli.proofs.commands.refute.game_answer.Goals as goal

pub returns-in_ok-from_slice-in-Err : goal.returns-in_ok-from_slice-in-Err
returns-in_ok-from_slice-in-Err c = rw (c.new.ensures, c.in_ok-from_slice-in-Err.ensures.items) (unasked c.in-Err.why.now c.in-Err.ensures.unasked)

pub refute-requires : goal.refute-requires
refute-requires c = record {
  history = present-some c.args.game.now.history (ap is_some c.in-Ok.ensures.open_yet.last);
  depth = c.requires.depth;
  some_lines = c.requires.settings.some_lines;
  some_room = c.requires.settings.some_room;
  most_room = c.requires.settings.most_room;
}

pub returns-in_ok-found-in-Ok : goal.returns-in_ok-found-in-Ok
returns-in_ok-found-in-Ok c =
    let p = c.in-Ok.field-0 in
    let here = c.in-Ok.ensures.open_yet in
    IfOk-weaker c.told.result _ _ (λ a e. told p here a (record {
      found = c.in_ok-found-in-Ok.found;
      made = record {
        right = c.in_ok-found-in-Ok.ensures.answer p here.last;
        complete = λ ample. c.in_ok-found-in-Ok.ensures.complete p here.last ample.budget ample.room;
      };
      told = e;
    })) c.told.ensures
