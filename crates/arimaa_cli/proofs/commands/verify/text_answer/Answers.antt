use Rattle.std.proofs.Common.{refl}
use Rattle.std.proofs.lemmas.Result.{IfOk-weaker}
use Rattle.arimaa_cli.specs.Positions.IsAnswerAt.{told, unasked}
use Rattle.arimaa_cli.proofs.commands.verify.text_answer.Goals as goal

pub returns-in_ok-from_slice-in-Err : goal.returns-in_ok-from_slice-in-Err
returns-in_ok-from_slice-in-Err c = rw (c.new.ensures, c.in_ok-from_slice-in-Err.ensures.items) (unasked c.in-Err.why.now c.in-Err.ensures.unasked)

pub returns-in_ok-from_slice-in-None : goal.returns-in_ok-from_slice-in-None
returns-in_ok-from_slice-in-None c = rw (c.in-None.is, c.new-in-None.ensures, c.in_ok-from_slice-in-None.ensures.items) (told c.in-Ok.field-0 c.in-Ok.ensures.open_yet _ refl)

pub escapes_answer-requires-clause-some : goal.escapes_answer-requires-clause-some
escapes_answer-requires-clause-some c = (c.in-Ok.field-0, c.in-Ok.ensures.open_yet)

pub returns-in-Some : goal.returns-in-Some
returns-in-Some c = rw c.in-Some.is (IfOk-weaker c.escapes_answer.result _ _ (λ a says. told c.in-Ok.field-0 c.in-Ok.ensures.open_yet a says) (c.escapes_answer.ensures c.in-Ok.field-0 c.in-Ok.ensures.open_yet))
