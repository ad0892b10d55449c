use Rattle.std.proofs.Common.{ℕ, List, subst, sym}
use Rattle.arimaa_time.specs.Fields.{NamesFirstBad, fields}
use Rattle.arimaa_cli.specs.declared.answer.Answer.TheVariants.{Answered}
use Rattle.arimaa_cli.specs.Commands.Control.{IsControlAnswer}
use Rattle.arimaa_cli.specs.Commands.Control.IsControlAnswer.{bad_field, read}
use Rattle.arimaa_cli.proofs.commands.control.answer.Goals as goal

pub returns-in_ok-control_lines-in-Ok : goal.returns-in_ok-control_lines-in-Ok
returns-in_ok-control_lines-in-Ok c = rw (c.new.ensures, c.in_ok-control_lines-in-Ok.ensures) (read c.in-Ok.control c.in-Ok.ensures.read)

pub returns-in_ok-text-in-Err : goal.returns-in_ok-text-in-Err
returns-in_ok-text-in-Err c =
    rw (c.new-in-Err.ensures, c.into_bytes.ensures.value) (subst (λ (bytes : List ℕ). IsControlAnswer c.args.text.now (Answered bytes)) (sym c.in_ok-text-in-Err.ensures.ok)
    (bad_field c.field_of.result (λ control is. let clash = c.in-Err.ensures.only control is in let never : ⊥ = cc in never)
    (subst (NamesFirstBad (fields c.args.text.now)) c.field_of.ensures c.in-Err.ensures.first_bad)))
