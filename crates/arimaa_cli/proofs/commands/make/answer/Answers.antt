use Rattle.std.proofs.Common.{◌≡◌, ℕ, List, Option, None, Some, length, ap, subst, arith}
use Rattle.arimaa_board.specs.declared.position.Position.{Position}
use Rattle.arimaa_judge.specs.Judgement.{IsJudged}
use Rattle.arimaa_cli.specs.Commands.Make.{IsMade, made_of}
use Rattle.arimaa_cli.specs.Commands.Make.IsMakeAnswer.{bad, crowded, lawful}
use Rattle.arimaa_cli.proofs.commands.make.answer.Goals as goal

pub returns-in-Some : goal.returns-in-Some
returns-in-Some c =
    let over : c.in_ok-text.field-0.crowded ≡ Some c.in-Some.p = cc in
    let made = subst (λ (o : Option Position). IsMade c.args.asked.now (made_of o c.in_ok-text.field-0.text.items)) over c.in_ok-text.ensures in
    rw (c.new.ensures, c.in_ok-crowded_text-in-Some.ensures) (crowded c.in-Some.p made)

pub returns-in-Bad : goal.returns-in-Bad
returns-in-Bad c =
    let fine : c.in_ok-text.field-0.crowded ≡ None = cc in
    let made = subst (λ (o : Option Position). IsMade c.args.asked.now (made_of o c.in_ok-text.field-0.text.items)) fine c.in_ok-text.ensures in
    let judged = subst (λ (b : List ℕ). IsJudged b c.in_ok-line-in-None.field-0) c.deref.ensures.value c.in_ok-line-in-None.ensures.judged in
    rw (c.new-in-Bad.ensures, c.in_ok-bad_text-in-Bad.ensures)
    (bad c.in_ok-text.field-0.text.items c.in-Bad.line c.in-Bad.label c.in-Bad.rule made (subst (IsJudged c.in_ok-text.field-0.text.items) c.in-Bad.is judged))

pub returns : goal.returns
returns c =
    let fine : c.in_ok-text.field-0.crowded ≡ None = cc in
    let made = subst (λ (o : Option Position). IsMade c.args.asked.now (made_of o c.in_ok-text.field-0.text.items)) fine c.in_ok-text.ensures in
    let judged = subst (λ (b : List ℕ). IsJudged b c.in_ok-line-in-None.field-0) c.deref.ensures.value c.in_ok-line-in-None.ensures.judged in
    let sizes = ap length c.deref.ensures.value in
    let size : c.len-bytes.result ≡ length c.in_ok-text.field-0.text.items = omega (arith, c.len-bytes.ensures, c.deref.ensures.len, sizes) in
    rw (c.new-in-Lawful.ensures, c.in_ok-summary-in-Lawful.ensures, size)
    (lawful c.in_ok-text.field-0.text.items c.in-Lawful.history c.in-Lawful.turns c.in-Lawful.ending c.in-Lawful.next made (subst (IsJudged c.in_ok-text.field-0.text.items) c.in-Lawful.is judged))
