use Rattle.std.proofs.Common.{◌≡◌, ◌∙◌, ap, subst, rules, None, Some, Ok, Err}
use Rattle.std.proofs.lemmas.Result.{err_from_is_err_and}
use Rattle.arimaa_record.specs.LineReader.{IsNext, given_bytes}
use Rattle.arimaa_judge.proofs.RecordReading.{long_stop, reading-end, reading-more, reading-start, took-line, took-stop}
use Rattle.arimaa_judge.proofs.judgement.judge_from.Goals as goal

pub lines-init : goal.lines-init
lines-init g c = record {
  reading = reading-start _ _ _ c.in_ok-reader.ensures c.before_lines-progress.ensures;
  sound = search rules;
}

pub lines-preserved : goal.lines-preserved
lines-preserved g c =
    let given : given_bytes c.next.result ≡ Ok (Some c.in-Some.line.now) = ap given_bytes (c.in_ok-line.was ∙ ap Ok c.in-Some.is) in
    let next = subst (IsNext _ _ _ _) given c.next.follows.holds-at-none in
    record {
      reading = reading-more _ _ _ _ _ _ _ _ c.lines.invariant.reading next c.in_ok-take_line.ensures.leads c.in_ok-take_line.ensures.number;
      sound = search rules;
    }

pub returns-in_err-line-clause-too_long : goal.returns-in_err-line-clause-too_long
returns-in_err-line-clause-too_long g c =
    let given : given_bytes c.next.result ≡ Err c.in_err-line.field-0.0 = ap given_bytes c.in_err-line.was in
    let next = subst (IsNext _ _ _ _) given c.next.follows.holds-at-none in
    let p = err_from_is_err_and c.from_residual-in_err-line.result c.from_residual-in_err-line.ensures.1 in
    λ long. (took-stop _ _ _ _ _ _ _ c.lines.invariant.reading next).1 (ap Err (long_stop c.in_err-line.field-0.0 (cc (p.1, p.2))))

pub returns-in_err-line-clause-lost : goal.returns-in_err-line-clause-lost
returns-in_err-line-clause-lost g c =
    let given : given_bytes c.next.result ≡ Err c.in_err-line.field-0.0 = ap given_bytes c.in_err-line.was in
    let next = subst (IsNext _ _ _ _) given c.next.follows.holds-at-none in
    let took = (took-stop _ _ _ _ _ _ _ c.lines.invariant.reading next).0 in
    let p = err_from_is_err_and c.from_residual-in_err-line.result c.from_residual-in_err-line.ensures.1 in
    rw (p.1) (took.all, took.told)

pub returns-in_err-take_line-clause-lost : goal.returns-in_err-take_line-clause-lost
returns-in_err-take_line-clause-lost g c =
    let given : given_bytes c.next.result ≡ Ok (Some c.in-Some.line.now) = ap given_bytes (c.in_ok-line.was ∙ ap Ok c.in-Some.is) in
    let next = subst (IsNext _ _ _ _) given c.next.follows.holds-at-none in
    let took = took-line _ _ _ _ _ _ _ c.lines.invariant.reading next in
    let p = err_from_is_err_and c.from_residual-in_err-take_line.result c.from_residual-in_err-take_line.ensures.1 in
    rw (p.1) (took.all, took.told)

pub returns-clause-judged : goal.returns-clause-judged
returns-clause-judged g c =
    let given : given_bytes c.next.result ≡ Ok None = ap given_bytes (c.in_ok-line.was ∙ ap Ok c.in_default.is) in
    let next = subst (IsNext _ _ _ _) given c.next.follows.holds-at-none in
    (reading-end _ _ _ _ _ _ c.lines.invariant.reading next).judged _ c.judged.ensures.leads

pub returns-clause-end : goal.returns-clause-end
returns-clause-end g c =
    let given : given_bytes c.next.result ≡ Ok None = ap given_bytes (c.in_ok-line.was ∙ ap Ok c.in_default.is) in
    let next = subst (IsNext _ _ _ _) given c.next.follows.holds-at-none in
    (reading-end _ _ _ _ _ _ c.lines.invariant.reading next).end

pub returns-clause-limit : goal.returns-clause-limit
returns-clause-limit g c =
    let given : given_bytes c.next.result ≡ Ok None = ap given_bytes (c.in_ok-line.was ∙ ap Ok c.in_default.is) in
    let next = subst (IsNext _ _ _ _) given c.next.follows.holds-at-none in
    (reading-end _ _ _ _ _ _ c.lines.invariant.reading next).limit
