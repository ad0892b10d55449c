use Rattle.std.proofs.Common.{◌≡◌, ◌≤◌, ◌<◌, length, get_or, sym, ◌∙◌, ap, arith, None}
use Rattle.std.proofs.lemmas.List.{length-map}
use Rattle.arimaa_board.specs.NotedTurns.{noted_marks}
use Rattle.arimaa_step.proofs.MarkLaws.{marked, marked_more, marked_all, length-marks_of}
use Rattle.arimaa_model.specs.Marks.{marks_of}
use Rattle.arimaa_step.proofs.marks.with_marks.Goals as goal

pub loop-k-preserved : goal.loop-k-preserved
loop-k-preserved c =
    let i = c.loop-k in
    let all = marks_of c.args.p.now.board c.args.turn.now in
    let one = marked i.board c.steps-step-items.result.now all i.k c.step-item.result c.loop-k-test.true (sym c.step-item.is) i.invariant.left in
    let long : length c.steps-step-items.result.now ≡ length c.args.turn.now = ap length c.steps-step-items.ensures.value in
    let marks : length (noted_marks i.noted) ≡ length c.args.turn.now = length-map i.noted (λ n. n.mark) ∙ (sym (length-map i.noted (λ n. n.step)) ∙ ap length i.invariant.turn) in
    let here : i.k < length (noted_marks i.noted) = omega arith in
    let there : i.k < length all = omega (arith, length-marks_of c.args.p.now.board c.args.turn.now) in
    let at_k : get_or all i.k None ≡ c.removed.result = one.0 ∙ sym c.removed.ensures in record {
      turn = c.set_mark.ensures.turn ∙ i.invariant.turn;
      done = rw c.set_mark.ensures.marks (marked_more (noted_marks i.noted) all i.k c.removed.result None here there i.invariant.done at_k);
      left = rw c.after-board.ensures one.1;
    }

pub returns-clause-marks : goal.returns-clause-marks
returns-clause-marks c =
    let i = c.loop-k in
    let long : length c.steps-step-items.result.now ≡ length c.args.turn.now = ap length c.steps-step-items.ensures.value in
    let past : length c.args.turn.now ≤ i.k = omega arith in
    marked_all c.args.p.now.board c.args.turn.now i.noted i.k past i.invariant.turn i.invariant.done
