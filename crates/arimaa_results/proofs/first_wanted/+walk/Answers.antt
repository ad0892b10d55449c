use Rattle.std.proofs.Common.{◌≡◌, ◌-◌, ◌<◌, sym, ◌∙◌, ap, arith}
use Rattle.arimaa_results.specs.Walk.{first_given, found_from}
use Rattle.arimaa_results.proofs.Walked.{found_from-zero, found_by, found_from-more, found_by_step}
use Rattle.arimaa_results.proofs.first_wanted.+walk.Goals as goal

pub returns-then-left-eq0 : goal.returns-then-left-eq0
returns-then-left-eq0 g t c =
    let passes = g.W.Wanted.passes c.args.wanted.now in
    let none : c.args.left ≡ 0 = c.if-left-eq0.true in
    c.walk_ended.ensures ∙ (sym (found_from-zero passes c.args.state.now) ∙ ap (λ n. found_from passes n c.args.state.now) (sym none))

pub loop-step-init : goal.loop-step-init
loop-step-init g t c =
    let passes = g.W.Wanted.passes c.args.wanted.now in
    let some : 0 < c.args.left = omega (arith, c.if-left-eq0.false) in
    found_from-more passes c.args.left c.args.state.now c.of-states.result some c.of-states.ensures

pub returns-in-Some-walk : goal.returns-in-Some-walk
returns-in-Some-walk g t c =
    let passes = g.W.Wanted.passes c.args.wanted.now in
    let few : c.args.left - 1 < 4 = omega (arith, c.if-left-eq0.false, c.requires) in
    let found = found_by_step passes (c.args.left - 1) few _ _ c.in-Some-walk.rest c.begun_by.result c.advance.new.self c.in-Some-walk.ensures c.begun_by.ensures in
    found ∙ (sym (ap (first_given (found_by passes (c.args.left - 1))) c.in-Some.ensures.next) ∙ c.loop-step.invariant)
