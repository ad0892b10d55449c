use Rattle.std.proofs.Common.{◌≡◌, ◌+◌, ◌<◌, ◌≤◌, List, [], ◌∷◌, ◌++◌, length, drop, get_or, sym, ◌∙◌, ap, subst, arith}
use Rattle.arimaa_board.specs.declared.position.Position.{Position}
use Rattle.arimaa_model.specs.Results.{first_occurrences}
use Rattle.arimaa_refute.specs.OwnEscapes.{escape_at}
use Rattle.arimaa_refute.specs.Refutations.{Terms, WantsEscape, met_after}
use Rattle.arimaa_refute.proofs.Levels.{midst-more, midst-wants, midst-done, midst-met}
use Rattle.arimaa_refute.proofs.maker.level.Goals as goal

pub escape_from-requires-clause-wants : goal.escape_from-requires-clause-wants
escape_from-requires-clause-wants c =
    let t : Terms = c.args.asker.now in
    let k = c.args.depth in
    let old : List Position = c.args.queue.now in
    let q = c.index-as_slice-number.result in
    let long : length c.as_slice-number-end.result.now ≡ length old = ap length c.as_slice-number-end.ensures in
    let inside : c.loop-number.number < length old = omega arith in
    let here : q ≡ get_or c.loop-number.queue c.loop-number.number q = c.index-as_slice-number.is ∙ ap (λ (l : List Position). get_or l c.loop-number.number q) c.as_slice.ensures in
    subst (λ (u : Terms). WantsEscape u (k + 1) q) (sym c.loop-number.invariant.same)
    (midst-wants (escape_at t.attacker t.barred k) (met_after t.attacker t.barred k) old (drop c.args.start old) c.args.escapes.now (WantsEscape t (k + 1)) c.loop-number.number c.loop-number.queue c.loop-number.escapes q c.loop-number.invariant.midst inside here c.loop-number.invariant.wants).0

pub loop-number-preserved : goal.loop-number-preserved
loop-number-preserved c =
    let t : Terms = c.args.asker.now in
    let k = c.args.depth in
    let old : List Position = c.args.queue.now in
    let q = c.index-as_slice-number.result in
    let same = c.loop-number.invariant.same in
    let long : length c.as_slice-number-end.result.now ≡ length old = ap length c.as_slice-number-end.ensures in
    let inside : c.loop-number.number < length old = omega arith in
    let here : q ≡ get_or c.loop-number.queue c.loop-number.number q = c.index-as_slice-number.is ∙ ap (λ (l : List Position). get_or l c.loop-number.number q) c.as_slice.ensures in
    let met_is : c.escape_from.new.queue ≡ first_occurrences c.loop-number.queue (met_after t.attacker t.barred k q) =
    c.in_ok-escape_from.ensures.met ∙ ap (λ (u : Terms). first_occurrences c.loop-number.queue (met_after u.attacker u.barred k q)) same in
    let after_is : c.escape_from.new.escapes ≡ c.loop-number.escapes ++ escape_at t.attacker t.barred k q ∷ [] =
    c.in_ok-escape_from.ensures.escape ∙ ap (λ (u : Terms). c.loop-number.escapes ++ escape_at u.attacker u.barred k q ∷ []) same in
    record {
      same = c.escape_from.ensures.same ∙ same;
      empty = c.escape_from.ensures.empty;
      room = c.escape_from.ensures.room ∙ c.loop-number.invariant.room;
      midst = midst-more (escape_at t.attacker t.barred k) (met_after t.attacker t.barred k) old (drop c.args.start old) c.args.escapes.now c.loop-number.number c.loop-number.queue c.escape_from.new.queue c.loop-number.escapes c.escape_from.new.escapes q c.loop-number.invariant.midst inside here met_is after_is;
      wants = (midst-wants (escape_at t.attacker t.barred k) (met_after t.attacker t.barred k) old (drop c.args.start old) c.args.escapes.now (WantsEscape t (k + 1)) c.loop-number.number c.loop-number.queue c.loop-number.escapes q c.loop-number.invariant.midst inside here c.loop-number.invariant.wants).1;
    }

pub returns-clause-escapes : goal.returns-clause-escapes
returns-clause-escapes c =
    let t : Terms = c.args.asker.now in
    let old : List Position = c.args.queue.now in
    let long : length c.as_slice-number-end.result.now ≡ length old = ap length c.as_slice-number-end.ensures in
    let past : length old ≤ c.loop-number.number = omega arith in
    midst-done (escape_at t.attacker t.barred c.args.depth) (met_after t.attacker t.barred c.args.depth) old (drop c.args.start old) c.args.escapes.now c.loop-number.number c.loop-number.queue c.loop-number.escapes c.loop-number.invariant.midst past

pub returns-clause-met : goal.returns-clause-met
returns-clause-met c =
    let t : Terms = c.args.asker.now in
    let old : List Position = c.args.queue.now in
    let long : length c.as_slice-number-end.result.now ≡ length old = ap length c.as_slice-number-end.ensures in
    let past : length old ≤ c.loop-number.number = omega arith in
    midst-met (escape_at t.attacker t.barred c.args.depth) (met_after t.attacker t.barred c.args.depth) old (drop c.args.start old) c.args.escapes.now c.loop-number.number c.loop-number.queue c.loop-number.escapes c.loop-number.invariant.midst past
