use Rattle.std.proofs.Common.{◌≡◌, ℕ, ◌+◌, ◌-◌, List, ◌++◌, length, map, drop, rules, refl, sym, ◌∙◌, ap, subst, arith}
use Rattle.std.specs.List.{AllByRecursion, flat_map}
use Rattle.arimaa_board.specs.declared.position.Position.{Position}
use Rattle.arimaa_model.specs.Results.{first_occurrences}
use Rattle.arimaa_refute.specs.declared.escape.Escape.{Escape}
use Rattle.arimaa_refute.specs.OwnEscapes.{escape_at, escapes_of, turns_left}
use Rattle.arimaa_refute.specs.Refutations.{Terms, WantsEscape, first_queue, met_after}
use Rattle.arimaa_refute.proofs.Levels.{Making, making-more, making-wants, making-end}
use Rattle.arimaa_refute.proofs.RefutationLaws.{making-start, left-few}
use Rattle.arimaa_refute.proofs.maker.make.Goals as goal

pub loop-turns-init : goal.loop-turns-init
loop-turns-init c =
    let t : Terms = c.args.asker.now in
    let own : List Escape = escapes_of t.attacker t.barred c.args.n c.args.p.now in
    let left : c.turns_left-turns.result ≡ turns_left t.attacker c.args.n c.args.p.now = c.turns_left-turns.ensures ∙ ap (λ x. turns_left x c.args.n c.args.p.now) c.attacker.ensures in
    let queue : c.meet_first.new.queue ≡ first_queue t.attacker t.barred c.args.n c.args.p.now = c.in_ok-meet_first.ensures.met in
    let few = left-few t.attacker c.args.n c.args.p.now in
    let depth = c.requires.depth in
    record {
      same = refl;
      empty = c.meet_first.ensures.empty;
      room = c.meet_first.ensures.room ∙ c.requires.room;
      few = omega (arith, left, few, depth);
      making = subst (λ (m : ℕ). Making t own m 0 c.meet_first.new.queue c.new-escapes.result) (sym left)
          (subst (λ (l : List Position). Making t own (turns_left t.attacker c.args.n c.args.p.now) 0 l c.new-escapes.result) (sym queue)
          (subst (λ (l : List Escape). Making t own (turns_left t.attacker c.args.n c.args.p.now) 0 (first_queue t.attacker t.barred c.args.n c.args.p.now) l) (sym c.new-escapes.ensures)
          (making-start t c.args.n c.args.p.now c.requires.lost c.requires.below)));
    }

pub level-requires-clause-start : goal.level-requires-clause-start
level-requires-clause-start c = c.loop-turns.invariant.making.inside

pub level-requires-clause-wants : goal.level-requires-clause-wants
level-requires-clause-wants c =
    let t : Terms = c.args.asker.now in
    subst (λ (u : Terms). AllByRecursion (WantsEscape u ((c.loop-turns.turns - 1) + 1)) (drop c.loop-turns.start c.loop-turns.queue)) (sym c.loop-turns.invariant.same)
    (making-wants t (escapes_of t.attacker t.barred c.args.n c.args.p.now) c.loop-turns.turns c.loop-turns.start c.loop-turns.queue c.loop-turns.escapes c.loop-turns.invariant.making c.loop-turns-test.true)

pub loop-turns-preserved : goal.loop-turns-preserved
loop-turns-preserved c =
    let t : Terms = c.args.asker.now in
    let own : List Escape = escapes_of t.attacker t.barred c.args.n c.args.p.now in
    let same = c.loop-turns.invariant.same in
    let k : ℕ = c.loop-turns.turns - 1 in
    let new : List Position = drop c.loop-turns.start c.loop-turns.queue in
    let two : c.saturating_sub-turns.result ≡ c.loop-turns.turns - 2 = search rules in
    let few = c.loop-turns.invariant.few in
    let more : c.level.new.escapes ≡ c.loop-turns.escapes ++ map (escape_at t.attacker t.barred k) new =
    c.in_ok-level.ensures.escapes ∙ ap (λ (u : Terms). c.loop-turns.escapes ++ map (escape_at u.attacker u.barred k) new) same in
    let met : c.level.new.queue ≡ first_occurrences c.loop-turns.queue (flat_map (met_after t.attacker t.barred k) new) =
    c.in_ok-level.ensures.met ∙ ap (λ (u : Terms). first_occurrences c.loop-turns.queue (flat_map (met_after u.attacker u.barred k) new)) same in
    record {
      same = c.level.ensures.same ∙ same;
      empty = c.level.ensures.empty;
      room = c.level.ensures.room ∙ c.loop-turns.invariant.room;
      few = omega (arith, two, few);
      making = subst (λ (m : ℕ). Making t own m (length c.as_slice-end.result.now) c.level.new.queue c.level.new.escapes) (sym two)
          (subst (λ (l : List Position). Making t own (c.loop-turns.turns - 2) (length l) c.level.new.queue c.level.new.escapes) (sym c.as_slice-end.ensures)
          (making-more t own c.loop-turns.turns c.loop-turns.start c.loop-turns.queue c.level.new.queue c.loop-turns.escapes c.level.new.escapes c.loop-turns.invariant.making c.loop-turns-test.true more met));
    }

pub returns-clause-escapes : goal.returns-clause-escapes
returns-clause-escapes c =
    let t : Terms = c.args.asker.now in
    making-end t (escapes_of t.attacker t.barred c.args.n c.args.p.now) c.loop-turns.start c.loop-turns.queue c.loop-turns.escapes c.loop-turns.turns c.loop-turns.invariant.making c.loop-turns-test.false
