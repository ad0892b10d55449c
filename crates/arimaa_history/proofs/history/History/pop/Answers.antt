use Rattle.std.proofs.Common.{◌∙◌, ℕ, ◌≤◌, sym, subst, arith, rules}
use Rattle.std.proofs.lemmas.Bool.Decides.{nat_tests}
use Rattle.arimaa_model.specs.Members.{AreDistinct}
use Rattle.arimaa_model.proofs.Lemmas.Barring.{barred-distinct}
use Rattle.arimaa_history.proofs.LastPositions.{kept_none, kept_once, kept_often}
use Rattle.arimaa_history.proofs.history.History.pop.Goals as goal

pub pop-requires-in-1 : goal.pop-requires-in-1
pop-requires-in-1 c = subst AreDistinct (sym c.self.invariant.barring) (barred-distinct c.self.inside.positions.items)

pub invariant_of-self-in-0 : goal.invariant_of-self-in-0
invariant_of-self-in-0 c =
    let s = c.self.inside in
    kept_none c.pop.new.self.items s.positions.items s.barred s.keys s.again c.count_less.new.counts c.in_ok-p.p c.of-key.result
    c.of-key.ensures.value c.of-key.ensures.back c.in_ok-p.ensures.items c.self.invariant c.count_less.ensures.counted
    c.remove.new.self (sym c.count_less.ensures.before ∙ c.in-0.is) c.remove.ensures.updates.0

pub invariant_of-self-in-1 : goal.invariant_of-self-in-1
invariant_of-self-in-1 c =
    let s = c.self.inside in
    kept_once c.pop.new.self.items s.positions.items s.barred s.keys s.again c.count_less.new.counts c.in_ok-p.p c.of-key.result
    c.of-key.ensures.value c.of-key.ensures.back c.in_ok-p.ensures.items c.self.invariant c.count_less.ensures.counted
    c.pop-in-1.new.self (sym c.count_less.ensures.before ∙ c.in-1.is) c.pop-in-1.ensures.rest

pub invariant_of-self-in_default : goal.invariant_of-self-in_default
invariant_of-self-in_default c =
    let s = c.self.inside in
    let often : 2 ≤ c.count_less.result = first_of (omega arith, grind (arith, nat_tests), search rules) in
    kept_often c.pop.new.self.items s.positions.items s.barred s.keys s.again c.count_less.new.counts c.in_ok-p.p c.of-key.result
    c.of-key.ensures.value c.of-key.ensures.back c.in_ok-p.ensures.items c.self.invariant c.count_less.ensures.counted
    (subst (λ (n : ℕ). 2 ≤ n) c.count_less.ensures.before often)
