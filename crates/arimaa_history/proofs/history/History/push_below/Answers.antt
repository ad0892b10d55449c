use Rattle.std.proofs.Common.{rules, ◌≡◌, ◌∙◌, ◌∷◌, ◌++◌, [], ℕ, ap, cond}
use Rattle.std.specs.Prelude.{◌==◌}
use Rattle.std.specs.BTreeMap.{IsUnchanged}
use Rattle.arimaa_history.specs.Counts.{count_of}
use Rattle.arimaa_history.proofs.Counting.{unchanged_counts, kept_first, kept_still, kept_again}
use Rattle.arimaa_history.proofs.history.History.push_below.Goals as goal

pub invariant_of-self-then-branch : goal.invariant_of-self-then-branch
invariant_of-self-then-branch c =
    let s = c.self.inside in
    kept_first s.positions.items s.barred s.keys s.again c.args.p c.of-key.result c.of-key.ensures.value c.of-key.ensures.back c.self.invariant
    c.add_new.new.positions.items c.add_new.new.keys c.in_ok-add_new.field-0 c.in_ok-add_new.ensures.added c.in_ok-add_new.ensures.positions
    c.in_ok-add_new.ensures.keys c.if-branch.true

pub invariant_of-self-in_err-self-inside : goal.invariant_of-self-in_err-self-inside
invariant_of-self-in_err-self-inside c =
    let s = c.self.inside in
    let unchanged : IsUnchanged s.again c.entry.follows.lender-at-none = rw c.in_err-self-inside.was at c.entry.follows.holds-at-none in
    kept_still s.positions.items s.barred s.keys s.again c.args.p c.of-key.result c.of-key.ensures.value c.of-key.ensures.back c.self.invariant
    c.add_new.new.positions.items c.add_new.new.keys c.in_ok-add_new.field-0 c.in_ok-add_new.ensures.added c.in_ok-add_new.ensures.positions
    c.in_ok-add_new.ensures.keys c.if-branch.false c.entry.follows.lender-at-none
    (unchanged_counts s.again c.entry.follows.lender-at-none c.of-key.result unchanged)

pub invariant_of-self-then-limit-again : goal.invariant_of-self-then-limit-again
invariant_of-self-then-limit-again c =
    let s = c.self.inside in
    kept_still s.positions.items s.barred s.keys s.again c.args.p c.of-key.result c.of-key.ensures.value c.of-key.ensures.back c.self.invariant
    c.add_new.new.positions.items c.add_new.new.keys c.in_ok-add_new.field-0 c.in_ok-add_new.ensures.added c.in_ok-add_new.ensures.positions
    c.in_ok-add_new.ensures.keys c.if-branch.false _ (search rules)

pub invariant_of-self-in_err-add : goal.invariant_of-self-in_err-add
invariant_of-self-in_err-add c =
    let s = c.self.inside in
    rw (c.in_err-add.ensures.refused, c.in_err-add.ensures.kept)
    (kept_still s.positions.items s.barred s.keys s.again c.args.p c.of-key.result c.of-key.ensures.value c.of-key.ensures.back c.self.invariant
    c.add_new.new.positions.items c.add_new.new.keys c.in_ok-add_new.field-0 c.in_ok-add_new.ensures.added c.in_ok-add_new.ensures.positions
    c.in_ok-add_new.ensures.keys c.if-branch.false _ (search rules))

pub invariant_of-self-2 : goal.invariant_of-self-2
invariant_of-self-2 c =
    let s = c.self.inside in
    let here : c.or_insert-again.result.now ≡ count_of s.again c.of-key.result = search rules in
    let twice : c.add.new.barred ≡ s.barred ++ cond (count_of s.again c.of-key.result == 0) (c.args.p ∷ []) [] =
    c.in_ok-add.ensures.barred ∙ ap (λ (n : ℕ). s.barred ++ cond (n == 0) (c.args.p ∷ []) []) here in
    kept_again s.positions.items s.barred s.keys s.again c.args.p c.of-key.result c.of-key.ensures.value c.of-key.ensures.back c.self.invariant
    c.add_new.new.positions.items c.add_new.new.keys c.in_ok-add_new.field-0 c.in_ok-add_new.ensures.added c.in_ok-add_new.ensures.positions
    c.in_ok-add_new.ensures.keys c.if-branch.false c.add.new.positions.items c.add.new.barred c.in_ok-add.ensures.positions twice _ (search rules)
