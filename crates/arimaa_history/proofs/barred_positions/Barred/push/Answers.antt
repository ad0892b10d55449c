use Rattle.std.proofs.Common.{◌≡◌, ◌∙◌, ◌∷◌, ◌++◌, [], ap, sym, subst, cond, List, true, rules}
use Rattle.std.specs.HashSet.{contains}
use Rattle.arimaa_board.specs.declared.position.Position.{Position}
use Rattle.arimaa_history.specs.declared.key.Key.{Key}
use Rattle.arimaa_history.specs.Keys.{key_of, position_at}
use Rattle.arimaa_history.specs.Counts.{same_key, AreKeys}
use Rattle.arimaa_history.proofs.Counting.{keys-more}
use Rattle.arimaa_history.proofs.barred_positions.Barred.push.Goals as goal

pub invariant_of-self-2 : goal.invariant_of-self-2
invariant_of-self-2 c =
    let ps : List Position = c.self.inside.positions.items in
    let p : Position = c.args.p in
    let key : c.of.result ≡ key_of p = c.of.ensures.value in
    let back : position_at (key_of p) ≡ p = sym (ap position_at key) ∙ c.of.ensures.back in
    let updated : (k : Key) → contains same_key c.insert.new.self k ≡ cond (same_key (key_of p) k) true (contains same_key c.self.inside.keys k) =
    λ k. c.in_ok-insert.ensures.updates.0 k ∙ ap (λ (j : Key). cond (same_key j k) true (contains same_key c.self.inside.keys k)) key in
    let items : c.push.new.self.items ≡ ps ++ p ∷ [] = search rules in
    subst (λ (xs : List Position). AreKeys xs c.insert.new.self) (sym items) (keys-more ps c.self.inside.keys c.insert.new.self p c.self.invariant back updated)
