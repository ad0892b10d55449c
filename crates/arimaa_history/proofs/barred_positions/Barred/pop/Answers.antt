use Rattle.std.proofs.Common.{◌≡◌, ◌∙◌, ◌∷◌, ◌++◌, [], ap, sym, subst, cond, List, false}
use Rattle.std.specs.HashSet.{contains}
use Rattle.arimaa_board.specs.declared.position.Position.{Position}
use Rattle.arimaa_model.specs.Members.{AreDistinct}
use Rattle.arimaa_history.specs.declared.key.Key.{Key}
use Rattle.arimaa_history.specs.Keys.{key_of, position_at}
use Rattle.arimaa_history.specs.Counts.{same_key, AreKeys}
use Rattle.arimaa_history.proofs.LastPositions.{keys-less}
use Rattle.arimaa_history.proofs.barred_positions.Barred.pop.Goals as goal

pub invariant_of-self-2 : goal.invariant_of-self-2
invariant_of-self-2 c =
    let p : Position = c.in_ok-p.p in
    let ps : List Position = c.pop.new.self.items in
    let items : c.self.inside.positions.items ≡ ps ++ p ∷ [] = c.in_ok-p.ensures.items in
    let key : c.of.result ≡ key_of p = c.of.ensures.value in
    let back : position_at (key_of p) ≡ p = sym (ap position_at key) ∙ c.of.ensures.back in
    let apart : AreDistinct (ps ++ p ∷ []) = subst AreDistinct (sym c.self.view_is ∙ items) c.requires in
    let updated : (k : Key) → contains same_key c.remove.new.self k ≡ cond (same_key (key_of p) k) false (contains same_key c.self.inside.keys k) =
    λ k. c.remove.ensures.updates.0 k ∙ ap (λ (j : Key). cond (same_key j k) false (contains same_key c.self.inside.keys k)) key in
    let are : AreKeys (ps ++ p ∷ []) c.self.inside.keys = subst (λ (xs : List Position). AreKeys xs c.self.inside.keys) items c.self.invariant in
    keys-less ps c.self.inside.keys c.remove.new.self p are apart back updated
