use Rattle.std.proofs.Common.{◌≡◌, ◌∙◌, ◌∷◌, ◌++◌, [], List, length, Some, cond, sym, ap, subst, rules}
use Rattle.std.specs.HashMap.{get}
use Rattle.arimaa_history.specs.declared.key.Key.{Key}
use Rattle.arimaa_history.specs.Keys.{key_of, position_at}
use Rattle.arimaa_history.specs.Counts.{same_key}
use Rattle.arimaa_refute.specs.declared.escape.Escape.{Escape}
use Rattle.arimaa_refute.specs.Places.{AreKept, place_with}
use Rattle.arimaa_refute.proofs.PlaceLaws.{kept-more}
use Rattle.arimaa_refute.proofs.escapes.Escapes.push.Goals as goal

pub invariant_of-self-2 : goal.invariant_of-self-2
invariant_of-self-2 c =
    let es : List Escape = c.self.inside.escapes.items in
    let e : Escape = c.args.escape in
    let old = c.self.inside.places in
    let new = c.file.new.places in
    let key : c.of.result ≡ key_of e.position = c.of.ensures.value in
    let back : position_at (key_of e.position) ≡ e.position = sym (ap position_at key) ∙ c.of.ensures.back in
    let count : c.len.result ≡ length es = search rules in
    let filed : (k : Key) → get same_key new k ≡ cond (same_key (key_of e.position) k) (Some (place_with (get same_key old (key_of e.position)) (length es) e.depth)) (get same_key old k) =
    λ k. c.in_ok-file.ensures.filed k ∙ λ i. cond (same_key (key i) k) (Some (place_with (get same_key old (key i)) (count i) e.depth)) (get same_key old k) in
    let items : c.push.new.self.items ≡ es ++ e ∷ [] = search rules in
    subst (λ (l : List Escape). AreKept l new) (sym items) (kept-more es e old new c.self.invariant back c.requires.steps filed)
