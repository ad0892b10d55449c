use Rattle.std.proofs.Common.{◌≡◌, ◌∙◌, ◌∷◌, ◌++◌, [], List, length, Some, None, cond, sym, ap, subst, rules}
use Rattle.std.specs.HashMap.{get}
use Rattle.std.specs.Option.{option_or}
use Rattle.arimaa_forced.specs.declared.entry.Entry.{Entry}
use Rattle.arimaa_history.specs.declared.key.Key.{Key}
use Rattle.arimaa_history.specs.Keys.{key_of, position_at}
use Rattle.arimaa_history.specs.Counts.{same_key}
use Rattle.arimaa_strategy.specs.Places.{AreKept}
use Rattle.arimaa_strategy.proofs.Lemmas.PlaceLaws.{kept_more}
use Rattle.arimaa_strategy.proofs.strategy.Strategy.push.Goals as goal

pub invariant_of-self-2 : goal.invariant_of-self-2
invariant_of-self-2 c =
    let es : List Entry = c.self.inside.entries.items in
    let e : Entry = c.args.entry in
    let old = c.self.inside.places in
    let new = c.file.new.places in
    let key : c.of.result ≡ key_of e.position = c.of.ensures.value in
    let back : position_at (key_of e.position) ≡ e.position = sym (ap position_at key) ∙ c.of.ensures.back in
    let count : c.len.result ≡ length es = search rules in
    let filed : (k : Key) → get same_key new k ≡ option_or (get same_key old k) (cond (same_key (key_of e.position) k) (Some (length es)) None) =
    λ k. c.in_ok-file.ensures.filed k ∙ λ i. option_or (get same_key old k) (cond (same_key (key i) k) (Some (count i)) None) in
    let items : c.push.new.self.items ≡ es ++ e ∷ [] = search rules in
    subst (λ (l : List Entry). AreKept l new) (sym items) (kept_more es e old new c.self.invariant back c.requires filed)
