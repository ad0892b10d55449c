use Rattle.std.proofs.Common.{◌≡◌, sym, subst, Option, ℕ, length, ◌<◌, rules}
use Rattle.std.specs.Prelude.{IfSome}
use Rattle.arimaa_strategy.specs.Entries.{place_of}
use Rattle.arimaa_strategy.proofs.Lemmas.PlaceLaws.{place_within}
use Rattle.arimaa_strategy.proofs.strategy.Strategy.first_entry.Goals as goal

pub returns-clause-within : goal.returns-clause-within
returns-clause-within c =
    let place : c.copied.result ≡ place_of c.args.self.now c.args.p.now = search rules in
    subst (λ (o : Option ℕ). IfSome o (λ k. k < length c.args.self.now)) (sym place) (place_within c.args.self.now c.args.p.now)
