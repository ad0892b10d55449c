-- What was told is one thing.
use Rattle.std.proofs.Common.{◌≡◌, ◌∙◌, ◌++◌, List, ℕ, Option, None, Some, ap, false, sym, true}
use Rattle.std.specs.Prelude.{IsSome}
use Rattle.std.proofs.lemmas.List.{append_cancel_left}
use Rattle.std.proofs.lemmas.Option.{same_Some}
use Rattle.arimaa_outside.specs.ToldLines.{TellsMore, told_after}
use Rattle.arimaa_match.specs.Laws.{ToldOnce}
use Rattle.arimaa_outside.specs.declared.port_answer.PortAnswer.{PortAnswer}

once : {X : Type 0} (old new : Option (List X)) (one other : List X) → IsSome new
    → new ≡ told_after old one → new ≡ told_after old other → one ≡ other
once None None one other some a b = let no : false ≡ true = some in absurd cc
once None (Some now) one other some a b = absurd cc
once (Some had) new one other some a b =
    append_cancel_left had one other (same_Some (had ++ one) (had ++ other) (sym a ∙ b))

once_given : (old new : Option (List ℕ)) (one other : List ℕ) → IsSome new → TellsMore old one new
    → TellsMore old other new → one ≡ other
once_given old None one other some a b = let no : false ≡ true = some in absurd cc
once_given old (Some now) one other some a b = once old (Some now) one other some a b

pub told_once : ToldOnce
told_once old new heard other lines more tells a b =
    let gold = once old.gold.told.answers new.gold.told.answers heard.gold other.gold
    tells.gold_answers a.gold_answers b.gold_answers in
    let silver = once old.silver.told.answers new.silver.told.answers heard.silver other.silver
    tells.silver_answers a.silver_answers b.silver_answers in
    let moments =
    once_given old.given new.given heard.moments other.moments tells.moments a.moments b.moments
    in
    let to_gold =
    once old.gold.told.sent new.gold.told.sent lines.to_gold more.to_gold tells.to_gold
    a.to_gold b.to_gold in
    let to_silver =
    once old.silver.told.sent new.silver.told.sent lines.to_silver more.to_silver
    tells.to_silver a.to_silver b.to_silver in (
      ap (λ (g : List PortAnswer).
          record { gold = g; silver = heard.silver; moments = heard.moments }) gold
          ∙ ap (λ (s : List PortAnswer).
          record { gold = other.gold; silver = s; moments = heard.moments }) silver
          ∙ ap (λ (m : List ℕ).
          record { gold = other.gold; silver = other.silver; moments = m }) moments,
      ap (λ (g : List (List ℕ)). record { to_gold = g; to_silver = lines.to_silver }) to_gold
          ∙ ap (λ (s : List (List ℕ)). record { to_gold = more.to_gold; to_silver = s }) to_silver,
    )
