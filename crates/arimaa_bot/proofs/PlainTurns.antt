-- A game that goes on has a plain turn.
use Rattle.std.proofs.Common.{◌≡◌, ◌∙◌, List, [], Option, None, Some, Bool, true, false, is_some, refl, sym, ap, true≢false}
use Rattle.std.specs.List.{list_any}
use Rattle.std.specs.Option.{option_map_or, option_or}
use Rattle.arimaa_board.specs.declared.position.Position.{Position}
use Rattle.arimaa_board.specs.declared.position.Step.{Step}
use Rattle.arimaa_model.specs.DecidedPositions.{decided}
use Rattle.arimaa_model.specs.Game.{barred_by, ended_for, ending_at, lawful_at, present}
use Rattle.arimaa_model.specs.Results.{result_of, results}
use Rattle.arimaa_model.proofs.Lemmas.Barring.{next-lawful}
use Rattle.arimaa_results.specs.Conditions.{brings_passing, first_passing}
use Rattle.arimaa_game.specs.Play.{Play, ending_of}
use Rattle.arimaa_game.proofs.Lemmas.Endings.{ending-present, ending_at-decided, ending_at-undecided, left-none, running-rules}
use Rattle.arimaa_bot.specs.Choice.{is_allowed, is_safe, plain_turn}

-- the present position of a game that goes on is undecided
pub undecided : (g : Play) (p : Position) → ending_of g ≡ None → present g.history ≡ Some p → decided p ≡ None
undecided g p running now =
    let rules : ending_at g.history p ≡ None = sym (ending-present g.history p now) ∙ running-rules g running in
    elim (decided p) as (λ o. decided p ≡ o → o ≡ None) [
      | None ↦ λ _. refl
      | Some e ↦ λ is. let wrong : Some e ≡ None = ending_at-decided g.history p e (sym is) ∙ rules in cc
    ] refl

-- some result may be brought about
pub some_allowed : (g : Play) (p : Position) → ending_of g ≡ None → present g.history ≡ Some p → list_any (is_allowed (barred_by g.history)) (results p) ≡ true
some_allowed g p running now =
    let h : List Position = g.history in
    let rules : ending_at h p ≡ None = sym (ending-present h p now) ∙ running-rules g running in
    let goes : ended_for p None (lawful_at h p) ≡ None = ending_at-undecided h p (sym (undecided g p running now)) ∙ rules in
    elim (list_any (is_allowed (barred_by h)) (results p)) as (λ v. list_any (is_allowed (barred_by h)) (results p) ≡ v → v ≡ true) [
      | true ↦ λ _. refl
      | false ↦ λ none.
          let left : lawful_at h p ≡ [] = sym (next-lawful h p) ∙ left-none (is_allowed (barred_by h)) (results p) none in
          let wrong : ended_for p None [] ≡ None = ap (ended_for p None) (sym left) ∙ goes in
          cc
    ] refl

-- what passes is a result
pub some_result : (passes : Position → Bool) (p : Position) (steps : List Step) → brings_passing passes p steps ≡ true → is_some (result_of p steps) ≡ true
some_result passes p steps h = some (result_of p steps) h where
  some : (o : Option Position) → option_map_or passes o false ≡ true → is_some o ≡ true
  some None e = absurd (true≢false (sym e))
  some (Some q) e = refl

-- the first turn that doesn't lose at once
pub plain_safe : (barred : List Position) (p : Position) (steps : List Step) → Some steps ≡ first_passing (is_safe barred p.side) p → plain_turn barred p ≡ Some steps
plain_safe barred p steps first = ap (λ (o : Option (List Step)). option_or o (first_passing (is_allowed barred) p)) (sym first)

-- where there is none, the first turn of all
pub plain_first : (barred : List Position) (p : Position) (steps : List Step) → None ≡ first_passing (is_safe barred p.side) p → Some steps ≡ first_passing (is_allowed barred) p → plain_turn barred p ≡ Some steps
plain_first barred p steps none first = ap (λ (o : Option (List Step)). option_or o (first_passing (is_allowed barred) p)) (sym none) ∙ sym first
