use Rattle.std.proofs.Common.{◌≡◌, ◌∙◌, refl, sym, ap, subst, [], None, Some, Bool, true, false, List, not}
use Rattle.std.specs.List.{list_any}
use Rattle.arimaa_board.specs.declared.position.Position.{Position}
use Rattle.arimaa_model.specs.Results.{results, stands_in}
use Rattle.arimaa_model.specs.Game.{barred_by, ended_for, lawful_at}
use Rattle.arimaa_model.proofs.Lemmas.Barring.{next-lawful}
use Rattle.arimaa_game.proofs.Lemmas.Endings.{left-some, left-none}
use Rattle.arimaa_game.proofs.ending.stuck_ending.Goals as goal

pub returns-then-is_some : goal.returns-then-is_some
returns-then-is_some c =
    let p = c.args.p.now in
    let allowed : List Position → Position → Bool = λ barred q. not (stands_in barred q) in
    let some : list_any (allowed c.barred-barred.result.now) (results p) ≡ true = sym c.first_turn_where.ensures.some ∙ (sym c.is_some.ensures ∙ c.if-is_some.true) in
    let here : list_any (allowed (barred_by c.args.history.now)) (results p) ≡ true = subst (λ (barred : List Position). list_any (allowed barred) (results p) ≡ true) c.barred-barred.ensures.value some in
    left-some p (allowed (barred_by c.args.history.now)) (results p) here ∙ ap (ended_for p None) (next-lawful c.args.history.now p)

pub returns : goal.returns
returns c =
    let p = c.args.p.now in
    let allowed : List Position → Position → Bool = λ barred q. not (stands_in barred q) in
    let none : list_any (allowed c.barred-barred.result.now) (results p) ≡ false = sym c.first_turn_where.ensures.some ∙ (sym c.is_some.ensures ∙ c.if-is_some.false) in
    let here : list_any (allowed (barred_by c.args.history.now)) (results p) ≡ false = subst (λ (barred : List Position). list_any (allowed barred) (results p) ≡ false) c.barred-barred.ensures.value none in
    let left : lawful_at c.args.history.now p ≡ [] = sym (next-lawful c.args.history.now p) ∙ left-none (allowed (barred_by c.args.history.now)) (results p) here in
    let lost : Some (record { winner = c.other.result; cause = c.stuck_cause.result }) ≡ ended_for p None [] = rw (c.other.ensures, c.stuck_cause.ensures) refl in
    lost ∙ ap (ended_for p None) (sym left)
