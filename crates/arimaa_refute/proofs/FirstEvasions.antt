-- The turn of an escape is the first one to the first next position that is not won.
use Rattle.std.proofs.Common.{◌≡◌, ℕ, suc, List, Some, true, not, is_some, refl, ap}
use Rattle.std.proofs.lemmas.Bool.{not_from_false}
use Rattle.arimaa_board.specs.declared.piece.Color.{Color}
use Rattle.arimaa_board.specs.declared.position.Position.{Position}
use Rattle.arimaa_model.specs.Results.{next}
use Rattle.arimaa_model.specs.Strategies.{first_turn}
use Rattle.arimaa_model.specs.Wins.{wins}
use Rattle.arimaa_model.proofs.Lemmas.FirstTurns.{passing-turn}
use Rattle.arimaa_model.proofs.Lemmas.Members.{find-some}
use Rattle.arimaa_refute.specs.OwnEscapes.{IsUnwon, evades, first_evasion}
use Rattle.arimaa_refute.specs.Refutations.{first_unwon}
use Rattle.arimaa_refute.proofs.OwnEscapesHold.{evasion}

module _ (a : Color) (barred : List Position) where
  -- the turn of an escape is the first turn to the first next position that is not won
  pub evasion-turn : (k : ℕ) (p q : Position) → first_unwon a barred k p ≡ Some q → first_turn p q ≡ Some (first_evasion a barred k p)
  unfolding first_evasion
  evasion-turn k p q found = passing-turn barred (λ r. not (wins a barred k r)) (evades a barred k p) p q refl (λ r. refl) found

  -- a position that is not won has such a next position
  pub unwon-some : (k : ℕ) (p : Position) → IsUnwon a barred (suc k) p → is_some (first_unwon a barred k p) ≡ true
  unwon-some k p h =
      let r = evasion a barred k p h in
      let found = find-some (λ q. not (wins a barred k q)) r.0 (next barred p) r.1.inside (not_from_false _ r.1.lost) in
      ap is_some found.1
