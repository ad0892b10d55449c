use Rattle.std.proofs.Common.{◌≡◌, List, ℕ, ◌∙◌, sym, subst}
use Rattle.std.specs.List.Sorted.{IsPermutation}
use Rattle.arimaa_board.specs.declared.piece.Color.{Color}
use Rattle.arimaa_board.specs.declared.piece.Piece.{Piece}
use Rattle.arimaa_board.specs.Setup.{Lineup}
use Rattle.arimaa_notation.specs.Items.{items_of}
use Rattle.arimaa_notation.specs.Grammar.{IsSetupText}
use Rattle.arimaa_notation.proofs.Lemmas.SetupReading.{same_items, same_lineup}
use Rattle.arimaa_notation.proofs.laws.setups_apart.Goals as goal

apart : (bytes : List ℕ) (color : Color) (s t : Lineup) → IsSetupText bytes color s → IsSetupText bytes color t → s ≡ t
apart bytes color s t a b =
    let same : b.entries.0 ≡ a.entries.0 = same_items (items_of bytes) b.entries.0 a.entries.0 b.entries.1 a.entries.1 in
    let P : List (ℕ × Piece) → Type 0 = λ x. IsPermutation x t.pairs in
    same_lineup s t a.entries.0 a.rule b.rule (a.side ∙ sym b.side) a.entries.2 (subst P same b.entries.2)

pub returns : goal.returns
returns c = apart
