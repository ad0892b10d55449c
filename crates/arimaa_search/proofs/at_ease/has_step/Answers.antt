use Rattle.std.proofs.Common.{◌≡◌, ◌≢◌, ℕ, bit_or, false, true, true≢false, sym, ⊎_elim}
use Rattle.std.specs.Prelude.{◌||◌}
use Rattle.std.proofs.lemmas.Bool.{OnTrue_from, or_cases}
use Rattle.arimaa_board.proofs.Lemmas.MaskLaws.{or_mask}
use Rattle.arimaa_board.proofs.Lemmas.Masks.{or_fits}
use Rattle.arimaa_board.proofs.Lemmas.MaskSquares.{some_in}
use Rattle.arimaa_board.specs.declared.square.Dir.{Dir}
use Rattle.arimaa_board.specs.declared.square.Dir.TheVariants.{North, East, South, West}
use Rattle.arimaa_search.specs.AtEase.{goes_at_ease}
use Rattle.arimaa_search.proofs.AtEase.{going_turn}
use Rattle.arimaa_search.proofs.at_ease.has_step.Goals as goal

pub returns : goal.returns
returns c =
    OnTrue_from _ _ (λ some.
    let p = c.args.p.now in
    let goes = λ (d : Dir) (n : ℕ). goes_at_ease p.board p.side d n in
    let a = c.going-north.result in
    let b = c.going-east.result in
    let d = c.going-south.result in
    let e = c.going-west.result in
    let two = or_mask (goes North) (goes East) _ _ c.going-north.ensures c.going-east.ensures in
    let three = or_mask (λ n. goes North n || goes East n) (goes South) _ _ two c.going-south.ensures in
    let four = or_mask (λ n. (goes North n || goes East n) || goes South n) (goes West) _ _ three c.going-west.ensures in
    let fits = or_fits (bit_or (bit_or a b) d) e (or_fits (bit_or a b) d (or_fits a b c.going-north.type_inv c.going-east.type_inv) c.going-south.type_inv) c.going-west.type_inv in
    let apart : bit_or (bit_or (bit_or a b) d) e ≢ 0 = λ none. let wrong : false ≡ true = rw none at some in true≢false (sym wrong) in
    let found = some_in (λ n. ((goes North n || goes East n) || goes South n) || goes West n) _ fits four apart in
    let n = found.0 in
    let turn = λ (x : Dir) (g : goes x n ≡ true). going_turn p x n c.at-corner.ensures.size found.1 g in
    ⊎_elim
    (λ g. ⊎_elim (λ h. ⊎_elim (turn North) (turn East) (or_cases (goes North n) (goes East n) h)) (turn South) (or_cases (goes North n || goes East n) (goes South n) g))
    (turn West)
    (or_cases ((goes North n || goes East n) || goes South n) (goes West n) found.2))
