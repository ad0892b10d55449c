use Rattle.std.proofs.Common.{◌≡◌, ◌∙◌, ap, sym, subst}
use Rattle.arimaa_board.specs.declared.piece.Color.TheVariants.{Gold}
use Rattle.arimaa_board.specs.Board.{Squares, empty_board}
use Rattle.arimaa_board.specs.Fit.{IsFit}
use Rattle.arimaa_game.specs.Setups.{HoldsSetups, board_after_setups, with_pairs}
use Rattle.arimaa_game.proofs.SetUp.{after_setups-fit, after_setups-holds}
use Rattle.arimaa_game.proofs.setups.position_after.Goals as goal

board-is : (c : goal.After-place-2) → board_after_setups c.args.gold.now c.args.silver.now ≡ c.place-2.new.board
unfolding board_after_setups
board-is c =
    let gold : c.place.new.board ≡ with_pairs empty_board c.args.gold.now.pairs =
    c.place.ensures ∙ (ap (λ (b : Squares). with_pairs b c.pairs.result.now) c.empty-board.ensures ∙ ap (with_pairs empty_board) c.pairs.ensures.value) in
    sym (c.place-2.ensures ∙ (ap (λ (b : Squares). with_pairs b c.pairs-2.result.now) gold ∙ ap (with_pairs (with_pairs empty_board c.args.gold.now.pairs)) c.pairs-2.ensures.value))

pub returns-clause-value : goal.returns-clause-value
returns-clause-value c = λ i. record { board = sym (board-is c) i; side = Gold }

pub returns-clause-holds : goal.returns-clause-holds
returns-clause-holds c =
    subst (HoldsSetups c.args.gold.now c.args.silver.now) (board-is c) (after_setups-holds c.args.gold.now c.args.silver.now c.pairs.ensures.rule c.pairs-2.ensures.rule c.requires.gold c.requires.silver)

pub returns-clause-fit : goal.returns-clause-fit
returns-clause-fit c =
    subst IsFit (board-is c) (after_setups-fit c.args.gold.now c.args.silver.now c.pairs.ensures.rule c.pairs-2.ensures.rule c.requires.gold c.requires.silver)
