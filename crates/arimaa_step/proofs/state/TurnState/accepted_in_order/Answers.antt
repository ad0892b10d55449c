use Rattle.std.proofs.Common.{ℕ, ◌&&◌, sym, ◌∙◌, subst}
use Rattle.arimaa_board.specs.declared.piece.Piece.{Piece}
use Rattle.arimaa_board.specs.declared.square.Dir.{Dir}
use Rattle.arimaa_board.specs.declared.square.Dir.TheVariants.{North, East, South, West}
use Rattle.arimaa_board.specs.Masks.{IsMaskOf}
use Rattle.arimaa_model.specs.Results.{step_of}
use Rattle.arimaa_step.specs.AcceptedSteps.{accepts, AreAccepted}
use Rattle.arimaa_step.specs.CommutingSteps.{commutes_before, moves_calmly}
use Rattle.arimaa_step.specs.Next.{next_state}
use Rattle.arimaa_step.proofs.TurnedMasks.{in_order_calm, in_order_all}
use Rattle.arimaa_step.proofs.state.TurnState.accepted_in_order.Goals as goal

pub returns-then-made_calmly : goal.returns-then-made_calmly
returns-then-made_calmly c =
    let st = c.args.self.now in
    let s = c.args.step.now in
    let S = next_state st s in
    let all : AreAccepted S c.accepted-accepted.result = subst (λ x. AreAccepted x c.accepted-accepted.result) c.requires.after c.accepted-accepted.ensures in
    let calm : IsMaskOf (moves_calmly S) c.calm_movers-calm.result = subst (λ x. IsMaskOf (moves_calmly x) c.calm_movers-calm.result) c.requires.after c.calm_movers-calm.ensures in
    let before = λ (d : Dir) (p : Piece) (n : ℕ). commutes_before s (step_of n d p) in
    let out = λ (d : Dir) (p : Piece) (n : ℕ). commutes_before s (step_of n d p) && moves_calmly S n in
    let earlier = c.commuting_with-earlier.ensures in
    in_order_calm st s _ (sym c.made_calmly.ensures ∙ c.if-made_calmly.true)
    (λ p. c.mask_without.ensures (accepts S North) (out North p) (all North) (c.common.ensures (before North p) (moves_calmly S) (earlier North p) calm))
    (λ p. c.mask_without-then-made_calmly.ensures (accepts S East) (out East p) (all East) (c.common-then-made_calmly.ensures (before East p) (moves_calmly S) (earlier East p) calm))
    (λ p. c.mask_without-then-made_calmly-2.ensures (accepts S South) (out South p) (all South) (c.common-then-made_calmly-2.ensures (before South p) (moves_calmly S) (earlier South p) calm))
    (λ p. c.mask_without-then-made_calmly-3.ensures (accepts S West) (out West p) (all West) (c.common-then-made_calmly-3.ensures (before West p) (moves_calmly S) (earlier West p) calm))

pub returns-else-made_calmly : goal.returns-else-made_calmly
returns-else-made_calmly c =
    let st = c.args.self.now in
    let s = c.args.step.now in
    in_order_all st s _ (sym c.made_calmly.ensures ∙ c.if-made_calmly.false) (subst (λ x. AreAccepted x c.accepted-accepted.result) c.requires.after c.accepted-accepted.ensures)
