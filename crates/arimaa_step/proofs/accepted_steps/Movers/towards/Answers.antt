use Rattle.std.proofs.Common.{ℕ, ◌&&◌, ◌<◌, ◌^◌, subst, sym, arith}
use Rattle.std.specs.Prelude.{◌||◌, not, is_some}
use Rattle.arimaa_board.proofs.Lemmas.MaskLaws.{and_mask, or_mask, not_mask, like_mask}
use Rattle.arimaa_board.specs.declared.piece.Kind.TheVariants.{Rabbit}
use Rattle.arimaa_board.specs.Piece.{piece_of}
use Rattle.arimaa_board.specs.Square.{next_square}
use Rattle.arimaa_board.specs.Board.{at, holds}
use Rattle.arimaa_board.specs.Masks.{IsMaskOf, passes}
use Rattle.arimaa_model.specs.Moves.{is_back}
use Rattle.arimaa_step.specs.AcceptedSteps.{accepts, may_go, may_be_pushed, is_left, may_push, may_be_pulled}
use Rattle.arimaa_step.proofs.Lemmas.AcceptedLaws.{is_marked, marked}
use Rattle.arimaa_step.proofs.accepted_steps.Movers.towards.Goals as goal

pub returns : goal.returns
returns c st side few movers =
    let dir = c.args.dir in
    let next = λ (n : ℕ). next_square n dir in
    let here = λ (n : ℕ). is_some (at st.board n) in
    let back = λ (n : ℕ). is_back st.start.side dir && holds (piece_of st.start.side Rabbit) (at st.board n) in
    let fits : c.args.self.now.here < 2 ^ 64 = omega arith in
    let free = c.entering.ensures (λ m. not (here m)) (not_mask here c.args.self.now.here fits movers.here) in
    let fitting = and_mask here (λ n. passes (λ m. not (here m)) (next n)) _ _ movers.here free in
    let kept : IsMaskOf back c.kept_back.result =
    subst (λ x. IsMaskOf (λ n. is_back x dir && holds (piece_of st.start.side Rabbit) (at st.board n)) c.kept_back.result) (sym side) (c.kept_back.ensures (λ n. holds (piece_of st.start.side Rabbit) (at st.board n)) movers.rabbits) in
    let behind = not_mask back c.kept_back.result c.kept_back.type_inv kept in
    let going = and_mask (may_go st) (λ n. not (back n)) _ _ movers.going behind in
    let pushing = and_mask (λ n. passes (is_left st.open_push) (next n)) (may_push st st.open_push) _ _ (c.entering-2.ensures _ movers.push_left) movers.pushers in
    let pulled = and_mask (λ n. passes (is_left st.open_pull) (next n)) (may_be_pulled st.board st.open_pull) _ _ (c.entering-3.ensures _ movers.pull_left) movers.pulled in
    let alone = λ (n : ℕ). may_go st n && not (back n) in
    let pushes = λ (n : ℕ). passes (is_left st.open_push) (next n) && may_push st st.open_push n in
    let pulls = λ (n : ℕ). passes (is_left st.open_pull) (next n) && may_be_pulled st.board st.open_pull n in
    let first = or_mask alone (may_be_pushed st) _ _ going movers.pushed in
    let second = or_mask pushes pulls _ _ pushing pulled in
    let any = or_mask (λ n. alone n || may_be_pushed st n) (λ n. pushes n || pulls n) _ _ first second in
    like_mask (λ n. is_marked st dir n (at st.board n)) (accepts st dir) _ (λ n _. marked st dir n few)
    (and_mask (λ n. here n && passes (λ m. not (here m)) (next n)) (λ n. (alone n || may_be_pushed st n) || (pushes n || pulls n)) _ _ fitting any)
