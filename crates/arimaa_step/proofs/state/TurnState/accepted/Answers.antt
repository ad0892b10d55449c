use Rattle.std.proofs.Common.{◌<◌, refl, sym, ◌∙◌, ap, arith}
use Rattle.std.proofs.lemmas.Nat.Bits.{bit_at-zero}
use Rattle.arimaa_board.specs.declared.square.Dir.{Dir}
use Rattle.arimaa_board.specs.declared.square.Dir.TheVariants.{North, East, South, West}
use Rattle.arimaa_board.specs.Masks.{bit_of, IsMaskOf}
use Rattle.arimaa_step.specs.AcceptedSteps.{accepts}
use Rattle.arimaa_step.proofs.Lemmas.AcceptedLaws.{full_refuses, by_direction}
use Rattle.arimaa_step.proofs.state.TurnState.accepted.Goals as goal

pub returns-then-self-ge4 : goal.returns-then-self-ge4
returns-then-self-ge4 c =
    let none : (d : Dir) → IsMaskOf (accepts c.args.self.now d) 0 = λ d n _. bit_at-zero n ∙ ap bit_of (sym (full_refuses c.args.self.now d n (omega arith))) in
    by_direction c.args.self.now _ (none North) (none East) (none South) (none West)

pub returns : goal.returns
returns c =
    let st = c.args.self.now in
    let few : st.count < 4 = omega arith in
    by_direction st _ (c.towards.ensures st refl few c.movers-movers.ensures) (c.towards-2.ensures st refl few c.movers-movers.ensures) (c.towards-3.ensures st refl few c.movers-movers.ensures) (c.towards-4.ensures st refl few c.movers-movers.ensures)
