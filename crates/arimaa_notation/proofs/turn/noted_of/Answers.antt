use Rattle.std.proofs.Common.{◌≡◌, List, [], ◌∷◌, length, take, refl, sym, ◌∙◌, ap, take_all, arith}
use Rattle.std.proofs.lemmas.List.{length-map}
use Rattle.arimaa_board.specs.declared.turn.NotedStep.{NotedStep}
use Rattle.arimaa_board.specs.NotedTurns.{noted_turn, noted_marks}
use Rattle.arimaa_notation.proofs.turn.noted_of.Goals as goal

-- steps and marks together are the noted steps
same_noted : (xs ys : List NotedStep) → noted_turn xs ≡ noted_turn ys → noted_marks xs ≡ noted_marks ys → xs ≡ ys
same_noted [] [] steps marks = refl
same_noted [] (y ∷ ys) steps marks = cc
same_noted (x ∷ xs) [] steps marks = cc
same_noted (x ∷ xs) (y ∷ ys) steps marks =
    let step : x.step ≡ y.step = cc in
    let mark : x.mark ≡ y.mark = cc in
    let steps_after : noted_turn xs ≡ noted_turn ys = cc in
    let marks_after : noted_marks xs ≡ noted_marks ys = cc in
    let rest = same_noted xs ys steps_after marks_after in
    λ i. record { step = step i; mark = mark i } ∷ rest i

pub returns : goal.returns
returns c =
    let read = c.loop-place.noted_turn in
    let given = c.args.steps.now in
    let i = c.loop-place.place in
    let size : length (noted_marks read) ≡ length read = length-map read (λ n. n.mark) in
    let whole : take i (noted_marks read) ≡ noted_marks read = take_all i (noted_marks read) (omega (arith, c.loop-place.invariant.1)) in
    let given_whole : take i given ≡ given = take_all i given (omega arith) in
    same_noted read given c.loop-place.invariant.0 (sym whole ∙ (c.loop-place.invariant.2 ∙ ap noted_marks given_whole))
