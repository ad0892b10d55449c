use Rattle.std.proofs.Common.{All, [], ◌∷◌, rules, subst, sym}
use Rattle.std.proofs.lemmas.List.Elements.{All-append}
use Rattle.arimaa_board.specs.declared.piece.Color.TheVariants.{Gold}
use Rattle.arimaa_line.specs.declared.bounds.Bounds.{Bounds}
use Rattle.arimaa_line.specs.Bounds.{AreTrueBounds}
use Rattle.arimaa_table_bench.proofs.facts.lone_rabbits.Goals as goal

pub loop-position-preserved : goal.loop-position-preserved
loop-position-preserved c = let new : Bounds = c.in_ok-judged.field-0 in let right : AreTrueBounds Gold [] new = c.in_ok-judged.ensures.right in
    let alone : All (AreTrueBounds Gold []) (new ∷ []) = search (rules, right) in
    subst (All (AreTrueBounds Gold [])) (sym c.in_ok-push.ensures.items) (All-append (AreTrueBounds Gold []) c.loop-position.facts.items (new ∷ []) c.loop-position.invariant alone)
