use Rattle.std.proofs.lemmas.List.Sorted.{IsNonDecreasingBy-from_sort}
use Rattle.arimaa_match.proofs.tests.clock.Goals as goal

pub new-requires : goal.new-requires
new-requires c = IsNonDecreasingBy-from_sort (λ x. x) _ c.sort_unstable.ensures.sorted
