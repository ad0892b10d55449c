use Rattle.std.proofs.Common.{◌≡◌, ℕ, suc, ◌+◌, arith, ap, ◌∙◌}
use Rattle.arimaa_model.specs.Results.{next}
use Rattle.arimaa_forced.specs.Search.{is_decisive, size, cost, crowd}
use Rattle.arimaa_forced.proofs.Lemmas.Deeper.{size-deeper, cost-deeper, crowd-deeper}
use Rattle.arimaa_forced.proofs.Lemmas.Looks.{sum_to-sum}
use Rattle.arimaa_forced.proofs.laws.costs_go_one_deeper.Goals as goal

pub returns-clause-size : goal.returns-clause-size
returns-clause-size c = λ barred n p undecided. let more : n + 1 ≡ suc n = omega arith in ap (λ (k : ℕ). size barred k p) more ∙ size-deeper barred p n undecided

pub returns-clause-cost : goal.returns-clause-cost
returns-clause-cost c = λ a barred n p undecided.
    let more : n + 1 ≡ suc n = omega arith in
    ap (λ (k : ℕ). cost a barred k p) more ∙ (cost-deeper a barred p n undecided ∙ ap (λ (k : ℕ). 1 + k) (sum_to-sum (is_decisive a barred n p) (cost a barred n) (next barred p)))

pub returns-clause-crowd : goal.returns-clause-crowd
returns-clause-crowd c = λ barred n p undecided. let more : n + 1 ≡ suc n = omega arith in ap (λ (k : ℕ). crowd barred k p) more ∙ crowd-deeper barred p n undecided
