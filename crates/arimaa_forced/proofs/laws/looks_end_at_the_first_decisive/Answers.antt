use Rattle.arimaa_model.specs.Results.{next}
use Rattle.arimaa_model.proofs.Lemmas.Members.{find-is}
use Rattle.arimaa_model.proofs.Lemmas.Positions.{stands-In, In-stands}
use Rattle.arimaa_forced.specs.Search.{is_decisive, looked_at}
use Rattle.arimaa_forced.proofs.Lemmas.Looks.{up_to-In, found-up_to, up_to-found, up_to-all}
use Rattle.arimaa_forced.proofs.laws.looks_end_at_the_first_decisive.Goals as goal

pub returns-clause-decisive : goal.returns-clause-decisive
returns-clause-decisive c = λ a barred n p q found.
    let here = find-is (is_decisive a barred n p) q (next barred p) found in
    (In-stands (next barred p) q here.0, here.1, In-stands (looked_at a barred n p) q (found-up_to (is_decisive a barred n p) q (next barred p) found))

pub returns-clause-one : goal.returns-clause-one
returns-clause-one c = λ a barred n p q stands ends. up_to-found (is_decisive a barred n p) q (next barred p) (stands-In (looked_at a barred n p) q stands) ends

pub returns-clause-all : goal.returns-clause-all
returns-clause-all c = λ a barred n p none. up_to-all (is_decisive a barred n p) (next barred p) none

pub returns-clause-next : goal.returns-clause-next
returns-clause-next c = λ a barred n p q stands. In-stands (next barred p) q (up_to-In (is_decisive a barred n p) q (next barred p) (stands-In (looked_at a barred n p) q stands))
