-- What an object that tells nothing told before a call and after it.
use Rattle.std.proofs.Common.{◌≡◌, Option, None, Result, Ok, Err, refl}
use Rattle.std.specs.Prelude.{IfOk, OnErr}

-- where a call that tells nothing succeeded, as before
pub untold_ok : {X E : Type 0} (A : Type 0) (r : Result X E)
    → IfOk r (λ _. ◌≡◌ {A = Option A} None None)
untold_ok A (Ok x) = refl
untold_ok A (Err e) = tt

-- and where it failed
pub untold_err : {X E : Type 0} (A : Type 0) (r : Result X E)
    → OnErr r (◌≡◌ {A = Option A} None None)
untold_err A (Ok x) = tt
untold_err A (Err e) = refl
