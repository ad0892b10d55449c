-- Stops that are handed on.
use Rattle.std.proofs.Common.{◌≡◌, ℕ, Ok, Err, Result, sym, subst}
use Rattle.std.specs.Prelude.{IfErr, IsErrAnd}
use Rattle.arimaa_board.specs.declared.position.Position.{Position}
use Rattle.arimaa_pool.specs.declared.stop.Stop.{Stop}
use Rattle.arimaa_pool.specs.declared.failure.Failure.{Failure}
use Rattle.arimaa_pool.specs.declared.failure.Failure.TheVariants.{Stopped, Memory}
use Rattle.arimaa_pool.specs.Terms.{Terms}
use Rattle.arimaa_pool.specs.Stops.{IsStop}
use Rattle.arimaa_pool.specs.Failures.{IsFailure}

-- what a call failed with is handed on by its caller
pub handed_on : {A B E : Type 0} (heard : Result A E) (result : Result B E) (e : E) (P Q : E → Type 0) → heard ≡ Err e → IsErrAnd result (λ y. y ≡ e) → IfErr heard P → (P e → Q e) → IfErr result Q
handed_on heard (Ok x) e P Q was raised told weaker = absurd raised
handed_on {A} heard (Err y) e P Q was raised told weaker = subst Q (sym raised) (weaker (let F : Result A _ → Type 0 = λ r. IfErr r P in subst F was told))

-- a stop that names a question of one kind names one of a wider kind
pub wider_stop : (t : Terms) (K L : Position → ℕ → Type 0) (s : Stop) → ((q : Position) (j : ℕ) → K q j → L q j) → IsStop t K s → IsStop t L s
wider_stop t K L s wider is = record { kind = wider s.position s.depth is.kind; cause = is.cause }

pub wider_failure : (t : Terms) (K L : Position → ℕ → Type 0) (f : Failure) → ((q : Position) (j : ℕ) → K q j → L q j) → IsFailure t K f → IsFailure t L f
wider_failure t K L (Stopped s) wider is = wider_stop t K L s wider is
wider_failure t K L Memory wider is = tt

-- so a stop of a callee is one of its caller, on the same terms, where its question is one of the caller's
pub stop_on : {A B : Type 0} (heard : Result A Stop) (result : Result B Stop) (e : Stop) (u t : Terms) (K : Terms → Position → ℕ → Type 0) (L : Position → ℕ → Type 0) → u ≡ t → heard ≡ Err e → IsErrAnd result (λ y. y ≡ e)
    → IfErr heard (IsStop u (K u)) → ((q : Position) (j : ℕ) → K t q j → L q j) → IfErr result (IsStop t L)
stop_on {A} heard result e u t K L same was raised told wider =
    let F : Terms → Type 0 = λ v. IfErr heard (IsStop v (K v)) in
    handed_on heard result e (IsStop t (K t)) (IsStop t L) was raised (subst F same told) (wider_stop t (K t) L e wider)

-- the same for failures
pub failed_too : {A : Type 0} (r : Result A Failure) (u t : Terms) (K L : Position → ℕ → Type 0) → u ≡ t → IfErr r (IsFailure u K) → ((q : Position) (j : ℕ) → K q j → L q j) → IfErr r (IsFailure t L)
failed_too (Ok x) u t K L same told wider = tt
failed_too (Err f) u t K L same told wider = wider_failure t K L f wider (let F : Terms → Type 0 = λ v. IsFailure v K f in subst F same told)

pub fail_on : {A B : Type 0} (heard : Result A Failure) (result : Result B Failure) (f : Failure) (u t : Terms) (K : Terms → Position → ℕ → Type 0) (L : Position → ℕ → Type 0) → u ≡ t → heard ≡ Err f → IsErrAnd result (λ y. y ≡ f)
    → IfErr heard (IsFailure u (K u)) → ((q : Position) (j : ℕ) → K t q j → L q j) → IfErr result (IsFailure t L)
fail_on {A} heard result f u t K L same was raised told wider =
    let F : Terms → Type 0 = λ v. IfErr heard (IsFailure v (K v)) in
    handed_on heard result f (IsFailure t (K t)) (IsFailure t L) was raised (subst F same told) (wider_failure t (K t) L f wider)

-- a stop that a caller hands on as a failure
pub stop_fails : {B : Type 0} (result : Result B Failure) (s : Stop) (t : Terms) (K : Position → ℕ → Type 0) → IsErrAnd result (λ y. y ≡ Stopped s) → IsStop t K s → IfErr result (IsFailure t K)
stop_fails (Ok x) s t K raised is = tt
stop_fails (Err f) s t K raised is = subst (IsFailure t K) (sym raised) is
