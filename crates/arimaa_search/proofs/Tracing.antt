-- The trace of a look through the next positions.
use Rattle.std.proofs.Common.{◌≡◌, ℕ, List, [], ◌∷◌, drop, true, false, cond, ◌⊎◌, inl, inr, ⊎_elim, sym, ap, subst, arith}
use Rattle.arimaa_board.specs.declared.piece.Color.{Color}
use Rattle.arimaa_board.specs.declared.position.Position.{Position}
use Rattle.arimaa_model.specs.Results.{next}
use Rattle.arimaa_model.proofs.Lemmas.Members.{In}
use Rattle.arimaa_model.proofs.Lemmas.Positions.{stands-In}
use Rattle.arimaa_forced.specs.Search.{up_to, is_decisive, looked_at}
use Rattle.arimaa_line.specs.Index.{place_of}
use Rattle.arimaa_table.specs.Passes.{NoFewer}
use Rattle.arimaa_search.specs.Traces.{GoesPast, Stepped, SteppedThrough}

module _ (a : Color) (barred : List Position) (n : ℕ) (p : Position) (lines : ℕ) where
  -- these are left: of each position that is to be looked at, the pass made steps at its line, or it is one of these
  pub record Tracing (start now : ℕ → ℕ) (rest : List Position) : Type 0 where
    pub grown : NoFewer start now
    pub traced : (q : Position) → In q (looked_at a barred n p) → Stepped lines start now q ⊎ In q (up_to (is_decisive a barred n p) rest)

  stepped_later : (start now after : ℕ → ℕ) (q : Position) → NoFewer now after → Stepped lines start now q → Stepped lines start after q
  stepped_later start now after q up here = let more = up (place_of q lines) in omega arith

  stepped_since : (start now after : ℕ → ℕ) (q : Position) → NoFewer start now → Stepped lines now after q → Stepped lines start after q
  stepped_since start now after q up here = let more = up (place_of q lines) in omega arith

  pub tracing_start : (start : ℕ → ℕ) → Tracing start start (next barred p)
  tracing_start start = record { grown = λ i. omega arith; traced = λ q i. inr i }

  -- the first of the rest was asked about
  asked : (q : Position) (rest : List Position) (start now after : ℕ → ℕ) → Tracing start now (q ∷ rest) → NoFewer now after → Stepped lines now after q
      → (left : List Position) → cond (is_decisive a barred n p q) [] (up_to (is_decisive a barred n p) rest) ≡ left
      → (x : Position) → In x (looked_at a barred n p) → Stepped lines start after x ⊎ In x left
  asked q rest start now after t up here left is x i =
      ⊎_elim
      (λ (before : Stepped lines start now x). inl (stepped_later start now after x up before))
      (λ (among : (x ≡ q) ⊎ In x (cond (is_decisive a barred n p q) [] (up_to (is_decisive a barred n p) rest))).
      ⊎_elim
      (λ (first : x ≡ q). inl (stepped_since start now after x t.grown (subst (Stepped lines now after) (sym first) here)))
      (λ (later : In x (cond (is_decisive a barred n p q) [] (up_to (is_decisive a barred n p) rest))). inr (subst (In x) is later))
      among)
      (t.traced x i)

  -- it was not decisive
  pub tracing_more : (q : Position) (rest : List Position) (start now after : ℕ → ℕ) → Tracing start now (q ∷ rest) → NoFewer now after → Stepped lines now after q → is_decisive a barred n p q ≡ false → Tracing start after rest
  tracing_more q rest start now after t up here goes = record {
    grown = λ i. (let before = t.grown i in let more = up i in omega arith);
    traced = asked q rest start now after t up here (up_to (is_decisive a barred n p) rest) (ap (λ v. cond v [] (up_to (is_decisive a barred n p) rest)) goes);
  }

  -- the first of all was not
  pub tracing_past : (reply : Position) (start now : ℕ → ℕ) → GoesPast a barred n p reply → NoFewer start now → Stepped lines start now reply → Tracing start now (drop 1 (next barred p))
  tracing_past reply start now past up here = tracing_more reply (drop 1 (next barred p)) start start now (subst (Tracing start start) past.0 (tracing_start start)) up here past.1

  -- it was
  pub tracing_decisive : (q : Position) (rest : List Position) (start now after : ℕ → ℕ) → Tracing start now (q ∷ rest) → NoFewer now after → Stepped lines now after q → is_decisive a barred n p q ≡ true → SteppedThrough a barred lines n p start after
  tracing_decisive q rest start now after t up here ends = λ x stands.
      ⊎_elim
      (λ (stepped : Stepped lines start after x). stepped)
      (λ (none : In x []). absurd none)
      (asked q rest start now after t up here [] (ap (λ v. cond v [] (up_to (is_decisive a barred n p) rest)) ends) x (stands-In (looked_at a barred n p) x stands))

  -- none is left
  pub tracing_end : (start now : ℕ → ℕ) → Tracing start now [] → SteppedThrough a barred lines n p start now
  tracing_end start now t = λ x stands.
      ⊎_elim
      (λ (stepped : Stepped lines start now x). stepped)
      (λ (none : In x []). absurd none)
      (t.traced x (stands-In (looked_at a barred n p) x stands))

  -- the pass began earlier and ended later
  pub through_wider : (first old new last : ℕ → ℕ) → NoFewer first old → NoFewer new last → SteppedThrough a barred lines n p old new → SteppedThrough a barred lines n p first last
  through_wider first old new last before after t = λ x stands. let here = t x stands in let low = before (place_of x lines) in let high = after (place_of x lines) in omega arith
