-- What a call knows of its pass between its steps, and what it says of them at its end.
use Rattle.std.specs.Prelude.{true, ◌≡◌, ◌≢◌, ℕ, ◌+◌, ◌-◌, ◌%◌, ◌<◌, ◌≤◌, ◌^◌, ◌⊎◌, [], ◌∷◌}
use Rattle.atomic_table.specs.Table.{Me}
use Rattle.arimaa_line.specs.declared.line.Line.{Line}
use Rattle.arimaa_line.specs.Lines.{IsTrueLine, empty_line, stamp_of}
use Rattle.arimaa_table.specs.declared.view.Kind.TheVariants.{Load, Missed}
use Rattle.arimaa_table.specs.declared.view.PlaceView.{PlaceView}
use Rattle.arimaa_table.specs.declared.view.PassView.{PassView}
use Rattle.arimaa_table.specs.declared.view.Setting.{Setting}
use Rattle.arimaa_table.specs.Places.{at, after_load, after_take, view_with}
use Rattle.arimaa_table.specs.Places.{IsFor, IsLive, Later, WasRuled}

-- the largest odd number up to c, or 0
abbrev pub odd_up_to : ℕ → ℕ
odd_up_to c = c - (c + 1) % 2

-- the last step was a load, and found a count that is odd or at its end
abbrev pub LoadFailed : PlaceView → ℕ → Type 0
LoadFailed new c = (new.kind ≡ Load) × ((c % 2 ≡ 1) ⊎ (c ≡ 2 ^ 64 - 2))

-- the last step was a taking after another step, and failed since the count had moved on
abbrev pub TakingFailed : PlaceView → PlaceView → ℕ → Type 0
TakingFailed old new c = (new.kind ≡ Missed) × (old.steps + 2 ≤ new.steps) × (old.seen < c)

-- the call made a step, and its last one found c and did not get to hold the place
abbrev pub FoundBusy : PlaceView → PlaceView → ℕ → Type 0
FoundBusy old new c =
    (new.found ≡ c) × (old.steps < new.steps) × (LoadFailed new c ⊎ TakingFailed old new c)

-- in this call the pass did not get to hold the place, at which it found the count c last
pub record WasBusy (old new : PlaceView) (c : ℕ) : Type 0 where
  -- the last step of the call tells why
  pub cause : FoundBusy old new c
  -- another pass took the place after this one last did, unless the place is worn
  pub since : c ≢ 2 ^ 64 - 2 → old.last < odd_up_to c
  -- the pass has seen the count
  pub seen : new.seen ≡ c
  -- no count goes back
  pub not_back : old.seen ≤ c
  -- the pass keeps its line
  pub kept : new.kept ≡ old.kept
  -- it took no other line
  pub took : new.took ≡ old.took
  -- it took the place as often as before
  pub none_taken : new.takings ≡ old.takings
  -- its last taking is the one that it was
  pub last : new.last ≡ old.last
  -- it holds the place no more than before
  pub free : new.holds ≡ old.holds

-- after a load that found the even count c and a taking that found the line l
abbrev pub place_after_taking : PlaceView → ℕ → Line → PlaceView
place_after_taking p c l = after_take (after_load p c) c l

-- the pass holds the place i, whose line l has been moved out of its slot
pub record IsOut (v : PassView) (i c : ℕ) (l : Line) (m : Me Line PassView) : Type 0 where
  pub me : m ≡ (view_with v i (place_after_taking (at i v) c l), (i, empty_line) ∷ [])
  pub line : IsFor v i c l
  pub even : c % 2 ≡ 0
  pub below : c + 2 < 2 ^ 64
  pub later : Later (at i v) c

-- the pass does not hold the place i, at which it found the count c
pub record IsBusy (v : PassView) (i c : ℕ) (m : Me Line PassView) : Type 0 where
  pub now : PlaceView
  pub me : m ≡ (view_with v i now, [])
  pub was : WasBusy (at i v) now c
  pub tries : now.steps ≤ (at i v).steps + 2
  pub ruled : WasRuled m.0 i c

-- what may be given back in place of a line: itself, or a newer true one
abbrev pub IsGoodNext : Setting → Line → Line → Type 0
IsGoodNext k old new =
    (new ≡ old) ⊎ ((stamp_of old < stamp_of new) × IsTrueLine k.attacker k.barred new)

-- the pass holds the place i at the even count c, and may give the line x back
pub record MayGive (k : Setting) (i c : ℕ) (x : Line) (m : Me Line PassView) : Type 0 where
  pub live : IsLive k m.0
  pub hand : m.1 ≡ (i, empty_line) ∷ []
  pub holds : (at i m.0).holds ≡ true
  pub count : (at i m.0).last ≡ c + 1
  pub good : IsGoodNext k (at i m.0).kept x
