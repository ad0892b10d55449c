-- The rule of the jobs: word 0 is the number that is drawn next, word 1 the least reported job.
use Rattle.std.specs.Prelude.{◌≡◌, ◌≢◌, ℕ, ◌+◌, ◌-◌, ◌<◌, ◌≤◌, ◌==◌, Bool, true, false}
use Rattle.std.specs.Prelude.{List, [], ◌∷◌, ◌++◌, max, min, slice_index, length}
use Rattle.std.specs.Prelude.{nat_le, nat_lt, if◌then◌else◌}
use mathlib.Core.Option.{some}
use lib.ListN.{get_elem?}
use Rattle.atomic_table.specs.Table.{State, Me, Step}
use Rattle.arimaa_jobs.specs.declared.view.SeatView.{SeatView}

-- f of each seat, added up
abbrev pub total : (SeatView → ℕ) → List SeatView → ℕ
total f [] = 0
total f (v ∷ vs) = f v + total f vs

-- 1 where two numbers are the same
abbrev pub one_if_same : ℕ → ℕ → ℕ
one_if_same x y = if x == y then 1 else 0

-- how often x stands in the list
abbrev pub times : ℕ → List ℕ → ℕ
times x [] = 0
times x (y ∷ ys) = one_if_same x y + times x ys

-- x stands in the list
abbrev pub Stands : ℕ → List ℕ → Type 0
Stands x xs = 0 < times x xs

-- how often x stands among the numbers below n
abbrev pub once_below : ℕ → ℕ → ℕ
once_below x n = if nat_lt x n then 1 else 0

-- the smallest of these and count
abbrev pub smallest_of : ℕ → List ℕ → ℕ
smallest_of count [] = count
smallest_of count (x ∷ xs) = min x (smallest_of count xs)

-- the smallest of count and all reported jobs
abbrev pub least_of : ℕ → List SeatView → ℕ
least_of count [] = count
least_of count (v ∷ vs) = min (smallest_of count v.reported) (least_of count vs)

-- whether there is a last number, and it is not below count
abbrev pub ends_above : ℕ → List ℕ → Bool
ends_above count [] = false
ends_above count (x ∷ []) = nat_le count x
ends_above count (x ∷ y ∷ ys) = ends_above count (y ∷ ys)

-- n is above each of these
abbrev pub IsAbove : ℕ → List ℕ → Type 0
IsAbove n xs = (x : ℕ) → Stands x xs → x < n

-- what a seat that was not joined away knows
pub record IsSeat (count least : ℕ) (v : SeatView) : Type 0 where
  -- it knows the number of jobs
  pub jobs : v.count ≡ count
  -- each job that it reported is below the count, and is one that it drew
  pub reported : (x : ℕ) → Stands x v.reported → (x < count) × Stands x v.drawn
  -- without spare draws it has drawn a number, and the last one is not below the count
  pub dry : v.spare ≡ 0 → ends_above count v.drawn ≡ true
  -- the least job is not above what it saw
  pub saw : least ≤ v.saw

-- a seat that was joined away has no numbers, jobs or spare draws
abbrev pub IsBlank : SeatView → Type 0
IsBlank v = (v.drawn ≡ []) × (v.reported ≡ []) × (v.spare ≡ 0)

-- the rule of the two words and of all seats
pub record JobRule (count next least : ℕ) (vs : List SeatView) : Type 0 where
  -- the numbers drawn are exactly those below the next one, each once
  pub each_once : (x : ℕ) → total (λ v. times x v.drawn) vs ≡ once_below x next
  -- the least word is the smallest of the count and all reported jobs
  pub least_is : least ≡ least_of count vs
  -- a seat with weight knows what a seat knows
  pub seats : (j : ℕ) (v : SeatView)
      → get_elem? vs j ≡ some v → 1 ≤ v.weight → IsSeat count least v
  -- a seat without weight knows nothing
  pub blank : (j : ℕ) (v : SeatView) → get_elem? vs j ≡ some v → v.weight ≡ 0 → IsBlank v
  -- the larger of the next number and the count, plus all spare draws, is the count and 65,536
  pub spares : max next count + total (λ v. v.spare) vs ≡ count + 65536
  -- the weights add up to 65,536
  pub weights : total (λ v. v.weight) vs ≡ 65536

-- the rule of a table of two words, whatever its slots are
pub record Ruled {S : Type 0} (count : ℕ) (s : State S SeatView) : Type 0 where
  -- there are two words
  pub two : length s.words ≡ 2
  -- the rule holds of them
  pub dealt : JobRule count (slice_index s.words 0) (slice_index s.words 1) s.views

-- what the first seat knows
abbrev pub first_view : ℕ → SeatView
first_view count = record {
  count = count;
  drawn = [];
  reported = [];
  saw = count;
  spare = 65536;
  weight = 65536;
}

-- what a seat knows after it drew n: a number that is no job costs a spare draw
abbrev pub view_after_draw : SeatView → ℕ → SeatView
view_after_draw v n = record v {
  drawn = v.drawn ++ n ∷ [];
  spare = if nat_lt n v.count then v.spare else v.spare - 1;
}

-- what a seat knows after it reported a job and saw the least
abbrev pub view_after_report : SeatView → ℕ → ℕ → SeatView
view_after_report v job saw = record v { reported = v.reported ++ job ∷ []; saw = saw }

-- what a seat knows after another was split off
abbrev pub view_after_split : SeatView → SeatView
view_after_split v = record v { spare = v.spare - 1; weight = v.weight - 1 }

-- what a seat knows that was split off
abbrev pub view_of_new_seat : SeatView → SeatView
view_of_new_seat v = record {
  count = v.count;
  drawn = [];
  reported = [];
  saw = v.saw;
  spare = 1;
  weight = 1;
}

-- what a seat knows after another was joined to it; the rule keeps the spare draws at 65,536 or
-- less
abbrev pub view_after_join : SeatView → SeatView → SeatView
view_after_join v w = record {
  count = v.count;
  drawn = v.drawn ++ w.drawn;
  reported = v.reported ++ w.reported;
  saw = min v.saw w.saw;
  spare = min (v.spare + w.spare) 65536;
  weight = v.weight + w.weight;
}

-- what a seat knows that was joined away
abbrev pub spent_view : SeatView
spent_view = record { count = 0; drawn = []; reported = []; saw = 0; spare = 0; weight = 0 }

-- what the seat into which all others were joined learns from the least job
pub record WholeSees (v : SeatView) (least : ℕ) : Type 0 where
  -- the least job is the smallest of the count and the jobs that it reported
  pub least_is : least ≡ smallest_of v.count v.reported
  -- it drew each number once at most
  pub once : (x : ℕ) → times x v.drawn ≤ 1
  -- where it reported a job, it drew every job below the least
  pub below : v.reported ≢ [] → (x : ℕ) → x < least → Stands x v.drawn
  -- where it drew a number that is no job, it drew every job
  pub all : (n : ℕ) → Stands n v.drawn → v.count ≤ n → (x : ℕ) → x < v.count → Stands x v.drawn

-- a seat's view, and the slots that it holds, which are none
abbrev Mine : Type 0 → Type 0
Mine S = Me S SeatView

module _ {S : Type 0} where
  -- what a draw tells: the number found is drawn, and is above all that the seat drew
  abbrev pub TellsDraw : Step S → Mine S → ℕ → Mine S → Type 0
  TellsDraw st m r m' = (m' ≡ (view_after_draw m.0 r, m.1)) × IsAbove r m.0.drawn

  -- what a report tells: the least job found, which is not above what the seat saw
  abbrev pub TellsReport : Step S → Mine S → ℕ → Mine S → Type 0
  TellsReport st m r m' =
      (m' ≡ (view_after_report m.0 st.first (min r st.first), m.1)) × (r ≤ m.0.saw)

  -- what a load of the least job tells, and what it tells the whole seat
  abbrev pub TellsLook : Step S → Mine S → ℕ → Mine S → Type 0
  TellsLook st m r m' =
      (m' ≡ (record m.0 { saw = r }, m.1)) × (r ≤ m.0.count) × (r ≤ m.0.saw)
      × (m.0.weight ≡ 65536 → WholeSees m.0 r)
