-- What workers find out about the jobs of a depth: the job of a number is the next position of this
-- number.
use Rattle.std.specs.Prelude.{◌≡◌, ℕ, ◌<◌, ◌≤◌, ◌⊎◌, Bool, true, false, List, [], ◌∷◌, length, nat_le, Option, None, Some, IfSome, if◌then◌else◌}
use Rattle.std.specs.List.{slice_get}
use Rattle.crossbeam_utils.specs.Padded.{padded_value}
use Rattle.arimaa_board.specs.declared.position.Position.{Position}
use Rattle.arimaa_model.specs.Results.{next}
use Rattle.arimaa_forced.specs.Search.{is_decisive}
use Rattle.arimaa_jobs.specs.declared.view.SeatView.{SeatView}
use Rattle.arimaa_jobs.specs.declared.jobs.Jobs.{Jobs}
use Rattle.arimaa_jobs.specs.Rule.{Stands, ends_above}
use Rattle.arimaa_jobs.specs.Seats.{IsSeatOf, count_of, view}
use Rattle.arimaa_pool.specs.declared.stopped_job.StoppedJob.{StoppedJob}
use Rattle.arimaa_pool.specs.declared.seat.Seated.{Seated}
use Rattle.arimaa_pool.specs.Stops.{IsStop}
use Rattle.arimaa_pool.specs.Terms.{Terms}

-- q is the next position of p with this number
abbrev pub IsJob : Terms → Position → ℕ → Position → Type 0
IsJob t p k q = slice_get (next t.barred p) k ≡ Some q

-- whether the job of this number is decisive at depth n
abbrev pub Decides : Terms → ℕ → Position → ℕ → Bool → Type 0
Decides t n p k answer =
    (q : Position) → IsJob t p k q → is_decisive t.attacker t.barred n p q ≡ answer

-- the job stopped, for the cause that its stop has
abbrev pub HasStopped : Terms → ℕ → Position → StoppedJob → Type 0
HasStopped t n p s = IsStop t (λ q j. IsJob t p s.job q × (j ≡ n)) s.stop

-- a job up to this number stopped
abbrev pub HasStopBy : Option StoppedJob → ℕ → Type 0
HasStopBy None x = ⊥
HasStopBy (Some s) x = s.job ≤ x

-- the stop of the lesser job
abbrev pub earlier : Option StoppedJob → Option StoppedJob → Option StoppedJob
earlier None other = other
earlier (Some s) None = Some s
earlier (Some s) (Some r) = if nat_le s.job r.job then Some s else Some r

-- what the seat and the stop of a worker say of the jobs of p at depth n
pub record Worked (t : Terms) (n : ℕ) (p : Position) (v : SeatView)
    (stopped : Option StoppedJob) : Type 0 where
  -- of the jobs that it drew, each that is not above the least that it saw was reported, or is not
  -- decisive, or stopped, or comes after one that did
  pub asked : (x : ℕ) → x < v.count → Stands x v.drawn → x ≤ v.saw
      → Stands x v.reported ⊎ (Decides t n p x false ⊎ HasStopBy stopped x)
  -- each reported job is decisive
  pub decisive : (x : ℕ) → Stands x v.reported → Decides t n p x true
  -- the stop is that of a job
  pub stop : IfSome stopped (HasStopped t n p)

-- the seat drew nothing more, and is as heavy as before
abbrev pub KeepsDrawn : SeatView → SeatView → Type 0
KeepsDrawn old new = (new.drawn ≡ old.drawn) × (new.count ≡ old.count) × (new.weight ≡ old.weight)

-- whether the last number that the seat drew is no job
abbrev pub has_ended : SeatView → Bool
has_ended v = ends_above v.count v.drawn

-- a worker that asks on these terms has a seat of these jobs, of weight 1, and what it found out is
-- right
pub record IsAtWork (jobs : Jobs) (t : Terms) (n : ℕ) (p : Position) (s : Seated) : Type 0 where
  pub terms : padded_value s.asker ≡ t
  pub seat : IsSeatOf jobs s.seat
  pub worked : Worked t n p (view s.seat) s.stopped
  pub weight : (view s.seat).weight ≡ 1

-- and it has drawn a number that is no job
abbrev pub IsDoneWith : Jobs → Terms → ℕ → Position → Seated → Type 0
IsDoneWith jobs t n p s = IsAtWork jobs t n p s × (has_ended (view s.seat) ≡ true)

-- the worker has not begun
abbrev pub IsFresh : Jobs → Terms → ℕ → Position → Seated → Type 0
IsFresh jobs t n p s = IsAtWork jobs t n p s × (s.stopped ≡ None)

-- the jobs are the next positions of p, which the list has, and are asked about at depth n
pub record AreJobsOf (jobs : Jobs) (segments : List (List Position)) (t : Terms) (n : ℕ)
    (p : Position) : Type 0 where
  pub depth : n ≤ 20
  pub list : segments ≡ next t.barred p ∷ []
  pub count : count_of jobs ≡ length (next t.barred p)
