-- What clauses say of jobs and their seats.
use Rattle.std.specs.Prelude.{◌≡◌, ℕ, ◌<◌, ◌≤◌, ◌⊎◌, true, Option, None, Some}
use Rattle.arimaa_jobs.specs.declared.view.SeatView.{SeatView}
use Rattle.arimaa_jobs.specs.declared.jobs.Jobs.{Jobs}
use Rattle.arimaa_jobs.specs.declared.jobs.JobSeat.{JobSeat}
use Rattle.arimaa_jobs.specs.Rule.{view_after_draw, view_after_report, IsAbove, ends_above}

-- the number of jobs
abbrev pub count_of : Jobs → ℕ
count_of j = j.words.shared.key

-- what a seat knows
abbrev pub view : JobSeat → SeatView
view s = s.seat.me.0

-- the seat is one of these jobs
abbrev pub IsSeatOf : Jobs → JobSeat → Type 0
IsSeatOf j s = (s.seat.table_id ≡ j.words.shared.table_id) × ((view s).count ≡ count_of j)

-- the call drew a number that is no job, or none at all
abbrev pub DrewNoJob : SeatView → SeatView → Type 0
DrewNoJob old new = (new ≡ old) ⊎ ((n : ℕ) × (old.count ≤ n) × (new ≡ view_after_draw old n))

-- what a claim answers: the job that it drew, or none where the last number drawn is no job
abbrev pub Claimed : SeatView → SeatView → Option ℕ → Type 0
Claimed old new (Some k) =
    (k < old.count) × (new ≡ view_after_draw old k) × IsAbove k old.drawn
Claimed old new None = (ends_above new.count new.drawn ≡ true) × DrewNoJob old new

-- what a report does: the seat saw the least job, which is not above this one nor above what it saw
abbrev pub Reported : SeatView → SeatView → ℕ → Type 0
Reported old new job =
    (saw : ℕ) × (new ≡ view_after_report old job saw) × (saw ≤ job) × (saw ≤ old.saw)

-- what a look at the least job answers: the seat saw it, and it is not above what the seat saw
abbrev pub Looked : SeatView → SeatView → ℕ → Type 0
Looked old new least = (new ≡ record old { saw = least }) × (least ≤ old.saw)
