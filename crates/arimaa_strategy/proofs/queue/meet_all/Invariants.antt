use Rattle.std.proofs.Common.{◌≡◌, drop}
use Rattle.std.specs.Prelude.{is_none}
use Rattle.std.specs.List.{filter}
use Rattle.arimaa_model.specs.DecidedPositions.{decided}
use Rattle.arimaa_model.specs.Results.{first_occurrences}
use Rattle.arimaa_region.specs.Segments.{live_of}
use Rattle.arimaa_strategy.proofs.queue.meet_all.Given as goal

-- what is left adds to the queue what all add to it
abbrev pub invariant-loop-place : goal.invariant-loop-place
invariant-loop-place l = first_occurrences l.queue (filter (λ x. is_none (decided x)) (drop l.place (live_of l.list.segments))) ≡ first_occurrences l.initial.queue (filter (λ x. is_none (decided x)) (live_of l.list.segments))
