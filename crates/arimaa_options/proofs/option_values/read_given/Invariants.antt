use Rattle.std.proofs.Common.{◌≤◌, ◌-◌, drop, length}
use Rattle.arimaa_options.specs.declared.option_values.Given.{Given}
use Rattle.arimaa_options.specs.Options.{Give, nothing_given}
use Rattle.arimaa_options.proofs.option_values.read_given.Given as goal

-- the words up to here gave this
abbrev pub invariant-loop-place : goal.invariant-loop-place
invariant-loop-place l = record {
  within : l.place ≤ length l.words;
  forth : (h : Given) → Give nothing_given (drop l.from l.words) h → Give l.given (drop l.place l.words) h;
  back : (h : Given) → Give l.given (drop l.place l.words) h → Give nothing_given (drop l.from l.words) h;
}

abbrev pub decreases-loop-place : goal.decreases-loop-place
decreases-loop-place l = length l.words - l.place
