use Rattle.std.proofs.Common.{◌+◌, ◌*◌, ◌≡◌, ◌≤◌, ℕ, ◌++◌, [], drop, length, false}
use Rattle.std.specs.List.{list_any}
use Rattle.arimaa_board.specs.declared.position.Position.{Position}
use Rattle.arimaa_model.specs.Results.{next}
use Rattle.arimaa_region.specs.Segments.{live_of, top}
use Rattle.arimaa_table.specs.Passes.{setting_of, lines_of, steps_of, IsPassOf, KeepsNoOlder, NoFewer}
use Rattle.arimaa_forced.specs.Search.{cost, is_decisive}
use Rattle.arimaa_forced.proofs.Lemmas.Midst.{Midst}
use Rattle.arimaa_search.specs.Traces.{GoesPast, Stepped}
use Rattle.arimaa_search.proofs.Tracing.{Tracing}
use Rattle.arimaa_search.proofs.search.+search.Given as goal

abbrev pub decreases-ask : goal.decreases-ask
decreases-ask l = 4 * l.depth + 2

abbrev pub decreases-open_up : goal.decreases-open_up
decreases-open_up l = 4 * l.depth + 1

abbrev pub decreases-look_through : goal.decreases-look_through
decreases-look_through l = 4 * l.depth + 4

abbrev pub decreases-look_on : goal.decreases-look_on
decreases-look_on l = 4 * l.depth + 3

abbrev pub invariant-look_on-loop-place : goal.invariant-look_on-loop-place
invariant-look_on-loop-place l = record {
  own_pass : IsPassOf l.table l.pass;
  later : KeepsNoOlder l.initial.pass l.pass;
  grown : NoFewer (steps_of l.initial.pass) (steps_of l.pass);
  segments : l.region.segments ≡ l.initial.region.segments;
  room : l.region.room ≡ l.initial.region.room;
  spent : l.left ≤ l.initial.left;
  midst : (reply : Position) → GoesPast (setting_of l.table).attacker (setting_of l.table).barred l.depth l.p reply
      → Midst (setting_of l.table).attacker (setting_of l.table).barred l.depth l.p (drop l.place (live_of l.initial.region.segments) ++ drop (length (top l.initial.region.segments)) (next (setting_of l.table).barred l.p)) (l.initial.left + cost (setting_of l.table).attacker (setting_of l.table).barred l.depth reply) l.left;
  ends : (reply : Position) → GoesPast (setting_of l.table).attacker (setting_of l.table).barred l.depth l.p reply
      → list_any (is_decisive (setting_of l.table).attacker (setting_of l.table).barred l.depth l.p) (drop l.place (live_of l.initial.region.segments)) ≡ false
      → drop (length (top l.initial.region.segments)) (next (setting_of l.table).barred l.p) ≡ [];
  tracing : (reply : Position) (began : ℕ → ℕ) → GoesPast (setting_of l.table).attacker (setting_of l.table).barred l.depth l.p reply
      → NoFewer began (steps_of l.initial.pass) → Stepped (lines_of l.table) began (steps_of l.initial.pass) reply
      → Tracing (setting_of l.table).attacker (setting_of l.table).barred l.depth l.p (lines_of l.table) began (steps_of l.pass) (drop l.place (live_of l.initial.region.segments) ++ drop (length (top l.initial.region.segments)) (next (setting_of l.table).barred l.p));
}
