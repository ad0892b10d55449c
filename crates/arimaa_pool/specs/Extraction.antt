-- How the strategy of a position is found.
use Rattle.std.specs.Prelude.{◌≡◌, ℕ, ◌≤◌, List, take, length}
use Rattle.std.specs.List.{flat_map}
use Rattle.arimaa_board.specs.declared.position.Position.{Position}
use Rattle.arimaa_model.specs.Results.{first_occurrences}
use Rattle.arimaa_model.specs.Strategies.{entry_of, after_entry, positions_met}
use Rattle.arimaa_forced.specs.declared.entry.Entry.{Entry}
use Rattle.arimaa_forced.specs.Entries.{entry_with_marks}
use Rattle.arimaa_pool.specs.Terms.{Terms}

-- the entry of q, with its marks, where the root is won within n turns
abbrev pub written_entry : Terms → ℕ → Position → Entry
written_entry t n q = entry_with_marks (entry_of t.attacker t.barred n q)

-- after the first k of these positions were played: what was met up to some level, and what is met
-- after the first k of that level
pub record IsQueue (t : Terms) (n : ℕ) (p : Position) (k : ℕ) (queue : List Position) : Type 0 where
  pub level : ℕ
  pub played : k ≤ length (positions_met t.attacker t.barred n p level)
  pub queue_is : queue ≡ first_occurrences (positions_met t.attacker t.barred n p level)
      (flat_map (after_entry t.attacker t.barred n)
      (take k (positions_met t.attacker t.barred n p level)))
