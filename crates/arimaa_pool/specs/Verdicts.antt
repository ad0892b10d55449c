-- What a prover answers.
use Rattle.std.specs.Prelude.{◌≡◌, ℕ, ◌<◌, ◌≤◌, false, List, map}
use Rattle.arimaa_board.specs.declared.piece.Color.{Color}
use Rattle.arimaa_board.specs.declared.position.Position.{Position}
use Rattle.arimaa_model.specs.Game.{barred_by}
use Rattle.arimaa_model.specs.Wins.{wins}
use Rattle.arimaa_model.specs.Ranks.{IsRank}
use Rattle.arimaa_model.specs.Strategies.{strategy_of}
use Rattle.arimaa_forced.specs.Search.{cost, crowd}
use Rattle.arimaa_forced.specs.Needs.{InNeed}
use Rattle.arimaa_forced.specs.Play.{WinsEveryPlay}
use Rattle.arimaa_forced.specs.Entries.{entry_with_marks, planned_of}
use Rattle.arimaa_pool.specs.declared.verdict.Verdict.{Verdict}
use Rattle.arimaa_pool.specs.declared.verdict.Verdict.TheVariants.{Yes, No, Spent, Crowded}
use Rattle.arimaa_pool.specs.declared.settings.Settings.{Settings}
use Rattle.arimaa_pool.specs.Terms.{Terms}

-- the terms of a proof: the barred positions are those that stand twice in the history
abbrev pub terms_of : Color → List Position → Settings → Terms
terms_of a h s = record { attacker = a; barred = barred_by h; budget = s.budget; room = s.room }

-- the answer to the question whether the attacker wins p within n turns: the rank with the
-- strategy, a no, or a needed question with the cause of the stop
abbrev pub IsAnswer : Terms → Position → ℕ → Verdict → Type 0
IsAnswer t p n (Yes r s) =
    (r ≤ n) × IsRank t.attacker t.barred p r
    × (s ≡ map entry_with_marks (strategy_of t.attacker t.barred r p))
IsAnswer t p n No = wins t.attacker t.barred n p ≡ false
IsAnswer t p n (Spent q j k) =
    InNeed t.attacker t.barred p n q j × (t.budget < cost t.attacker t.barred j q)
    × (k ≡ t.budget)
IsAnswer t p n (Crowded q j) =
    InNeed t.attacker t.barred p n q j × (t.room < crowd t.barred j q)

-- where the answer is yes, the strategy wins every play that begins with this history
abbrev pub Plays : Color → List Position → Verdict → Type 0
Plays a h (Yes r s) = WinsEveryPlay a (map planned_of s) r h
Plays a h No = Unit {0}
Plays a h (Spent q j k) = Unit {0}
Plays a h (Crowded q j) = Unit {0}

-- the answer is yes or no
abbrev pub IsDone : Verdict → Type 0
IsDone (Yes r s) = Unit {0}
IsDone No = Unit {0}
IsDone (Spent q j k) = ⊥
IsDone (Crowded q j) = ⊥

-- the budget is enough for each needed question, and the room for the root
pub record Suffices (t : Terms) (p : Position) (n : ℕ) : Type 0 where
  pub budget : (q : Position) (j : ℕ) → InNeed t.attacker t.barred p n q j
      → cost t.attacker t.barred j q ≤ t.budget
  pub room : crowd t.barred n p ≤ t.room
