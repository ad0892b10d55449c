-- What the bot knows by what the prover answered.
use Rattle.std.proofs.Common.{◌≡◌, ◌≤◌, ℕ, List, Some, map, subst}
use Rattle.std.specs.Prelude.{slice_get}
use Rattle.arimaa_board.specs.declared.position.Position.{Position}
use Rattle.arimaa_forced.specs.declared.entry.Entry.{Entry}
use Rattle.arimaa_forced.specs.Entries.{entry_with_marks}
use Rattle.arimaa_game.specs.Play.{Play}
use Rattle.arimaa_model.specs.Game.{barred_by}
use Rattle.arimaa_model.specs.Ranks.{IsRank}
use Rattle.arimaa_model.specs.Strategies.{Planned, strategy_of}
use Rattle.arimaa_pool.specs.Verdicts.{IsAnswer, terms_of}
use Rattle.arimaa_pool.specs.declared.verdict.Verdict.{Verdict}
use Rattle.arimaa_pool.specs.declared.verdict.Verdict.TheVariants as verdict
use Rattle.arimaa_bot.specs.declared.lookahead.Lookahead.{Lookahead}
use Rattle.arimaa_bot.specs.Choice.{GoesOnAt, IsUnproved, crowded, spent}
use Rattle.arimaa_bot.proofs.Entries.{first_of}
use Rattle.arimaa_bot.proofs.PlainTurns.{undecided}

-- the side to move wins p by this strategy, which has a first entry
pub record Won (ahead : Lookahead) (g : Play) (p : Position) (s : List Entry) : Type 0 where
  pub rank : ℕ
  pub within : rank ≤ ahead.depth
  pub exact : IsRank p.side (barred_by g.history) p rank
  pub entries : s ≡ map entry_with_marks (strategy_of p.side (barred_by g.history) rank p)
  pub e : Planned
  pub first : slice_get (strategy_of p.side (barred_by g.history) rank p) 0 ≡ Some e

module _ (ahead : Lookahead) (g : Play) (p : Position) (v : Verdict) (told : IsAnswer (terms_of p.side g.history ahead.settings) p ahead.depth v) where
  abbrev Answers : Verdict → Type 0
  Answers w = IsAnswer (terms_of p.side g.history ahead.settings) p ahead.depth w

  pub won_by : (goes : GoesOnAt g p) {r : ℕ} {s : List Entry} → v ≡ verdict.Yes r s → Won ahead g p s
  won_by goes {r} {s} is =
      let a : Answers (verdict.Yes r s) = subst Answers is told in
      let first = first_of (barred_by g.history) r p (undecided g p goes.running goes.now) a.1.won in
      record { rank = r; within = a.0; exact = a.1; entries = a.2; e = first.0; first = first.1 }

  pub unproved_spent : {q : Position} {n k : ℕ} → v ≡ verdict.Spent q n k → IsUnproved ahead (barred_by g.history) p
  unproved_spent {q} {n} {k} is =
      let a : Answers (verdict.Spent q n k) = subst Answers is told in
      spent q n a.0 a.1

  pub unproved_crowded : {q : Position} {n : ℕ} → v ≡ verdict.Crowded q n → IsUnproved ahead (barred_by g.history) p
  unproved_crowded {q} {n} is =
      let a : Answers (verdict.Crowded q n) = subst Answers is told in
      crowded q n a.0 a.1
