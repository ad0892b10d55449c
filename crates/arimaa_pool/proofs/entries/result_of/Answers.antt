use Rattle.std.proofs.Common.{◌≡◌, ℕ, ◌-◌, ◌<◌, length, Option, is_some, refl, sym, ◌∙◌, ap, arith}
use Rattle.arimaa_board.specs.declared.position.Position.{Position}
use Rattle.arimaa_model.specs.Members.{Stands}
use Rattle.arimaa_model.specs.Ranks.{rank_within}
use Rattle.arimaa_model.specs.Results.{next}
use Rattle.arimaa_model.specs.Strategies.{entry_of, result_at}
use Rattle.arimaa_model.proofs.Lemmas.Ranking.{rank-bound}
use Rattle.arimaa_region.specs.Segments.{live_of}
use Rattle.arimaa_forced.specs.Needs.{IsAsked}
use Rattle.arimaa_forced.specs.Search.{looked_at, first_decisive}
use Rattle.arimaa_forced.proofs.Lemmas.Looks.{first-played}
use Rattle.arimaa_pool.specs.Terms.{Terms}
use Rattle.arimaa_pool.proofs.HandedOn.{stop_on}
use Rattle.arimaa_pool.proofs.RankBounds.{asked_itself, asked_place, long-crowd}
use Rattle.arimaa_pool.proofs.Lemmas.EntryLaws.{open-rank, open-result}
use Rattle.arimaa_pool.proofs.entries.result_of.Goals as goal

pub overflow_sub-rank : goal.overflow_sub-rank
overflow_sub-rank c =
    let some = open-rank c.args.asker.now.attacker c.args.asker.now.barred c.args.n c.args.q.now c.requires.open in
    let is = c.requires.rank in omega arith

pub first_won-first-requires-clause-depth : goal.first_won-first-requires-clause-depth
first_won-first-requires-clause-depth c =
    let bound = rank-bound c.args.asker.now.attacker c.args.asker.now.barred c.args.n c.args.q.now in
    let is = c.requires.rank in let few = c.requires.depth in omega arith

pub returns-in_err-first-in-Ok-clause-stop : goal.returns-in_err-first-in-Ok-clause-stop
returns-in_err-first-in-Ok-clause-stop c =
    let t : Terms = c.args.asker.now in
    let some = open-rank t.attacker t.barred c.args.n c.args.q.now c.requires.open in
    let is_rank = c.requires.rank in
    stop_on c.first_won-first.result c.from_residual.result c.in_err-first-in-Ok.field-0.0 t t
    (λ u x j. (j ≡ c.args.rank - 1) × Stands (looked_at t.attacker t.barred (c.args.rank - 1) c.args.q.now) x)
    (IsAsked t.attacker t.barred c.args.q.now c.args.rank)
    refl c.in_err-first-in-Ok.was c.from_residual.ensures.1 c.first_won-first.ensures.stop
    (λ x j is. asked_place t.attacker t.barred c.args.q.now x j (c.args.rank - 1) c.args.rank c.requires.open.undecided is.0 (omega arith) is.1)

-- what was found first is what the entry brings about
found : (t : Terms) (rank n : ℕ) (q : Position) (o : Option Position) → rank ≡ rank_within t.attacker t.barred n q → o ≡ first_decisive t.attacker t.barred (rank - 1) q
    → first_decisive t.attacker t.barred (rank_within t.attacker t.barred n q - 1) q ≡ result_at (entry_of t.attacker t.barred n q) → o ≡ result_at (entry_of t.attacker t.barred n q)
found t rank n q o is first played = first ∙ (ap (λ (r : ℕ). first_decisive t.attacker t.barred (r - 1) q) is ∙ played)

pub unwrap-requires : goal.unwrap-requires
unwrap-requires c =
    let t : Terms = c.args.asker.now in
    let same = found t c.args.rank c.args.n c.args.q.now c.in_ok-first-in-Ok.field-0 c.requires.rank c.in_ok-first-in-Ok.ensures.first (first-played t.attacker t.barred c.args.n c.args.q.now c.requires.open) in
    ap is_some same ∙ open-result t.attacker t.barred c.args.n c.args.q.now c.requires.open

pub returns-in_ok-first-in-Ok-clause-result : goal.returns-in_ok-first-in-Ok-clause-result
returns-in_ok-first-in-Ok-clause-result c =
    let t : Terms = c.args.asker.now in
    let same = found t c.args.rank c.args.n c.args.q.now c.in_ok-first-in-Ok.field-0 c.requires.rank c.in_ok-first-in-Ok.ensures.first (first-played t.attacker t.barred c.args.n c.args.q.now c.requires.open) in
    sym same ∙ c.unwrap.ensures

pub returns-in-Err-clause-stop : goal.returns-in-Err-clause-stop
returns-in-Err-clause-stop c =
    let t : Terms = c.args.asker.now in
    let some = open-rank t.attacker t.barred c.args.n c.args.q.now c.requires.open in
    let is_rank = c.requires.rank in
    let list = ap (λ qs. length (next qs c.args.q.now)) c.barred.ensures in
    let empty = ap (λ s. length (live_of s)) c.requires.empty in
    let full = c.in-Err.ensures.full in
    let room = c.requires.room in
    let long : t.room < length (next t.barred c.args.q.now) = omega arith in
    record {
      kind = asked_itself t.attacker t.barred c.args.q.now c.args.q.now c.args.rank c.args.rank c.args.rank refl refl (omega arith);
      cause = long-crowd t.attacker t.barred c.args.q.now c.args.rank t.room c.requires.open.undecided (omega arith) long;
    }
