-- The entry of a position that is won, as it is written.
use Rattle.std.proofs.Common.{◌≡◌, ℕ, suc, ◌-◌, ◌<◌, ◌≤◌, List, [], ◌∷◌, length, Some, true, refl, sym, ◌∙◌, ap, subst, arith}
use Rattle.std.specs.Prelude.{is_some}
use Rattle.arimaa_board.specs.declared.piece.Color.{Color}
use Rattle.arimaa_board.specs.declared.position.Step.{Step}
use Rattle.arimaa_board.specs.declared.position.Position.{Position}
use Rattle.arimaa_board.specs.declared.turn.NotedStep.{NotedStep}
use Rattle.arimaa_model.specs.Results.{next}
use Rattle.arimaa_model.specs.Ranks.{IsRank, rank_within}
use Rattle.arimaa_model.specs.Strategies.{Planned, IsOpen, entry_of, result_at, first_turn, open_after, open_replies, after_entry}
use Rattle.arimaa_model.proofs.Lemmas.Members.{In}
use Rattle.arimaa_model.proofs.Lemmas.Positions.{In-stands}
use Rattle.arimaa_model.proofs.Lemmas.Listed.{result-turn}
use Rattle.arimaa_model.proofs.Lemmas.FirstTurns.{entry-turn, first-won, best-result}
use Rattle.arimaa_model.proofs.Lemmas.Ranking.{rank-is}
use Rattle.arimaa_model.proofs.Lemmas.Meeting.{HasEntry, entry-has, entry-position, entry-rank}
use Rattle.arimaa_forced.specs.Search.{first_decisive, looked_at, is_decisive}
use Rattle.arimaa_forced.specs.Needs.{IsAsked, place}
use Rattle.arimaa_forced.specs.Entries.{steps_with_marks}
use Rattle.arimaa_forced.specs.declared.entry.Entry.{Entry}
use Rattle.arimaa_pool.specs.Terms.{Terms}
use Rattle.arimaa_pool.specs.Extraction.{written_entry}
use Rattle.arimaa_forced.proofs.Lemmas.Looks.{first-played, found-up_to}
pub use Rattle.arimaa_strategy.proofs.Lemmas.NotedTurns.{with_marks}
use Rattle.arimaa_strategy.proofs.Lemmas.NotedTurns.{some_steps, length-marks}

-- an open position has a rank above 0
pub open-rank : (a : Color) (barred : List Position) (n : ℕ) (q : Position) → IsOpen a barred n q → 1 ≤ rank_within a barred n q
open-rank a barred n q ready = let e = entry-has a barred n q ready in let more : rank_within a barred n q ≡ suc e.before = e.more in omega arith

pub open-result : (a : Color) (barred : List Position) (n : ℕ) (q : Position) → IsOpen a barred n q → is_some (result_at (entry_of a barred n q)) ≡ true
open-result a barred n q ready = let e = entry-has a barred n q ready in ap is_some e.turn

module _ (a : Color) (barred : List Position) (n : ℕ) (q r : Position) (ready : IsOpen a barred n q) (turn : result_at (entry_of a barred n q) ≡ Some r) where
  abbrev rank : ℕ
  rank = rank_within a barred n q

  abbrev has : HasEntry a barred n q
  has = entry-has a barred n q ready

  result-same : has.result ≡ r
  result-same = let both : Some has.result ≡ Some r = sym has.turn ∙ turn in cc

  pub reached-next : In r (next barred q)
  reached-next = subst (λ (x : Position). In x (next barred q)) result-same has.inside

  pub reached-rank : IsRank a barred r (rank - 1)
  reached-rank =
      let more : rank ≡ suc has.before = has.more in
      let less : has.before ≡ rank - 1 = omega arith in
      subst (IsRank a barred r) less (subst (λ (x : Position). IsRank a barred x has.before) result-same has.exact)

  pub some-rank : 1 ≤ rank
  some-rank = let more : rank ≡ suc has.before = has.more in omega arith

  pub reached-first : first_decisive a barred (rank - 1) q ≡ Some r
  reached-first = first-played a barred n q ready ∙ turn

  -- its turn is the first to the position
  pub reached-turn : first_turn q r ≡ Some (entry_of a barred n q).steps
  unfolding entry_of
  reached-turn =
      let more : rank ≡ suc has.before = has.more in
      let deep : suc (rank - 1) ≡ rank = omega arith in
      let exact : IsRank a barred q (suc (rank - 1)) = subst (IsRank a barred q) (sym deep) (rank-is a barred n q ready.won) in
      entry-turn a barred (rank - 1) q r (sym (first-won a barred (rank - 1) q ready.own ready.undecided exact) ∙ (best-result a barred n q ready ∙ turn))

  pub after-reached : after_entry a barred n q ≡ open_replies barred r
  after-reached = ap (open_after barred) turn

  -- it is asked about, one turn below the rank
  pub reached-asked : IsAsked a barred q rank r (rank - 1)
  reached-asked =
      let some = some-rank in
      place r (rank - 1) ready.undecided (omega arith) (In-stands (looked_at a barred (rank - 1) q) r (found-up_to (is_decisive a barred (rank - 1) q) r (next barred q) reached-first))

-- the entry with its parts
abbrev pub entry_by : Position → ℕ → List NotedStep → Entry
entry_by p r noted = record { position = p; rank = r; turn = noted }

pub written : (t : Terms) (n : ℕ) (q : Position) (r : ℕ) (noted : List NotedStep) (steps : List Step) → r ≡ rank_within t.attacker t.barred n q → steps ≡ (entry_of t.attacker t.barred n q).steps → noted ≡ steps_with_marks q.board steps
    → entry_by q r noted ≡ written_entry t n q
written t n q r noted steps ranked same marks =
    let e : Planned = entry_of t.attacker t.barred n q in
    let here : q ≡ e.position = sym (entry-position t.attacker t.barred n q) in
    let rank_is : r ≡ e.rank = ranked ∙ sym (entry-rank t.attacker t.barred n q) in
    let turn : noted ≡ steps_with_marks e.position.board e.steps = marks ∙ (λ i. steps_with_marks (here i).board (same i)) in
    λ i. record { position = here i; rank = rank_is i; turn = turn i }

-- where it brings a position about, its turn has a step
pub written-steps : (t : Terms) (n : ℕ) (q r : Position) → result_at (entry_of t.attacker t.barred n q) ≡ Some r → 0 < length (written_entry t n q).turn
written-steps t n q r turn =
    let e : Planned = entry_of t.attacker t.barred n q in
    let some = some_steps e.position e.steps (result-turn e.position e.steps r turn) in
    let same = length-marks e.position.board e.steps in
    omega arith
