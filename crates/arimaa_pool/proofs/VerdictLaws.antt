-- What follows from an answer.
use Rattle.std.proofs.Common.{◌≡◌, ℕ, ◌≤◌, List, [], ◌∷◌, map, Some, Ok, Err, Result, true, refl, sym, ◌∙◌, ap, subst, arith}
use Rattle.std.specs.Prelude.{IfOk}
use Rattle.arimaa_board.specs.declared.piece.Color.{Color}
use Rattle.arimaa_board.specs.declared.position.Position.{Position}
use Rattle.arimaa_model.specs.Game.{barred_by, present}
use Rattle.arimaa_model.specs.Strategies.{Planned, strategy_of}
use Rattle.arimaa_forced.specs.Needs.{InNeed}
use Rattle.arimaa_forced.specs.Play.{WinsEveryPlay}
use Rattle.arimaa_forced.specs.Entries.{planned_of}
use Rattle.arimaa_forced.proofs.Lemmas.Trees.{need-crowd}
use Rattle.arimaa_forced.proofs.Lemmas.Plays.{accepted-plays}
use Rattle.arimaa_forced.proofs.Lemmas.OwnStrategies.{made-accepted}
use Rattle.arimaa_forced.proofs.Lemmas.NotedEntries.{planned-written}
use Rattle.arimaa_pool.specs.declared.settings.Settings.{Settings}
use Rattle.arimaa_pool.specs.declared.stop.Stop.{Stop}
use Rattle.arimaa_pool.specs.declared.failure.Failure.{Failure}
use Rattle.arimaa_pool.specs.declared.failure.Failure.TheVariants.{Stopped}
use Rattle.arimaa_pool.specs.declared.verdict.Verdict.{Verdict}
use Rattle.arimaa_pool.specs.declared.verdict.Verdict.TheVariants.{Yes, No, Spent, Crowded}
use Rattle.arimaa_pool.specs.Depths.{IsFound}
use Rattle.arimaa_pool.specs.Failures.{IsFailure}
use Rattle.arimaa_pool.specs.Stops.{IsStop}
use Rattle.arimaa_pool.specs.Terms.{Terms}
use Rattle.arimaa_pool.specs.Verdicts.{IsAnswer, IsDone, Plays, Suffices, terms_of}
use Rattle.arimaa_pool.proofs.HandedOn.{wider_stop}
use Rattle.arimaa_pool.proofs.NeededQuestions.{deeper-need}

-- a question that stopped while the strategy was found is needed
pub stopped_too : (t u : Terms) (p : Position) (n r : ℕ) (f : Failure) (s : Stop) → u ≡ t → IsFound t p n (Some r) → f ≡ Stopped s → IsFailure u (InNeed u.attacker u.barred p r) f → IsStop t (InNeed t.attacker t.barred p n) s
stopped_too t u p n r f s same found is told =
    let F : Terms → Type 0 = λ v. IsFailure v (InNeed v.attacker v.barred p r) f in
    let here = subst (IsFailure t (InNeed t.attacker t.barred p r)) is (subst F same told) in
    wider_stop t (InNeed t.attacker t.barred p r) (InNeed t.attacker t.barred p n) s (λ q j need. deeper-need t.attacker t.barred p r found.1 n found.0 q j need) here

-- the terms are those of the proof
pub terms_same : (x : Terms) (a : Color) (h : List Position) (s : Settings) → x.attacker ≡ a → x.barred ≡ barred_by h → x.budget ≡ s.budget → x.room ≡ s.room → x ≡ terms_of a h s
terms_same x a h s attacker barred budget room = λ i. record { attacker = attacker i; barred = barred i; budget = budget i; room = room i }

-- an answer on these terms and this position
pub answer_for : {E : Type 0} (r : Result Verdict E) (x t : Terms) (q p : Position) (n : ℕ) → x ≡ t → q ≡ p → IfOk r (IsAnswer x q n) → IfOk r (IsAnswer t p n)
answer_for r x t q p n terms same told =
    let F : Terms → Type 0 = λ y. IfOk r (IsAnswer y q n) in
    let G : Position → Type 0 = λ y. IfOk r (IsAnswer t y n) in
    subst G same (subst F terms told)

module _ {E : Type 0} (a : Color) (h : List Position) (s : Settings) (p : Position) (n : ℕ) where
  -- the strategy wins every play
  pub answer-plays : (r : Result Verdict E) → present h ≡ Some p → IfOk r (IsAnswer (terms_of a h s) p n) → IfOk r (Plays a h)
  answer-plays (Err e) last told = tt
  answer-plays (Ok No) last told = tt
  answer-plays (Ok (Spent q j k)) last told = tt
  answer-plays (Ok (Crowded q j)) last told = tt
  answer-plays (Ok (Yes r es)) last told =
      let own : List Planned = strategy_of a (barred_by h) r p in
      let plain : map planned_of es ≡ own = ap (map planned_of) told.2 ∙ planned-written own in
      subst (λ (x : List Planned). WinsEveryPlay a x r h) (sym plain) (accepted-plays a h p r own last (made-accepted a (barred_by h) p r told.1))

  -- with enough budget and room it is a verdict
  pub answer-done : (r : Result Verdict E) → IfOk r (IsAnswer (terms_of a h s) p n) → Suffices (terms_of a h s) p n → IfOk r IsDone
  answer-done (Err e) told enough = tt
  answer-done (Ok (Yes r es)) told enough = tt
  answer-done (Ok No) told enough = tt
  answer-done (Ok (Spent q j k)) told enough = let fits = enough.budget q j told.0 in let dear = told.1 in absurd (omega arith)
  answer-done (Ok (Crowded q j)) told enough =
      let within = need-crowd a (barred_by h) p n q j told.0 in
      let fits = enough.room in
      let wide = told.1 in
      absurd (omega arith)
