-- An escape has no flaw just where it is good.
use Rattle.std.proofs.Common.{◌≡◌, ◌≢◌, ℕ, ◌-◌, List, [], ◌∷◌, ◌++◌, Option, None, Some, Bool, true, false, cond, not, is_some, refl, sym, ◌∙◌, ap, true≢false}
use Rattle.std.specs.List.{AllByRecursion}
use Rattle.arimaa_board.specs.declared.piece.Color.{Color}
use Rattle.arimaa_board.specs.declared.piece.Color.TheVariants.{Gold, Silver}
use Rattle.arimaa_board.specs.Piece.{other_color}
use Rattle.arimaa_board.specs.Board.{same_color}
use Rattle.arimaa_board.specs.declared.position.Position.{Position}
use Rattle.arimaa_board.specs.declared.ending.Ending.{Ending}
use Rattle.arimaa_model.specs.DecidedPositions.{decided}
use Rattle.arimaa_model.specs.Results.{stands_in, next}
use Rattle.arimaa_model.proofs.Lemmas.Lists.{is_some-None}
use Rattle.arimaa_strategy.specs.Faults.{led_to}
use Rattle.arimaa_strategy.proofs.Lemmas.FaultLaws.{leads, led}
use Rattle.arimaa_refute.specs.declared.escape.Escape.{Escape}
use Rattle.arimaa_refute.specs.declared.verify_answer.Flaw.{Flaw}
use Rattle.arimaa_refute.specs.declared.verify_answer.Flaw.TheVariants as flaw
use Rattle.arimaa_refute.specs.Escapes.{entry_of, are_safe, held_for, IsGoodEscape, AreGoodEscapes}
use Rattle.arimaa_refute.specs.Flaws.{positions_of, flaw_by, flaw_after, flaw_of, AreFlawless}
use Rattle.arimaa_refute.specs.Checks.{IsFrom}

-- a test that ends in no flaw
no_flaw : (t : Bool) (w : Flaw) (o : Option Flaw) → cond t (Some w) o ≡ None → (t ≡ false) × (o ≡ None)
no_flaw true w o e = let wrong : true ≡ false = cc in absurd (true≢false wrong)
no_flaw false w o e = (refl, e)

flaw_free : (t : Bool) (w : Flaw) (o : Option Flaw) → t ≡ false → o ≡ None → cond t (Some w) o ≡ None
flaw_free t w o fails rest = rw fails rest

not_both : (w : Flaw) → ◌≡◌ {A = Option Flaw} (Some w) None → ⊥
not_both w e = let wrong : true ≡ false = cc in true≢false wrong

sides-apart : (a s : Color) → s ≡ other_color a → s ≢ a
sides-apart Gold s is same = let wrong : true ≡ false = ap (λ c. same_color c Gold) (sym same ∙ is) in true≢false wrong
sides-apart Silver s is same = let wrong : true ≡ false = ap (λ c. same_color c Silver) (sym same ∙ is) in true≢false wrong

module _ (a : Color) (barred : List Position) (c : List Escape) where
  by-held : (k : ℕ) (r : Position) (o : Option Ending) → flaw_by a barred c k r o ≡ None → held_for a barred c k r o ≡ true
  by-held k r (Some e) h =
      elim (same_color e.winner a) as (λ v. cond v (Some flaw.Lost) None ≡ None → not v ≡ true) [
        | true ↦ λ w. absurd (not_both flaw.Lost w)
        | false ↦ λ _. refl
      ] h
  by-held k r None h =
      elim (are_safe a barred c k (next barred r)) as (λ v. cond v None (Some flaw.Reply) ≡ None → v ≡ true) [
        | true ↦ λ _. refl
        | false ↦ λ w. absurd (not_both flaw.Reply w)
      ] h

  held-by : (k : ℕ) (r : Position) (o : Option Ending) → held_for a barred c k r o ≡ true → flaw_by a barred c k r o ≡ None
  held-by k r (Some e) h =
      elim (same_color e.winner a) as (λ v. not v ≡ true → cond v (Some flaw.Lost) None ≡ None) [
        | true ↦ λ w. absurd (true≢false (sym w))
        | false ↦ λ _. refl
      ] h
  held-by k r None h = rw h refl

  after-good : (earlier : List Escape) (e : Escape) (o : Option Position) → led_to barred (entry_of e) ≡ o → IsFrom a e → stands_in (positions_of earlier) e.position ≡ false → decided e.position ≡ None
      → flaw_after a barred c (e.depth - 1) o ≡ None → IsGoodEscape a barred c earlier e
  after-good earlier e None is from once undecided h = absurd (not_both flaw.Turn h)
  after-good earlier e (Some r) is from once undecided h =
      let way = leads barred (entry_of e) r is in
      record {
        side = sides-apart a e.position.side from.side;
        deep = from.depth.deep;
        small = from.depth.small;
        once = once;
        undecided = undecided;
        marked = way.marked;
        result = r;
        turn = way.turn;
        allowed = way.allowed;
        held = by-held (e.depth - 1) r (decided r) h;
      }

  flawless-good : (earlier : List Escape) (e : Escape) → IsFrom a e → flaw_of a barred c earlier e ≡ None → IsGoodEscape a barred c earlier e
  unfolding flaw_of
  flawless-good earlier e from h =
      let p1 = no_flaw (stands_in (positions_of earlier) e.position) flaw.Twice _ h in
      let p2 = no_flaw (is_some (decided e.position)) flaw.Decided _ p1.1 in
      after-good earlier e (led_to barred (entry_of e)) refl from p1.0 (is_some-None (decided e.position) p2.0) p2.1

  good-flawless : (earlier : List Escape) (e : Escape) → IsGoodEscape a barred c earlier e → flaw_of a barred c earlier e ≡ None
  unfolding flaw_of
  good-flawless earlier e g =
      let way : led_to barred (entry_of e) ≡ Some g.result = led barred (entry_of e) g.result (record { marked = g.marked; turn = g.turn; allowed = g.allowed }) in
      flaw_free (stands_in (positions_of earlier) e.position) flaw.Twice _ g.once
      (flaw_free (is_some (decided e.position)) flaw.Decided _ (ap is_some g.undecided)
      (ap (flaw_after a barred c (e.depth - 1)) way ∙ held-by (e.depth - 1) g.result (decided g.result) g.held))

  pub all-good : (earlier es : List Escape) → AllByRecursion (IsFrom a) es → AreFlawless a barred c earlier es → AreGoodEscapes a barred c earlier es
  all-good earlier [] from h = tt
  all-good earlier (e ∷ es) from h = (flawless-good earlier e from.0 h.0, all-good (earlier ++ e ∷ []) es from.1 h.1)

  pub all-flawless : (earlier es : List Escape) → AreGoodEscapes a barred c earlier es → AreFlawless a barred c earlier es
  all-flawless earlier [] good = tt
  all-flawless earlier (e ∷ es) good = (good-flawless earlier e good.0, all-flawless (earlier ++ e ∷ []) es good.1)
