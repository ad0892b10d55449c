-- What a call has done to its pass after some steps.
use Rattle.std.proofs.Common.{◌≡◌, ℕ, ◌+◌, ◌^◌, ◌%◌, ◌<◌, ◌≤◌, ◌≢◌, eqb, false, List, [], ◌∷◌, length, sym, refl, ap, ◌∙◌, inl, inr, ⊎_elim, subst, arith, set-set}
use mathlib.Core.Option.{none, some}
use lib.ListN.{get_elem?}
use mathlib.Core.Logic.{dite}
use native.Mathlib.Decide.{ℕ_discrete}
use prog.Atomic.{either}
use Rattle.arimaa_table.proofs.OnePlace.{same_line}
use Rattle.atomic_table.specs.Table.{State, Me, rest, step, Allows}
use Rattle.arimaa_board.specs.declared.piece.Color.{Color}
use Rattle.arimaa_board.specs.declared.position.Position.{Position}
use Rattle.arimaa_line.specs.declared.line.Line.{Line}
use Rattle.arimaa_line.specs.Lines.{IsTrueLine, empty_line, stamp_of}
use Rattle.arimaa_table.specs.declared.view.PlaceView.{PlaceView}
use Rattle.arimaa_table.specs.declared.view.PassView.{PassView}
use Rattle.arimaa_table.specs.declared.view.Setting.{Setting}
use Rattle.arimaa_table.specs.Places.{at, after_load, after_miss, after_take, after_give, view_with, in_hand, IsLive, IsFor, Later, NoNewer, WasRuled, Rule, Ruled, TellsTaking, TellsGiving}
use Rattle.arimaa_table.specs.Between.{place_after_taking, IsOut, IsBusy, MayGive}
use Rattle.arimaa_table.proofs.AllPlaces.{at_changed, at_other, live_changed}
use Rattle.arimaa_table.proofs.EachStep.{tries, gives_back}

pub changed_again : (v : PassView) (i : ℕ) (p q : PlaceView) → view_with (view_with v i p) i q ≡ view_with v i q
changed_again v i p q = ap (λ (ps : List PlaceView). record v { places = ps }) (set-set v.places i p q)

-- one more step at the same place
pub then_changed : (v : PassView) (i : ℕ) (F : PlaceView → PlaceView) (p : PlaceView) (m m' : Me Line PassView) (xs ys : List (ℕ × Line)) → i < length v.places
    → m ≡ (view_with v i p, xs) → m' ≡ (view_with m.0 i (F (at i m.0)), ys) → m' ≡ (view_with v i (F p), ys)
then_changed v i F p m m' xs ys inside e f = f ∙ (ap (λ (x : Me Line PassView). (view_with x.0 i (F (at i x.0)), ys)) e ∙ (ap (λ (x : PlaceView). (view_with (view_with v i p) i (F x), ys)) (at_changed v i p inside)
    ∙ ap (λ (x : PassView). (x, ys)) (changed_again v i p (F p))))

-- after a load the pass has seen the count that it found
pub expects : (v : PassView) (i n : ℕ) (m : Me Line PassView) (xs : List (ℕ × Line)) → i < length v.places → m ≡ (view_with v i (after_load (at i v) n), xs) → n ≡ (at i m.0).seen
expects v i n m xs inside e = sym (ap (λ (x : Me Line PassView). (at i x.0).seen) e ∙ ap (λ (p : PlaceView). p.seen) (at_changed v i (after_load (at i v) n) inside))

module _ (v : PassView) (i : ℕ) (inside : i < length v.places) (n r : ℕ) (m m' : Me Line PassView) (first : m ≡ (view_with v i (after_load (at i v) n), [])) (even : n % 2 ≡ 0) (later : Later (at i v) n) where
  abbrev p : PlaceView
  p = at i v

  at_first : at i m.0 ≡ after_load p n
  at_first = ap (λ (x : Me Line PassView). at i x.0) first ∙ at_changed v i (after_load p n) inside

  -- the taking failed
  pub missed : p.holds ≡ false → r ≢ n → m' ≡ (view_with m.0 i (after_miss (at i m.0) r), m.1) → Later (at i m.0) r → WasRuled m'.0 i r → IsBusy v i r m'
  missed free other is more rule = let q : PlaceView = after_miss (after_load p n) r in let up : n ≤ r = subst (λ (x : PlaceView). x.seen ≤ r) at_first more.0 in let seen : p.seen ≤ n = later.0 in record {
    ruled = rule;
    now = q;
    me = then_changed v i (λ x. after_miss x r) (after_load p n) m m' [] [] inside first (is ∙ ap (λ (xs : List (ℕ × Line)). (view_with m.0 i (after_miss (at i m.0) r), xs)) (ap (λ (x : Me Line PassView). x.1) first));
    was = record {
      cause = (refl, omega arith, inr (refl, omega arith, omega arith));
      since = λ _. let l : p.last < n + 1 = ⊎_elim (λ (z : p.last ≡ 0). omega arith) (λ (z : p.last < p.seen). omega arith) (later.1 free) in omega arith;
      seen = refl;
      not_back = omega arith;
      kept = refl;
      took = refl;
      none_taken = refl;
      last = refl;
      free = refl;
    };
    tries = omega arith;
  }

  -- the taking succeeded, and the line was moved out of its slot
  pub took_out : (l x e : Line) (m'' : Me Line PassView) → r ≡ n → n + 2 < 2 ^ 64 → IsFor m.0 i r l → m' ≡ (view_with m.0 i (after_take (at i m.0) r l), (i, l) ∷ m.1) → m'.1 ≡ (i, x) ∷ rest m'.1
      → e ≡ empty_line → m'' ≡ (m'.0, (i, e) ∷ rest m'.1) → IsOut v i n x m''
  took_out l x e m'' hit small for is has blank now = let same : x ≡ l = ap in_hand (sym has ∙ ap (λ (y : Me Line PassView). y.1) is) in let empty : m.1 ≡ [] = ap (λ (y : Me Line PassView). y.1) first in
      let at_last : m' ≡ (view_with v i (after_take (after_load p n) r l), (i, l) ∷ []) = then_changed v i (λ y. after_take y r l) (after_load p n) m m' [] ((i, l) ∷ []) inside first (is ∙ ap (λ (xs : List (ℕ × Line)). (view_with m.0 i (after_take (at i m.0) r l), (i, l) ∷ xs)) empty) in
      record {
        me = now ∙ (ap (λ (y : Me Line PassView). (y.0, (i, e) ∷ rest y.1)) at_last ∙ λ j. (view_with v i (after_take (after_load p n) (hit j) (sym same j)), (i, blank j) ∷ []));
        line = let f : IsFor v i n l = (subst (λ (y : Me Line PassView). IsTrueLine y.0.attacker y.0.barred l) first for.0, subst (λ (y : PlaceView). NoNewer y.kept l) at_first for.1, λ none. for.2 (hit ∙ none)) in subst (IsFor v i n) (sym same) f;
        even = even;
        below = small;
        later = later;
      }

module _ (k : Setting) (v : PassView) (i : ℕ) (slots id : ℕ) (live : IsLive k v) (inside : i < k.lines) (m : Me Line PassView) (p : PlaceView) where
  abbrev near : Type 0
  near = i < length v.places

  covers : i < length v.places
  covers = let long : length v.places ≡ k.lines = live.3 in omega arith

  -- a taking, once the call has made some steps
  pub then_tries : (old new : ℕ) → m ≡ (view_with v i p, []) → old % 2 ≡ 0 → new ≡ old + 1 → Allows (Ruled k) slots id m i (λ x. either (eqb x old) new x) (TellsTaking (step slots i old new none) m)
  then_tries old new e even up = tries k slots id i m old new (subst (λ (x : Me Line PassView). IsLive k x.0) (sym e) (live_changed k v i p live)) inside even up

-- what the call has done is seen at its place, and only there
pub only_here : (v w : PassView) (i : ℕ) (p : PlaceView) → i < length v.places → w ≡ view_with v i p → w ≡ view_with v i (at i w)
only_here v w i p inside e = e ∙ ap (view_with v i) (sym (ap (at i) e ∙ at_changed v i p inside))

module _ (k : Setting) (i slots id : ℕ) (inside : i < k.lines) (m : Me Line PassView) where
  -- the line x is moved into its slot, and the place is given back
  pub may_give : (c : ℕ) (x : Line) (m' : Me Line PassView) → MayGive k i c x m → m' ≡ (m.0, (i, x) ∷ rest m.1) → Allows (Ruled k) slots id m' i (λ _. c + 2) (λ _. TellsGiving (step slots i (c + 2) 0 none) m' (c + 2))
  may_give c x m' may is = let has : m' ≡ (m.0, (i, x) ∷ []) = is ∙ ap (λ (xs : List (ℕ × Line)). (m.0, (i, x) ∷ rest xs)) may.hand in subst (λ (y : Me Line PassView). Allows (Ruled k) slots id y i (λ _. c + 2) (λ _. TellsGiving (step slots i (c + 2) 0 none) y (c + 2))) (sym has)
      (let up = may.count in gives_back k slots id i (m.0, (i, x) ∷ []) x (c + 2) may.live inside refl may.holds (omega (arith, up))
      (⊎_elim (λ (e : x ≡ (at i m.0).kept). inl e) (λ (t : (stamp_of (at i m.0).kept < stamp_of x) × IsTrueLine k.attacker k.barred x). inr (t.0, subst (λ (z : Color × List Position). IsTrueLine z.0 z.1 x) (λ j. (sym may.live.1 j, sym may.live.2 j)) t.1)) may.good))

-- a newer true line may be given back in place of the one that was taken
pub may_give_newer : (k : Setting) (v : PassView) (i c : ℕ) (l x : Line) (m : Me Line PassView) → IsLive k v → i < k.lines → IsOut v i c l m → stamp_of l < stamp_of x → IsTrueLine k.attacker k.barred x → MayGive k i c x m
may_give_newer k v i c l x m live inside out newer right = let long : length v.places ≡ k.lines = live.3 in let p : PlaceView = place_after_taking (at i v) c l in
    let here : at i m.0 ≡ p = ap (λ (y : Me Line PassView). at i y.0) out.me ∙ at_changed v i p (omega arith) in
    record {
      live = subst (λ (y : Me Line PassView). IsLive k y.0) (sym out.me) (live_changed k v i p live);
      hand = ap (λ (y : Me Line PassView). y.1) out.me;
      holds = ap (λ (y : PlaceView). y.holds) here;
      count = ap (λ (y : PlaceView). y.last) here;
      good = inr (subst (λ (y : PlaceView). stamp_of y.kept < stamp_of x) (sym here) newer, right);
    }

-- after a taking and a giving
pub given_back : (k : Setting) (v : PassView) (i c : ℕ) (l x : Line) (m m' : Me Line PassView) → IsLive k v → i < k.lines → IsOut v i c l m → m' ≡ (view_with m.0 i (after_give (at i m.0) (c + 2) x), [])
    → m' ≡ (view_with v i (after_give (place_after_taking (at i v) c l) (c + 2) x), [])
given_back k v i c l x m m' live inside out e = let long : length v.places ≡ k.lines = live.3 in then_changed v i (λ y. after_give y (c + 2) x) (place_after_taking (at i v) c l) m m' ((i, empty_line) ∷ []) [] (omega arith) out.me e

pub ruled_of : (k : Setting) (v : PassView) (i c : ℕ) → IsLive k v → WasRuled v i c → (s : State Line PassView) × (j : ℕ) × Ruled k s × (get_elem? s.views j ≡ some v)
ruled_of k v i c live w = (w.0, w.1, subst (λ x. Rule x w.0) (λ j. record { attacker = live.1 j; barred = live.2 j; lines = live.3 j }) w.2, w.3)

-- where the line of one place is no older, no line is
pub no_older : (v w : PassView) (i : ℕ) → w ≡ view_with v i (at i w) → NoNewer (at i v).kept (at i w).kept → (j : ℕ) → NoNewer (at j v).kept (at j w).kept
no_older v w i e here j = dite (ℕ_discrete j i) (λ (d : j ≡ i). subst (λ (k : ℕ). NoNewer (at k v).kept (at k w).kept) (sym d) here)
    (λ (n : j ≢ i). subst (λ (p : PlaceView). NoNewer (at j v).kept p.kept) (sym (ap (at j) e ∙ at_other v i j (at i w) n)) (same_line (at j v).kept))
