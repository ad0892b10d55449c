-- Each step keeps what holds of one place.
use Rattle.std.proofs.Common.{◌≡◌, ℕ, zero, suc, ◌+◌, ◌%◌, ◌<◌, ◌≤◌, ◌≢◌, ◌⊎◌, Bool, true, false, List, [], ◌∷◌, ◌++◌, set, max, sym, refl, ap, ◌∙◌, inl, inr, ⊎_elim, subst, arith, le_refl}
use mathlib.Core.Option.{Option, some, none, some-injective, some-ne-none}
use native.Mathlib.Decide.{ℕ_discrete}
use lib.ListN.{get_elem?}
use Rattle.atomic_table.proofs.Lists.{at_set, set_else, at_longer, at_snoc}
use Rattle.arimaa_board.specs.declared.piece.Color.{Color}
use Rattle.arimaa_board.specs.declared.position.Position.{Position}
use Rattle.arimaa_line.specs.declared.line.Line.{Line}
use Rattle.arimaa_line.specs.Lines.{IsTrueLine, stamp_of}
use Rattle.arimaa_line.proofs.Lemmas.Truth.{stampless}
use Rattle.arimaa_table.specs.declared.view.Kind.{Kind}
use Rattle.arimaa_table.specs.declared.view.PlaceView.{PlaceView}
use Rattle.arimaa_table.specs.Places.{untouched_place, after_take, after_give, NoNewer, Knows, takings_of, Place, Later, newer, place_after_join}

pub takings-set : (ps : List PlaceView) (j : ℕ) (p q : PlaceView) → get_elem? ps j ≡ some p → takings_of (set ps j q) + p.takings ≡ takings_of ps + q.takings
takings-set [] j p q e = absurd (some-ne-none p (sym e))
takings-set (x ∷ xs) zero p q e = let t = ap (λ (y : PlaceView). y.takings) (some-injective x p e) in let a : ℕ = x.takings in let b : ℕ = p.takings in let t' : a ≡ b = t in omega arith
takings-set (x ∷ xs) (suc j) p q e = let t = takings-set xs j p q e in omega arith

pub takings-snoc : (ps : List PlaceView) (q : PlaceView) → takings_of (ps ++ q ∷ []) ≡ takings_of ps + q.takings
takings-snoc [] q = omega arith
takings-snoc (x ∷ xs) q = let t = takings-snoc xs q in omega arith

pub there : (l : List PlaceView) (j : ℕ) (y a : PlaceView) → get_elem? l j ≡ some y → get_elem? (set l j a) j ≡ some a
there [] j y a e = absurd (some-ne-none y (sym e))
there (x ∷ xs) zero y a e = refl
there (x ∷ xs) (suc j) y a e = there xs j y a e

true_not_false : (b : Bool) → b ≡ true → b ≡ false → ⊥
true_not_false b s t = cc

pub same_line : (l : Line) → NoNewer l l
same_line l = (le_refl (stamp_of l), λ _. refl)

module _ (attacker : Color) (barred : List Position) where
  pub knows_nothing : (l : Line) (count : ℕ) → IsTrueLine attacker barred l → Knows l count untouched_place
  knows_nothing l count t = record { kept = (omega arith, λ e. stampless attacker barred l t (sym e)); seen = omega arith; held = λ e. absurd (true_not_false false e refl); free = λ _. inl refl; none_taken = λ _. refl }

  -- the view of one pass becomes q, which knows the place as p did
  pub seen_again : (c : ℕ) (h : Option (Option Line)) (ps : List PlaceView) (id : ℕ) (p q : PlaceView) (k : Place attacker barred c h ps) → get_elem? ps id ≡ some p
      → Knows k.line c q → q.holds ≡ p.holds → q.last ≡ p.last → q.kept ≡ p.kept → q.takings ≡ p.takings → Place attacker barred c h (set ps id q)
  seen_again c h ps id p q k at knows holds last kept takings = record {
    line = k.line;
    holder = k.holder;
    is_true = k.is_true;
    at_home = k.at_home;
    away = λ odd. let a = k.away odd in (a.0, still (ℕ_discrete k.holder id) a.1);
    holds = λ j x e held. ⊎_elim
        (λ (t : (j ≡ id) × (q ≡ x)). let o = k.holds id p at (sym holds ∙ (ap (λ (y : PlaceView). y.holds) t.1 ∙ held)) in record {
          only = t.0 ∙ o.only;
          odd = o.odd;
          last = ap (λ (y : PlaceView). y.last) (sym t.1) ∙ (last ∙ o.last);
          kept = ap (λ (y : PlaceView). y.kept) (sym t.1) ∙ (kept ∙ o.kept);
        })
        (λ (t : (j ≢ id) × (get_elem? ps j ≡ some x)). k.holds j x t.1 held) (at_set ps id j q x e);
    knows = λ j x e. ⊎_elim (λ (t : (j ≡ id) × (q ≡ x)). subst (Knows k.line c) t.1 knows) (λ (t : (j ≢ id) × (get_elem? ps j ≡ some x)). k.knows j x t.1) (at_set ps id j q x e);
    takings = let t = takings-set ps id p q at in let old = k.takings in omega (arith, takings);
    first = k.first;
  }
    where
      still : Dec (k.holder ≡ id) → (y : PlaceView) × (get_elem? ps k.holder ≡ some y) × (y.holds ≡ true) → (y : PlaceView) × (get_elem? (set ps id q) k.holder ≡ some y) × (y.holds ≡ true)
      still (yes e) t = (q, subst (λ (j : ℕ). get_elem? (set ps id q) j ≡ some q) (sym e) (there ps id p q at), holds ∙ (ap (λ (y : PlaceView). y.holds) (some-injective p t.0 (sym at ∙ (subst (λ (j : ℕ). get_elem? ps j ≡ some t.0) e t.1))) ∙ t.2))
      still (no n) t = (t.0, set_else ps id k.holder q n ∙ t.1, t.2)

  -- a load, or a taking that failed
  pub sees : (kind : Kind) (c : ℕ) (h : Option (Option Line)) (ps : List PlaceView) (id : ℕ) (p : PlaceView) → Place attacker barred c h ps → get_elem? ps id ≡ some p
      → Place attacker barred c h (set ps id (record p { seen = c; steps = p.steps + 1; kind = kind; found = c })) × Later p c
  sees kind c h ps id p k at = let o = k.knows id p at in let q : PlaceView = record p { seen = c; steps = p.steps + 1; kind = kind; found = c } in let below : p.seen ≤ c = o.seen in (
    seen_again c h ps id p q k at
        record {
          kept = o.kept;
          seen = le_refl c;
          held = λ e. (k.holds id p at e).last;
          free = λ e. ⊎_elim (λ (z : p.last ≡ 0). inl z) (λ (l : p.last < p.seen). inr (omega arith)) (o.free e);
          none_taken = o.none_taken;
        }
        refl refl refl refl,
    (below, o.free),
  )

  -- a taking
  pub takes : (c : ℕ) (h : Option (Option Line)) (ps : List PlaceView) (id : ℕ) (p : PlaceView) (k : Place attacker barred c h ps) → get_elem? ps id ≡ some p → c % 2 ≡ 0
      → (there : get_elem? (set ps id (after_take p c k.line)) id ≡ some (after_take p c k.line)) → Place attacker barred (c + 1) (some none) (set ps id (after_take p c k.line))
  takes c h ps id p k at even there = let q : PlaceView = after_take p c k.line in record {
    line = k.line;
    holder = id;
    is_true = k.is_true;
    at_home = λ e. absurd (omega arith);
    away = λ _. (refl, (q, there, refl));
    holds = λ j x e held. ⊎_elim
        (λ (t : (j ≡ id) × (q ≡ x)). record { only = t.0; odd = omega arith; last = ap (λ (y : PlaceView). y.last) (sym t.1); kept = ap (λ (y : PlaceView). y.kept) (sym t.1) })
        (λ (t : (j ≢ id) × (get_elem? ps j ≡ some x)). let odd = (k.holds j x t.1 held).odd in absurd (omega arith)) (at_set ps id j q x e);
    knows = λ j x e. ⊎_elim
        (λ (t : (j ≡ id) × (q ≡ x)). subst (Knows k.line (c + 1)) t.1 record { kept = same_line k.line; seen = le_refl (c + 1); held = λ _. refl; free = λ f. absurd (true_not_false true refl f); none_taken = λ z. absurd (omega arith) })
        (λ (t : (j ≢ id) × (get_elem? ps j ≡ some x)). let o = k.knows j x t.1 in let b : x.seen ≤ c = o.seen in record { kept = o.kept; seen = omega arith; held = o.held; free = o.free; none_taken = o.none_taken })
        (at_set ps id j q x e);
    takings = let t = takings-set ps id p q at in let old = k.takings in omega arith;
    first = λ none. absurd (omega arith);
  }

  -- a giving, of the line that was taken or of a newer one
  pub gives : (c : ℕ) (h : Option (Option Line)) (ps : List PlaceView) (id : ℕ) (p : PlaceView) (x : Line) (k : Place attacker barred c h ps) → get_elem? ps id ≡ some p → p.holds ≡ true
      → (x ≡ p.kept) ⊎ ((stamp_of p.kept < stamp_of x) × IsTrueLine attacker barred x) → Place attacker barred (c + 1) (some (some x)) (set ps id (after_give p (c + 1) x))
  gives c h ps id p x k at held new = let o = k.holds id p at held in let q : PlaceView = after_give p (c + 1) x in let odd : c % 2 ≡ 1 = o.odd in record {
    line = x;
    holder = id;
    is_true = ⊎_elim (λ (e : x ≡ p.kept). subst (IsTrueLine attacker barred) (sym (e ∙ o.kept)) k.is_true) (λ (t : (stamp_of p.kept < stamp_of x) × IsTrueLine attacker barred x). t.1) new;
    at_home = λ _. refl;
    away = λ e. absurd (omega arith);
    holds = λ j y e h. ⊎_elim
        (λ (t : (j ≡ id) × (q ≡ y)). absurd (true_not_false y.holds h (ap (λ (z : PlaceView). z.holds) (sym t.1))))
        (λ (t : (j ≢ id) × (get_elem? ps j ≡ some y)). absurd (t.0 ((k.holds j y t.1 h).only ∙ sym o.only))) (at_set ps id j q y e);
    knows = λ j y e. ⊎_elim
        (λ (t : (j ≡ id) × (q ≡ y)). subst (Knows x (c + 1)) t.1 record { kept = same_line x; seen = le_refl (c + 1); held = λ f. absurd (true_not_false false f refl); free = λ _. inr (let l : p.last ≡ c = o.last in omega arith); none_taken = (k.knows id p at).none_taken })
        (λ (t : (j ≢ id) × (get_elem? ps j ≡ some y)). let w = k.knows j y t.1 in let b : y.seen ≤ c = w.seen in record {
          kept = ⊎_elim (λ (e : x ≡ p.kept). subst (NoNewer y.kept) (sym (e ∙ o.kept)) w.kept)
              (λ (n : (stamp_of p.kept < stamp_of x) × IsTrueLine attacker barred x). let same = ap stamp_of o.kept in let a : stamp_of y.kept ≤ stamp_of k.line = w.kept.0 in let m : stamp_of p.kept < stamp_of x = n.0 in
              (omega arith, λ e. absurd (omega arith))) new;
          seen = omega arith;
          held = w.held;
          free = w.free;
          none_taken = w.none_taken;
        })
        (at_set ps id j q y e);
    takings = let t = takings-set ps id p q at in let old = k.takings in omega arith;
    first = λ none. absurd (omega arith);
  }

  -- a new pass, which holds nothing
  pub arrives : (c : ℕ) (h : Option (Option Line)) (ps : List PlaceView) (q : PlaceView) (k : Place attacker barred c h ps) → Knows k.line c q → q.holds ≡ false → q.takings ≡ 0 → Place attacker barred c h (ps ++ q ∷ [])
  arrives c h ps q k knows free none_taken = record {
    line = k.line;
    holder = k.holder;
    is_true = k.is_true;
    at_home = k.at_home;
    away = λ odd. let a = k.away odd in (a.0, (a.1.0, at_longer ps (q ∷ []) k.holder a.1.0 a.1.1, a.1.2));
    holds = λ j x e held. ⊎_elim (λ (t : get_elem? ps j ≡ some x). k.holds j x t held) (λ (t : q ≡ x). absurd (true_not_false x.holds held (ap (λ (y : PlaceView). y.holds) (sym t) ∙ free))) (at_snoc ps q x j e);
    knows = λ j x e. ⊎_elim (λ (t : get_elem? ps j ≡ some x). k.knows j x t) (λ (t : q ≡ x). subst (Knows k.line c) t knows) (at_snoc ps q x j e);
    takings = let t = takings-snoc ps q in let old = k.takings in omega (arith, none_taken);
    first = k.first;
  }

  newer_knows : (line a b : Line) → NoNewer a line → NoNewer b line → NoNewer (newer a b) line
  newer_knows line a b p q = grind (arith, p, q)

  -- a join of two passes that hold nothing
  pub joins : (c : ℕ) (h : Option (Option Line)) (ps : List PlaceView) (id other : ℕ) (p q : PlaceView) (k : Place attacker barred c h ps) → get_elem? ps id ≡ some p → ¬ (other ≡ id)
      → get_elem? (set ps id (place_after_join p q)) other ≡ some q → p.holds ≡ false → q.holds ≡ false → Place attacker barred c h (set (set ps id (place_after_join p q)) other untouched_place)
  joins c h ps id other p q k at apart at' p_free q_free = let m : PlaceView = place_after_join p q in let ps' : List PlaceView = set ps id m in let at_old : get_elem? ps other ≡ some q = sym (set_else ps id other m apart) ∙ at' in
      let o = k.knows id p at in let w = k.knows other q at_old in record {
        line = k.line;
        holder = k.holder;
        is_true = k.is_true;
        at_home = k.at_home;
        away = λ odd. let a = k.away odd in (
          a.0,
          (
            a.1.0,
            set_else ps' other k.holder untouched_place (λ e. true_not_false a.1.0.holds a.1.2 (ap (λ (y : PlaceView). y.holds) (some-injective a.1.0 q (sym a.1.1 ∙ (subst (λ (j : ℕ). get_elem? ps j ≡ some q) (sym e) at_old))) ∙ q_free))
                ∙ (set_else ps id k.holder m (λ e. true_not_false a.1.0.holds a.1.2 (ap (λ (y : PlaceView). y.holds) (some-injective a.1.0 p (sym a.1.1 ∙ (subst (λ (j : ℕ). get_elem? ps j ≡ some p) (sym e) at))) ∙ p_free)) ∙ a.1.1),
            a.1.2,
          ),
        );
        holds = λ j x e held. ⊎_elim (λ (t : (j ≡ other) × (untouched_place ≡ x)). absurd (true_not_false x.holds held (ap (λ (y : PlaceView). y.holds) (sym t.1))))
            (λ (t : (j ≢ other) × (get_elem? ps' j ≡ some x)). ⊎_elim (λ (u : (j ≡ id) × (m ≡ x)). absurd (true_not_false x.holds held (ap (λ (y : PlaceView). y.holds) (sym u.1))))
            (λ (u : (j ≢ id) × (get_elem? ps j ≡ some x)). k.holds j x u.1 held) (at_set ps id j m x t.1)) (at_set ps' other j untouched_place x e);
        knows = λ j x e. ⊎_elim (λ (t : (j ≡ other) × (untouched_place ≡ x)). subst (Knows k.line c) t.1 (knows_nothing k.line c k.is_true))
            (λ (t : (j ≢ other) × (get_elem? ps' j ≡ some x)). ⊎_elim
            (λ (u : (j ≡ id) × (m ≡ x)). subst (Knows k.line c) u.1 record {
              kept = newer_knows k.line p.kept q.kept o.kept w.kept;
              seen = let a : p.seen ≤ c = o.seen in let b : q.seen ≤ c = w.seen in omega arith;
              held = λ f. absurd (true_not_false false f refl);
              free = λ _. below p.last p.seen q.last q.seen (o.free p_free) (w.free q_free);
              none_taken = λ z. let a = o.none_taken (omega arith) in let b = w.none_taken (omega arith) in omega arith;
            })
            (λ (u : (j ≢ id) × (get_elem? ps j ≡ some x)). k.knows j x u.1) (at_set ps id j m x t.1)) (at_set ps' other j untouched_place x e);
        takings = let t = takings-set ps id p m at in let u = takings-set ps' other q untouched_place at' in let old = k.takings in omega arith;
        first = k.first;
      }
    where
      below : (a b x y : ℕ) → (a ≡ 0) ⊎ (a < b) → (x ≡ 0) ⊎ (x < y) → (max a x ≡ 0) ⊎ (max a x < max b y)
      below a b x y (inl e) (inl f) = inl (omega arith)
      below a b x y (inl e) (inr g) = inr (omega arith)
      below a b x y (inr l) (inl f) = inr (omega arith)
      below a b x y (inr l) (inr g) = inr (omega arith)

-- a joined pass keeps no older line than either did
pub merged_no_older : (p q : PlaceView) → (stamp_of p.kept ≤ stamp_of (place_after_join p q).kept) × (stamp_of q.kept ≤ stamp_of (place_after_join p q).kept)
merged_no_older p q = grind arith
