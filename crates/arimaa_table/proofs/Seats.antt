-- A table is made, a pass is split off, and a pass is joined.
use Rattle.std.proofs.Common.{◌≡◌, ℕ, zero, suc, ◌<◌, Bool, true, false, List, [], ◌∷◌, ◌++◌, map, length, get_or, set, replicate, sym, refl, ap, ◌∙◌, inl, ⊎_elim, subst, arith}
use mathlib.Core.Option.{some, some-injective, some-ne-none}
use mathlib.Core.List.{map-append}
use lib.ListN.{get_elem?}
use Rattle.std.proofs.lemmas.List.{get_or-replicate, length-map, length-replicate}
use Rattle.std.proofs.Math.ListN as listn
use Rattle.atomic_table.specs.Table.{Splits, Joins, opening}
use Rattle.atomic_table.proofs.Lists.{set_again, at_map, at_snoc}
use Rattle.arimaa_line.specs.declared.line.Line.{Line}
use Rattle.arimaa_line.proofs.Lemmas.Truth.{empty_is_true}
use Rattle.arimaa_line.specs.Lines.{empty_line}
use Rattle.arimaa_table.specs.declared.view.PlaceView.{PlaceView}
use Rattle.arimaa_table.specs.declared.view.PassView.{PassView}
use Rattle.arimaa_table.specs.declared.view.Setting.{Setting}
use Rattle.arimaa_table.specs.Places.{untouched_place, Knows, Holds, Place, at, context_of, Passes, Ruled, IsLive, HoldsNone, first_view, same_view, place_without_takings, view_without_takings, place_after_join, places_after_join, view_after_join, spent_view}
use Rattle.arimaa_table.proofs.OnePlace.{arrives, joins, knows_nothing}
use Rattle.arimaa_table.proofs.AllPlaces.{moved_place, live_passes, passes_set, seen_at}

pub at_untaken : (v : PassView) (i : ℕ) → at i (view_without_takings v) ≡ place_without_takings (at i v)
at_untaken v i = listn.get_or-map place_without_takings v.places i untouched_place

at_merged_all : (ps qs : List PlaceView) (i : ℕ) → length ps ≡ length qs → get_or (places_after_join ps qs) i untouched_place ≡ place_after_join (get_or ps i untouched_place) (get_or qs i untouched_place)
at_merged_all [] [] i e = refl
at_merged_all [] (q ∷ qs) i e = absurd (omega arith)
at_merged_all (p ∷ ps) [] i e = absurd (omega arith)
at_merged_all (p ∷ ps) (q ∷ qs) zero e = refl
at_merged_all (p ∷ ps) (q ∷ qs) (suc i) e = at_merged_all ps qs i (omega arith)

length-merged_all : (ps qs : List PlaceView) → length ps ≡ length qs → length (places_after_join ps qs) ≡ length ps
length-merged_all [] qs e = refl
length-merged_all (p ∷ ps) [] e = absurd (omega arith)
length-merged_all (p ∷ ps) (q ∷ qs) e = ap suc (length-merged_all ps qs (omega arith))

pub at_joined : (v w : PassView) (i : ℕ) → length v.places ≡ length w.places → at i (view_after_join v w) ≡ place_after_join (at i v) (at i w)
at_joined v w i e = at_merged_all v.places w.places i e

module _ (k : Setting) where
  pub live_untaken : (v : PassView) → IsLive k v → IsLive k (view_without_takings v)
  live_untaken v l = (l.0, l.1, l.2, length-map v.places place_without_takings ∙ l.3)

  pub none_untaken : (v : PassView) → HoldsNone v → HoldsNone (view_without_takings v)
  none_untaken v h i = ap (λ (p : PlaceView). p.holds) (at_untaken v i) ∙ h i

  pub live_joined : (v w : PassView) → IsLive k v → IsLive k w → IsLive k (view_after_join v w)
  live_joined v w l m = (l.0, l.1, l.2, length-merged_all v.places w.places (l.3 ∙ sym m.3) ∙ l.3)

  pub none_joined : (v w : PassView) → IsLive k v → IsLive k w → HoldsNone (view_after_join v w)
  none_joined v w l m i = ap (λ (p : PlaceView). p.holds) (at_joined v w i (l.3 ∙ sym m.3))

  pub splits : (id : ℕ) (v : PassView) → IsLive k v → HoldsNone v → Splits (Ruled k) id v (same_view v) (view_without_takings v)
  splits id v live frees s r at_id = let u : PassView = view_without_takings v in let same : set s.views id v ≡ s.views = set_again s.views id v at_id in
      subst (λ (vs : List PassView). Ruled k record { words = s.words; homes = s.homes; views = vs ++ u ∷ [] }) (sym same) record {
        counts = r.counts;
        slots = r.slots;
        each_pass = λ j w e. ⊎_elim (λ (t : get_elem? s.views j ≡ some w). r.each_pass j w t) (λ (t : u ≡ w). subst (Passes (context_of k)) t (live_passes k u (live_untaken v live))) (at_snoc s.views u w j e);
        each_place = λ i l. let p : PlaceView = at i v in let here = r.each_place i l in let o = here.knows id p (at_map (at i) s.views id v at_id) in
            moved_place k _ _ _ _ (map (at i) s.views ++ place_without_takings p ∷ []) _ refl refl (ap (λ (q : PlaceView). map (at i) s.views ++ q ∷ []) (sym (at_untaken v i)) ∙ sym (map-append (at i) s.views (u ∷ [])))
            (arrives k.attacker k.barred (get_or s.words i 0) (get_elem? s.homes i) (map (at i) s.views) (place_without_takings p) here
            record { kept = o.kept; seen = o.seen; held = λ h. absurd (clash p.holds h (frees i)); free = λ _. inl refl; none_taken = λ _. refl } (frees i) refl);
      }
    where
      clash : (b : Bool) → b ≡ true → b ≡ false → ⊥
      clash b x y = cc

  pub merges : (id other : ℕ) (v w : PassView) → IsLive k v → IsLive k w → HoldsNone v → HoldsNone w → Joins (Ruled k) id v other w (view_after_join v w) spent_view
  merges id other v w l m v_none w_none s r at_id apart at_other = let b : PassView = view_after_join v w in let vs : List PassView = set s.views id b in record {
    counts = r.counts;
    slots = r.slots;
    each_pass = passes_set k vs other spent_view record { live = λ e. absurd (clash true refl e); spent = λ _. refl } (passes_set k s.views id b (live_passes k b (live_joined v w l m)) r.each_pass);
    each_place = λ i near. let p : PlaceView = at i v in let q : PlaceView = at i w in let e = seen_at s.views i id b (place_after_join p q) (at_joined v w i (l.3 ∙ sym m.3)) in
        moved_place k _ _ _ _ (set (set (map (at i) s.views) id (place_after_join p q)) other untouched_place) _ refl refl (sym (seen_at vs i other spent_view untouched_place refl ∙ ap (λ (ps : List PlaceView). set ps other untouched_place) e))
        (joins k.attacker k.barred (get_or s.words i 0) (get_elem? s.homes i) (map (at i) s.views) id other p q (r.each_place i near) (at_map (at i) s.views id v at_id) apart
        (ap (λ (ps : List PlaceView). get_elem? ps other) (sym e) ∙ at_map (at i) vs other w at_other) (v_none i) (w_none i));
  }
    where
      clash : (b : Bool) → b ≡ true → b ≡ false → ⊥
      clash b x y = cc

  first_place : Place k.attacker k.barred 0 (some (some empty_line)) (untouched_place ∷ [])
  first_place = record {
    line = empty_line;
    holder = 0;
    is_true = empty_is_true k.attacker k.barred;
    at_home = λ _. refl;
    away = λ e. absurd (omega arith);
    holds = one_only;
    knows = λ j p e. knows_first j p e;
    takings = refl;
    first = λ _. refl;
  }
    where
      only_fresh : (j : ℕ) (p : PlaceView) → get_elem? (untouched_place ∷ []) j ≡ some p → untouched_place ≡ p
      only_fresh zero p e = some-injective untouched_place p e
      only_fresh (suc j) p e = absurd (some-ne-none p (sym e))

      clash : (b : Bool) → b ≡ true → b ≡ false → ⊥
      clash b x y = cc

      one_only : (j : ℕ) (p : PlaceView) → get_elem? (untouched_place ∷ []) j ≡ some p → p.holds ≡ true → Holds empty_line 0 0 j p
      one_only j p e h = absurd (clash p.holds h (ap (λ (q : PlaceView). q.holds) (sym (only_fresh j p e))))

      knows_first : (j : ℕ) (p : PlaceView) → get_elem? (untouched_place ∷ []) j ≡ some p → Knows empty_line 0 p
      knows_first j p e = subst (Knows empty_line 0) (only_fresh j p e) (knows_nothing k.attacker k.barred empty_line 0 (empty_is_true k.attacker k.barred))

  homes_first : (n i : ℕ) → i < n → get_elem? (map some (replicate n empty_line)) i ≡ some (some empty_line)
  homes_first zero i l = absurd (omega arith)
  homes_first (suc n) zero l = refl
  homes_first (suc n) (suc i) l = homes_first n i (omega arith)

  pub starts : (ws : List ℕ) (xs : List Line) → ws ≡ replicate k.lines 0 → xs ≡ replicate k.lines empty_line → Ruled k (opening ws xs (first_view k))
  starts ws xs a b = subst (λ (z : List ℕ × List Line). Ruled k (opening z.0 z.1 (first_view k))) (λ j. (sym a j, sym b j)) record {
    counts = length-replicate k.lines 0;
    slots = length-map (replicate k.lines empty_line) some ∙ length-replicate k.lines empty_line;
    each_pass = only_first;
    each_place = λ i l. moved_place k 0 _ (some (some empty_line)) _ (untouched_place ∷ []) _ (sym (get_or-replicate k.lines i 0 0 l)) (sym (homes_first k.lines i l)) (ap (λ (p : PlaceView). p ∷ []) (sym (get_or-replicate k.lines i untouched_place untouched_place l))) first_place;
  }
    where
      only_first : (j : ℕ) (v : PassView) → get_elem? (first_view k ∷ []) j ≡ some v → Passes (context_of k) v
      only_first zero v e = subst (Passes (context_of k)) (some-injective (first_view k) v e) (live_passes k (first_view k) (refl, refl, refl, length-replicate k.lines untouched_place))
      only_first (suc j) v e = absurd (some-ne-none v (sym e))
