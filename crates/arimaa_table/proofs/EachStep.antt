-- Each step keeps the rule, and tells what it is to tell.
use Rattle.std.proofs.Common.{◌≡◌, ℕ, ◌+◌, ◌%◌, ◌<◌, ◌⊎◌, eqb, true, List, [], ◌∷◌, map, length, get_or, set, sym, refl, ap, ◌∙◌, inl, inr, ⊎_elim, subst, arith, length-set, eq-eqb, ne_eqb, get_or-set_same}
use mathlib.Core.Option.{Option, some, none}
use mathlib.Core.Logic.{dite}
use native.Mathlib.Decide.{ℕ_discrete}
use lib.ListN.{get_elem?}
use prog.Atomic.{either}
use Rattle.atomic_table.specs.Table.{Me, step, keeps, takes as take_slot, gives as give_slot, stepped, Allows, rest, put_back}
use Rattle.atomic_table.proofs.Lists.{at_map, set_here, set_else}
use Rattle.arimaa_board.specs.declared.piece.Color.{Color}
use Rattle.arimaa_board.specs.declared.position.Position.{Position}
use Rattle.arimaa_line.specs.declared.line.Line.{Line}
use Rattle.arimaa_line.specs.Lines.{IsTrueLine, stamp_of}
use Rattle.arimaa_table.specs.declared.view.Kind.TheVariants.{Load, Missed}
use Rattle.arimaa_table.specs.declared.view.PlaceView.{PlaceView}
use Rattle.arimaa_table.specs.declared.view.PassView.{PassView}
use Rattle.arimaa_table.specs.declared.view.Setting.{Setting}
use Rattle.arimaa_table.specs.Places.{after_load, after_miss, after_take, after_give, Place, at, Ruled, IsLive, view_with, WasRuled, TellsLoad, TellsTaking, in_hand, TellsGiving}
use Rattle.arimaa_table.proofs.OnePlace.{there, sees, takes, gives}
use Rattle.arimaa_table.proofs.AllPlaces.{turned, live_changed, was_ruled, seat_there}

module _ (k : Setting) where
  pub loads : (slots id i : ℕ) (me : Me Line PassView) → IsLive k me.0 → i < k.lines → Allows (Ruled k) slots id me i (λ n. n) (TellsLoad (step slots i 0 0 none) me)
  loads slots id i me live inside s r wide at_id small = let c : ℕ = get_or s.words i 0 in let p : PlaceView = at i me.0 in
      let t = sees k.attacker k.barred Load c (get_elem? s.homes i) (map (at i) s.views) id p (r.each_place i inside) (at_map (at i) s.views id me.0 at_id) in let w : PassView = view_with me.0 i (after_load p c) in let wide' = r.counts in
      let after = turned k s r i c id s.homes me.0 (after_load p c) at_id live inside refl (λ _ _. refl) t.0 in (
        w,
        keeps,
        tt,
        after,
        (refl, t.1, was_ruled k _ id i c w after (live_changed k me.0 i (after_load p c) live) (seat_there s.views id me.0 w at_id) (get_or-set_same s.words i c 0 (omega arith))),
      )

  pub tries : (slots id i : ℕ) (me : Me Line PassView) (old new : ℕ) → IsLive k me.0 → i < k.lines → old % 2 ≡ 0 → new ≡ old + 1
      → Allows (Ruled k) slots id me i (λ x. either (eqb x old) new x) (TellsTaking (step slots i old new none) me)
  tries slots id i me old new live inside even up s r wide at_id small = let c : ℕ = get_or s.words i 0 in let p : PlaceView = at i me.0 in let h = get_elem? s.homes i in let ps : List PlaceView = map (at i) s.views in
      let here : Place k.attacker k.barred c h ps = r.each_place i inside in let at_p : get_elem? ps id ≡ some p = at_map (at i) s.views id me.0 at_id in dite (ℕ_discrete c old)
      (λ hit. let l : Line = here.line in let q : PlaceView = after_take p c l in let still : c % 2 ≡ 0 = ap (λ (z : ℕ). z % 2) hit ∙ even in let home = here.at_home still in let long = r.slots in (
        view_with me.0 i q,
        take_slot i l,
        home,
        subst (λ b. Ruled k (stepped s i (either b new c) id me.1 (view_with me.0 i q) (take_slot i l))) (sym (eq-eqb c old hit))
            (subst (λ (z : ℕ). Ruled k (stepped s i z id me.1 (view_with me.0 i q) (take_slot i l))) (let e : c + 1 ≡ new = omega arith in e)
            (turned k s r i (c + 1) id (set s.homes i none) me.0 q at_id live inside (length-set s.homes i none) (λ j n. set_else s.homes i j none n)
            (subst (λ (z : Option (Option Line)). Place k.attacker k.barred (c + 1) z (set ps id q)) (sym (set_here s.homes i none (omega arith)))
            (takes k.attacker k.barred c h ps id p here at_p still (there ps id p q at_p))))),
        (λ _. ((λ _. (l, (subst (λ (z : Color × List Position). IsTrueLine z.0 z.1 l) (λ j. (sym live.1 j, sym live.2 j)) here.is_true, (here.knows id p at_p).kept, λ none. here.first none), refl)), (λ miss. absurd (miss hit)))),
      ))
      (λ miss. let t = sees k.attacker k.barred Missed c h ps id p here at_p in let w : PassView = view_with me.0 i (after_miss p c) in let wide' = r.counts in let after = turned k s r i c id s.homes me.0 (after_miss p c) at_id live inside refl (λ _ _. refl) t.0 in (
        view_with me.0 i (after_miss p c),
        keeps,
        tt,
        subst (λ b. Ruled k (stepped s i (either b new c) id me.1 (view_with me.0 i (after_miss p c)) keeps)) (sym (ne_eqb c old miss))
            after,
        (λ _. ((λ hit. absurd (miss hit)), (λ _. (refl, t.1, was_ruled k _ id i c w after (live_changed k me.0 i (after_miss p c) live) (seat_there s.views id me.0 w at_id) (get_or-set_same s.words i c 0 (omega arith)))))),
      ))

  pub gives_back : (slots id i : ℕ) (me : Me Line PassView) (x : Line) (new : ℕ) → IsLive k me.0 → i < k.lines → me.1 ≡ (i, x) ∷ [] → (at i me.0).holds ≡ true → new ≡ (at i me.0).last + 1
      → (x ≡ (at i me.0).kept) ⊎ ((stamp_of (at i me.0).kept < stamp_of x) × IsTrueLine me.0.attacker me.0.barred x) → Allows (Ruled k) slots id me i (λ _. new) (λ _. TellsGiving (step slots i new 0 none) me new)
  gives_back slots id i me x new live inside has held next good s r wide at_id small = let c : ℕ = get_or s.words i 0 in let p : PlaceView = at i me.0 in let h = get_elem? s.homes i in let ps : List PlaceView = map (at i) s.views in
      let here : Place k.attacker k.barred c h ps = r.each_place i inside in let at_p : get_elem? ps id ≡ some p = at_map (at i) s.views id me.0 at_id in let q : PlaceView = after_give p (c + 1) x in
      let is : new ≡ c + 1 = next ∙ ap (λ (z : ℕ). z + 1) (here.holds id p at_p held).last in let long = r.slots in let wide' = r.counts in let after = (turned k s r i (c + 1) id (put_back s.homes me.1) me.0 q at_id live inside (ap (λ (z : List (ℕ × Line)). length (put_back s.homes z)) has ∙ length-set s.homes i (some x))
      (λ j n. ap (λ (z : List (ℕ × Line)). get_elem? (put_back s.homes z) j) has ∙ set_else s.homes i j (some x) n)
      (subst (λ (z : Option (Option Line)). Place k.attacker k.barred (c + 1) z (set ps id q)) (sym (ap (λ (z : List (ℕ × Line)). get_elem? (put_back s.homes z) i) has ∙ set_here s.homes i (some x) (omega arith)))
      (gives k.attacker k.barred c h ps id p x here at_p held
      (⊎_elim (λ e. inl e) (λ (t : (stamp_of p.kept < stamp_of x) × IsTrueLine me.0.attacker me.0.barred x). inr (t.0, subst (λ (z : Color × List Position). IsTrueLine z.0 z.1 x) (λ j. (live.1 j, live.2 j)) t.1)) good)))) in (
        view_with me.0 i (after_give p new x),
        give_slot,
        tt,
        subst (λ (z : ℕ). Ruled k (stepped s i z id me.1 (view_with me.0 i (after_give p z x)) give_slot)) (sym is) after,
        (
          (λ j. (view_with me.0 i (after_give p new (in_hand (sym has j))), rest me.1)),
          subst (λ (z : ℕ). WasRuled (view_with me.0 i (after_give p z x)) i z) (sym is)
              (was_ruled k _ id i (c + 1) (view_with me.0 i q) after (live_changed k me.0 i q live) (seat_there s.views id me.0 (view_with me.0 i q) at_id) (get_or-set_same s.words i (c + 1) 0 (omega arith))),
        ),
      )
