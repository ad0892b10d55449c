-- The first entries of positions.
use Rattle.std.proofs.Common.{◌≡◌, ℕ, zero, suc, ◌<◌, List, [], ◌∷◌, ◌++◌, length, take, get_or, Bool, true, false, true≢false, cond, refl, sym, ◌∙◌, ap, subst, arith, Option, None, Some, is_some}
use Rattle.std.specs.Prelude.{nat_lt, IfSome}
use Rattle.std.specs.Option.{option_map, option_or}
use Rattle.std.specs.HashMap.{HashMap, get}
use Rattle.std.proofs.lemmas.Bool.Decides.{nat_tests}
use Rattle.arimaa_board.specs.declared.position.Position.{Position}
use Rattle.arimaa_model.specs.Results.{same_position}
use Rattle.arimaa_model.specs.Strategies.{Planned, find_entry}
use Rattle.arimaa_record.proofs.Lemmas.PlainLaws.{all_append}
use Rattle.arimaa_forced.specs.declared.entry.Entry.{Entry}
use Rattle.arimaa_forced.specs.Entries.{planned_of}
use Rattle.arimaa_history.specs.declared.key.Key.{Key}
use Rattle.arimaa_history.specs.Keys.{key_of, position_at}
use Rattle.arimaa_strategy.specs.Entries.{plan_of, place_of}
use Rattle.arimaa_history.specs.Counts.{same_key}
use Rattle.arimaa_history.proofs.Lemmas.KeyTests.{keys_same}
use Rattle.arimaa_strategy.specs.Places.{AreKept}

-- the next place
abbrev later : Option ℕ → Option ℕ
later o = option_map (λ k. suc k) o

later_or : (o : Option ℕ) (t : Bool) (n : ℕ) → later (option_or o (cond t (Some n) None)) ≡ option_or (later o) (cond t (Some (suc n)) None)
later_or (Some k) t n = refl
later_or None true n = refl
later_or None false n = refl

-- one more entry
pub place_more : (es : List Entry) (e : Entry) (q : Position) → place_of (es ++ e ∷ []) q ≡ option_or (place_of es q) (cond (same_position e.position q) (Some (length es)) None)
place_more [] e q = elim (same_position e.position q) as (λ v. cond v (Some 0) (later None) ≡ cond v (Some 0) None) [ true ↦ refl | false ↦ refl ]
place_more (d ∷ es) e q =
    elim (same_position d.position q) as (λ v. cond v (Some 0) (later (place_of (es ++ e ∷ []) q)) ≡ option_or (cond v (Some 0) (later (place_of es q))) (cond (same_position e.position q) (Some (suc (length es))) None)) [
      | true ↦ refl
      | false ↦ ap later (place_more es e q) ∙ later_or (place_of es q) (same_position e.position q) (length es)
    ]

later_within : (o : Option ℕ) (n : ℕ) → IfSome o (λ k. k < n) → IfSome (later o) (λ k. k < suc n)
later_within None n less = tt
later_within (Some k) n less = omega arith

pub place_within : (es : List Entry) (q : Position) → IfSome (place_of es q) (λ k. k < length es)
place_within [] q = tt
place_within (e ∷ es) q =
    elim (same_position e.position q) as (λ v. IfSome (cond v (Some 0) (later (place_of es q))) (λ k. k < suc (length es))) [
      | true ↦ omega arith
      | false ↦ later_within (place_of es q) (length es) (place_within es q)
    ]

later_none : (o : Option ℕ) → later o ≡ None → o ≡ None
later_none None is = refl
later_none (Some k) is = let wrong : true ≡ false = cc in absurd (true≢false wrong)

-- the entry at a place is the first one of a position
abbrev pub IsFound : List Entry → Position → ℕ → Entry → Type 0
IsFound es q k d = find_entry (plan_of es) q ≡ Some (planned_of (get_or es k d))

found_later : (e : Entry) (es : List Entry) (q : Position) (k : ℕ) (d : Entry) (o : Option ℕ) → ((j : ℕ) → o ≡ Some j → IsFound es q j d) → later o ≡ Some k
    → find_entry (plan_of es) q ≡ Some (planned_of (get_or (e ∷ es) k d))
found_later e es q k d None found is = let wrong : true ≡ false = cc in absurd (true≢false wrong)
found_later e es q k d (Some j) found is =
    let same : suc j ≡ k = cc in
    let deep = found j refl in
    subst (λ (n : ℕ). find_entry (plan_of es) q ≡ Some (planned_of (get_or (e ∷ es) n d))) same deep

pub found_at : (es : List Entry) (q : Position) (k : ℕ) (d : Entry) → place_of es q ≡ Some k → IsFound es q k d
found_at [] q k d is = let wrong : true ≡ false = cc in absurd (true≢false wrong)
found_at (e ∷ es) q k d is =
    elim (same_position e.position q) as (λ v. cond v (Some 0) (later (place_of es q)) ≡ Some k → cond v (Some (planned_of e)) (find_entry (plan_of es) q) ≡ Some (planned_of (get_or (e ∷ es) k d))) [
      | true ↦ λ here.
          let same : zero ≡ k = cc in
          subst (λ (n : ℕ). ◌≡◌ {A = Option Planned} (Some (planned_of e)) (Some (planned_of (get_or (e ∷ es) n d)))) same refl
      | false ↦ λ there. found_later e es q k d (place_of es q) (λ j at. found_at es q j d at) there
    ] is

pub found_nowhere : (es : List Entry) (q : Position) → place_of es q ≡ None → find_entry (plan_of es) q ≡ None
found_nowhere [] q is = refl
found_nowhere (e ∷ es) q is =
    elim (same_position e.position q) as (λ v. cond v (Some 0) (later (place_of es q)) ≡ None → cond v (Some (planned_of e)) (find_entry (plan_of es) q) ≡ None) [
      | true ↦ λ here. let wrong : true ≡ false = cc in absurd (true≢false wrong)
      | false ↦ λ there. found_nowhere es q (later_none (place_of es q) there)
    ] is

-- whether a place is before another
abbrev pub is_before : ℕ → Option ℕ → Bool
is_before n None = false
is_before n (Some k) = nat_lt k n

before_later : (n : ℕ) (o : Option ℕ) → is_before n o ≡ is_before (suc n) (later o)
before_later n None = refl
before_later n (Some k) = grind (arith, nat_tests)

none_before : (o : Option ℕ) → false ≡ is_before zero o
none_before None = refl
none_before (Some k) = grind (arith, nat_tests)

-- a position has an entry among the first n just where its place is before n
pub found_before : (es : List Entry) (q : Position) (n : ℕ) → is_some (find_entry (plan_of (take n es)) q) ≡ is_before n (place_of es q)
found_before es q zero = none_before (place_of es q)
found_before [] q (suc n) = refl
found_before (e ∷ es) q (suc n) =
    elim (same_position e.position q) as (λ v. is_some (cond v (Some (planned_of e)) (find_entry (plan_of (take n es)) q)) ≡ is_before (suc n) (cond v (Some 0) (later (place_of es q)))) [
      | true ↦ grind (arith, nat_tests)
      | false ↦ found_before es q n ∙ before_later n (place_of es q)
    ]

-- one more entry, whose position has been filed under its key unless it was there
pub kept_more : {S : Type 0} (es : List Entry) (e : Entry) (old new : HashMap Key ℕ S) → AreKept es old → position_at (key_of e.position) ≡ e.position → 0 < length e.turn
    → ((k : Key) → get same_key new k ≡ option_or (get same_key old k) (cond (same_key (key_of e.position) k) (Some (length es)) None)) → AreKept (es ++ e ∷ []) new
kept_more es e old new kept back some filed = record {
  steps = all_append (λ (x : Entry). 0 < length x.turn) es (e ∷ []) kept.steps (some, tt);
  placed = λ q q_back.
      filed (key_of q)
      ∙ ((λ i. option_or (kept.placed q q_back i) (cond (keys_same e.position q back q_back i) (Some (length es)) None)) ∙ sym (place_more es e q));
}
