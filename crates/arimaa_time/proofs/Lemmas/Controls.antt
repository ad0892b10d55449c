-- The reader of a whole text decides the grammar, and names the first bad field.
use Rattle.std.proofs.Common.{◌≡◌, ◌≢◌, ℕ, ◌+◌, ◌-◌, ◌<◌, ◌≤◌, inl, inr, Bool, true, false, ltb, cond, List, [], ◌∷◌, length, get_or, slice_get, Option, Some, None, IfSome, IsSomeAnd, Result, Ok, Err, ok_or, IfOk, IfErr, refl, sym, ap, ◌∙◌, subst, arith, lit<, lit≤}
use Rattle.std.proofs.lemmas.Bool.{ltb-true, ltb-false, le-ltb, cases_lt}
use Rattle.std.proofs.lemmas.Option.{none-some, slice_get-get_or, slice_get_within}
use Rattle.arimaa_time.specs.declared.control.Control.{Control}
use Rattle.arimaa_time.specs.declared.control.GameLimit.{GameLimit}
use Rattle.arimaa_time.specs.declared.control.GameLimit.TheVariants as limits
use Rattle.arimaa_time.specs.declared.fault.ControlFault.{ControlFault}
use Rattle.arimaa_time.specs.declared.fault.ControlFault.TheVariants.{Field}
use Rattle.arimaa_time.specs.Grammar.{IsTime, IsPercent, IsGame}
use Rattle.arimaa_time.specs.Fields.{fields, field, Gives, AreFields, IsControl, IsGood, NamesFirstBad}
use Rattle.arimaa_time.specs.Reading.{time_of, percent_of, game_of, field_of, control_of, ◌>>=◌}
use Rattle.arimaa_time.proofs.Cutting.{fields-length}
use Rattle.arimaa_time.proofs.Readings.{time_of-sound, time_of-complete, percent_of-sound, percent_of-complete, game_of-sound, game_of-complete}

-- Steps

err-ok : {A B : Type 0} (z : B) (x : A) → ◌≡◌ {A = Result A B} (Err z) (Ok x) → ⊥
err-ok z x e = cc

same_err : {A B : Type 0} (y z : B) → ◌≡◌ {A = Result A B} (Err y) (Err z) → y ≡ z
same_err y z e = cc

same_ok : {A B : Type 0} (x y : A) → ◌≡◌ {A = Result A B} (Ok x) (Ok y) → x ≡ y
same_ok x y e = cc

ok_or_some : {A B : Type 0} (o : Option A) (z : B) (x : A) → ok_or o z ≡ Ok x → o ≡ Some x
ok_or_some None z x e = absurd (err-ok z x e)
ok_or_some (Some y) z x e = ap Some (same_ok y x e)

ok_or_err : {A B : Type 0} (o : Option A) (y z : B) → ok_or o y ≡ Err z → (o ≡ None) × (y ≡ z)
ok_or_err None y z e = (refl, same_err y z e)
ok_or_err (Some x) y z e = absurd (err-ok z x (sym e))

cond_err_ok : {A B : Type 0} (b : Bool) (z : B) (x y : A) → cond b (Err z) (Ok x) ≡ Ok y → (b ≡ false) × (x ≡ y)
cond_err_ok true z x y e = absurd (err-ok z y e)
cond_err_ok false z x y e = (refl, same_ok x y e)

cond_err_err : {A B : Type 0} (b : Bool) (y z : B) (x : A) → cond b (Err y) (Ok x) ≡ Err z → (b ≡ true) × (y ≡ z)
cond_err_err true y z x e = (refl, same_err y z e)
cond_err_err false y z x e = absurd (err-ok z x (sym e))

bind_ok : {A B P : Type 0} (r : Result A ControlFault) (f : A → Result B ControlFault) (y : B) → (r >>= f) ≡ Ok y → ((x : A) → r ≡ Ok x → f x ≡ Ok y → P) → P
bind_ok (Ok x) f y e k = k x refl e
bind_ok (Err z) f y e k = absurd (err-ok z y e)

bind_err : {A B P : Type 0} (r : Result A ControlFault) (f : A → Result B ControlFault) (z : ControlFault) → (r >>= f) ≡ Err z → (r ≡ Err z → P) → ((x : A) → r ≡ Ok x → f x ≡ Err z → P) → P
bind_err (Ok x) f z e here later = later x refl e
bind_err (Err y) f z e here later = here (ap Err (same_err y z e))

-- One field

field_of-sound : {V : Type 0} (read : List ℕ → Option V) (HasValue : List ℕ → V → Type 0) (usual : V) (k : ℕ) (o : Option (List ℕ)) (v : V)
    → ((text : List ℕ) (w : V) → read text ≡ Some w → HasValue text w) → field_of read usual k o ≡ Ok v → Gives o HasValue usual v
field_of-sound read HasValue usual k None v sound e = same_ok v usual (sym e)
field_of-sound read HasValue usual k (Some text) v sound e = sound text v (ok_or_some (read text) (Field k) v e)

field_of-complete : {V : Type 0} (read : List ℕ → Option V) (HasValue : List ℕ → V → Type 0) (usual : V) (k : ℕ) (o : Option (List ℕ)) (v : V)
    → ((text : List ℕ) (w : V) → HasValue text w → read text ≡ Some w) → Gives o HasValue usual v → field_of read usual k o ≡ Ok v
field_of-complete read HasValue usual k None v complete h = ap Ok (sym h)
field_of-complete read HasValue usual k (Some text) v complete h = ap (λ r. ok_or r (Field k)) (complete text v h)

field_of-good : {V : Type 0} (read : List ℕ → Option V) (usual : V) (k : ℕ) (o : Option (List ℕ)) (v : V)
    → ((text : List ℕ) (w : V) → read text ≡ Some w → IsGood k text) → field_of read usual k o ≡ Ok v → IfSome o (IsGood k)
field_of-good read usual k None v good e = tt
field_of-good read usual k (Some text) v good e = good text v (ok_or_some (read text) (Field k) v e)

-- a field that stands and is bad, and the fault that names it
abbrev Fails : ℕ → Option (List ℕ) → ControlFault → Type 0
Fails k o z = IsSomeAnd o (λ text. ¬ (IsGood k text)) × (z ≡ Field k)

field_of-fails : {V : Type 0} (read : List ℕ → Option V) (usual : V) (k : ℕ) (o : Option (List ℕ)) (z : ControlFault)
    → ((text : List ℕ) → read text ≡ None → ¬ (IsGood k text)) → field_of read usual k o ≡ Err z → Fails k o z
field_of-fails read usual k None z bad e = absurd (err-ok z usual (sym e))
field_of-fails read usual k (Some text) z bad e =
    let parts = ok_or_err (read text) (Field k) z e in
    (bad text parts.0, sym parts.1)

good_time : (k : ℕ) → k ≤ 6 → k ≢ 3 → k ≢ 5 → (text : List ℕ) (ms : ℕ) → time_of text ≡ Some ms → IsGood k text
good_time k known third fifth text ms e = record {
  known = known;
  percent = λ is. absurd (third is);
  game = λ is. absurd (fifth is);
  time = λ _ _. (ms, time_of-sound text ms e);
}

bad_time : (k : ℕ) → k ≢ 3 → k ≢ 5 → (text : List ℕ) → time_of text ≡ None → ¬ (IsGood k text)
bad_time k third fifth text e good =
    let has = good.time third fifth in
    none-some has.0 (sym e ∙ time_of-complete text has.0 has.1)

time_fails : (k : ℕ) (o : Option (List ℕ)) (z : ControlFault) → k ≢ 3 → k ≢ 5 → field_of time_of 0 k o ≡ Err z → Fails k o z
time_fails k o z third fifth e = field_of-fails time_of 0 k o z (bad_time k third fifth) e

time_good : (k : ℕ) (o : Option (List ℕ)) (ms : ℕ) → k ≤ 6 → k ≢ 3 → k ≢ 5 → field_of time_of 0 k o ≡ Ok ms → IfSome o (IsGood k)
time_good k o ms known third fifth e = field_of-good time_of 0 k o ms (good_time k known third fifth) e

good_percent : (text : List ℕ) (n : ℕ) → percent_of text ≡ Some n → IsGood 3 text
good_percent text n e = record {
  known = lit≤ tt;
  percent = λ _. (n, percent_of-sound text n e);
  game = λ is. absurd (omega (arith, is));
  time = λ third _. absurd (third refl);
}

bad_percent : (text : List ℕ) → percent_of text ≡ None → ¬ (IsGood 3 text)
bad_percent text e good =
    let has = good.percent refl in
    none-some has.0 (sym e ∙ percent_of-complete text has.0 has.1)

good_game : (text : List ℕ) (limit : GameLimit) → game_of text ≡ Some limit → IsGood 5 text
good_game text limit e = record {
  known = lit≤ tt;
  percent = λ is. absurd (omega (arith, is));
  game = λ _. (limit, game_of-sound text limit e);
  time = λ _ fifth. absurd (fifth refl);
}

bad_game : (text : List ℕ) → game_of text ≡ None → ¬ (IsGood 5 text)
bad_game text e good =
    let has = good.game refl in
    none-some has.0 (sym e ∙ game_of-complete text has.0 has.1)

-- The fields before the first bad one

abbrev GoodBefore : List (List ℕ) → ℕ → Type 0
GoodBefore texts k = (j : ℕ) → 0 < j → j < k → IfSome (field texts j) (IsGood j)

good_before-none : (texts : List (List ℕ)) → GoodBefore texts 1
good_before-none texts j low high = absurd (omega arith)

good_before-more : (texts : List (List ℕ)) (k : ℕ) → GoodBefore texts k → IfSome (field texts k) (IsGood k) → GoodBefore texts (k + 1)
good_before-more texts k before here j low high = elim (cases_lt j k) [
  | inl below ↦ before j low below
  | inr from ↦
      let same : k ≡ j = omega arith in
      let P : ℕ → Type 0 = λ n. IfSome (field texts n) (IsGood n) in
      subst P same here
]

standing : (texts : List (List ℕ)) (j : ℕ) (P : List ℕ → Type 0) → j < length texts → IfSome (slice_get texts j) P → IsSomeAnd (slice_get texts j) P
standing texts j P within h =
    let is : slice_get texts j ≡ Some (get_or texts j []) = slice_get-get_or texts j [] within in
    let Q : Option (List ℕ) → Type 0 = λ o. IfSome o P → IsSomeAnd o P in
    subst Q (sym is) (λ p. p) h

if_some_from : (o : Option (List ℕ)) {P : List ℕ → Type 0} → ((text : List ℕ) → P text) → IfSome o P
if_some_from None h = tt
if_some_from (Some text) h = h text

within_from_stands : (texts : List (List ℕ)) (i : ℕ) (P : List ℕ → Type 0) (o : Option (List ℕ)) → slice_get texts i ≡ o → IsSomeAnd o P → i < length texts
within_from_stands texts i P None e h = absurd h
within_from_stands texts i P (Some text) e h = slice_get_within texts i text e

names : (texts : List (List ℕ)) (k : ℕ) (z : ControlFault) → 0 < k → GoodBefore texts k → Fails k (field texts k) z → NamesFirstBad texts z
names texts k z counted before fails =
    let within = within_from_stands texts (k - 1) (λ text. ¬ (IsGood k text)) (field texts k) refl fails.0 in
    subst (NamesFirstBad texts) (sym fails.1) (record {
      counted = counted;
      bad = fails.0;
      earlier = λ j low high. standing texts (j - 1) (IsGood j) (omega (arith, within)) (before j low high);
    })

-- The whole text

gives-stands : {V : Type 0} (texts : List (List ℕ)) (HasValue : List ℕ → V → Type 0) (usual v : V) → 0 < length texts → Gives (slice_get texts 0) HasValue usual v → IsSomeAnd (slice_get texts 0) (λ text. HasValue text v)
gives-stands [] HasValue usual v filled h = absurd (omega arith)
gives-stands (text ∷ texts) HasValue usual v filled h = h

stands-gives : {V : Type 0} (o : Option (List ℕ)) (HasValue : List ℕ → V → Type 0) (usual v : V) → IsSomeAnd o (λ text. HasValue text v) → Gives o HasValue usual v
stands-gives None HasValue usual v h = absurd h
stands-gives (Some text) HasValue usual v h = h

time_sound : (usual k : ℕ) (o : Option (List ℕ)) (ms : ℕ) → field_of time_of usual k o ≡ Ok ms → Gives o IsTime usual ms
time_sound usual k o ms e = field_of-sound time_of IsTime usual k o ms time_of-sound e

time_complete : (usual k : ℕ) (o : Option (List ℕ)) (ms : ℕ) → Gives o IsTime usual ms → field_of time_of usual k o ≡ Ok ms
time_complete usual k o ms h = field_of-complete time_of IsTime usual k o ms time_of-complete h

control_of-sound : (texts : List (List ℕ)) (c : Control) → 0 < length texts → control_of texts ≡ Ok c → AreFields texts c
unfolding control_of
control_of-sound texts c filled e =
    bind_ok (field_of time_of 0 1 (slice_get texts 0)) _ c e (λ turn turn_is e1.
    bind_ok (field_of time_of 0 2 (slice_get texts 1)) _ c e1 (λ reserve reserve_is e2.
    bind_ok (field_of percent_of 100 3 (slice_get texts 2)) _ c e2 (λ percent percent_is e3.
    bind_ok (field_of time_of 0 4 (slice_get texts 3)) _ c e3 (λ cap cap_is e4.
    bind_ok (field_of game_of limits.None 5 (slice_get texts 4)) _ c e4 (λ game game_is e5.
    bind_ok (field_of time_of 0 6 (slice_get texts 5)) _ c e5 (λ limit limit_is e6.
    let both = cond_err_ok (ltb 6 (length texts)) (Field 7) (record { turn = turn; reserve = reserve; percent = percent; cap = cap; game = game; limit = limit }) c e6 in
    subst (AreFields texts) both.1 (record {
      turn = gives-stands texts IsTime 0 turn filled (time_sound 0 1 (slice_get texts 0) turn turn_is);
      reserve = time_sound 0 2 (slice_get texts 1) reserve reserve_is;
      percent = field_of-sound percent_of IsPercent 100 3 (slice_get texts 2) percent percent_of-sound percent_is;
      cap = time_sound 0 4 (slice_get texts 3) cap cap_is;
      game = field_of-sound game_of IsGame limits.None 5 (slice_get texts 4) game game_of-sound game_is;
      limit = time_sound 0 6 (slice_get texts 5) limit limit_is;
      no_more = ltb-false 6 (length texts) both.0;
    })))))))

control_of-complete : (texts : List (List ℕ)) (c : Control) → AreFields texts c → control_of texts ≡ Ok c
unfolding control_of
control_of-complete texts c h =
    let turn = time_complete 0 1 (slice_get texts 0) c.turn (stands-gives (slice_get texts 0) IsTime 0 c.turn h.turn) in
    let reserve = time_complete 0 2 (slice_get texts 1) c.reserve h.reserve in
    let percent = field_of-complete percent_of IsPercent 100 3 (slice_get texts 2) c.percent percent_of-complete h.percent in
    let cap = time_complete 0 4 (slice_get texts 3) c.cap h.cap in
    let game = field_of-complete game_of IsGame limits.None 5 (slice_get texts 4) c.game game_of-complete h.game in
    let limit = time_complete 0 6 (slice_get texts 5) c.limit h.limit in
    let six : ltb 6 (length texts) ≡ false = le-ltb 6 (length texts) h.no_more in
    rw (turn, reserve, percent, cap, game, limit, six) refl

seventh : (texts : List (List ℕ)) (z : ControlFault) → 6 < length texts → z ≡ Field 7 → Fails 7 (field texts 7) z
seventh texts z more is =
    (standing texts 6 (λ text. ¬ (IsGood 7 text)) more (if_some_from (slice_get texts 6) (λ text good. absurd (omega (arith, good.known)))), is)

control_of-names : (texts : List (List ℕ)) (z : ControlFault) → control_of texts ≡ Err z → NamesFirstBad texts z
unfolding control_of
control_of-names texts z e =
    let none = good_before-none texts in
    bind_err (field_of time_of 0 1 (slice_get texts 0)) _ z e
    (λ here. names texts 1 z (lit< tt) none (time_fails 1 (slice_get texts 0) z (λ is. omega (arith, is)) (λ is. omega (arith, is)) here)) (λ turn turn_is e1.
    let one = good_before-more texts 1 none (time_good 1 (slice_get texts 0) turn (lit≤ tt) (λ is. omega (arith, is)) (λ is. omega (arith, is)) turn_is) in
    bind_err (field_of time_of 0 2 (slice_get texts 1)) _ z e1
    (λ here. names texts 2 z (lit< tt) one (time_fails 2 (slice_get texts 1) z (λ is. omega (arith, is)) (λ is. omega (arith, is)) here)) (λ reserve reserve_is e2.
    let two = good_before-more texts 2 one (time_good 2 (slice_get texts 1) reserve (lit≤ tt) (λ is. omega (arith, is)) (λ is. omega (arith, is)) reserve_is) in
    bind_err (field_of percent_of 100 3 (slice_get texts 2)) _ z e2
    (λ here. names texts 3 z (lit< tt) two (field_of-fails percent_of 100 3 (slice_get texts 2) z bad_percent here)) (λ percent percent_is e3.
    let three = good_before-more texts 3 two (field_of-good percent_of 100 3 (slice_get texts 2) percent good_percent percent_is) in
    bind_err (field_of time_of 0 4 (slice_get texts 3)) _ z e3
    (λ here. names texts 4 z (lit< tt) three (time_fails 4 (slice_get texts 3) z (λ is. omega (arith, is)) (λ is. omega (arith, is)) here)) (λ cap cap_is e4.
    let four = good_before-more texts 4 three (time_good 4 (slice_get texts 3) cap (lit≤ tt) (λ is. omega (arith, is)) (λ is. omega (arith, is)) cap_is) in
    bind_err (field_of game_of limits.None 5 (slice_get texts 4)) _ z e4
    (λ here. names texts 5 z (lit< tt) four (field_of-fails game_of limits.None 5 (slice_get texts 4) z bad_game here)) (λ game game_is e5.
    let five = good_before-more texts 5 four (field_of-good game_of limits.None 5 (slice_get texts 4) game good_game game_is) in
    bind_err (field_of time_of 0 6 (slice_get texts 5)) _ z e5
    (λ here. names texts 6 z (lit< tt) five (time_fails 6 (slice_get texts 5) z (λ is. omega (arith, is)) (λ is. omega (arith, is)) here)) (λ limit limit_is e6.
    let six = good_before-more texts 6 five (time_good 6 (slice_get texts 5) limit (lit≤ tt) (λ is. omega (arith, is)) (λ is. omega (arith, is)) limit_is) in
    let both = cond_err_err (ltb 6 (length texts)) (Field 7) z (record { turn = turn; reserve = reserve; percent = percent; cap = cap; game = game; limit = limit }) e6 in
    names texts 7 z (lit< tt) six (seventh texts z (ltb-true 6 (length texts) both.0) (sym both.1))))))))

pub record ReadLaws (text : List ℕ) (r : Result Control ControlFault) : Type 0 where
  pub read : IfOk r (λ c. IsControl text c)
  pub only : (c : Control) → IsControl text c → r ≡ Ok c
  pub first_bad : IfErr r (λ z. NamesFirstBad (fields text) z)

pub read_laws : (text : List ℕ) (r : Result Control ControlFault) → r ≡ control_of (fields text) → ReadLaws text r
read_laws text (Ok c) e = record {
  read = control_of-sound (fields text) c (fields-length text) (sym e);
  only = λ d h. e ∙ control_of-complete (fields text) d h;
  first_bad = tt;
}
read_laws text (Err z) e = record {
  read = tt;
  only = λ d h. e ∙ control_of-complete (fields text) d h;
  first_bad = control_of-names (fields text) z (sym e);
}
