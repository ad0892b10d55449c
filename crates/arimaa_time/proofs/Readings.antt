-- The reader's functions decide the grammar: what they answer stands in it, and what stands in it they answer.
use Rattle.std.proofs.Common.{◌≡◌, ◌≢◌, ℕ, ◌+◌, ◌*◌, ◌<◌, ◌⊎◌, inl, inr, Bool, true, false, ◌&&◌, not, eqb, leb, ltb, cond, List, [], ◌∷◌, ◌++◌, length, get_or, Option, Some, None, option_map, refl, sym, ap, ◌∙◌, subst, arith, lit<, append_assoc}
use Rattle.std.specs.Option.{option_or, option_and_then}
use Rattle.std.specs.List.{list_all}
use Rattle.std.specs.Char.{is_ascii_digit}
use Rattle.std.specs.Int.{IsInRange}
use Rattle.std.specs.Str.Parse.{AllDigits, digits_value}
use Rattle.std.proofs.lemmas.Bool.{and_parts, and_from, eqb-true, eqb-false, ne_eqb, eq-eqb, le-leb, leb-true, lt-ltb, ltb-true, cond-true}
use Rattle.std.proofs.lemmas.Bool.Decides.{nat_tests}
use Rattle.std.proofs.lemmas.Option.{cond_some, same_Some, none-some, option_and_then_some}
use Rattle.std.proofs.lemmas.List.{nil_from_length, get_or_at, length-append}
use Rattle.std.proofs.lemmas.List.Elements.{All-nil, All-cons, All-append}
use Rattle.std.proofs.lemmas.Str.Parse.{digit_from_value}
use Rattle.arimaa_time.specs.declared.units.TimeUnit.{TimeUnit}
use Rattle.arimaa_time.specs.declared.control.GameLimit.{GameLimit}
use Rattle.arimaa_time.specs.declared.units.TimeUnit.TheVariants.{Day, Hour, Minute, Second}
use Rattle.arimaa_time.specs.TimeUnit.{letter_of, milliseconds_of, units_of_time, units_of_game}
use Rattle.arimaa_time.specs.Grammar.{IsNumber, IsMarked, IsPart, AreParts, IsClock, IsSpan, bare, clock, parts, IsTime, IsPercent, IsGame, turns, time, turns_limit, time_limit}
use Rattle.arimaa_time.specs.Reading.{cut_of, is_number, number_of, part_or_whole, part_at, part_of, parts_of, clock_of, span_of, time_of, percent_of, marked_of, game_of}
use Rattle.arimaa_time.proofs.Numbers.{is_number-parts}
use Rattle.arimaa_time.proofs.Cutting.{Lacks, Halves-cut, cut_of-at, cut_of-none}

-- Options

none_by : {A : Type 0} (o : Option A) → ((x : A) → o ≡ Some x → ⊥) → o ≡ None
none_by None h = refl
none_by (Some x) h = absurd (h x refl)

option_map_some : {A B P : Type 0} (f : A → B) (o : Option A) (y : B) → option_map f o ≡ Some y → ((x : A) → o ≡ Some x → f x ≡ y → P) → P
option_map_some f None y e k = absurd (none-some y e)
option_map_some f (Some x) y e k = k x refl (same_Some (f x) y e)

cond_some_of : {A : Type 0} (b : Bool) (o : Option A) (y : A) → cond b o None ≡ Some y → (b ≡ true) × (o ≡ Some y)
cond_some_of true o y e = (refl, e)
cond_some_of false o y e = absurd (none-some y e)

above_zero : (n : ℕ) → eqb n 0 ≡ false → 0 < n
above_zero n e = let ne : n ≢ 0 = eqb-false n 0 e in omega arith

-- Numbers

pub number_of-sound : (text : List ℕ) (n : ℕ) → number_of text ≡ Some n → IsNumber text n
unfolding number_of
number_of-sound text n e =
    let both = cond_some (is_number text) (digits_value 10 text) n e in
    let facts = is_number-parts text both.0 in
    record { some = facts.0; short = facts.1; digits = facts.2; value = sym both.1 }

test-AllDigits : (text : List ℕ) → AllDigits 10 text → list_all is_ascii_digit text ≡ true
test-AllDigits [] h = refl
test-AllDigits (c ∷ cs) h =
    let in_range = digit_from_value c h.0 in
    and_from (is_ascii_digit c) (list_all is_ascii_digit cs) (grind (arith, nat_tests)) (test-AllDigits cs h.1)

pub number_of-complete : (text : List ℕ) (n : ℕ) → IsNumber text n → number_of text ≡ Some n
unfolding number_of is_number
number_of-complete text n h =
    let filled : not (eqb (length text) 0) ≡ true = ap not (ne_eqb (length text) 0 (λ e. absurd (omega (arith, h.some)))) in
    let sizes : (not (eqb (length text) 0) && leb (length text) 6) ≡ true = and_from _ _ filled (le-leb (length text) 6 h.short) in
    cond-true _ (Some (digits_value 10 text)) None (and_from _ _ sizes (test-AllDigits text h.digits)) ∙ ap Some (sym h.value)

-- a byte that is no digit stands in no number
pub AllDigits-Lacks : (byte : ℕ) (ds : List ℕ) → ¬ (IsInRange 48 57 byte) → AllDigits 10 ds → Lacks byte ds
AllDigits-Lacks byte [] other h = All-nil (λ b. eqb b byte ≡ false)
AllDigits-Lacks byte (c ∷ cs) other h =
    let in_range = digit_from_value c h.0 in
    All-cons (λ b. eqb b byte ≡ false) c cs (ne_eqb c byte (λ e. other (subst (IsInRange 48 57) e in_range))) (AllDigits-Lacks byte cs other h.1)

-- a byte that a text lacks does not stand in it
Lacks-at : (byte : ℕ) (front back : List ℕ) → Lacks byte (front ++ byte ∷ back) → ⊥
Lacks-at byte front back lacks =
    let here : get_or (front ++ byte ∷ back) (length front) 0 ≡ byte = get_or_at front byte back 0 (length front) refl in
    eqb-false _ _ (lacks (length front) 0 (omega (arith, length-append front (byte ∷ back)))) here

pub Lacks-append : (byte : ℕ) (front back : List ℕ) → Lacks byte front → Lacks byte back → Lacks byte (front ++ back)
Lacks-append byte front back = All-append (λ b. eqb b byte ≡ false) front back

Lacks-one : (byte c : ℕ) → eqb c byte ≡ false → Lacks byte (c ∷ [])
Lacks-one byte c e = All-cons (λ b. eqb b byte ≡ false) c [] e (All-nil (λ b. eqb b byte ≡ false))

pub IsNumber-Lacks : (byte : ℕ) (text : List ℕ) (n : ℕ) → 57 < byte → IsNumber text n → Lacks byte text
IsNumber-Lacks byte text n above h = AllDigits-Lacks byte text (λ inside. omega (arith, inside.1)) h.digits

number_of-other : (byte : ℕ) (front back : List ℕ) → 57 < byte → number_of (front ++ byte ∷ back) ≡ None
number_of-other byte front back above = none_by (number_of (front ++ byte ∷ back)) (λ n e. Lacks-at byte front back (IsNumber-Lacks byte _ n above (number_of-sound _ n e)))

-- A number and a letter

pub marked_of-sound : (letter : ℕ) (text : List ℕ) (n : ℕ) → marked_of letter text ≡ Some n → IsMarked letter text n
unfolding marked_of
marked_of-sound letter text n e =
    option_and_then_some _ (cut_of letter text) n e (λ halves cut rest.
    let both = cond_some_of (eqb (length halves.1) 0) (number_of halves.0) n rest in
    let joined = (Halves-cut letter text halves.0 halves.1 cut).joined in
    record {
      front = halves.0;
      number = number_of-sound halves.0 n both.1;
      text_is = joined ∙ ap (λ back. halves.0 ++ letter ∷ back) (nil_from_length halves.1 (eqb-true (length halves.1) 0 both.0));
    })

pub marked_of-complete : (letter : ℕ) (text : List ℕ) (n : ℕ) → 57 < letter → IsMarked letter text n → marked_of letter text ≡ Some n
unfolding marked_of
marked_of-complete letter text n above h =
    let cut : cut_of letter text ≡ Some (h.front, []) = ap (cut_of letter) h.text_is ∙ cut_of-at letter h.front [] (IsNumber-Lacks letter h.front n above h.number) in
    ap (option_and_then (λ halves. cond (eqb (length halves.1) 0) (number_of halves.0) None)) cut ∙ number_of-complete h.front n h.number

-- Parts

-- a text is what a part takes and what it leaves
pub record Takes (letter : ℕ) (text : List ℕ) (part : ℕ × List ℕ) : Type 0 where
  front : List ℕ
  first : IsPart letter front part.0
  joined : text ≡ front ++ part.1

takes_none : (letter : ℕ) (text : List ℕ) → Takes letter text (0, text)
takes_none letter text = record { front = []; first = inl (refl, refl); joined = refl }

part_or_whole-takes : (letter : ℕ) (text front back : List ℕ) (number : Option ℕ) → number_of front ≡ number → text ≡ front ++ letter ∷ back → Takes letter text (part_or_whole text back number)
part_or_whole-takes letter text front back None e joined = takes_none letter text
part_or_whole-takes letter text front back (Some n) e joined = record {
  front = front ++ letter ∷ [];
  first = inr (record { front = front; number = number_of-sound front n e; text_is = refl });
  joined = joined ∙ sym (append_assoc front (letter ∷ []) back);
}

part_at-takes : (letter : ℕ) (text : List ℕ) (cut : Option (List ℕ × List ℕ)) → cut_of letter text ≡ cut → Takes letter text (part_at text cut)
part_at-takes letter text None e = takes_none letter text
part_at-takes letter text (Some halves) e = part_or_whole-takes letter text halves.0 halves.1 (number_of halves.0) refl (Halves-cut letter text halves.0 halves.1 e).joined

part_of-takes : (letter : ℕ) (text : List ℕ) → Takes letter text (part_of letter text)
unfolding part_of
part_of-takes letter text = part_at-takes letter text (cut_of letter text) refl

part_of-left_out : (letter : ℕ) (text : List ℕ) → Lacks letter text → part_of letter text ≡ (0, text)
unfolding part_of
part_of-left_out letter text lacks = ap (part_at text) (cut_of-none letter text lacks)

part_of-marked : (letter : ℕ) (front back : List ℕ) (n : ℕ) → 57 < letter → IsNumber front n → part_of letter (front ++ letter ∷ back) ≡ (n, back)
unfolding part_of
part_of-marked letter front back n above h =
    ap (part_at (front ++ letter ∷ back)) (cut_of-at letter front back (IsNumber-Lacks letter front n above h))
    ∙ ap (part_or_whole (front ++ letter ∷ back) back) (number_of-complete front n h)

part_of-complete : (letter : ℕ) (text front rest : List ℕ) (n : ℕ) → 57 < letter → IsPart letter front n → Lacks letter rest → text ≡ front ++ rest → part_of letter text ≡ (n, rest)
part_of-complete letter text front rest n above (inl none) lacks joined =
    let same : text ≡ rest = joined ∙ ap (λ l. l ++ rest) none.0 in
    ap (part_of letter) same ∙ part_of-left_out letter rest lacks ∙ ap (λ k. (k, rest)) (sym none.1)
part_of-complete letter text front rest n above (inr marked) lacks joined =
    let same : text ≡ marked.front ++ letter ∷ rest = joined ∙ ap (λ l. l ++ rest) marked.text_is ∙ append_assoc marked.front (letter ∷ []) rest in
    ap (part_of letter) same ∙ part_of-marked letter marked.front rest n above marked.number

pub parts_of-sound : (units : List TimeUnit) (text : List ℕ) (ms : ℕ) → parts_of units text ≡ Some ms → AreParts units text ms
parts_of-sound [] text ms e =
    let both = cond_some (eqb (length text) 0) 0 ms e in
    (nil_from_length text (eqb-true (length text) 0 both.0), sym both.1)
parts_of-sound (unit ∷ units) text ms e =
    let part = part_of (letter_of unit) text in
    let takes = part_of-takes (letter_of unit) text in
    option_map_some (λ more. part.0 * milliseconds_of unit + more) (parts_of units part.1) ms e (λ more found total. record {
      front = takes.front;
      rest = part.1;
      count = part.0;
      more = more;
      first = takes.first;
      others = parts_of-sound units part.1 more found;
      text_is = takes.joined;
      total = sym total;
    })

-- none of these units has this letter
abbrev OtherThan : ℕ → List TimeUnit → Type 0
OtherThan letter [] = Unit {0}
OtherThan letter (unit ∷ units) = (eqb (letter_of unit) letter ≡ false) × OtherThan letter units

-- no two of these units have one letter
abbrev Differ : List TimeUnit → Type 0
Differ [] = Unit {0}
Differ (unit ∷ units) = OtherThan (letter_of unit) units × Differ units

letter_above : (unit : TimeUnit) → 57 < letter_of unit
letter_above Day = lit< tt
letter_above Hour = lit< tt
letter_above Minute = lit< tt
letter_above Second = lit< tt

IsPart-Lacks : (byte letter : ℕ) (text : List ℕ) (n : ℕ) → 57 < byte → eqb letter byte ≡ false → IsPart letter text n → Lacks byte text
IsPart-Lacks byte letter text n above other (inl none) = subst (Lacks byte) (sym none.0) (All-nil (λ b. eqb b byte ≡ false))
IsPart-Lacks byte letter text n above other (inr marked) =
    subst (Lacks byte) (sym marked.text_is) (Lacks-append byte marked.front (letter ∷ []) (IsNumber-Lacks byte marked.front n above marked.number) (Lacks-one byte letter other))

-- a byte that is no digit and no letter of these units stands in no parts
AreParts-Lacks : (byte : ℕ) (units : List TimeUnit) (text : List ℕ) (ms : ℕ) → 57 < byte → OtherThan byte units → AreParts units text ms → Lacks byte text
AreParts-Lacks byte [] text ms above other h = subst (Lacks byte) (sym h.0) (All-nil (λ b. eqb b byte ≡ false))
AreParts-Lacks byte (unit ∷ units) text ms above other h =
    subst (Lacks byte) (sym h.text_is) (Lacks-append byte h.front h.rest
    (IsPart-Lacks byte (letter_of unit) h.front h.count above other.0 h.first)
    (AreParts-Lacks byte units h.rest h.more above other.1 h.others))

pub parts_of-complete : (units : List TimeUnit) (text : List ℕ) (ms : ℕ) → Differ units → AreParts units text ms → parts_of units text ≡ Some ms
parts_of-complete [] text ms differ h = ap (λ l. cond (eqb (length l) 0) (Some 0) None) h.0 ∙ ap Some (sym h.1)
parts_of-complete (unit ∷ units) text ms differ h =
    let lacks = AreParts-Lacks (letter_of unit) units h.rest h.more (letter_above unit) differ.0 h.others in
    let part : part_of (letter_of unit) text ≡ (h.count, h.rest) = part_of-complete (letter_of unit) text h.front h.rest h.count (letter_above unit) h.first lacks h.text_is in
    ap (λ p. option_map (λ more. p.0 * milliseconds_of unit + more) (parts_of units p.1)) part
    ∙ ap (option_map (λ more. h.count * milliseconds_of unit + more)) (parts_of-complete units h.rest h.more differ.1 h.others)
    ∙ ap Some (sym h.total)

-- parts that are not empty have a letter
pub record HasLetter (text : List ℕ) : Type 0 where
  front : List ℕ
  letter : ℕ
  back : List ℕ
  above : 57 < letter
  joined : text ≡ front ++ letter ∷ back

IsPart-HasLetter : (letter : ℕ) (text front rest : List ℕ) (n : ℕ) → 57 < letter → IsPart letter front n → text ≡ front ++ rest → (text ≡ rest) ⊎ HasLetter text
IsPart-HasLetter letter text front rest n above (inl none) joined = inl (joined ∙ ap (λ l. l ++ rest) none.0)
IsPart-HasLetter letter text front rest n above (inr marked) joined = inr (record {
  front = marked.front;
  letter = letter;
  back = rest;
  above = above;
  joined = joined ∙ ap (λ l. l ++ rest) marked.text_is ∙ append_assoc marked.front (letter ∷ []) rest;
})

AreParts-HasLetter : (units : List TimeUnit) (text : List ℕ) (ms : ℕ) → 0 < length text → AreParts units text ms → HasLetter text
AreParts-HasLetter [] text ms filled h = absurd (omega (arith, ap length h.0))
AreParts-HasLetter (unit ∷ units) text ms filled h =
    elim (IsPart-HasLetter (letter_of unit) text h.front h.rest h.count (letter_above unit) h.first h.text_is) [
      | inl same ↦ subst HasLetter (sym same) (AreParts-HasLetter units h.rest h.more (omega (arith, ap length same)) h.others)
      | inr has ↦ has
    ]

-- A clock's reading

pub clock_of-sound : (text : List ℕ) (n : ℕ) → clock_of text ≡ Some n → IsClock text n
unfolding clock_of
clock_of-sound text n e =
    option_and_then_some _ (cut_of 58 text) n e (λ halves cut e1.
    option_and_then_some _ (number_of halves.0) n e1 (λ whole w e2.
    option_and_then_some _ (number_of halves.1) n e2 (λ part p e3.
    let both = cond_some (eqb (length halves.1) 2 && ltb part 60) (60 * whole + part) n e3 in
    let tests = and_parts (eqb (length halves.1) 2) (ltb part 60) both.0 in
    record {
      whole_text = halves.0;
      part_text = halves.1;
      whole = whole;
      part = part;
      whole_is = number_of-sound halves.0 whole w;
      part_is = number_of-sound halves.1 part p;
      two_digits = eqb-true (length halves.1) 2 tests.0;
      below_sixty = ltb-true part 60 tests.1;
      text_is = (Halves-cut 58 text halves.0 halves.1 cut).joined;
      total = sym both.1;
    })))

pub clock_of-complete : (text : List ℕ) (n : ℕ) → IsClock text n → clock_of text ≡ Some n
unfolding clock_of
clock_of-complete text n h =
    let cut : cut_of 58 text ≡ Some (h.whole_text, h.part_text) =
    ap (cut_of 58) h.text_is ∙ cut_of-at 58 h.whole_text h.part_text (IsNumber-Lacks 58 h.whole_text h.whole (lit< tt) h.whole_is) in
    let whole = number_of-complete h.whole_text h.whole h.whole_is in
    let part = number_of-complete h.part_text h.part h.part_is in
    let tests : (eqb (length h.part_text) 2 && ltb h.part 60) ≡ true = and_from _ _ (eq-eqb _ _ h.two_digits) (lt-ltb _ _ h.below_sixty) in
    rw (cut, whole, part, tests) (ap Some (sym h.total))

-- Lengths of time

option_or_some : {A : Type 0} (o p : Option A) (y : A) → option_or o p ≡ Some y → (o ≡ Some y) ⊎ (p ≡ Some y)
option_or_some None p y e = inr e
option_or_some (Some x) p y e = inl e

cond_none_some : {A : Type 0} (b : Bool) (o : Option A) (y : A) → cond b None o ≡ Some y → (b ≡ false) × (o ≡ Some y)
cond_none_some true o y e = absurd (none-some y e)
cond_none_some false o y e = (refl, e)

pub span_of-sound : (sixtieth : ℕ) (units : List TimeUnit) (text : List ℕ) (ms : ℕ) → span_of sixtieth units text ≡ Some ms → IsSpan sixtieth units text ms
unfolding span_of
span_of-sound sixtieth units text ms e =
    elim (option_or_some (option_map (λ n. n * (60 * sixtieth)) (number_of text)) _ ms e) [
      | inl first ↦ option_map_some (λ n. n * (60 * sixtieth)) (number_of text) ms first (λ n is total. bare n (number_of-sound text n is) (sym total))
      | inr other ↦ elim (option_or_some (option_map (λ n. n * sixtieth) (clock_of text)) _ ms other) [
        | inl second ↦ option_map_some (λ n. n * sixtieth) (clock_of text) ms second (λ n is total. clock n (clock_of-sound text n is) (sym total))
        | inr third ↦
            let both = cond_none_some (eqb (length text) 0) (parts_of units text) ms third in
            parts (above_zero (length text) both.0) (parts_of-sound units text ms both.1)
      ]
    ]

-- what these units are for a reader: no two have one letter, and none has a colon
pub record AreTold (units : List TimeUnit) : Type 0 where
  pub differ : Differ units
  pub colon : OtherThan 58 units

pub span_of-complete : (sixtieth : ℕ) (units : List TimeUnit) (text : List ℕ) (ms : ℕ) → AreTold units → IsSpan sixtieth units text ms → span_of sixtieth units text ≡ Some ms
unfolding span_of
span_of-complete sixtieth units text ms told (bare n is total) =
    let number = number_of-complete text n is in
    rw number (ap Some (sym total))
span_of-complete sixtieth units text ms told (clock n is total) =
    let no_number : number_of text ≡ None = ap number_of is.text_is ∙ number_of-other 58 is.whole_text is.part_text (lit< tt) in
    let reading = clock_of-complete text n is in
    rw (no_number, reading) (ap Some (sym total))
span_of-complete sixtieth units text ms told (parts filled are) =
    let has = AreParts-HasLetter units text ms filled are in
    let no_number : number_of text ≡ None = ap number_of has.joined ∙ number_of-other has.letter has.front has.back has.above in
    let lacks = AreParts-Lacks 58 units text ms (lit< tt) told.colon are in
    let no_clock : clock_of text ≡ None = none_by (clock_of text) (λ n e.
    let reading = clock_of-sound text n e in
    Lacks-at 58 reading.whole_text reading.part_text (subst (Lacks 58) reading.text_is lacks)) in
    let some_text : eqb (length text) 0 ≡ false = ne_eqb (length text) 0 (λ e. absurd (omega (arith, filled, e))) in
    rw (no_number, no_clock, some_text) (parts_of-complete units text ms told.differ are)

pub told_time : AreTold units_of_time
told_time = record { differ = ((refl, (refl, (refl, tt))), ((refl, (refl, tt)), ((refl, tt), (tt, tt)))); colon = (refl, (refl, (refl, (refl, tt)))) }

pub told_game : AreTold units_of_game
told_game = record { differ = ((refl, (refl, tt)), ((refl, tt), (tt, tt))); colon = (refl, (refl, (refl, tt))) }

-- a length of time has digits, a colon and letters of its units
IsSpan-Lacks : (byte sixtieth : ℕ) (units : List TimeUnit) (text : List ℕ) (ms : ℕ) → 57 < byte → eqb 58 byte ≡ false → OtherThan byte units → IsSpan sixtieth units text ms → Lacks byte text
IsSpan-Lacks byte sixtieth units text ms above colon other (bare n is total) = IsNumber-Lacks byte text n above is
IsSpan-Lacks byte sixtieth units text ms above colon other (clock n is total) =
    subst (Lacks byte) (sym is.text_is) (Lacks-append byte is.whole_text (58 ∷ is.part_text)
    (IsNumber-Lacks byte is.whole_text is.whole above is.whole_is)
    (All-cons (λ b. eqb b byte ≡ false) 58 is.part_text colon (IsNumber-Lacks byte is.part_text is.part above is.part_is)))
IsSpan-Lacks byte sixtieth units text ms above colon other (parts filled are) = AreParts-Lacks byte units text ms above other are

-- The fields

pub time_of-sound : (text : List ℕ) (ms : ℕ) → time_of text ≡ Some ms → IsTime text ms
time_of-sound text ms e = span_of-sound 1000 units_of_time text ms e

pub time_of-complete : (text : List ℕ) (ms : ℕ) → IsTime text ms → time_of text ≡ Some ms
time_of-complete text ms h = span_of-complete 1000 units_of_time text ms told_time h

pub percent_of-sound : (text : List ℕ) (n : ℕ) → percent_of text ≡ Some n → IsPercent text n
unfolding percent_of
percent_of-sound text n e =
    option_and_then_some _ (number_of text) n e (λ m is rest.
    let both = cond_some (leb m 100) m n rest in
    (number_of-sound text n (is ∙ ap Some both.1), omega (arith, leb-true m 100 both.0, both.1)))

pub percent_of-complete : (text : List ℕ) (n : ℕ) → IsPercent text n → percent_of text ≡ Some n
unfolding percent_of
percent_of-complete text n h =
    let number = number_of-complete text n h.0 in
    let small : leb n 100 ≡ true = le-leb n 100 h.1 in
    rw (number, small) refl

pub game_of-sound : (text : List ℕ) (limit : GameLimit) → game_of text ≡ Some limit → IsGame text limit
unfolding game_of
game_of-sound text limit e =
    elim (option_or_some (option_map turns_limit (marked_of 116 text)) _ limit e) [
      | inl first ↦ option_map_some turns_limit (marked_of 116 text) limit first (λ n is value. turns n (marked_of-sound 116 text n is) (sym value))
      | inr other ↦ option_map_some time_limit (span_of 60000 units_of_game text) limit other (λ ms is value. time ms (span_of-sound 60000 units_of_game text ms is) (sym value))
    ]

pub game_of-complete : (text : List ℕ) (limit : GameLimit) → IsGame text limit → game_of text ≡ Some limit
unfolding game_of
game_of-complete text limit (turns n is value) =
    let marked = marked_of-complete 116 text n (lit< tt) is in
    rw marked (ap Some (sym value))
game_of-complete text limit (time ms is value) =
    let lacks = IsSpan-Lacks 116 60000 units_of_game text ms (lit< tt) refl (refl, (refl, (refl, tt))) is in
    let no_turns : marked_of 116 text ≡ None = none_by (marked_of 116 text) (λ n e.
    let marked = marked_of-sound 116 text n e in
    Lacks-at 116 marked.front [] (subst (Lacks 116) marked.text_is lacks)) in
    let span = span_of-complete 60000 units_of_game text ms told_game is in
    rw (no_turns, span) (ap Some (sym value))
