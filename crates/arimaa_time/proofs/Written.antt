-- What is written is read back, where it says the control whole.
use Rattle.std.proofs.Common.{◌≡◌, ℕ, ◌+◌, ◌*◌, ◌/◌, ◌%◌, ◌^◌, ◌<◌, eqb, false, List, [], ◌∷◌, refl, sym, ap, ◌∙◌, subst, arith, lit<, lit≤}
use Rattle.std.specs.Fmt.{decimal}
use Rattle.std.specs.Char.{digit_value}
use Rattle.std.specs.Int.{IsInRange}
use Rattle.std.specs.List.{join_with_byte}
use Rattle.std.proofs.lemmas.Bool.{ne_eqb, cond-false}
use Rattle.std.proofs.lemmas.Fmt.{decimal_is_IsNumeral, length-decimal-le}
use Rattle.std.proofs.lemmas.List.Elements.{All-nil, All-cons}
use Rattle.std.proofs.lemmas.List.Splits.{slice_split_at, slice_split_none}
use Rattle.arimaa_time.specs.declared.units.TimeUnit.{TimeUnit}
use Rattle.arimaa_time.specs.declared.control.Control.{Control}
use Rattle.arimaa_time.specs.declared.control.GameLimit.{GameLimit}
use Rattle.arimaa_time.specs.declared.control.GameLimit.TheVariants as limits
use Rattle.arimaa_time.specs.TimeUnit.{units_of_game, units_of_time}
use Rattle.arimaa_time.specs.Grammar.{IsNumber, IsSpan, clock, IsTime, IsGame, turns, time}
use Rattle.arimaa_time.specs.Fields.{fields, AreFields, IsControl}
use Rattle.arimaa_time.specs.Writing.{two_digits, clock_text, game_text, texts_of, text_of, IsWhole, IsWholeGame, IsWholeControl}
use Rattle.arimaa_time.proofs.Numbers.{digit_value_is}
use Rattle.arimaa_time.proofs.Cutting.{Lacks}
use Rattle.arimaa_time.proofs.Readings.{AllDigits-Lacks, Lacks-append}

-- Numbers

number_of_decimal : (n : ℕ) → n < 10 ^ 6 → IsNumber (decimal n) n
number_of_decimal n small =
    let numeral = decimal_is_IsNumeral n (omega (arith, small)) in
    record {
      some = numeral.0.0;
      short = length-decimal-le 6 n (lit< tt) small (omega (arith, small));
      digits = numeral.0.1;
      value = sym numeral.1;
    }

digit_of : (d : ℕ) → d < 10 → digit_value (48 + d) ≡ d
digit_of d small = digit_value_is (48 + d) (omega arith, omega arith) ∙ omega arith

number_of_two_digits : (n : ℕ) → n < 60 → IsNumber (two_digits n) n
number_of_two_digits n small =
    let tens = digit_of (n / 10) (omega arith) in
    let ones = digit_of (n % 10) (omega arith) in
    record {
      some = lit< tt;
      short = lit≤ tt;
      digits = (omega (arith, tens), (omega (arith, ones), tt));
      value = omega (arith, tens, ones);
    }

-- Times

clock_text-IsSpan : (sixtieth : ℕ) (units : List TimeUnit) (ms : ℕ) → ms ≡ ms / sixtieth * sixtieth → ms / sixtieth / 60 < 10 ^ 6 → IsSpan sixtieth units (clock_text sixtieth ms) ms
unfolding clock_text
clock_text-IsSpan sixtieth units ms whole small =
    clock (ms / sixtieth) (record {
      whole_text = decimal (ms / sixtieth / 60);
      part_text = two_digits (ms / sixtieth % 60);
      whole = ms / sixtieth / 60;
      part = ms / sixtieth % 60;
      whole_is = number_of_decimal (ms / sixtieth / 60) small;
      part_is = number_of_two_digits (ms / sixtieth % 60) (omega arith);
      two_digits = refl;
      below_sixty = omega arith;
      text_is = refl;
      total = omega arith;
    }) whole

time_text-IsTime : (ms : ℕ) → IsWhole 1000 ms → IsTime (clock_text 1000 ms) ms
time_text-IsTime ms whole = clock_text-IsSpan 1000 units_of_time ms (omega (arith, whole.nothing_dropped)) whole.six_digits

game_text-IsGame : (limit : GameLimit) → IsWholeGame limit → IsGame (game_text limit) limit
unfolding game_text
game_text-IsGame limits.None whole = time 0 (clock_text-IsSpan 60000 units_of_game 0 (omega arith) (omega arith)) refl
game_text-IsGame (limits.Time ms) whole =
    let span = clock_text-IsSpan 60000 units_of_game ms (omega (arith, whole.1.nothing_dropped)) whole.1.six_digits in
    time ms span (sym (cond-false (eqb ms 0) limits.None (limits.Time ms) (ne_eqb ms 0 (λ e. absurd (omega (arith, whole.0, e))))))
game_text-IsGame (limits.Turns n) whole =
    turns n (record { front = decimal n; number = number_of_decimal n whole.1; text_is = refl }) (sym (cond-false (eqb n 0) limits.None (limits.Turns n) (ne_eqb n 0 (λ e. absurd (omega (arith, whole.0, e))))))

-- No field has a slash

no_digit : ¬ (IsInRange 48 57 47)
no_digit h = absurd (omega (arith, h.0))

decimal-Lacks : (n : ℕ) → n < 2 ^ 64 → Lacks 47 (decimal n)
decimal-Lacks n fits = AllDigits-Lacks 47 (decimal n) no_digit (decimal_is_IsNumeral n fits).0.1

clock_text-Lacks : (sixtieth ms : ℕ) → ms / sixtieth / 60 < 2 ^ 64 → Lacks 47 (clock_text sixtieth ms)
unfolding clock_text
clock_text-Lacks sixtieth ms fits =
    let part = number_of_two_digits (ms / sixtieth % 60) (omega arith) in
    Lacks-append 47 (decimal (ms / sixtieth / 60)) (58 ∷ two_digits (ms / sixtieth % 60)) (decimal-Lacks (ms / sixtieth / 60) fits)
    (All-cons (λ b. eqb b 47 ≡ false) 58 (two_digits (ms / sixtieth % 60)) refl (AllDigits-Lacks 47 (two_digits (ms / sixtieth % 60)) no_digit part.digits))

time_text-Lacks : (ms : ℕ) → IsWhole 1000 ms → Lacks 47 (clock_text 1000 ms)
time_text-Lacks ms whole = clock_text-Lacks 1000 ms (omega (arith, whole.six_digits))

game_text-Lacks : (limit : GameLimit) → IsWholeGame limit → Lacks 47 (game_text limit)
unfolding game_text
game_text-Lacks limits.None whole = clock_text-Lacks 60000 0 (omega arith)
game_text-Lacks (limits.Time ms) whole = clock_text-Lacks 60000 ms (omega (arith, whole.1.six_digits))
game_text-Lacks (limits.Turns n) whole =
    Lacks-append 47 (decimal n) (116 ∷ []) (decimal-Lacks n (omega (arith, whole.1))) (All-cons (λ b. eqb b 47 ≡ false) 116 [] refl (All-nil (λ b. eqb b 47 ≡ false)))

-- The whole text

abbrev AllLack : List (List ℕ) → Type 0
AllLack [] = Unit {0}
AllLack (text ∷ texts) = Lacks 47 text × AllLack texts

fields-join : (text : List ℕ) (texts : List (List ℕ)) → AllLack (text ∷ texts) → fields (join_with_byte 47 (text ∷ texts)) ≡ text ∷ texts
fields-join text [] lack = slice_split_none (λ b. eqb b 47) text lack.0
fields-join text (next ∷ texts) lack =
    slice_split_at (λ b. eqb b 47) text 47 (join_with_byte 47 (next ∷ texts)) lack.0 refl ∙ ap (λ l. text ∷ l) (fields-join next texts lack.1)

texts_of-AreFields : (c : Control) → IsWholeControl c → AreFields (texts_of c) c
texts_of-AreFields c whole = record {
  turn = time_text-IsTime c.turn whole.turn;
  reserve = time_text-IsTime c.reserve whole.reserve;
  percent = (number_of_decimal c.percent (omega (arith, whole.percent)), whole.percent);
  cap = time_text-IsTime c.cap whole.cap;
  game = game_text-IsGame c.game whole.game;
  limit = time_text-IsTime c.limit whole.limit;
  no_more = lit≤ tt;
}

pub text_of-IsControl : (c : Control) → IsWholeControl c → IsControl (text_of c) c
text_of-IsControl c whole =
    let lack : AllLack (texts_of c) = (time_text-Lacks c.turn whole.turn, (time_text-Lacks c.reserve whole.reserve, (decimal-Lacks c.percent (omega (arith, whole.percent)), (time_text-Lacks c.cap whole.cap, (game_text-Lacks c.game whole.game, (time_text-Lacks c.limit whole.limit, tt)))))) in
    let P : List (List ℕ) → Type 0 = λ texts. AreFields texts c in
    subst P (sym (fields-join _ _ lack)) (texts_of-AreFields c whole)
