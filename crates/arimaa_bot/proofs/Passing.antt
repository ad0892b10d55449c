-- What went through a port, call by call.
use Rattle.std.proofs.Common.{◌≡◌, ◌∙◌, ◌++◌, ◌-◌, ◌≤◌, ℕ, List, [], ◌∷◌, Result, Ok, Err, ap, arith, drop, get_or, length, map, refl, subst, sym, take, take_all}
use Rattle.arimaa_outside.specs.Answers.{send_answer}
use Rattle.arimaa_outside.specs.ToldLines.{told_after}
use Rattle.arimaa_outside.specs.declared.port_answer.PortAnswer.{PortAnswer}
use Rattle.arimaa_outside.specs.declared.port_answer.PortAnswer.TheVariants as answer
use Rattle.arimaa_outside.specs.declared.port_fault.PortFault.{PortFault}
use Rattle.arimaa_outside.specs.declared.port_fault.PortFault.TheVariants as port
use Rattle.arimaa_outside.proofs.Lemmas.ToldLaws.{told_nothing, told_both}
use Rattle.arimaa_bot.specs.Calls.{BrokeOff, Passed, Told, WereSent}
use Rattle.arimaa_bot.specs.Talk.{all_sent}

-- no call
pub passed_nothing : (old : Told) → Passed old old [] []
passed_nothing old = record { answers_are = told_nothing old.answers; sent_are = told_nothing old.sent }

-- one call after others
pub passed_both : (old mid new : Told) (a b : List PortAnswer) (s t : List (List ℕ)) → Passed old mid a s → Passed mid new b t → Passed old new (a ++ b) (s ++ t)
passed_both old mid new a b s t first second = record {
  answers_are = told_both old.answers mid.answers new.answers a b first.answers_are second.answers_are;
  sent_are = told_both old.sent mid.sent new.sent s t first.sent_are second.sent_are;
}

-- a call that sent nothing
pub passed_unsent : (old new : Told) (a : List PortAnswer) → new.answers ≡ told_after old.answers a → new.sent ≡ old.sent → Passed old new a []
passed_unsent old new a answers kept = record { answers_are = answers; sent_are = kept ∙ told_nothing old.sent }

-- a call that sent a line
pub passed_line : (old new : Told) (line : List ℕ) → new.answers ≡ told_after old.answers (answer.Sent ∷ []) → new.sent ≡ told_after old.sent (line ∷ []) → Passed old new (answer.Sent ∷ []) (line ∷ [])
passed_line old new line answers sent = record { answers_are = answers; sent_are = sent }

-- no lines were sent
pub none_sent : (old : Told) → WereSent [] old old (Ok tt)
none_sent old = passed_nothing old

-- a line was sent, and then others
sent_more : (old mid new : Told) (line : List ℕ) (lines : List (List ℕ)) (r : Result (Unit {0}) PortFault) → Passed old mid (answer.Sent ∷ []) (line ∷ []) → WereSent lines mid new r → WereSent (line ∷ lines) old new r
sent_more old mid new line lines (Ok u) first later = passed_both old mid new (answer.Sent ∷ []) (all_sent lines) (line ∷ []) lines first later
sent_more old mid new line lines (Err port.Failed) first later = broke_more old mid new line lines (answer.Failed ∷ []) first later where
  broke_more : (old mid new : Told) (line : List ℕ) (lines : List (List ℕ)) (last : List PortAnswer) → Passed old mid (answer.Sent ∷ []) (line ∷ []) → BrokeOff lines mid new last → BrokeOff (line ∷ lines) old new last
  broke_more old mid new line lines last first later = record {
    first = line ∷ later.first;
    next = later.next;
    later = later.later;
    parts = ap (λ ls. line ∷ ls) later.parts;
    passed = passed_both old mid new (answer.Sent ∷ []) (all_sent later.first ++ last) (line ∷ []) later.first first later.passed;
  }
sent_more old mid new line lines (Err port.Memory) first later = record {
  first = line ∷ later.first;
  next = later.next;
  later = later.later;
  parts = ap (λ ls. line ∷ ls) later.parts;
  passed = passed_both old mid new (answer.Sent ∷ []) (all_sent later.first ++ []) (line ∷ []) later.first first later.passed;
}

-- the first line was not sent
sent_none : (old new : Told) (line : List ℕ) (lines : List (List ℕ)) (e : PortFault) → new.answers ≡ told_after old.answers (send_answer {T = Unit {0}} (Err e)) → new.sent ≡ old.sent → WereSent (line ∷ lines) old new (Err e)
sent_none old new line lines port.Failed answers kept = record { first = []; next = line; later = lines; parts = refl; passed = passed_unsent old new (answer.Failed ∷ []) answers kept }
sent_none old new line lines port.Memory answers kept = record { first = []; next = line; later = lines; parts = refl; passed = passed_unsent old new [] answers kept }

-- lines are the first of them, and the others
head_tail : {B : Type 0} (xs : List B) (f : B → List ℕ) (d : B) → 1 ≤ length xs → map f xs ≡ f (get_or xs 0 d) ∷ map f (take (length xs - 1) (drop 1 xs))
head_tail [] f d some = absurd (omega arith)
head_tail (x ∷ xs) f d some =
    let less : length (x ∷ xs) - 1 ≡ length xs = omega arith in
    let all : take (length (x ∷ xs) - 1) xs ≡ xs = ap (λ (n : ℕ). take n xs) less ∙ take_all (length xs) xs (omega arith) in
    ap (λ l. f x ∷ map f l) (sym all)

-- the first of some lines was sent, and then the others
pub sent_up : {B : Type 0} (xs : List B) (f : B → List ℕ) (d : B) (old mid new : Told) (r : Result (Unit {0}) PortFault) → 1 ≤ length xs
    → mid.answers ≡ told_after old.answers (answer.Sent ∷ []) → mid.sent ≡ told_after old.sent (f (get_or xs 0 d) ∷ [])
    → WereSent (map f (take (length xs - 1) (drop 1 xs))) mid new r → WereSent (map f xs) old new r
sent_up xs f d old mid new r some answers sent later =
    let line : List ℕ = f (get_or xs 0 d) in
    subst (λ (ls : List (List ℕ)). WereSent ls old new r) (sym (head_tail xs f d some))
    (sent_more old mid new line (map f (take (length xs - 1) (drop 1 xs))) r (passed_line old mid line answers sent) later)

-- the first of some lines was not sent
pub sent_down : {B : Type 0} (xs : List B) (f : B → List ℕ) (d : B) (old new : Told) (e : PortFault) → 1 ≤ length xs
    → new.answers ≡ told_after old.answers (send_answer {T = Unit {0}} (Err e)) → new.sent ≡ old.sent → WereSent (map f xs) old new (Err e)
sent_down xs f d old new e some answers kept =
    let line : List ℕ = f (get_or xs 0 d) in
    subst (λ (ls : List (List ℕ)). WereSent ls old new (Err e)) (sym (head_tail xs f d some))
    (sent_none old new line (map f (take (length xs - 1) (drop 1 xs))) e answers kept)

-- four lines were sent, by other names
pub four_sent : (a b c d x y z w : List ℕ) (old new : Told) (r : Result (Unit {0}) PortFault) → a ≡ x → b ≡ y → c ≡ z → d ≡ w
    → WereSent (a ∷ b ∷ c ∷ d ∷ []) old new r → WereSent (x ∷ y ∷ z ∷ w ∷ []) old new r
four_sent a b c d x y z w old new r e f g h sent = subst (λ (ls : List (List ℕ)). WereSent ls old new r) (λ i. e i ∷ f i ∷ g i ∷ h i ∷ []) sent
