-- Over given bytes check has one answer, unless a list is too long.
use Rattle.std.proofs.Common.{◌≡◌, ℕ, ◌+◌, List, [], ◌∷◌, length, Bool, true, false, cond, not, Option, None, Some, inl, inr, refl, sym, ◌∙◌, ap, subst, arith, ⊎_elim, le-leb, true≢false}
use Rattle.std.specs.Prelude.{◌⊎◌, nat_le, Result, Ok, Err}
use Rattle.std.specs.List.{Contains}
use Rattle.std.specs.Option.{option_map}
use Rattle.std.proofs.lemmas.List.Elements.{Contains-append_right}
use Rattle.arimaa_board.specs.declared.piece.Color.{Color}
use Rattle.arimaa_board.specs.declared.position.Position.{Position}
use Rattle.arimaa_forced.specs.declared.entry.Entry.{Entry}
use Rattle.arimaa_forced.specs.Acceptance.{is_ready, root_rank}
use Rattle.arimaa_forced.specs.Entries.{AcceptsEntries}
use Rattle.arimaa_judge.specs.Agreement.{JudgementsAgree}
use Rattle.arimaa_model.specs.Game.{barred_by}
use Rattle.arimaa_model.specs.Results.{next}
use Rattle.arimaa_record.specs.Lines.{lines_of}
use Rattle.arimaa_strategy.specs.declared.check_answer.Checked.{Checked}
use Rattle.arimaa_strategy.specs.declared.check_answer.Checked.TheVariants as checks
use Rattle.arimaa_strategy.specs.declared.check_answer.Why.{Why}
use Rattle.arimaa_strategy.specs.declared.check_answer.Why.TheVariants as why
use Rattle.arimaa_strategy.specs.declared.fault.StrategyFault.{StrategyFault}
use Rattle.arimaa_strategy.specs.declared.fault.StrategyFault.TheVariants.{Memory, Text}
use Rattle.arimaa_strategy.specs.Checks.{HasRoom, IsFirstAsked, IsFirstFault, IsRootAsked, IsRootFault}
use Rattle.arimaa_strategy.specs.Checks.AreAsked.{entry as asked_of, root as asked_root}
use Rattle.arimaa_strategy.specs.Entries.{plan_of}
use Rattle.arimaa_strategy.specs.Faults.{AreFaultless, fault_of, root_fault}
use Rattle.arimaa_strategy.specs.Text.{AreLinesOf, IsFirstBadLine, IsStrategyText}
use Rattle.arimaa_strategy.proofs.Lemmas.FaultLaws.{all_faultless}
use Rattle.arimaa_strategy.proofs.Lemmas.TextReading.{bad_read, entries_read}
use Rattle.arimaa_cli.specs.declared.answer.Answer.{Answer}
use Rattle.arimaa_cli.specs.declared.answer.Answer.TheVariants.{Answered}
use Rattle.arimaa_cli.specs.declared.commands.check.Checking.{Checking}
use Rattle.arimaa_cli.specs.declared.record.Game.{Game}
use Rattle.arimaa_cli.specs.Answer.{IsStop}
use Rattle.arimaa_cli.specs.Commands.Check.{HasRoomFor, IsCheckAnswer, IsFound, IsStrategyAnswer, answer_of, room_of, strategy_word}
use Rattle.arimaa_cli.specs.Parts.{IsMadeOf}
use Rattle.arimaa_cli.specs.Records.{IsGame, IsRecordAnswer}
use Rattle.arimaa_cli.specs.Texts.{bad_line_text}
use Rattle.arimaa_cli.proofs.FirstFaults.{faultless_at, one_fault}
use Rattle.arimaa_cli.proofs.OneParting.{AreOne, one_parted}
use Rattle.arimaa_cli.specs.Records.IsRecordAnswer.{bad, lawful}
use Rattle.arimaa_cli.specs.Commands.Check.IsStrategyAnswer.{bad_line, checked, closed, no_position, no_strategy}
use Rattle.arimaa_cli.specs.Commands.Prove.{IsOpenAt, ended_text}

-- ---- texts

-- a strategy's text is one of lines
text_as : (a : Color) (t u : List ℕ) (s : List Entry) → lines_of t ≡ lines_of u → IsStrategyText t a s → IsStrategyText u a s
text_as a t u s e h = record { said = h.said; lines = subst (λ (ls : List (List ℕ)). AreLinesOf a ls h.said) e h.lines; entries = h.entries }

-- ---- first faults

module _ (a : Color) (barred : List Position) (s : List Entry) where
  abbrev Fault : List Entry → Entry → Option Why
  Fault earlier e = fault_of a barred s earlier e

  no_fault : {w : Why} {o : Option Why} → o ≡ None → o ≡ Some w → ⊥
  no_fault none some = let wrong : true ≡ false = cc in true≢false wrong

  module _ (n : ℕ) (p : Position) where
    abbrev Faulty : ℕ → Why → Type 0
    Faulty number w = IsFirstFault a barred s number w ⊎ IsRootFault a barred n s p number w

    -- where no entry has a fault none is the first
    no_first : (number : ℕ) (w : Why) → AreFaultless a barred s [] s → IsFirstFault a barred s number w → ⊥
    no_first number w none f = no_fault (faultless_at Entry Why Fault (AreFaultless a barred s) (λ acc e es h. h.0) (λ acc e es h. h.1) [] f.earlier f.entry f.later (subst (AreFaultless a barred s []) f.split none)) f.faulty

    abbrev first_of_root : Bool → Bool → Option Why
    first_of_root ready within = cond (not ready) (Some why.Root) (cond (not within) (Some why.Deep) None)

    good_root : (ready within : Bool) → ready ≡ true → within ≡ true → first_of_root ready within ≡ None
    good_root ready within h k = rw (h, k) refl

    root_none : AcceptsEntries a barred n s p → root_fault a barred n s p ≡ None
    unfolding root_fault
    root_none good = good_root (is_ready a barred (plan_of s) p) (nat_le (root_rank a barred (plan_of s) p) n) good.plain.root (le-leb _ n good.plain.deep)

    -- an accepted strategy has no fault
    pub no_faulty : AcceptsEntries a barred n s p → (number : ℕ) (w : Why) → Faulty number w → ⊥
    no_faulty good number w faulty = ⊎_elim
        (no_first number w (all_faultless a barred s [] s good.plain.entries good.marked))
        (λ r. no_fault (root_none good) r.faulty) faulty

    -- a refused strategy has one first fault
    pub one_faulty : (j k : ℕ) (w v : Why) → Faulty j w → Faulty k v → (j ≡ k) × (w ≡ v)
    one_faulty j k w v (inl f) (inl g) =
        let both = one_fault Entry Why Fault (AreFaultless a barred s) (λ acc e es h. h.0) (λ acc e es h. h.1) [] f.earlier g.earlier f.entry g.entry f.later g.later w v f.good g.good f.faulty g.faulty (sym f.split ∙ g.split) in
        let m = f.counted in let o = g.counted in
        (omega (arith, both.0), both.1)
    one_faulty j k w v (inl f) (inr g) = absurd (no_first j w g.good f)
    one_faulty j k w v (inr f) (inl g) = absurd (no_first k v f.good g)
    one_faulty j k w v (inr f) (inr g) =
        let m = f.zero in let o = g.zero in let both = sym f.faulty ∙ g.faulty in let cause : w ≡ v = cc in
        (omega arith, cause)

-- ---- answers

one_found : (asked : Checking) (h : List Position) (p : Position) (s : List Entry) (x y : Checked) → IsFound asked h p s x → IsFound asked h p s y → AreOne (answer_of x) (answer_of y)
one_found asked h p s (checks.Accepted r) (checks.Accepted q) f g = inl (ap (λ (n : ℕ). answer_of (checks.Accepted n)) (f.right.accepted.1 ∙ sym g.right.accepted.1))
one_found asked h p s (checks.Accepted r) (checks.Refused j w) f g = absurd (no_faulty asked.attacker (barred_by h) s asked.depth p f.right.accepted.0 j w g.right.refused)
one_found asked h p s (checks.Refused j w) (checks.Accepted r) f g = absurd (no_faulty asked.attacker (barred_by h) s asked.depth p g.right.accepted.0 j w f.right.refused)
one_found asked h p s (checks.Refused j w) (checks.Refused k v) f g =
    let both = one_faulty asked.attacker (barred_by h) s asked.depth p j k w v f.right.refused g.right.refused in
    inl (λ i. answer_of (checks.Refused (both.0 i) (both.1 i)))
one_found asked h p s (checks.Crowded q) y f g = inr (inl tt)
one_found asked h p s x (checks.Crowded q) f g = inr (inr tt)

-- what a strategy's text is read as
abbrev Reading : Type 0
Reading = Result (List Entry) StrategyFault

same_fault : (n m : ℕ) → ◌≡◌ {A = Reading} (Err (Text n)) (Err (Text m)) → n ≡ m
same_fault n m e = cc

same_entries : (s r : List Entry) → ◌≡◌ {A = Reading} (Ok s) (Ok r) → s ≡ r
same_entries s r e = cc

fault_no_entries : (n : ℕ) (s : List Entry) → ◌≡◌ {A = Reading} (Err (Text n)) (Ok s) → ⊥
fault_no_entries n s e = let never : ⊥ = cc in never

fault_no_memory : (n : ℕ) → ◌≡◌ {A = Reading} (Err (Text n)) (Err Memory) → ⊥
fault_no_memory n e = let never : ⊥ = cc in never

entries_no_memory : (s : List Entry) → ◌≡◌ {A = Reading} (Ok s) (Err Memory) → ⊥
entries_no_memory s e = let never : ⊥ = cc in never

module _ (asked : Checking) (game : Game) (lines : ℕ) where
  abbrev Says : Option (List ℕ) → Answer → Type 0
  Says t a = IsStrategyAnswer asked game lines t a

  one_place : (p q : Position) → IsOpenAt game p → IsOpenAt game q → p ≡ q
  one_place p q o r = let both = sym o.last ∙ r.last in cc

  -- no text is both read and bad
  read_or_bad : (t u : List ℕ) (s : List Entry) (n : ℕ) → lines_of t ≡ lines_of u → IsStrategyText t asked.attacker s → IsFirstBadLine asked.attacker (lines_of u) n → ⊥
  read_or_bad t u s n e read fault = ⊎_elim (fault_no_entries n s) (fault_no_memory n) (entries_read asked.attacker u (Err (Text n)) s fault (text_as asked.attacker t u s e read))

  one_bad_line : (t u : List ℕ) (n m : ℕ) → lines_of t ≡ lines_of u → IsFirstBadLine asked.attacker (lines_of t) n → IsFirstBadLine asked.attacker (lines_of u) m → n ≡ m
  one_bad_line t u n m e p q =
      ⊎_elim (same_fault n m) (λ x. absurd (fault_no_memory n x))
      (bad_read asked.attacker u (Err (Text n)) m (subst (λ (ls : List (List ℕ)). IsFirstBadLine asked.attacker ls n) e p) q)

  one_read : (t u : List ℕ) (s r : List Entry) → lines_of t ≡ lines_of u → IsStrategyText t asked.attacker s → IsStrategyText u asked.attacker r → s ≡ r
  one_read t u s r e p q =
      ⊎_elim (same_entries s r) (λ x. absurd (entries_no_memory s x))
      (entries_read asked.attacker u (Ok s) r (text_as asked.attacker t u s e p) q)

  one_said : (t u : Option (List ℕ)) (a b : Answer) → option_map lines_of t ≡ option_map lines_of u → Says t a → Says u b → AreOne a b
  one_said t u a b e (closed t2 w f) (closed u2 v g) = let same : w ≡ v = (let both = sym f ∙ g in cc) in inl (ap (λ x. Answered (ended_text x)) same)
  one_said t u a b e (closed t2 w f) (no_position u2 g h) = absurd (let never : ⊥ = cc in never)
  one_said t u a b e (closed t2 w f) (no_strategy p o) = absurd (let g = o.open_yet in let never : ⊥ = cc in never)
  one_said t u a b e (closed t2 w f) (bad_line p o u2 n fault) = absurd (let g = o.open_yet in let never : ⊥ = cc in never)
  one_said t u a b e (closed t2 w f) (checked p o u2 s read x is) = absurd (let g = o.open_yet in let never : ⊥ = cc in never)
  one_said t u a b e (no_position t2 f h) (closed u2 v g) = absurd (let never : ⊥ = cc in never)
  one_said t u a b e (no_position t2 f h) (no_position u2 g k) = inl refl
  one_said t u a b e (no_position t2 f h) (no_strategy p o) = absurd (let g = o.last in let never : ⊥ = cc in never)
  one_said t u a b e (no_position t2 f h) (bad_line p o u2 n fault) = absurd (let g = o.last in let never : ⊥ = cc in never)
  one_said t u a b e (no_position t2 f h) (checked p o u2 s read x is) = absurd (let g = o.last in let never : ⊥ = cc in never)
  one_said t u a b e (no_strategy q r) (closed u2 v g) = absurd (let f = r.open_yet in let never : ⊥ = cc in never)
  one_said t u a b e (no_strategy q r) (no_position u2 g k) = absurd (let f = r.last in let never : ⊥ = cc in never)
  one_said t u a b e (no_strategy q r) (no_strategy p o) = inl refl
  one_said t u a b e (no_strategy q r) (bad_line p o u2 n fault) = absurd (let never : ⊥ = cc in never)
  one_said t u a b e (no_strategy q r) (checked p o u2 s read x is) = absurd (let never : ⊥ = cc in never)
  one_said t u a b e (bad_line q r t2 m wrong) (closed u2 v g) = absurd (let f = r.open_yet in let never : ⊥ = cc in never)
  one_said t u a b e (bad_line q r t2 m wrong) (no_position u2 g k) = absurd (let f = r.last in let never : ⊥ = cc in never)
  one_said t u a b e (bad_line q r t2 m wrong) (no_strategy p o) = absurd (let never : ⊥ = cc in never)
  one_said t u a b e (bad_line q r t2 m wrong) (bad_line p o u2 n fault) =
      let parts : Some (lines_of t2) ≡ Some (lines_of u2) = e in let same : lines_of t2 ≡ lines_of u2 = cc in inl (ap (λ k. Answered (bad_line_text strategy_word (lines + k))) (one_bad_line t2 u2 m n same wrong fault))
  one_said t u a b e (bad_line q r t2 m wrong) (checked p o u2 s read x is) =
      let parts : Some (lines_of t2) ≡ Some (lines_of u2) = e in let same : lines_of u2 ≡ lines_of t2 = cc in absurd (read_or_bad u2 t2 s m same read wrong)
  one_said t u a b e (checked q r t2 z told y was) (closed u2 v g) = absurd (let f = r.open_yet in let never : ⊥ = cc in never)
  one_said t u a b e (checked q r t2 z told y was) (no_position u2 g k) = absurd (let f = r.last in let never : ⊥ = cc in never)
  one_said t u a b e (checked q r t2 z told y was) (no_strategy p o) = absurd (let never : ⊥ = cc in never)
  one_said t u a b e (checked q r t2 z told y was) (bad_line p o u2 n fault) =
      let parts : Some (lines_of t2) ≡ Some (lines_of u2) = e in let same : lines_of t2 ≡ lines_of u2 = cc in absurd (read_or_bad t2 u2 z n same told fault)
  one_said t u a b e (checked q r t2 z told y was) (checked p o u2 s read x is) =
      let parts : Some (lines_of t2) ≡ Some (lines_of u2) = e in let same : lines_of t2 ≡ lines_of u2 = cc in
      let place : p ≡ q = one_place p q o r in
      let entries : s ≡ z = sym (one_read t2 u2 z s same told read) in
      one_found asked game.history q z y x was (subst (λ (l : List Entry). IsFound asked game.history q l x) entries (subst (λ (d : Position). IsFound asked game.history d s x) place is))

-- over given bytes there is one answer, unless a list is too long
pub one_check : JudgementsAgree → (asked : Checking) (given : List ℕ) (a b : Answer) → IsCheckAnswer asked given a → IsCheckAnswer asked given b → AreOne a b
one_check law asked given a b p q = one_parted law strategy_word (λ lines text game. IsStrategyAnswer asked game lines text) given (λ lines t u game c d e. one_said asked game lines t u c d e) a b p q

-- ---- room

-- where there is room, no list is too long
roomy : (asked : Checking) (h : List Position) (p : Position) (s : List Entry) → HasRoom asked.attacker (barred_by h) (room_of asked.room) s p → (x : Checked) → IsFound asked h p s x → IsStop (Ok (answer_of x)) → ⊥
roomy asked h p s fits (checks.Accepted r) is stop = stop
roomy asked h p s fits (checks.Refused j w) is stop = stop
roomy asked h p s fits (checks.Crowded q) is stop =
    let long = is.right.crowded.0 in
    ⊎_elim
    (λ (f : IsFirstAsked asked.attacker (barred_by h) s q).
    let there : Contains s f.entry = subst (λ (l : List Entry). Contains l f.entry) (sym f.split) (Contains-append_right f.earlier (f.entry ∷ f.later) f.entry (0, omega arith, refl)) in
    let short = fits q (asked_of f.entry q there f.leads f.open_result) in let never : ⊥ = omega arith in never)
    (λ (f : IsRootAsked asked.attacker (barred_by h) s p q).
    let short = fits p (asked_root f.side f.undecided) in
    let same : length (next (barred_by h) q) ≡ length (next (barred_by h) p) = ap (λ (x : Position). length (next (barred_by h) x)) f.root in
    let never : ⊥ = omega arith in never)
    is.right.crowded.1

-- where there is room for every list of replies, the checker doesn't stop short
pub room_stops_none : (asked : Checking) (given : List ℕ) → HasRoomFor asked given → (a : Answer) → IsCheckAnswer asked given a → IsStop (Ok a) → ⊥
room_stops_none asked given fits a told stop = by told.front told.text told.made a told.told stop where
  says : (f : List ℕ) (t : Option (List ℕ)) → IsMadeOf strategy_word given f t → (game : Game) → IsGame f game → (a : Answer) → IsStrategyAnswer asked game (length (lines_of f) + 1) t a → IsStop (Ok a) → ⊥
  says f t made game is a (closed t2 w e) stop = stop
  says f t made game is a (no_position t2 e h) stop = stop
  says f t made game is a (no_strategy p o) stop = stop
  says f t made game is a (bad_line p o u n wrong) stop = stop
  says f t made game is a (checked p o u s read x found) stop = roomy asked game.history p s (fits.room f u game p s made is o read) x found stop

  by : (f : List ℕ) (t : Option (List ℕ)) → IsMadeOf strategy_word given f t → (a : Answer) → IsRecordAnswer f (λ game. IsStrategyAnswer asked game (length (lines_of f) + 1) t) a → IsStop (Ok a) → ⊥
  by f t made a (bad text h) stop = stop
  by f t made a (lawful game is b said) stop = says f t made game is b said stop
