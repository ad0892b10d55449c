-- Over given bytes verify has one answer, unless a list is too long.
use Rattle.std.proofs.Common.{◌≡◌, ℕ, ◌+◌, List, [], ◌∷◌, length, Option, None, Some, inl, inr, refl, sym, ◌∙◌, ap, subst, arith, ⊎_elim, true≢false}
use Rattle.std.specs.Prelude.{◌⊎◌, Result, Ok, Err}
use Rattle.std.specs.List.{Contains}
use Rattle.std.specs.Option.{option_map}
use Rattle.std.proofs.lemmas.List.Elements.{Contains-append_right}
use Rattle.arimaa_board.specs.declared.piece.Color.{Color}
use Rattle.arimaa_board.specs.Piece.{other_color}
use Rattle.arimaa_strategy.specs.Text.{AreLinesOf}
use Rattle.arimaa_board.specs.declared.position.Position.{Position}
use Rattle.arimaa_judge.specs.Agreement.{JudgementsAgree}
use Rattle.arimaa_model.specs.Game.{barred_by}
use Rattle.arimaa_model.specs.Results.{next}
use Rattle.arimaa_record.specs.Lines.{lines_of}
use Rattle.arimaa_refute.specs.declared.escape.Escape.{Escape}
use Rattle.arimaa_refute.specs.declared.fault.EscapeFault.{EscapeFault}
use Rattle.arimaa_refute.specs.declared.fault.EscapeFault.TheVariants.{Memory, Text}
use Rattle.arimaa_refute.specs.declared.verify_answer.Flaw.{Flaw}
use Rattle.arimaa_refute.specs.declared.verify_answer.Verified.{Verified}
use Rattle.arimaa_refute.specs.declared.verify_answer.Verified.TheVariants as verdict
use Rattle.arimaa_refute.specs.Checks.{HasRoom, IsFirstAsked, IsFirstFlaw, IsRootAsked, IsRootFlaw, IsVerified}
use Rattle.arimaa_refute.specs.Checks.AreAsked.{escape as asked_of, root as asked_root}
use Rattle.arimaa_refute.specs.Escapes.{Holds}
use Rattle.arimaa_refute.specs.Flaws.{AreFlawless, flaw_of}
use Rattle.arimaa_refute.specs.Text.{IsEscapesText, IsFirstBadLine}
use Rattle.arimaa_refute.proofs.Lemmas.EscapeReading.{bad-read, escapes-read}
use Rattle.arimaa_refute.proofs.Lemmas.FlawLaws.{all-flawless}
use Rattle.arimaa_cli.specs.declared.answer.Answer.{Answer}
use Rattle.arimaa_cli.specs.declared.answer.Answer.TheVariants.{Answered}
use Rattle.arimaa_cli.specs.declared.commands.check.Checking.{Checking}
use Rattle.arimaa_cli.specs.declared.record.Game.{Game}
use Rattle.arimaa_cli.specs.Answer.{IsStop}
use Rattle.arimaa_cli.specs.Commands.Check.{room_of}
use Rattle.arimaa_cli.specs.Commands.Prove.{IsOpenAt}
use Rattle.arimaa_cli.specs.Commands.Verify.{HasRoomToVerify, IsEscapesAnswer, IsTextAnswer, IsVerifyAnswer, answer_of, escapes_word}
use Rattle.arimaa_cli.specs.Commands.Verify.IsEscapesAnswer.{bad_line, verified}
use Rattle.arimaa_cli.specs.Parts.{IsAnswerOn, IsMadeOf}
use Rattle.arimaa_cli.specs.Positions.{IsAnswerAt, IsUnasked}
use Rattle.arimaa_cli.specs.Positions.IsAnswerAt.{told, unasked}
use Rattle.arimaa_cli.specs.Positions.IsUnasked.{closed, no_position}
use Rattle.arimaa_cli.specs.Records.{IsGame, IsRecordAnswer}
use Rattle.arimaa_cli.specs.Records.IsRecordAnswer.{bad, lawful}
use Rattle.arimaa_cli.specs.Texts.{bad_line_text}
use Rattle.arimaa_cli.proofs.FirstFaults.{faultless_at, no_fault, one_fault}
use Rattle.arimaa_cli.proofs.OneParting.{AreOne, one_parted}

-- ---- the position that a game stands at

module _ (game : Game) where
  one_unasked : (x y : List ℕ) → IsUnasked game x → IsUnasked game y → x ≡ y
  one_unasked x y (closed w e) (closed v f) = let same : w ≡ v = (let both = sym e ∙ f in cc) in rw same refl
  one_unasked x y (closed w e) (no_position o f) = absurd (let never : ⊥ = cc in never)
  one_unasked x y (no_position o e) (closed v f) = absurd (let never : ⊥ = cc in never)
  one_unasked x y (no_position o e) (no_position u f) = refl

  -- where there is a position, no text says that there is none
  asked_for : (x : List ℕ) (p : Position) → IsUnasked game x → IsOpenAt game p → ⊥
  asked_for x p (closed w e) o = let open_yet = o.open_yet in let never : ⊥ = cc in never
  asked_for x p (no_position u e) o = let last = o.last in let never : ⊥ = cc in never

  -- two answers are one where those about the position are
  pub one_at : (IsOne IsOther : Position → Answer → Type 0) → ((p : Position) (a b : Answer) → IsOne p a → IsOther p b → AreOne a b)
      → (a b : Answer) → IsAnswerAt IsOne game a → IsAnswerAt IsOther game b → AreOne a b
  one_at IsOne IsOther one a b (unasked x u) (unasked y v) = inl (ap Answered (one_unasked x y u v))
  one_at IsOne IsOther one a b (unasked x u) (told p o c says) = absurd (asked_for x p u o)
  one_at IsOne IsOther one a b (told p o c says) (unasked y v) = absurd (asked_for y p v o)
  one_at IsOne IsOther one a b (told p o c says) (told q u d tells) =
      let place : p ≡ q = (let both = sym o.last ∙ u.last in cc) in
      one q a b (subst (λ (z : Position). IsOne z a) place says) tells

-- ---- flaws

module _ (a : Color) (barred : List Position) (c : List Escape) where
  abbrev Fault : List Escape → Escape → Option Flaw
  Fault earlier e = flaw_of a barred c earlier e

  module _ (n : ℕ) (p : Position) where
    abbrev Faulty : ℕ → Flaw → Type 0
    Faulty number w = IsFirstFlaw a barred c number w ⊎ IsRootFlaw a barred n c p number w

    -- where no escape has a flaw none is the first
    no_first : (number : ℕ) (w : Flaw) → AreFlawless a barred c [] c → IsFirstFlaw a barred c number w → ⊥
    no_first number w none f =
        no_fault Escape Flaw Fault (AreFlawless a barred c) (λ acc e es h. h.0) (λ acc e es h. h.1)
        (faultless_at Escape Flaw Fault (AreFlawless a barred c) (λ acc e es h. h.0) (λ acc e es h. h.1) [] f.earlier f.escape f.later (subst (AreFlawless a barred c []) f.split none)) f.faulty

    -- escapes that hold the root have no flaw
    no_flaw : Holds a barred n c p → (number : ℕ) (w : Flaw) → Faulty number w → ⊥
    no_flaw good number w faulty = ⊎_elim
        (no_first number w (all-flawless a barred c [] c good.escapes))
        (λ r. true≢false (sym good.root ∙ r.open_root)) faulty

    -- refused escapes have one first flaw
    one_flaw : (j k : ℕ) (w v : Flaw) → Faulty j w → Faulty k v → (j ≡ k) × (w ≡ v)
    one_flaw j k w v (inl f) (inl g) =
        let both = one_fault Escape Flaw Fault (AreFlawless a barred c) (λ acc e es h. h.0) (λ acc e es h. h.1) [] f.earlier g.earlier f.escape g.escape f.later g.later w v f.good g.good f.faulty g.faulty (sym f.split ∙ g.split) in
        let m = f.counted in let o = g.counted in
        (omega (arith, both.0), both.1)
    one_flaw j k w v (inl f) (inr g) = absurd (no_first j w g.good f)
    one_flaw j k w v (inr f) (inl g) = absurd (no_first k v f.good g)
    one_flaw j k w v (inr f) (inr g) = let m = f.zero in let o = g.zero in (omega arith, f.root ∙ sym g.root)

-- ---- answers

one_found : (asked : Checking) (h : List Position) (p : Position) (c : List Escape) (x y : Verified)
    → IsVerified asked.attacker (barred_by h) asked.depth (room_of asked.room) c p x → IsVerified asked.attacker (barred_by h) asked.depth (room_of asked.room) c p y → AreOne (answer_of x) (answer_of y)
one_found asked h p c verdict.Accepted verdict.Accepted f g = inl refl
one_found asked h p c verdict.Accepted (verdict.Refused j w) f g = absurd (no_flaw asked.attacker (barred_by h) c asked.depth p f.accepted j w g.refused)
one_found asked h p c (verdict.Refused j w) verdict.Accepted f g = absurd (no_flaw asked.attacker (barred_by h) c asked.depth p g.accepted j w f.refused)
one_found asked h p c (verdict.Refused j w) (verdict.Refused k v) f g =
    let both = one_flaw asked.attacker (barred_by h) c asked.depth p j k w v f.refused g.refused in
    inl (λ i. answer_of (verdict.Refused (both.0 i) (both.1 i)))
one_found asked h p c (verdict.Crowded q) y f g = inr (inl tt)
one_found asked h p c x (verdict.Crowded q) f g = inr (inr tt)

-- what a text of escapes is read as
abbrev Reading : Type 0
Reading = Result (List Escape) EscapeFault

same_fault : (n m : ℕ) → ◌≡◌ {A = Reading} (Err (Text n)) (Err (Text m)) → n ≡ m
same_fault n m e = cc

same_escapes : (s r : List Escape) → ◌≡◌ {A = Reading} (Ok s) (Ok r) → s ≡ r
same_escapes s r e = cc

fault_no_escapes : (n : ℕ) (s : List Escape) → ◌≡◌ {A = Reading} (Err (Text n)) (Ok s) → ⊥
fault_no_escapes n s e = let never : ⊥ = cc in never

fault_no_memory : (n : ℕ) → ◌≡◌ {A = Reading} (Err (Text n)) (Err Memory) → ⊥
fault_no_memory n e = let never : ⊥ = cc in never

escapes_no_memory : (s : List Escape) → ◌≡◌ {A = Reading} (Ok s) (Err Memory) → ⊥
escapes_no_memory s e = let never : ⊥ = cc in never

-- a text of escapes is one of lines
text_as : (a : Color) (t u : List ℕ) (c : List Escape) → lines_of t ≡ lines_of u → IsEscapesText t a c → IsEscapesText u a c
text_as a t u c e h = record {
  entries = record { said = h.entries.said; lines = subst (λ (ls : List (List ℕ)). AreLinesOf (other_color a) ls h.entries.said) e h.entries.lines; entries = h.entries.entries };
  depths = h.depths;
}

module _ (asked : Checking) (h : List Position) (p : Position) (lines : ℕ) where
  -- no text is both read and bad
  read_or_bad : (t u : List ℕ) (c : List Escape) (n : ℕ) → lines_of t ≡ lines_of u → IsEscapesText t asked.attacker c → IsFirstBadLine asked.attacker (lines_of u) n → ⊥
  read_or_bad t u c n e read fault = ⊎_elim (fault_no_escapes n c) (fault_no_memory n) (escapes-read asked.attacker u (Err (Text n)) c fault (text_as asked.attacker t u c e read))

  one_bad_line : (t u : List ℕ) (n m : ℕ) → lines_of t ≡ lines_of u → IsFirstBadLine asked.attacker (lines_of t) n → IsFirstBadLine asked.attacker (lines_of u) m → n ≡ m
  one_bad_line t u n m e f g =
      ⊎_elim (same_fault n m) (λ x. absurd (fault_no_memory n x))
      (bad-read asked.attacker u (Err (Text n)) m (subst (λ (ls : List (List ℕ)). IsFirstBadLine asked.attacker ls n) e f) g)

  one_read : (t u : List ℕ) (c d : List Escape) → lines_of t ≡ lines_of u → IsEscapesText t asked.attacker c → IsEscapesText u asked.attacker d → c ≡ d
  one_read t u c d e f g =
      ⊎_elim (same_escapes c d) (λ x. absurd (escapes_no_memory c x))
      (escapes-read asked.attacker u (Ok c) d (text_as asked.attacker t u c e f) g)

  one_text : (t u : List ℕ) (a b : Answer) → lines_of t ≡ lines_of u → IsEscapesAnswer asked h p lines t a → IsEscapesAnswer asked h p lines u b → AreOne a b
  one_text t u a b e (bad_line n f) (bad_line m g) = inl (ap (λ (k : ℕ). Answered (bad_line_text escapes_word (lines + k))) (one_bad_line t u n m e f g))
  one_text t u a b e (bad_line n f) (verified c read x is) = absurd (read_or_bad u t c n (sym e) read f)
  one_text t u a b e (verified c read x is) (bad_line m g) = absurd (read_or_bad t u c m e read g)
  one_text t u a b e (verified c read x is) (verified d other y was) =
      let same : c ≡ d = one_read t u c d e read other in
      one_found asked h p d x y (subst (λ (l : List Escape). IsVerified asked.attacker (barred_by h) asked.depth (room_of asked.room) l p x) same is) was

  one_on : (t u : Option (List ℕ)) (a b : Answer) → option_map lines_of t ≡ option_map lines_of u → IsAnswerOn escapes_word (IsEscapesAnswer asked h p lines) t a → IsAnswerOn escapes_word (IsEscapesAnswer asked h p lines) u b → AreOne a b
  one_on None None a b e f g = inl (f ∙ sym g)
  one_on None (Some u) a b e f g = absurd (let never : ⊥ = cc in never)
  one_on (Some t) None a b e f g = absurd (let never : ⊥ = cc in never)
  one_on (Some t) (Some u) a b e f g = let same : lines_of t ≡ lines_of u = cc in one_text t u a b same f g

-- over given bytes there is one answer, unless a list is too long
pub one_verify : JudgementsAgree → (asked : Checking) (given : List ℕ) (a b : Answer) → IsVerifyAnswer asked given a → IsVerifyAnswer asked given b → AreOne a b
one_verify law asked given a b p q = one_parted law escapes_word (IsTextAnswer asked) given
    (λ lines t u game c d e. one_at game _ _ (λ place x y. one_on asked game.history place lines t u x y e) c d) a b p q

-- ---- room

-- where there is room, no list is too long
roomy : (asked : Checking) (h : List Position) (p : Position) (c : List Escape) → HasRoom asked.attacker (barred_by h) asked.depth (room_of asked.room) c p → (x : Verified)
    → IsVerified asked.attacker (barred_by h) asked.depth (room_of asked.room) c p x → IsStop (Ok (answer_of x)) → ⊥
roomy asked h p c fits verdict.Accepted is stop = stop
roomy asked h p c fits (verdict.Refused j w) is stop = stop
roomy asked h p c fits (verdict.Crowded q) is stop =
    let long = is.crowded.0 in
    ⊎_elim
    (λ (f : IsFirstAsked asked.attacker (barred_by h) c q).
    let there : Contains c f.escape = subst (λ (l : List Escape). Contains l f.escape) (sym f.split) (Contains-append_right f.earlier (f.escape ∷ f.later) f.escape (0, omega arith, refl)) in
    let short = fits q (asked_of f.escape q there f.deep f.leads f.open_result) in let never : ⊥ = omega arith in never)
    (λ (f : IsRootAsked asked.attacker (barred_by h) asked.depth c p q).
    let short = fits p (asked_root f.side f.deep f.undecided) in
    let same : length (next (barred_by h) q) ≡ length (next (barred_by h) p) = ap (λ (x : Position). length (next (barred_by h) x)) f.root in
    let never : ⊥ = omega arith in never)
    is.crowded.1

-- where there is room for every list of replies, the checker doesn't stop short
pub verify_room : (asked : Checking) (given : List ℕ) → HasRoomToVerify asked given → (a : Answer) → IsVerifyAnswer asked given a → IsStop (Ok a) → ⊥
verify_room asked given fits a says stop = by says.front says.text says.made a says.told stop where
  on : (f : List ℕ) (t : Option (List ℕ)) → IsMadeOf escapes_word given f t → (game : Game) → IsGame f game → (p : Position) → IsOpenAt game p → (lines : ℕ) (a : Answer)
      → IsAnswerOn escapes_word (IsEscapesAnswer asked game.history p lines) t a → IsStop (Ok a) → ⊥
  on f None made game is p o lines a e stop = subst (λ (z : Answer). IsStop (Ok z)) e stop
  on f (Some u) made game is p o lines a (bad_line n wrong) stop = stop
  on f (Some u) made game is p o lines a (verified c read x found) stop = roomy asked game.history p c (fits.room f u game p c made is o read) x found stop

  at : (f : List ℕ) (t : Option (List ℕ)) → IsMadeOf escapes_word given f t → (game : Game) → IsGame f game → (lines : ℕ) (a : Answer) → IsTextAnswer asked lines t game a → IsStop (Ok a) → ⊥
  at f t made game is lines a (unasked x u) stop = stop
  at f t made game is lines a (told p o b says) stop = on f t made game is p o lines a says stop

  by : (f : List ℕ) (t : Option (List ℕ)) → IsMadeOf escapes_word given f t → (a : Answer) → IsRecordAnswer f (IsTextAnswer asked (length (lines_of f) + 1) t) a → IsStop (Ok a) → ⊥
  by f t made a (bad text wrong) stop = stop
  by f t made a (lawful game is b said) stop = at f t made game is (length (lines_of f) + 1) a said stop
