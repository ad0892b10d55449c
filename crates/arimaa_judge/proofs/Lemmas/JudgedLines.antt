-- The judgement of lines, one after another.
use Rattle.std.proofs.Common.{◌≡◌, ◌+◌, ◌≤◌, ℕ, List, [], ◌∷◌, Option, None, Some, length, sym, ap, subst, ◌∙◌, arith}
use Rattle.arimaa_record.specs.declared.label.Label.{Label}
use Rattle.arimaa_record.specs.Laws.{LinesApart}
use Rattle.arimaa_record.specs.Lines.{lines_of}
use Rattle.arimaa_record.proofs.Lemmas.LineLaws.{no_lines}
use Rattle.arimaa_record.specs.declared.line.RecordLine.TheVariants as line
use Rattle.arimaa_judge.specs.declared.judgement.Judged.{Judged}
use Rattle.arimaa_judge.specs.declared.judgement.Judged.TheVariants.{Bad}
use Rattle.arimaa_judge.specs.declared.rule.Rule.{Rule}
use Rattle.arimaa_judge.specs.RecordState.{Reading, RecordState, after_reading}
use Rattle.arimaa_judge.specs.Rules.{rule_at}
use Rattle.arimaa_judge.specs.Judgement.{IsJudgedFrom, IsOutcome, TakesLine, lawful_of}

-- the first line broke a rule
pub bad_line : (s t : RecordState) (text : List ℕ) (lines : List (List ℕ)) (number : ℕ) (rule : Rule)
    → TakesLine s text (Some rule) t → IsJudgedFrom s number (text ∷ lines) (Bad number t.due rule)
bad_line s t text lines number rule takes =
    let due : Bad number t.due rule ≡ Bad number s.due rule = ap (λ (x : RecordState). Bad number x.due rule) takes.after in
    (takes.reading, takes.read, rw takes.rule due)

-- the first line was accepted
pub good_line : (s t : RecordState) (text : List ℕ) (lines : List (List ℕ)) (number : ℕ) (judged : Judged)
    → TakesLine s text None t → IsJudgedFrom t (number + 1) lines judged → IsJudgedFrom s number (text ∷ lines) judged
good_line s t text lines number judged takes later =
    (takes.reading, takes.read, rw takes.rule (rw takes.after at later))

-- two outcomes at a line are one, where those of the later lines are
one_outcome : (broken : Option Rule) (number : ℕ) (due : Label) (a b : Judged) (later : Judged → Type 0) → (later a → later b → a ≡ b)
    → IsOutcome broken number due a (later a) → IsOutcome broken number due b (later b) → a ≡ b
one_outcome (Some rule) number due a b later same x y = x ∙ sym y
one_outcome None number due a b later same x y = same x y

-- these lines have one judgement
pub one_judgement : LinesApart → (s : RecordState) (number : ℕ) (lines : List (List ℕ)) (a b : Judged) → IsJudgedFrom s number lines a → IsJudgedFrom s number lines b → a ≡ b
one_judgement apart s number [] a b x y = x ∙ sym y
one_judgement apart s number (l ∷ lines) a b x y =
    let same : y.0 ≡ x.0 = apart l y.0 x.0 y.1 x.1 in
    let Outcome : Reading → Type 0 = λ r. IsOutcome (rule_at s r) number s.due b (IsJudgedFrom (after_reading s r) (number + 1) lines b) in
    one_outcome (rule_at s x.0) number s.due a b (IsJudgedFrom (after_reading s x.0) (number + 1) lines)
    (one_judgement apart (after_reading s x.0) (number + 1) lines a b) x.2 (subst Outcome same y.2)

-- the number of a bad line lies between that of the first line and what follows the last
outcome_number : (broken : Option Rule) (here number last : ℕ) (at due : Label) (rule : Rule) (later : Type 0) → here + 1 ≤ last
    → (later → (here + 1 ≤ number) × (number + 1 ≤ last)) → IsOutcome broken here at (Bad number due rule) later → (here ≤ number) × (number + 1 ≤ last)
outcome_number (Some r) here number last at due rule later room next is = let same : number ≡ here = cc in (omega arith, omega arith)
outcome_number None here number last at due rule later room next is = let more : (here + 1 ≤ number) × (number + 1 ≤ last) = next is in (omega arith, more.1)

-- the first bad line is one of these
pub bad_number : (s : RecordState) (here : ℕ) (lines : List (List ℕ)) (number : ℕ) (due : Label) (rule : Rule)
    → IsJudgedFrom s here lines (Bad number due rule) → (here ≤ number) × (number + 1 ≤ here + length lines)
bad_number s here [] number due rule is = absurd (cc)
bad_number s here (l ∷ lines) number due rule is =
    let next = bad_number (after_reading s is.0) (here + 1) lines number due rule in
    outcome_number (rule_at s is.0) here number (here + length (l ∷ lines)) s.due due rule (IsJudgedFrom (after_reading s is.0) (here + 1) lines (Bad number due rule)) (omega arith)
    (λ x. let more : (here + 1 ≤ number) × (number + 1 ≤ here + 1 + length lines) = next x in (more.0, omega arith)) is.2

-- where no line is left the record is lawful
pub no_line : (s : RecordState) (number : ℕ) (rest : List ℕ) (judged : Judged) → rest ≡ [] → judged ≡ lawful_of s → IsJudgedFrom s number (lines_of rest) judged
no_line s number rest judged none is = rw (none, no_lines) is
