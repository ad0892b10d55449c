-- Lines that the judge accepts one after the other, and the record that they make.
use Rattle.std.proofs.Common.{◌≡◌, ◌∙◌, ◌++◌, ◌+◌, ℕ, List, [], ◌∷◌, Option, None, Ok, ap, subst, sym}
use Rattle.std.specs.Prelude.{fold}
use Rattle.arimaa_record.specs.declared.label.Label.{Label}
use Rattle.arimaa_record.specs.declared.line.RecordLine.{RecordLine}
use Rattle.arimaa_record.specs.Record.{AreLines}
use Rattle.arimaa_record.specs.Lines.{lines_of}
use Rattle.arimaa_record.specs.Written.{text_of_record}
use Rattle.arimaa_judge.specs.declared.judgement.Judged.{Judged}
use Rattle.arimaa_judge.specs.declared.rule.Rule.{Rule}
use Rattle.arimaa_judge.specs.Judgement.{IsJudged, IsJudgedFrom, IsOutcome, lawful_of}
use Rattle.arimaa_judge.specs.RecordState.{RecordState, after_line, before_lines}
use Rattle.arimaa_judge.specs.Rules.{rule_at}
use Rattle.arimaa_board.specs.declared.ending.Ending.{Ending}
use Rattle.arimaa_match.specs.declared.ending.MatchDone.{MatchDone}
use Rattle.arimaa_match.specs.Records.{AreAccepted, IsAcceptedMatch, IsLawfulMatch, ending_in_record, lawful_with, state_after}

-- one line more is accepted
pub accepted_more : (s : RecordState) (lines : List RecordLine) (later : RecordState)
    (line : RecordLine) → AreAccepted s lines later → rule_at later (Ok line) ≡ None
    → AreAccepted s (lines ++ line ∷ []) (after_line later line)
accepted_more s [] later line same none = (
  ap (λ (t : RecordState). rule_at t (Ok line)) same
      ∙ none,
  ap (λ (t : RecordState). after_line t line) same,
)
accepted_more s (l ∷ lines) later line all none =
    (all.0, accepted_more (after_line s l) lines later line all.1 none)

-- the state after accepted lines is the one that they fold to
pub accepted_fold : (s : RecordState) (lines : List RecordLine) (later : RecordState)
    → AreAccepted s lines later → fold after_line s lines ≡ later
accepted_fold s [] later same = same
accepted_fold s (l ∷ lines) later all = accepted_fold (after_line s l) lines later all.1

unbroken : (rule : Option Rule) (number : ℕ) (due : Label) (judged : Judged) (Later : Type 0)
    → rule ≡ None → Later → IsOutcome rule number due judged Later
unbroken rule number due judged Later none later =
    subst (λ (r : Option Rule). IsOutcome r number due judged Later) (sym none) later

-- texts that say accepted lines are judged lawful, as they leave the record
pub judged_lawful : (texts : List (List ℕ)) (lines : List RecordLine) (s later : RecordState)
    (number : ℕ) → AreLines texts lines → AreAccepted s lines later
    → IsJudgedFrom s number texts (lawful_of later)
judged_lawful [] [] s later number said same = ap lawful_of (sym same)
judged_lawful [] (line ∷ lines) s later number said accepted = absurd said
judged_lawful (text ∷ texts) [] s later number said accepted = absurd said
judged_lawful (text ∷ texts) (line ∷ lines) s later number said accepted = (
  Ok line,
  said.0,
  unbroken (rule_at s (Ok line)) number s.due (lawful_of later) _ accepted.0
      (judged_lawful texts lines (after_line s line) later (number + 1) said.1 accepted.1),
)

-- the record of a match that the judge accepts line by line is lawful
pub accepted_lawful : (m : MatchDone) → IsAcceptedMatch m
    → AreLines (lines_of (text_of_record m.written)) m.written → IsLawfulMatch m
accepted_lawful m is said =
    let whole : state_after m.written ≡ is.last =
    accepted_fold before_lines m.written is.last is.accepted in
    subst (λ (s : RecordState). IsJudged (text_of_record m.written)
    (lawful_with s (ending_in_record m.ending))) (sym whole)
    (subst (λ (e : Option Ending). IsJudged (text_of_record m.written)
    (lawful_with is.last e)) is.ending
    (judged_lawful
    (lines_of (text_of_record m.written)) m.written before_lines is.last 1 said is.accepted))
