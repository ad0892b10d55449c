-- What is answered about an archive.
use Rattle.std.proofs.Common.{◌≡◌, ◌≤◌, ℕ, List, None, Some, length, map, sym, ◌∙◌, ap, subst}
use Rattle.std.specs.List.{AllZip}
use Rattle.arimaa_outside.specs.declared.source.TheConstants.{INPUT_LIMIT}
use Rattle.arimaa_outside.specs.declared.status.Status.TheVariants.{Done, Answered}
use Rattle.arimaa_record.specs.Lines.{lines_of}
use Rattle.arimaa_archive.specs.declared.parts.Part.{Part}
use Rattle.arimaa_archive.specs.declared.record_judgement.Told.{Told}
use Rattle.arimaa_archive.specs.Archive.{first_content, lines_before_game, lines_of_part, records_of}
use Rattle.arimaa_archive.specs.Calls.{IsAnswer}
use Rattle.arimaa_archive.specs.Calls.IsAnswer.{no_game, reported}
use Rattle.arimaa_archive.specs.Report.{text_of_report, text_of_stray}
use Rattle.arimaa_archive.specs.RecordJudgements.{IsTold, IsToldOfPart}
use Rattle.arimaa_archive.specs.Words.{AreInForm}
use Rattle.arimaa_archive.proofs.Telling.{all_zip_map}

module _ (bytes : List ℕ) (few : length bytes ≤ INPUT_LIMIT) (front : List ℕ)
    (before : lines_of front ≡ lines_before_game (lines_of bytes)) where
  -- a line with content before the first record
  pub stray_answer : (number : ℕ) (text : List ℕ) → Some number ≡ first_content 1 (lines_of front)
      → text ≡ text_of_stray number
      → (words : List (List ℕ)) → AreInForm words → IsAnswer words bytes Answered text
  stray_answer number text is says words form =
      subst (λ (t : List ℕ). IsAnswer words bytes Answered t) (sym says)
      (no_game form few number (sym (is ∙ ap (first_content 1) before)))

  -- the report
  pub report_answer : (parts : List Part) (all : List Told) (text : List ℕ) → None ≡ first_content 1 (lines_of front)
      → map (lines_of_part bytes) parts ≡ records_of (lines_of bytes) → AllZip (IsToldOfPart bytes) parts all
      → text ≡ text_of_report all
      → (words : List (List ℕ)) → AreInForm words → IsAnswer words bytes Done text
  report_answer parts all text none records told says words form =
      let each : AllZip IsTold (map (lines_of_part bytes) parts) all = all_zip_map (lines_of_part bytes) IsTold parts all told in
      subst (λ (t : List ℕ). IsAnswer words bytes Done t) (sym says)
      (reported form few (sym (none ∙ ap (first_content 1) before)) all
      (subst (λ (rs : List (List (List ℕ))). AllZip IsTold rs all) records each))
