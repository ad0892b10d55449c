-- Over given bytes all words in form have one answer, and so have all others.
use Rattle.std.proofs.Common.{◌≡◌, ℕ, List, refl, sym, ◌∙◌, ap, arith}
use Rattle.arimaa_outside.specs.declared.status.Status.{Status}
use Rattle.arimaa_record.specs.Laws.{LinesApart}
use Rattle.arimaa_record.specs.Lines.{lines_of}
use Rattle.arimaa_archive.specs.Archive.{records_of}
use Rattle.arimaa_archive.specs.Agreement.{AnswersAgree, WorkersAgree}
use Rattle.arimaa_archive.specs.Calls.{IsAnswer}
use Rattle.arimaa_archive.specs.Calls.IsAnswer.{bad_words, too_long, no_game, reported}
use Rattle.arimaa_archive.specs.Report.{text_of_report, text_of_stray}
use Rattle.arimaa_archive.specs.Words.{AreInForm}
use Rattle.arimaa_archive.proofs.Telling.{all_told}

module _ (apart : LinesApart) (given : List ℕ) (ws vs : List (List ℕ)) where
  -- words in form, of whatever number of workers
  one_report : (s t : Status) (a b : List ℕ) → AreInForm ws → AreInForm vs
      → IsAnswer ws given s a → IsAnswer vs given t b → (s ≡ t) × (a ≡ b)
  one_report s t a b p q (bad_words never) y = absurd (never p.0 p.1)
  one_report s t a b p q x (bad_words never) = absurd (never q.0 q.1)
  one_report s t a b p q (too_long f many) (too_long g more) = (refl, refl)
  one_report s t a b p q (too_long f many) (no_game g few n is) = absurd (omega arith)
  one_report s t a b p q (too_long f many) (reported g few none all told) = absurd (omega arith)
  one_report s t a b p q (no_game f few n is) (too_long g many) = absurd (omega arith)
  one_report s t a b p q (no_game f few n is) (no_game g less m was) =
      let both = sym is ∙ was in let same : n ≡ m = cc in (refl, ap text_of_stray same)
  one_report s t a b p q (no_game f few n is) (reported g less none all told) = let both = sym is ∙ none in cc
  one_report s t a b p q (reported f few none all told) (too_long g many) = absurd (omega arith)
  one_report s t a b p q (reported f few none all told) (no_game g less n is) = let both = sym none ∙ is in cc
  one_report s t a b p q (reported f few none all told) (reported g less nil every said) =
      (refl, ap text_of_report (all_told apart (records_of (lines_of given)) all every told said))

pub workers_agree : LinesApart → WorkersAgree
workers_agree apart words others given s t a b p q x y = one_report apart given words others s t a b p q x y

pub answers_agree : LinesApart → AnswersAgree
answers_agree apart words given s t a b (bad_words p) (bad_words q) = (refl, refl)
answers_agree apart words given s t a b (bad_words p) (too_long f many) = absurd (p f.0 f.1)
answers_agree apart words given s t a b (bad_words p) (no_game f few n is) = absurd (p f.0 f.1)
answers_agree apart words given s t a b (bad_words p) (reported f few none all told) = absurd (p f.0 f.1)
answers_agree apart words given s t a b (too_long f many) y = one_report apart given words words s t a b f f (too_long f many) y
answers_agree apart words given s t a b (no_game f few n is) y = one_report apart given words words s t a b f f (no_game f few n is) y
answers_agree apart words given s t a b (reported f few none all told) y = one_report apart given words words s t a b f f (reported f few none all told) y
