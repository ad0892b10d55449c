-- How a run ends that writes an answer.
use Rattle.std.proofs.Common.{◌≡◌, ◌≢◌, ℕ, List, Option, inl, inr, refl, sym, ◌∙◌, subst, ⊎_elim}
use Rattle.std.specs.Prelude.{◌⊎◌, IsTrue}
use Rattle.std.specs.Io.KnownBytes.{append_known}
use Rattle.arimaa_outside.specs.Writing.{EndsWith}
use Rattle.arimaa_outside.specs.declared.status.Status.{Status}
use Rattle.arimaa_outside.specs.declared.status.Status.TheVariants.{Done, Answered, Words, WriteFault, TooLong}
use Rattle.arimaa_archive.specs.Agreement.{AnswersAgree}
use Rattle.arimaa_archive.specs.Calls.{Answers, IsAnswer, IsInput, Tells, may_come}
use Rattle.arimaa_archive.specs.Words.{AreInForm, AreMisformed}

-- what is known of the status of an answer: it is one that is written, and bad words are told by the words alone
pub record IsWritten (words : List (List ℕ)) (status : Status) : Type 0 where
  pub comes : IsTrue (may_come status)
  pub misformed : status ≡ Words → AreMisformed words
  pub worded : AreMisformed words → status ≡ Words

module _ (result s : Status) (before after : Option (List ℕ)) (text : List ℕ)
    (ends : EndsWith result before after s text) where
  ended : result ≢ WriteFault → (result ≡ s) × (after ≡ append_known before text)
  ended never = ⊎_elim (λ e. e) (λ e. absurd (never e.0)) ends

  either : (result ≡ s) ⊎ (result ≡ WriteFault)
  either = ⊎_elim (λ e. inl e.0) (λ e. inr e.0) ends

  module _ (words : List (List ℕ)) (is : IsWritten words s) where
    module _ (given : Option (List ℕ)) (agree : AnswersAgree)
        (answer : (bytes : List ℕ) → IsInput words given bytes → IsAnswer words bytes s text) where
      tells : (t : Status) → t ≢ WriteFault → result ≡ t → Tells t words given before after
      tells t sound e = λ bytes input.
          let at = ended (λ f. sound (sym e ∙ f)) in
          (text, subst (λ (z : Status). IsAnswer words bytes z text) (sym at.0 ∙ e) (answer bytes input), at.1)

      pub written_answers : Answers words result given before after
      written_answers = record {
        answer = λ bytes input no_fault memory. (s, text, answer bytes input, ends);
        only = λ bytes input t other stands no_fault memory.
            let same = agree words bytes s t text other (answer bytes input) stands in
            subst (λ (x : List ℕ). EndsWith result before after t x) same.1
            (subst (λ (z : Status). EndsWith result before after z text) same.0 ends);
        done = λ e. tells Done (λ f. cc) e;
        answered = λ e. tells Answered (λ f. cc) e;
        bad_words = λ e. is.misformed (sym (ended (λ f. (let bad : Words ≡ WriteFault = sym e ∙ f in cc))).0 ∙ e);
        misworded = λ never. ⊎_elim (λ (f : result ≡ s). inl (f ∙ is.worded never)) (λ (f : result ≡ WriteFault). inr f) either;
        others = ⊎_elim (λ (f : result ≡ s). subst (λ (z : Status). IsTrue (may_come z)) (sym f) is.comes)
            (λ (f : result ≡ WriteFault). subst (λ (z : Status). IsTrue (may_come z)) (sym f) refl) either;
      }

-- the statuses that are written: for words that are not in form
pub words_written : (words : List (List ℕ)) → AreMisformed words → IsWritten words Words
words_written words never = record {
  comes = refl;
  misformed = λ e. never;
  worded = λ m. refl;
}

-- for an input that is too long
pub long_written : (words : List (List ℕ)) → AreInForm words → IsWritten words TooLong
long_written words form = record {
  comes = refl;
  misformed = λ e. cc;
  worded = λ m. absurd (m form.0 form.1);
}

done_written : (words : List (List ℕ)) → AreInForm words → IsWritten words Done
done_written words form = record {
  comes = refl;
  misformed = λ e. cc;
  worded = λ m. absurd (m form.0 form.1);
}

answered_written : (words : List (List ℕ)) → AreInForm words → IsWritten words Answered
answered_written words form = record {
  comes = refl;
  misformed = λ e. cc;
  worded = λ m. absurd (m form.0 form.1);
}

-- and for what is answered about an archive
pub reply_written : (words : List (List ℕ)) (s : Status) → AreInForm words → (s ≡ Done) ⊎ (s ≡ Answered) → IsWritten words s
reply_written words s form which = ⊎_elim
    (λ (e : s ≡ Done). subst (λ (z : Status). IsWritten words z) (sym e) (done_written words form))
    (λ (e : s ≡ Answered). subst (λ (z : Status). IsWritten words z) (sym e) (answered_written words form)) which
