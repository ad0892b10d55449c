-- How words are read: as one list. And what holds where memory runs out before that.
use Rattle.std.proofs.Common.{◌≡◌, ℕ, List, [], Option, None, Some, inl, inr, refl, sym, ◌∙◌, ap, subst, ⊎_elim}
use Rattle.std.specs.Prelude.{IfNone, IfOk, IfSome, Result, Ok, Err, alloc_error, unwrap_or}
use Rattle.std.specs.declared.alloc.AllocError.{AllocError}
use Rattle.arimaa_outside.specs.ToldLines.{told_before}
use Rattle.arimaa_outside.proofs.Lemmas.ToldLaws.{told_nothing}
use Rattle.arimaa_outside.specs.Counts.{Counts}
use Rattle.arimaa_outside.specs.declared.port_answer.PortAnswer.{PortAnswer}
use Rattle.arimaa_outside.specs.declared.port_fault.PortFault.TheVariants as port
use Rattle.arimaa_outside.specs.declared.status.Status.TheVariants.{Memory}
use Rattle.arimaa_cli.specs.declared.play.Pairing.{Pairing}
use Rattle.arimaa_match.specs.Programs.{Spawned}
use Rattle.arimaa_cli.specs.declared.commands.Call.{Call}
use Rattle.arimaa_cli.specs.declared.commands.Command.{Command}
use Rattle.arimaa_cli.specs.Commands.{AreWords}
use Rattle.arimaa_cli.specs.Calls.{Answers, Inputs}
use Rattle.arimaa_cli.specs.OtherWords.{AreMatched, rows_for, values_of}
use Rattle.arimaa_cli.specs.Play.{AsksNoMatch, Played}
use Rattle.arimaa_cli.specs.Reading.{AreReadAs, AsRead}
use Rattle.arimaa_cli.specs.Reading.AreReadAs.{matched, plain, refused}

one_matched : (words a b : List (List ℕ)) → AreMatched words a → AreMatched words b → a ≡ b
one_matched words a b p q =
    let names : Some p.name ≡ Some q.name = sym p.named ∙ q.named in
    let name : p.name ≡ q.name = cc in
    p.found ∙ ap (λ (n : List ℕ). values_of n (rows_for words)) name ∙ sym q.found

-- words are read as one list
one_reading : (words a b : List (List ℕ)) → AreReadAs words a → AreReadAs words b → a ≡ b
one_reading words a b (plain p) (plain q) = refl
one_reading words a b (plain p) (matched never list q) = absurd (never p)
one_reading words a b (plain p) (refused never none) = absurd (never p)
one_reading words a b (matched never list p) (plain q) = absurd (never q)
one_reading words a b (matched never list p) (matched neither other q) = one_matched words list other p q
one_reading words a b (matched never list p) (refused neither none) = absurd (none list p)
one_reading words a b (refused never none) (plain q) = absurd (never q)
one_reading words a b (refused never none) (matched neither list q) = absurd (none list q)
one_reading words a b (refused never none) (refused neither nothing) = refl

-- words in no plain form are read as clap reads them
pub read_other : (words : List (List ℕ)) → ((c : Command) → AreWords words c → ⊥) → AsksNoMatch words → (r : Result (Option (List (List ℕ))) AllocError)
    → IfOk r (λ found. IfSome found (AreMatched words)) → IfOk r (λ found. IfNone found ((list : List (List ℕ)) → AreMatched words list → ⊥))
    → IfOk r (λ found. AreReadAs words (unwrap_or found words))
read_other words never neither (Err e) some none = tt
read_other words never neither (Ok (Some list)) some none = matched (⊎_elim (λ p. never p.0 p.1) (λ p. neither p.0 p.1)) list some
read_other words never neither (Ok None) some none = refused (⊎_elim (λ p. never p.0 p.1) (λ p. neither p.0 p.1)) none

-- what holds of the list that the words were read as
pub on_reading : (Holds : List (List ℕ) → Type 0) (words list given : List (List ℕ)) → AreReadAs words list → given ≡ list → Holds given → AsRead words Holds
on_reading Holds words list given is same holds read are = subst Holds (same ∙ one_reading words list read is are) holds

-- ---- no memory was left

pub no_answer : (call : Call) (words : List (List ℕ)) (given before : Option (List ℕ)) → Answers call words Memory given before before
no_answer call words given before = record {
  answer = λ bytes input fault memory. absurd (memory refl);
  only = λ bytes input found is fault memory. absurd (memory refl);
  done = λ e. (let never : ⊥ = cc in absurd never);
  answered = λ e. (let never : ⊥ = cc in absurd never);
  spent = λ e. (let never : ⊥ = cc in absurd never);
  crowded = λ e. (let never : ⊥ = cc in absurd never);
  complete = λ bytes input can. (λ e. cc, λ e. cc);
  checked = λ bytes input can e. cc;
  refuted = λ bytes input can. (λ e. cc, λ e. cc);
  verified = λ bytes input can e. cc;
  bad_words = λ e. (let never : ⊥ = cc in absurd never);
  misworded = λ never. inr (inr refl);
  others = λ e. cc;
}

pub nothing_read : (call : Call) (words : List (List ℕ)) (given : Option (List ℕ)) (faults : ℕ) → Inputs call words Memory given given faults faults
nothing_read call words given faults = record {
  read_fault = λ e. (let never : ⊥ = cc in absurd never);
  unfailed = λ n. refl;
  too_long = λ e. (let never : ⊥ = cc in absurd never);
  whole = λ reads good. absurd good;
}

told_same : {X : Type 0} (told : Option (List X)) → told ≡ told_before [] told
told_same None = refl
told_same (Some left) = refl

-- a match for which no memory was left before it began
pub unplayed : {L : Type 0} (sent : L → Option (List (List ℕ))) (answers : L → Option (List PortAnswer)) (counts : L → Counts) (asked : Pairing)
    (s : Spawned L) (c : Counts) (moments before : Option (List ℕ)) → Played sent answers counts asked Memory s s c c moments moments before before
unplayed sent answers counts asked s c moments before = record {
  outcome = Err alloc_error;
  went = inl (
    refl,
    inl (record {
      refusal = port.Memory;
      hands = record { waiting = told_same s.waiting; back = told_nothing s.back; answers = told_nothing s.answers };
      outcome = refl;
    }),
  );
  told = (refl, refl);
  lawful = tt;
  engine_fault = λ e. (let never : ⊥ = cc in absurd never);
  others = inr (inr (inr refl));
}
