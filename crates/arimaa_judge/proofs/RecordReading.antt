-- A record is judged as it is read.
use Rattle.std.proofs.Common.{◌≡◌, ◌≤◌, ◌<◌, ◌+◌, ℕ, Bool, true, false, List, [], ◌∷◌, ◌++◌, Option, None, Some, Ok, Err, length, refl, ap, subst, ◌∙◌, arith, append_assoc, length-append, ⊎_elim}
use Rattle.std.proofs.lemmas.Bool.{cases_lt}
use Rattle.std.specs.Prelude.{IfSome, IsErrOf, option_map}
use Rattle.std.specs.Io.KnownBytes.{IsAtEnd, prepend_known}
use Rattle.arimaa_outside.proofs.Lemmas.Content.{gave_both}
use Rattle.arimaa_outside.specs.declared.source.ReadAll.{ReadAll}
use Rattle.arimaa_outside.specs.declared.source.ReadAll.TheVariants.{Fault, TooLong, Memory}
use Rattle.arimaa_outside.specs.declared.source.TheConstants.{INPUT_LIMIT}
use Rattle.arimaa_record.specs.declared.line_reader.LineReader.{LineReader}
use Rattle.arimaa_record.specs.Lines.{lines_of}
use Rattle.arimaa_record.specs.LineReader.{Advances, IsFirstLine, IsNew, IsNext, Takes, to_come}
use Rattle.arimaa_record.proofs.Lemmas.LineLaws.{no_lines}
use Rattle.arimaa_record.proofs.Lemmas.LineGathering.{none_before}
use Rattle.arimaa_judge.specs.declared.judgement.Judged.{Judged}
use Rattle.arimaa_judge.specs.declared.progress.Progress.{Progress}
use Rattle.arimaa_judge.specs.Judgement.{IsJudged}
use Rattle.arimaa_judge.specs.Stop.{stop_of}
use Rattle.arimaa_judge.specs.declared.stop.JudgeStop.TheVariants as stop
use Rattle.arimaa_judge.specs.Progress.{IsAtBegin, LeadsOn, LeadsTo}

-- so many bytes were taken from a source
pub record Took (taken : ℕ) (left now : Option (List ℕ)) : Type 0 where
  pub all : List ℕ
  pub told : left ≡ prepend_known all now
  pub counted : taken ≡ length all

-- a call took some more
pub took-more : (before after : LineReader) (left mid now : Option (List ℕ)) → Took before.taken left mid → Takes before after mid now → Took after.taken left now
took-more before after left mid now t more = record {
  all = t.all ++ more.came;
  told = gave_both left mid now t.all more.came t.told more.told;
  counted = omega (arith, t.counted, more.counted, length-append t.all more.came);
}

-- so long is what was left, where that is told
pub took-long : (taken : ℕ) (left now : Option (List ℕ)) → Took taken left now → INPUT_LIMIT < taken → IfSome left (λ bytes. INPUT_LIMIT < length bytes)
took-long taken left None t more = rw t.told tt
took-long taken left (Some later) t more = rw t.told (omega (arith, t.counted, length-append t.all later))

-- a record has been read so far and its lines taken
pub record Reading (reader : LineReader) (progress : Progress) (left now : Option (List ℕ)) : Type 0 where
  pub took : Took reader.taken left now
  pub ended : reader.is_ended ≡ true → IsAtEnd (to_come reader now)
  pub leads : (later : List ℕ) (judged : Judged) → now ≡ Some later → LeadsTo progress (lines_of (reader.held ++ later)) judged → IsJudged (took.all ++ later) judged
  pub sound : reader.has_failed ≡ false
  pub limit : reader.taken ≤ INPUT_LIMIT
  pub bound : progress.number + length reader.held ≤ reader.taken

-- nothing has been read
pub reading-start : (reader : LineReader) (progress : Progress) (left : Option (List ℕ)) → IsNew reader → IsAtBegin progress → Reading reader progress left left
reading-start reader progress left new begin = record {
  took = record { all = []; told = none_before left; counted = new.taken };
  ended = λ flag. absurd (cc (new.open_input));
  leads = λ later judged known leads.
      rw (begin.broken, begin.state, begin.number, new.held) at leads;
  sound = new.sound;
  limit = omega (arith, new.taken);
  bound = omega (arith, new.taken, begin.number, ap length new.held);
}

-- before the end a call does what it does then
pub advances : (before after : LineReader) (mid now : Option (List ℕ)) (line : List ℕ) → IsNext before after mid now (Ok (Some line)) → Advances before after mid now (Ok (Some line))
advances before after mid now line next = by before.is_ended refl where
  by : (ended : Bool) → before.is_ended ≡ ended → Advances before after mid now (Ok (Some line))
  by true is = let other = (next.ended is).none in absurd (cc)
  by false is = next.open_input is

-- one more line
pub reading-more : (before after : LineReader) (progress longer : Progress) (left mid now : Option (List ℕ)) (line : List ℕ)
    → Reading before progress left mid → IsNext before after mid now (Ok (Some line)) → LeadsOn progress line longer → longer.number ≤ progress.number + 1
    → Reading after longer left now
unfolding took-more
reading-more before after progress longer left mid now line r next leads_on number =
    let a = advances before after mid now line next in
    let t = a.takes in
    record {
      took = took-more before after left mid now r.took t;
      ended = a.ended;
      leads = λ later judged known leads.
          let told : mid ≡ Some (t.came ++ later) = t.told ∙ ap (prepend_known t.came) known in
          let first : lines_of (before.held ++ (t.came ++ later)) ≡ line ∷ lines_of (after.held ++ later) =
          let F : Option (List ℕ) → Option (List ℕ) → Type 0 = λ m n. IsFirstLine (prepend_known before.held m) line (prepend_known after.held n) in
          subst (F (Some (t.came ++ later))) known (subst (λ m. F m now) told a.line.first) in
          rw append_assoc (r.leads (t.came ++ later) judged told (rw first (leads_on (lines_of (after.held ++ later)) judged leads)));
      sound = a.failed;
      limit = below_limit a;
      bound = omega (arith, r.bound, a.line.shorter, number);
    }
  where
    below_limit : Advances before after mid now (Ok (Some line)) → after.taken ≤ INPUT_LIMIT
    below_limit a = ⊎_elim (λ (more : INPUT_LIMIT < after.taken). let other = a.too_long.1 more in absurd (cc)) (λ within. within) (cases_lt INPUT_LIMIT after.taken)

-- at the end the judgement is that of all that was read
pub reading-judged : (reader : LineReader) (progress : Progress) (left now : Option (List ℕ)) (judged : Judged) → Reading reader progress left now → IsAtEnd (to_come reader now) → LeadsTo progress [] judged
    → IfSome left (λ bytes. IsJudged bytes judged)
reading-judged reader progress left None judged r end leads = rw r.took.told tt
reading-judged reader progress left (Some later) judged r end leads =
    let none : lines_of (reader.held ++ later) ≡ [] = ap lines_of end ∙ no_lines in
    rw r.took.told (r.leads later judged refl (rw none leads))

-- the second of two lists that are none together
second_none : (xs ys : List ℕ) → xs ++ ys ≡ [] → ys ≡ []
second_none [] ys none = none
second_none (x ∷ xs) ys none = absurd (cc)

-- what is left at the end
left_at_end : (taken : ℕ) (held : List ℕ) (left now : Option (List ℕ)) → Took taken left now → IsAtEnd (prepend_known held now) → now ≡ option_map (λ _. []) left
left_at_end taken held left None t end = rw t.told refl
left_at_end taken held left (Some later) t end = rw t.told (ap Some (second_none held later end))

-- so long is at most what was left, where that is told
within_at_end : (taken : ℕ) (held : List ℕ) (left now : Option (List ℕ)) → Took taken left now → IsAtEnd (prepend_known held now) → taken ≤ INPUT_LIMIT → IfSome left (λ bytes. length bytes ≤ INPUT_LIMIT)
within_at_end taken held left None t end limit = rw t.told tt
within_at_end taken held left (Some later) t end limit =
    let none = ap length (second_none held later end) in
    rw t.told (omega (arith, t.counted, length-append t.all later))

-- what holds once a call has given no line
pub record IsRead (reader : LineReader) (progress : Progress) (left now : Option (List ℕ)) : Type 0 where
  pub judged : (judged : Judged) → LeadsTo progress [] judged → IfSome left (λ bytes. IsJudged bytes judged)
  pub end : now ≡ option_map (λ _. []) left
  pub limit : IfSome left (λ bytes. length bytes ≤ INPUT_LIMIT)

pub reading-end : (before after : LineReader) (progress : Progress) (left mid now : Option (List ℕ)) → Reading before progress left mid → IsNext before after mid now (Ok None) → IsRead after progress left now
reading-end before after progress left mid now r next = by before.is_ended refl where
  within : Advances before after mid now (Ok None) → after.taken ≤ INPUT_LIMIT
  within a = ⊎_elim (λ (more : INPUT_LIMIT < after.taken). let other = a.too_long.1 more in absurd (cc)) (λ within. within) (cases_lt INPUT_LIMIT after.taken)

  by : (ended : Bool) → before.is_ended ≡ ended → IsRead after progress left now
  by true is =
      let stays = next.ended is in
      record {
        judged = λ judged leads. reading-judged before progress left mid judged r (r.ended is) leads;
        end = stays.source ∙ left_at_end before.taken before.held left mid r.took (r.ended is);
        limit = within_at_end before.taken before.held left mid r.took (r.ended is) r.limit;
      }
  by false is =
      let a = next.open_input is in
      let took = took-more before after left mid now r.took a.takes in
      let ended = a.ended (a.none refl).1 in
      record {
        judged = λ judged leads. reading-judged before progress left mid judged r (a.none refl).0 leads;
        end = left_at_end after.taken after.held left now took ended;
        limit = within_at_end after.taken after.held left now took ended (within a);
      }

-- a call has refused
pub took-stop : (before after : LineReader) (progress : Progress) (left mid now : Option (List ℕ)) (error : ReadAll) → Reading before progress left mid → IsNext before after mid now (Err error)
    → Took after.taken left now × (IsErrOf {T = Option (List ℕ)} (Err error) TooLong → IfSome left (λ bytes. INPUT_LIMIT < length bytes))
took-stop before after progress left mid now error r next = by before.is_ended refl where
  by : (ended : Bool) → before.is_ended ≡ ended → Took after.taken left now × (IsErrOf {T = Option (List ℕ)} (Err error) TooLong → IfSome left (λ bytes. INPUT_LIMIT < length bytes))
  by true is = let other = (next.ended is).none in absurd (cc)
  by false is =
      let a = next.open_input is in
      let took = took-more before after left mid now r.took a.takes in
      (took, λ long. took-long after.taken left now took (a.too_long.0 long))

-- what was taken once a call has given a line
pub took-line : (before after : LineReader) (progress : Progress) (left mid now : Option (List ℕ)) (line : List ℕ) → Reading before progress left mid → IsNext before after mid now (Ok (Some line)) → Took after.taken left now
took-line before after progress left mid now line r next = took-more before after left mid now r.took (advances before after mid now line next).takes

-- the one refusal of an input that is too long
pub long_stop : (error : ReadAll) → stop_of error ≡ stop.TooLong → error ≡ TooLong
long_stop Fault is = absurd (cc)
long_stop TooLong is = refl
long_stop Memory is = absurd (cc)
