-- What is answered once the bytes of a line were gathered.
use Rattle.std.proofs.Common.{◌≡◌, ◌≤◌, ◌<◌, ℕ, Bool, true, false, List, [], ◌∷◌, ◌++◌, Option, None, Some, Ok, Err, length, arith, rules, refl, sym, ap, subst, ◌∙◌, append_assoc, length-append}
use Rattle.std.specs.Prelude.{◌↔◌, ◌==◌, IsErrOf, not}
use Rattle.std.specs.Io.KnownBytes.{IsAtEnd, prepend_known}
use Rattle.std.specs.Str.Lines.{strip_carriage_return}
use Rattle.std.proofs.lemmas.List.{append-nil, nil_from_length}
use borrow.Author.Tests.{eqb-true}
use Rattle.arimaa_outside.specs.declared.source.ReadAll.{ReadAll}
use Rattle.arimaa_outside.specs.declared.source.ReadAll.TheVariants.{TooLong}
use Rattle.arimaa_outside.specs.declared.source.TheConstants.{INPUT_LIMIT}
use Rattle.arimaa_record.specs.declared.line_reader.LineReader.{LineReader}
use Rattle.arimaa_record.specs.Lines.{lines_of}
use Rattle.arimaa_record.specs.LineReader.{Advances, Gathers, IsFirstLine, Takes, given_line, is_failure}
use Rattle.arimaa_record.proofs.Lemmas.LineLaws.{filled_by_test, no_lines, only_line}
use Rattle.arimaa_record.proofs.Lemmas.LineGathering.{fed_line}

-- a first line, whatever the source has left once bytes came
first_of_known : (held came line rest : List ℕ) (left now : Option (List ℕ)) → left ≡ prepend_known came now
    → ((later : List ℕ) → now ≡ Some later → lines_of (held ++ (came ++ later)) ≡ line ∷ lines_of (rest ++ later))
    → IsFirstLine (prepend_known held left) line (prepend_known rest now)
first_of_known held came line rest left None told first = rw told tt
first_of_known held came line rest left (Some later) told first = rw told (first later refl)

-- nothing is to come, whatever the source has left once bytes came
end_of_known : (held came : List ℕ) (left now : Option (List ℕ)) → left ≡ prepend_known came now → held ++ came ≡ [] → IsAtEnd now → IsAtEnd (prepend_known held left)
end_of_known held came left None told none end = rw told tt
end_of_known held came left (Some later) told none end = rw told (ap (λ x. held ++ (came ++ x)) end ∙ (ap (λ x. held ++ x) (append-nil came) ∙ none))

nothing_held : (held : List ℕ) (now : Option (List ℕ)) → held ≡ [] → IsAtEnd now → IsAtEnd (prepend_known held now)
nothing_held held None none end = tt
nothing_held held (Some later) none end = ap (λ x. held ++ x) end ∙ (append-nil held ∙ none)

-- the line and its line feed are gone, or the line alone
takes_line : (before after : LineReader) (left now : Option (List ℕ)) (ended : Bool) → Gathers before after left now ended → Takes before after left now
takes_line before after left now true g = record {
  came = g.came;
  gone = after.line.items;
  told = g.told;
  kept = g.kept ∙ ap (λ x. after.line.items ++ x) (sym (g.end refl).0);
  counted = g.counted;
  room = g.room;
}
takes_line before after left now false g = record {
  came = g.came;
  gone = after.line.items ++ 10 ∷ [];
  told = g.told;
  kept = g.kept ∙ sym (append_assoc after.line.items (10 ∷ []) after.held);
  counted = g.counted;
  room = g.room;
}

-- what holds of every answer other than a fault or a refusal
pub record IsSound (after : LineReader) (ended : Bool) : Type 0 where
  pub flag : after.is_ended ≡ ended
  pub sound : after.has_failed ≡ false
  pub limit : after.taken ≤ INPUT_LIMIT

-- a line that a line feed ends
pub advances-fed : (before after : LineReader) (left now : Option (List ℕ)) → Gathers before after left now false → IsSound after false
    → Advances before after left now (Ok (Some (strip_carriage_return after.line.items)))
advances-fed before after left now g sound = record {
  takes = takes_line before after left now false g;
  line = record {
    first = first_of_known before.held g.came (strip_carriage_return after.line.items) after.held left now g.told
        (λ later is. ap lines_of (sym (append_assoc before.held g.came later) ∙ (ap (λ x. x ++ later) g.kept ∙ append_assoc after.line.items (10 ∷ after.held) later))
        ∙ fed_line after.line.items (after.held ++ later) g.no_feed);
    shorter =
        let size = ap length g.kept in
        omega (arith, g.counted, simp length-append at size);
  };
  none = λ other. absurd (cc);
  ended = λ flag. absurd (cc (sound.flag));
  too_long = (λ other. absurd (search (rules, other)), λ more. absurd (omega (arith, sound.limit)));
  failed = sound.sound;
}

-- a last line that no line feed ends
pub advances-last : (before after : LineReader) (left now : Option (List ℕ)) → Gathers before after left now true → IsSound after true → 0 < length after.line.items
    → Advances before after left now (Ok (Some (strip_carriage_return after.line.items)))
advances-last before after left now g sound some = record {
  takes = takes_line before after left now true g;
  line = record {
    first = first_of_known before.held g.came (strip_carriage_return after.line.items) after.held left now g.told
        (λ later is.
        let end : later ≡ [] = subst IsAtEnd is (g.end refl).1 in
        ap lines_of (ap (λ x. before.held ++ (g.came ++ x)) end ∙ (ap (λ x. before.held ++ x) (append-nil g.came) ∙ (g.kept ∙ append-nil after.line.items)))
        ∙ (only_line after.line.items some g.no_feed
        ∙ ap (λ x. strip_carriage_return after.line.items ∷ x) (sym (ap lines_of (ap (λ x. after.held ++ x) end ∙ (append-nil after.held ∙ (g.end refl).0)) ∙ no_lines))));
    shorter =
        let size = ap length g.kept in
        let none = ap length (g.end refl).0 in
        omega (arith, g.counted, simp length-append at size);
  };
  none = λ other. absurd (cc);
  ended = λ _. nothing_held after.held now (g.end refl).0 (g.end refl).1;
  too_long = (λ other. absurd (search (rules, other)), λ more. absurd (omega (arith, sound.limit)));
  failed = sound.sound;
}

-- no line
pub advances-none : (before after : LineReader) (left now : Option (List ℕ)) → Gathers before after left now true → IsSound after true → after.line.items ≡ []
    → Advances before after left now (Ok None)
advances-none before after left now g sound none = record {
  takes = takes_line before after left now true g;
  line = tt;
  none = λ _. (end_of_known before.held g.came left now g.told (g.kept ∙ (append-nil after.line.items ∙ none)) (g.end refl).1, sound.flag);
  ended = λ _. nothing_held after.held now (g.end refl).0 (g.end refl).1;
  too_long = (λ other. absurd (search (rules, other)), λ more. absurd (omega (arith, sound.limit)));
  failed = sound.sound;
}

-- a fault or a refusal
pub advances-err : (before after : LineReader) (left now : Option (List ℕ)) (error : ReadAll) → Takes before after left now → after.is_ended ≡ false
    → (IsErrOf {T = Option (List ℕ)} (Err error) TooLong ↔ (INPUT_LIMIT < after.taken)) → after.has_failed ≡ is_failure (Err error)
    → Advances before after left now (Err error)
advances-err before after left now error takes unended long failed = record {
  takes = takes;
  line = tt;
  none = λ other. absurd (cc);
  ended = λ flag. absurd (cc);
  too_long = long;
  failed = failed;
}

-- whether the input has ended plays no part in what was gathered
gathers-kept : (before mid : LineReader) (left now : Option (List ℕ)) (ended : Bool) → Gathers before mid left now ended → Gathers before (record mid { is_ended = ended }) left now ended
gathers-kept before mid left now ended g = record {
  came = g.came;
  told = g.told;
  kept = g.kept;
  counted = g.counted;
  room = g.room;
  no_feed = g.no_feed;
  end = g.end;
}

-- a line is in hand where the input has not ended
pub advances-open : (before mid : LineReader) (left now : Option (List ℕ)) (ended : Bool) → ended ≡ false → Gathers before mid left now ended → mid.has_failed ≡ false → mid.taken ≤ INPUT_LIMIT
    → Advances before (record mid { is_ended = ended }) left now (given_line mid.line.items (Ok (not ended)))
advances-open before mid left now true closed g sound limit = absurd (cc)
advances-open before mid left now false open_input g sound limit =
    advances-fed before (record mid { is_ended = false }) left now (gathers-kept before mid left now false g) (record { flag = refl; sound = sound; limit = limit })

-- where it has ended, a line is in hand unless that is empty
pub advances-closed : (before mid : LineReader) (left now : Option (List ℕ)) (ended empty : Bool) → ended ≡ true → empty ≡ (length mid.line.items == 0) → Gathers before mid left now ended → mid.has_failed ≡ false
    → mid.taken ≤ INPUT_LIMIT → Advances before (record mid { is_ended = ended }) left now (given_line mid.line.items (Ok (not empty)))
advances-closed before mid left now false empty open_input test g sound limit = absurd (cc)
advances-closed before mid left now true true closed test g sound limit =
    advances-none before (record mid { is_ended = true }) left now (gathers-kept before mid left now true g) (record { flag = refl; sound = sound; limit = limit })
    (nil_from_length mid.line.items (eqb-true (length mid.line.items) 0 (sym test)))
advances-closed before mid left now true false closed test g sound limit =
    advances-last before (record mid { is_ended = true }) left now (gathers-kept before mid left now true g) (record { flag = refl; sound = sound; limit = limit })
    (filled_by_test mid.line.items false test refl)
