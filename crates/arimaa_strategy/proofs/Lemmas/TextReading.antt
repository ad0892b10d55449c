-- A text of a strategy is read line by line.
use Rattle.std.proofs.Common.{◌≡◌, ℕ, ◌+◌, ◌≤◌, List, [], ◌∷◌, ◌++◌, length, refl, sym, ◌∙◌, ap, subst, arith, inl, inr, append_assoc, length-append, Option, None, Some, Result, Ok, Err}
use Rattle.std.specs.Prelude.{◌⊎◌}
use Rattle.std.specs.List.{filter_map}
use Rattle.std.specs.Option.{option_to_list}
use Rattle.std.proofs.lemmas.List.{append-nil}
use Rattle.arimaa_board.specs.declared.piece.Color.{Color}
use Rattle.arimaa_record.specs.Lines.{lines_of}
use Rattle.arimaa_record.proofs.Lemmas.FormLaws.{head_same, tail_same}
use Rattle.arimaa_record.proofs.Lemmas.LineLaws.{no_lines}
use Rattle.arimaa_forced.specs.declared.entry.Entry.{Entry}
use Rattle.arimaa_strategy.specs.declared.fault.StrategyFault.{StrategyFault}
use Rattle.arimaa_strategy.specs.declared.fault.StrategyFault.TheVariants.{Text, Memory}
use Rattle.arimaa_strategy.specs.Text.{IsLineOf, AreLinesOf, IsStrategyText, IsFirstBadLine, IsStrategyReading}
use Rattle.arimaa_strategy.proofs.Lemmas.EntryLines.{same_line}

-- the entries that lines say
abbrev pub said_entries : List (Option Entry) → List Entry
said_entries os = filter_map (λ o. o) os

-- these entries have been read from so many lines, and this text is left
pub record Midst (a : Color) (bytes text : List ℕ) (es : List Entry) (number : ℕ) : Type 0 where
  pub passed : List (List ℕ)
  pub lines : lines_of bytes ≡ passed ++ lines_of text
  pub said : List (Option Entry)
  pub good : AreLinesOf a passed said
  pub entries : es ≡ said_entries said
  pub counted : number ≡ length passed
  pub fits : number + length text ≤ length bytes

said_more : (os : List (Option Entry)) (o : Option Entry) → said_entries (os ++ o ∷ []) ≡ said_entries os ++ option_to_list o
said_more [] None = refl
said_more [] (Some e) = refl
said_more (None ∷ os) o = said_more os o
said_more (Some d ∷ os) o = ap (λ l. d ∷ l) (said_more os o)

module _ (a : Color) where
  good_more : (lines : List (List ℕ)) (os : List (Option Entry)) (line : List ℕ) (o : Option Entry) → AreLinesOf a lines os → IsLineOf a line o → AreLinesOf a (lines ++ line ∷ []) (os ++ o ∷ [])
  good_more [] [] line o all one = (one, tt)
  good_more [] (p ∷ os) line o all one = absurd all
  good_more (l ∷ lines) [] line o all one = absurd all
  good_more (l ∷ lines) (p ∷ os) line o all one = (all.0, good_more lines os line o all.1 one)

  -- no line has been read
  pub midst-start : (bytes : List ℕ) (es : List Entry) → es ≡ [] → Midst a bytes bytes es 0
  midst-start bytes es none = record { passed = []; lines = refl; said = []; good = tt; entries = none; counted = refl; fits = omega arith }

  -- one more line
  pub midst-more : (bytes text line rest : List ℕ) (es more : List Entry) (number : ℕ) (o : Option Entry) → Midst a bytes text es number → lines_of text ≡ line ∷ lines_of rest → 1 + length rest ≤ length text
      → IsLineOf a line o → more ≡ es ++ option_to_list o → Midst a bytes rest more (number + 1)
  midst-more bytes text line rest es more number o h next shorter one is = record {
    passed = h.passed ++ line ∷ [];
    lines = h.lines ∙ (ap (λ x. h.passed ++ x) next ∙ sym (append_assoc h.passed (line ∷ []) (lines_of rest)));
    said = h.said ++ o ∷ [];
    good = good_more h.passed h.said line o h.good one;
    entries = is ∙ (ap (λ l. l ++ option_to_list o) h.entries ∙ sym (said_more h.said o));
    counted = omega (arith, h.counted, length-append h.passed (line ∷ []));
    fits = omega (arith, h.fits);
  }

  -- a bad line
  pub midst-bad : (bytes text line rest : List ℕ) (es : List Entry) (number : ℕ) → Midst a bytes text es number → lines_of text ≡ line ∷ lines_of rest → ((o : Option Entry) → IsLineOf a line o → ⊥)
      → IsFirstBadLine a (lines_of bytes) (number + 1)
  midst-bad bytes text line rest es number h next bad = record {
    before = h.passed;
    line = line;
    after = lines_of rest;
    split = h.lines ∙ ap (λ x. h.passed ++ x) next;
    counted = ap (λ n. n + 1) h.counted;
    said = h.said;
    good = h.good;
    bad = bad;
  }

  -- nothing is left
  pub midst-end : (bytes text : List ℕ) (es : List Entry) (number : ℕ) → Midst a bytes text es number → text ≡ [] → IsStrategyText bytes a es
  midst-end bytes text es number h none =
      let all : h.passed ≡ lines_of bytes = sym (h.lines ∙ (ap (λ x. h.passed ++ x) (ap lines_of none ∙ no_lines) ∙ append-nil h.passed)) in
      record { said = h.said; lines = subst (λ x. AreLinesOf a x h.said) all h.good; entries = h.entries }

  -- lines say one list of things
  same_said : (lines : List (List ℕ)) (os ps : List (Option Entry)) → AreLinesOf a lines os → AreLinesOf a lines ps → os ≡ ps
  same_said [] [] [] x y = refl
  same_said [] [] (p ∷ ps) x y = absurd y
  same_said [] (o ∷ os) ps x y = absurd x
  same_said (l ∷ lines) [] ps x y = absurd x
  same_said (l ∷ lines) (o ∷ os) [] x y = absurd y
  same_said (l ∷ lines) (o ∷ os) (p ∷ ps) x y =
      let first : o ≡ p = same_line a l o p x.0 y.0 in
      let rest : os ≡ ps = same_said lines os ps x.1 y.1 in
      λ i. first i ∷ rest i

  -- where all lines say something, none is bad
  all_said : (before : List (List ℕ)) (line : List ℕ) (after : List (List ℕ)) (os : List (Option Entry)) → AreLinesOf a (before ++ line ∷ after) os → ((o : Option Entry) → IsLineOf a line o → ⊥) → ⊥
  all_said [] line after [] x bad = x
  all_said [] line after (o ∷ os) x bad = bad o x.0
  all_said (l ∷ before) line after [] x bad = x
  all_said (l ∷ before) line after (o ∷ os) x bad = all_said before line after os x.1 bad

  text_no_bad : (bytes : List ℕ) (s : List Entry) (n : ℕ) → IsStrategyText bytes a s → IsFirstBadLine a (lines_of bytes) n → ⊥
  text_no_bad bytes s n x b = all_said b.before b.line b.after x.said (subst (λ l. AreLinesOf a l x.said) b.split x.lines) b.bad

  -- one line is the first bad one
  first_apart : (xs ys : List (List ℕ)) (os ps : List (Option Entry)) (x y : List ℕ) (us vs : List (List ℕ)) → AreLinesOf a xs os → AreLinesOf a ys ps → xs ++ x ∷ us ≡ ys ++ y ∷ vs
      → ((o : Option Entry) → IsLineOf a x o → ⊥) → ((o : Option Entry) → IsLineOf a y o → ⊥) → length xs ≡ length ys
  first_apart [] [] os ps x y us vs g h e p q = refl
  first_apart [] (l ∷ ys) os [] x y us vs g h e p q = absurd h
  first_apart [] (l ∷ ys) os (o ∷ ps) x y us vs g h e p q = absurd (p o (subst (λ z. IsLineOf a z o) (sym (head_same e)) h.0))
  first_apart (l ∷ xs) [] [] ps x y us vs g h e p q = absurd g
  first_apart (l ∷ xs) [] (o ∷ os) ps x y us vs g h e p q = absurd (q o (subst (λ z. IsLineOf a z o) (head_same e) g.0))
  first_apart (l ∷ xs) (m ∷ ys) [] ps x y us vs g h e p q = absurd g
  first_apart (l ∷ xs) (m ∷ ys) (o ∷ os) [] x y us vs g h e p q = absurd h
  first_apart (l ∷ xs) (m ∷ ys) (o ∷ os) (r ∷ ps) x y us vs g h e p q =
      let rest = first_apart xs ys os ps x y us vs g.1 h.1 (tail_same e) p q in
      omega (arith, rest)

  same_bad : (lines : List (List ℕ)) (n m : ℕ) → IsFirstBadLine a lines n → IsFirstBadLine a lines m → n ≡ m
  same_bad lines n m x y =
      let same = first_apart x.before y.before x.said y.said x.line y.line x.after y.after x.good y.good (sym x.split ∙ y.split) x.bad y.bad in
      omega (arith, same, x.counted, y.counted)

  -- a text is that of one strategy
  pub same_strategy : (bytes : List ℕ) (s t : List Entry) → IsStrategyText bytes a s → IsStrategyText bytes a t → s ≡ t
  same_strategy bytes s t x y = x.entries ∙ (ap said_entries (same_said (lines_of bytes) x.said y.said x.lines y.lines) ∙ sym y.entries)

  -- a strategy's text is read as it, or there was no memory
  pub entries_read : (bytes : List ℕ) (r : Result (List Entry) StrategyFault) (s : List Entry) → IsStrategyReading bytes a r → IsStrategyText bytes a s → (r ≡ Ok s) ⊎ (r ≡ Err Memory)
  entries_read bytes (Ok t) s x y = inl (ap Ok (same_strategy bytes t s x y))
  entries_read bytes (Err (Text n)) s x y = absurd (text_no_bad bytes s n y x)
  entries_read bytes (Err Memory) s x y = inr refl

  -- the first bad line is told, or there was no memory
  pub bad_read : (bytes : List ℕ) (r : Result (List Entry) StrategyFault) (n : ℕ) → IsStrategyReading bytes a r → IsFirstBadLine a (lines_of bytes) n → (r ≡ Err (Text n)) ⊎ (r ≡ Err Memory)
  bad_read bytes (Ok s) n x y = absurd (text_no_bad bytes s n x y)
  bad_read bytes (Err (Text m)) n x y = inl (let same = same_bad (lines_of bytes) m n x y in λ i. Err (Text (same i)))
  bad_read bytes (Err Memory) n x y = inr refl
