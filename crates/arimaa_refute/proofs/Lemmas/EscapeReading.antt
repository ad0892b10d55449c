-- A text of escapes is read line by line.
use Rattle.std.proofs.Common.{◌≡◌, ℕ, ◌+◌, ◌≤◌, List, [], ◌∷◌, ◌++◌, length, map, take, get_or, ◌<◌, refl, sym, ◌∙◌, ap, subst, arith, inl, inr, Option, None, Some, Result, Ok, Err}
use Rattle.std.specs.Prelude.{◌⊎◌, IfOk}
use Rattle.std.specs.List.{AllByRecursion}
use Rattle.std.proofs.lemmas.List.{append-nil, take_more}
use Rattle.arimaa_board.specs.declared.piece.Color.{Color}
use Rattle.arimaa_board.specs.Piece.{other_color}
use Rattle.arimaa_record.specs.Lines.{lines_of}
use Rattle.arimaa_record.specs.Grammar.{IsBlankLine}
use Rattle.arimaa_record.proofs.Lemmas.FormLaws.{head_same, tail_same}
use Rattle.arimaa_record.proofs.Lemmas.PlainLaws.{all_more}
use Rattle.arimaa_forced.specs.declared.entry.Entry.{Entry}
use Rattle.arimaa_strategy.specs.Text.{AreLinesOf, IsStrategyText}
use Rattle.arimaa_strategy.specs.WrittenForm.{IsWritable}
use Rattle.arimaa_strategy.proofs.Lemmas.TextReading.{Midst as Passed, midst-start, midst-more, midst-end, same_strategy, said_entries}
use Rattle.arimaa_refute.specs.declared.escape.Escape.{Escape}
use Rattle.arimaa_refute.specs.declared.fault.EscapeFault.{EscapeFault}
use Rattle.arimaa_refute.specs.declared.fault.EscapeFault.TheVariants.{Text, Memory}
use Rattle.arimaa_refute.specs.Escapes.{entry_of}
use Rattle.arimaa_refute.specs.Checks.{IsFrom}
use Rattle.arimaa_refute.specs.Text.{HasDepth, IsEscapeText, IsGoodLine, IsEscapesText, IsFirstBadLine, IsEscapesReading, IsWritableEscape}

-- an entry as an escape, with its rank as the depth
abbrev escape_of : Entry → Escape
escape_of e = record { position = e.position; depth = e.rank; turn = e.turn }

-- the entries have the depths of escapes
abbrev DeepEntries : List Entry → Type 0
DeepEntries es = AllByRecursion (λ e. HasDepth (escape_of e)) es

deep-entries : (c : List Escape) → AllByRecursion HasDepth c → DeepEntries (map entry_of c)
deep-entries [] all = tt
deep-entries (e ∷ c) all = (all.0, deep-entries c all.1)

-- escapes are known by their entries
same-escapes : (c d : List Escape) → map entry_of c ≡ map entry_of d → c ≡ d
same-escapes c d e = sym (back c) ∙ (ap (λ (l : List Entry). map escape_of l) e ∙ back d) where
  back : (c : List Escape) → map escape_of (map entry_of c) ≡ c
  back [] = refl
  back (x ∷ c) = ap (λ l. x ∷ l) (back c)

pub map-more : (c : List Escape) (e : Escape) → map entry_of (c ++ e ∷ []) ≡ map entry_of c ++ entry_of e ∷ []
map-more [] e = refl
map-more (x ∷ c) e = ap (λ l. entry_of x ∷ l) (map-more c e)

module _ (a : Color) where
  -- lines that say entries with the depths of escapes are good
  good-lines : (lines : List (List ℕ)) (os : List (Option Entry)) → AreLinesOf (other_color a) lines os → DeepEntries (said_entries os) → AllByRecursion (IsGoodLine a) lines
  good-lines [] [] all deep = tt
  good-lines [] (o ∷ os) all deep = absurd all
  good-lines (l ∷ lines) [] all deep = absurd all
  good-lines (l ∷ lines) (None ∷ os) all deep = (inl all.0, good-lines lines os all.1 deep)
  good-lines (l ∷ lines) (Some e ∷ os) all deep = (inr (escape_of e, record { entry = all.0; depth = deep.0 }), good-lines lines os all.1 deep.1)

  -- these escapes have been read from so many lines, and this text is left
  pub record Midst (bytes text : List ℕ) (c : List Escape) (number : ℕ) : Type 0 where
    pub passed : Passed (other_color a) bytes text (map entry_of c) number
    pub depths : AllByRecursion HasDepth c

  -- no line has been read
  pub escapes-start : (bytes : List ℕ) (c : List Escape) → c ≡ [] → Midst bytes bytes c 0
  escapes-start bytes c none = record {
    passed = midst-start (other_color a) bytes (map entry_of c) (ap (λ (l : List Escape). map entry_of l) none);
    depths = subst (λ (l : List Escape). AllByRecursion HasDepth l) (sym none) tt;
  }

  -- one more escape
  pub escapes-more : (bytes text line rest : List ℕ) (c more : List Escape) (number : ℕ) (e : Escape) → Midst bytes text c number → lines_of text ≡ line ∷ lines_of rest → 1 + length rest ≤ length text
      → IsEscapeText line a e → more ≡ c ++ e ∷ [] → Midst bytes rest more (number + 1)
  escapes-more bytes text line rest c more number e h next shorter one is = record {
    passed = midst-more (other_color a) bytes text line rest (map entry_of c) (map entry_of more) number (Some (entry_of e)) h.passed next shorter one.entry (ap (λ (l : List Escape). map entry_of l) is ∙ map-more c e);
    depths = subst (λ (l : List Escape). AllByRecursion HasDepth l) (sym is) (all_more HasDepth c e h.depths one.depth);
  }

  -- one more line that says nothing
  pub escapes-blank : (bytes text line rest : List ℕ) (c : List Escape) (number : ℕ) → Midst bytes text c number → lines_of text ≡ line ∷ lines_of rest → 1 + length rest ≤ length text → IsBlankLine line → Midst bytes rest c (number + 1)
  escapes-blank bytes text line rest c number h next shorter one = record {
    passed = midst-more (other_color a) bytes text line rest (map entry_of c) (map entry_of c) number None h.passed next shorter one (sym (append-nil (map entry_of c)));
    depths = h.depths;
  }

  good-midst : (bytes text : List ℕ) (c : List Escape) (number : ℕ) (h : Midst bytes text c number) → AllByRecursion (IsGoodLine a) h.passed.passed
  good-midst bytes text c number h =
      good-lines h.passed.passed h.passed.said h.passed.good (subst (λ (l : List Entry). DeepEntries l) h.passed.entries (deep-entries c h.depths))

  -- a bad line
  pub escapes-bad : (bytes text line rest : List ℕ) (c : List Escape) (number : ℕ) → Midst bytes text c number → lines_of text ≡ line ∷ lines_of rest → (IsGoodLine a line → ⊥) → IsFirstBadLine a (lines_of bytes) (number + 1)
  escapes-bad bytes text line rest c number h next bad = record {
    before = h.passed.passed;
    line = line;
    after = lines_of rest;
    split = h.passed.lines ∙ ap (λ x. h.passed.passed ++ x) next;
    counted = ap (λ n. n + 1) h.passed.counted;
    good = good-midst bytes text c number h;
    bad = bad;
  }

  -- nothing is left
  pub escapes-end : (bytes text : List ℕ) (c : List Escape) (number : ℕ) → Midst bytes text c number → text ≡ [] → IsEscapesText bytes a c
  escapes-end bytes text c number h none = record { entries = midst-end (other_color a) bytes text (map entry_of c) number h.passed none; depths = h.depths }

  good-at : (before : List (List ℕ)) (line : List ℕ) (after : List (List ℕ)) → AllByRecursion (IsGoodLine a) (before ++ line ∷ after) → IsGoodLine a line
  good-at [] line after all = all.0
  good-at (l ∷ before) line after all = good-at before line after all.1

  text-no-bad : (bytes : List ℕ) (c : List Escape) (n : ℕ) → IsEscapesText bytes a c → IsFirstBadLine a (lines_of bytes) n → ⊥
  text-no-bad bytes c n x b =
      let all = good-lines (lines_of bytes) x.entries.said x.entries.lines (subst (λ (l : List Entry). DeepEntries l) x.entries.entries (deep-entries c x.depths)) in
      b.bad (good-at b.before b.line b.after (subst (λ l. AllByRecursion (IsGoodLine a) l) b.split all))

  -- one line is the first bad one
  first-apart : (xs ys : List (List ℕ)) (x y : List ℕ) (us vs : List (List ℕ)) → AllByRecursion (IsGoodLine a) xs → AllByRecursion (IsGoodLine a) ys → xs ++ x ∷ us ≡ ys ++ y ∷ vs
      → (IsGoodLine a x → ⊥) → (IsGoodLine a y → ⊥) → length xs ≡ length ys
  first-apart [] [] x y us vs g h e p q = refl
  first-apart [] (l ∷ ys) x y us vs g h e p q = absurd (p (subst (λ z. IsGoodLine a z) (sym (head_same e)) h.0))
  first-apart (l ∷ xs) [] x y us vs g h e p q = absurd (q (subst (λ z. IsGoodLine a z) (head_same e) g.0))
  first-apart (l ∷ xs) (m ∷ ys) x y us vs g h e p q = let rest = first-apart xs ys x y us vs g.1 h.1 (tail_same e) p q in omega (arith, rest)

  same-bad : (lines : List (List ℕ)) (n m : ℕ) → IsFirstBadLine a lines n → IsFirstBadLine a lines m → n ≡ m
  same-bad lines n m x y =
      let same = first-apart x.before y.before x.line y.line x.after y.after x.good y.good (sym x.split ∙ y.split) x.bad y.bad in
      omega (arith, same, x.counted, y.counted)

  same-text : (bytes : List ℕ) (c d : List Escape) → IsEscapesText bytes a c → IsEscapesText bytes a d → c ≡ d
  same-text bytes c d x y = same-escapes c d (same_strategy (other_color a) bytes (map entry_of c) (map entry_of d) x.entries y.entries)

  -- a text of escapes is read as them, or there was no memory
  pub escapes-read : (bytes : List ℕ) (r : Result (List Escape) EscapeFault) (c : List Escape) → IsEscapesReading bytes a r → IsEscapesText bytes a c → (r ≡ Ok c) ⊎ (r ≡ Err Memory)
  escapes-read bytes (Ok d) c x y = inl (ap Ok (same-text bytes d c x y))
  escapes-read bytes (Err (Text n)) c x y = absurd (text-no-bad bytes c n y x)
  escapes-read bytes (Err Memory) c x y = inr refl

  -- the first bad line is told, or there was no memory
  pub bad-read : (bytes : List ℕ) (r : Result (List Escape) EscapeFault) (n : ℕ) → IsEscapesReading bytes a r → IsFirstBadLine a (lines_of bytes) n → (r ≡ Err (Text n)) ⊎ (r ≡ Err Memory)
  bad-read bytes (Ok c) n x y = absurd (text-no-bad bytes c n x y)
  bad-read bytes (Err (Text m)) n x y = inl (let same = same-bad (lines_of bytes) m n x y in λ i. Err (Text (same i)))
  bad-read bytes (Err Memory) n x y = inr refl

  -- the defender is to move in each entry that lines say
  sides : (lines : List (List ℕ)) (os : List (Option Entry)) → AreLinesOf (other_color a) lines os → AllByRecursion (λ e. e.position.side ≡ other_color a) (said_entries os)
  sides [] [] all = tt
  sides [] (o ∷ os) all = absurd all
  sides (l ∷ lines) [] all = absurd all
  sides (l ∷ lines) (None ∷ os) all = sides lines os all.1
  sides (l ∷ lines) (Some e ∷ os) all = (all.0.side, sides lines os all.1)

  from-all : (c : List Escape) → AllByRecursion (λ e. e.position.side ≡ other_color a) (map entry_of c) → AllByRecursion HasDepth c → AllByRecursion (IsFrom a) c
  from-all [] side depth = tt
  from-all (e ∷ c) side depth = (record { side = side.0; depth = depth.0 }, from-all c side.1 depth.1)

  -- what is read is from the attacker
  pub read-from : (bytes : List ℕ) (r : Result (List Escape) EscapeFault) → IsEscapesReading bytes a r → IfOk r (λ c. AllByRecursion (IsFrom a) c)
  read-from bytes (Ok c) x = from-all c (subst (λ (l : List Entry). AllByRecursion (λ (e : Entry). e.position.side ≡ other_color a) l) (sym x.entries.entries) (sides (lines_of bytes) x.entries.said x.entries.lines)) x.depths
  read-from bytes (Err (Text n)) x = tt
  read-from bytes (Err Memory) x = tt

  -- what is written to be read back is a strategy's text that is read back
  writable-all : (c : List Escape) → AllByRecursion (IsWritableEscape a) c → AllByRecursion (IsWritable (other_color a)) (map entry_of c)
  writable-all [] all = tt
  writable-all (e ∷ c) all = (record { small = omega (arith, all.0.depth.small); side = all.0.side; fit = all.0.fit }, writable-all c all.1)

  depths-all : (c : List Escape) → AllByRecursion (IsWritableEscape a) c → AllByRecursion HasDepth c
  depths-all [] all = tt
  depths-all (e ∷ c) all = (all.0.depth, depths-all c all.1)

  pub escapes-back : (bytes : List ℕ) (c : List Escape) (s : List Entry) → s ≡ map entry_of c → ((b : Color) → AllByRecursion (IsWritable b) s → IsStrategyText bytes b s) → AllByRecursion (IsWritableEscape a) c → IsEscapesText bytes a c
  escapes-back bytes c s is back all =
      let text : (l : List Entry) → s ≡ l → AllByRecursion (IsWritable (other_color a)) l → IsStrategyText bytes (other_color a) l =
      λ l e w. subst (λ (x : List Entry). IsStrategyText bytes (other_color a) x) e (back (other_color a) (subst (λ (x : List Entry). AllByRecursion (IsWritable (other_color a)) x) (sym e) w)) in
      record { entries = text (map entry_of c) is (writable-all c all); depths = depths-all c all }

-- what holds of a result holds in a weaker form
pub ok-weaker : {X Y : Type 0} {P Q : X → Type 0} (r : Result X Y) → ((x : X) → P x → Q x) → IfOk r P → IfOk r Q
ok-weaker (Ok x) f h = f x h
ok-weaker (Err y) f h = h

-- one more escape is an entry
pub plan-more : (c : List Escape) (i : ℕ) (e : Escape) (old new : List Entry) → i < length c → e ≡ get_or c i e → old ≡ map entry_of (take i c) → new ≡ old ++ entry_of e ∷ [] → new ≡ map entry_of (take (i + 1) c)
plan-more c i e old new less is planned pushed =
    let here : take (i + 1) c ≡ take i c ++ e ∷ [] = take_more c i e less ∙ ap (λ x. take i c ++ x ∷ []) (sym is) in
    pushed ∙ (ap (λ l. l ++ entry_of e ∷ []) planned ∙ (sym (map-more (take i c) e) ∙ ap (λ (l : List Escape). map entry_of l) (sym here)))
