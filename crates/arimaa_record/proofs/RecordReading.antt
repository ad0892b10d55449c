-- A record is read line by line.
use Rattle.std.proofs.Common.{◌≡◌, ℕ, ◌+◌, ◌≤◌, List, [], ◌∷◌, ◌++◌, length, refl, sym, ◌∙◌, ap, subst, arith, inl, inr, append_assoc, length-append, Result, Ok, Err}
use Rattle.std.specs.Prelude.{◌⊎◌}
use Rattle.std.proofs.lemmas.List.{append-nil}
use Rattle.arimaa_record.specs.declared.line.RecordLine.{RecordLine}
use Rattle.arimaa_record.specs.declared.fault.LineFault.{LineFault}
use Rattle.arimaa_record.specs.declared.fault.RecordFault.{RecordFault}
use Rattle.arimaa_record.specs.declared.fault.RecordFault.TheVariants.{Line, Memory}
use Rattle.arimaa_record.specs.Lines.{lines_of}
use Rattle.arimaa_record.specs.Grammar.{IsLineText, IsLineFault}
use Rattle.arimaa_record.specs.Record.{AreLines, IsFirstFault, IsRecordReading}
use Rattle.arimaa_record.proofs.Lemmas.FormLaws.{head_same, tail_same, one_reading}
use Rattle.arimaa_record.proofs.Lemmas.LineLaws.{no_lines}

-- these lines have been read, and this text is left
pub record Midst (bytes text : List ℕ) (ls : List RecordLine) (number : ℕ) : Type 0 where
  pub passed : List (List ℕ)
  pub lines : lines_of bytes ≡ passed ++ lines_of text
  pub said : AreLines passed ls
  pub counted : number ≡ length passed
  pub fits : number + length text ≤ length bytes

said_more : (texts : List (List ℕ)) (ls : List RecordLine) (text : List ℕ) (l : RecordLine) → AreLines texts ls → IsLineText text l → AreLines (texts ++ text ∷ []) (ls ++ l ∷ [])
said_more [] [] text l all one = (one, tt)
said_more [] (m ∷ ls) text l all one = absurd all
said_more (t ∷ ts) [] text l all one = absurd all
said_more (t ∷ ts) (m ∷ ls) text l all one = (all.0, said_more ts ls text l all.1 one)

-- one more line
pub midst-more : (bytes text line rest : List ℕ) (ls more : List RecordLine) (number : ℕ) (l : RecordLine) → Midst bytes text ls number → lines_of text ≡ line ∷ lines_of rest → 1 + length rest ≤ length text
    → IsLineText line l → more ≡ ls ++ l ∷ [] → Midst bytes rest more (number + 1)
midst-more bytes text line rest ls more number l h next shorter one is = record {
  passed = h.passed ++ line ∷ [];
  lines = h.lines ∙ (ap (λ x. h.passed ++ x) next ∙ sym (append_assoc h.passed (line ∷ []) (lines_of rest)));
  said = subst (AreLines (h.passed ++ line ∷ [])) (sym is) (said_more h.passed ls line l h.said one);
  counted = omega (arith, h.counted, length-append h.passed (line ∷ []));
  fits = omega (arith, h.fits);
}

-- a line with a fault
pub midst-fault : (bytes text line rest : List ℕ) (ls : List RecordLine) (number : ℕ) (f : LineFault) → Midst bytes text ls number → lines_of text ≡ line ∷ lines_of rest → IsLineFault line f
    → IsFirstFault (lines_of bytes) (number + 1) f
midst-fault bytes text line rest ls number f h next one = record {
  before = h.passed;
  text = line;
  after = lines_of rest;
  split = h.lines ∙ ap (λ x. h.passed ++ x) next;
  counted = ap (λ n. n + 1) h.counted;
  lines = ls;
  said = h.said;
  faulty = one;
}

-- nothing is left
pub midst-end : (bytes text : List ℕ) (ls : List RecordLine) (number : ℕ) → Midst bytes text ls number → text ≡ [] → AreLines (lines_of bytes) ls
midst-end bytes text ls number h none =
    let all : h.passed ≡ lines_of bytes = sym (h.lines ∙ (ap (λ x. h.passed ++ x) (ap lines_of none ∙ no_lines) ∙ append-nil h.passed)) in
    subst (λ x. AreLines x ls) all h.said

same_line : (text : List ℕ) (l m : RecordLine) → IsLineText text l → IsLineText text m → l ≡ m
same_line text l m a b = let e : ◌≡◌ {A = Result RecordLine LineFault} (Ok l) (Ok m) = one_reading text (Ok l) (Ok m) a b in cc

same_fault : (text : List ℕ) (f g : LineFault) → IsLineFault text f → IsLineFault text g → f ≡ g
same_fault text f g a b = let e : ◌≡◌ {A = Result RecordLine LineFault} (Err f) (Err g) = one_reading text (Err f) (Err g) a b in cc

no_fault : (text : List ℕ) (l : RecordLine) (f : LineFault) → IsLineText text l → IsLineFault text f → ⊥
no_fault text l f a b = let e : ◌≡◌ {A = Result RecordLine LineFault} (Ok l) (Err f) = one_reading text (Ok l) (Err f) a b in cc

-- texts say one list of lines
pub same_lines : (texts : List (List ℕ)) (ls ms : List RecordLine) → AreLines texts ls → AreLines texts ms → ls ≡ ms
same_lines [] [] [] a b = refl
same_lines [] [] (m ∷ ms) a b = absurd b
same_lines [] (l ∷ ls) ms a b = absurd a
same_lines (t ∷ ts) [] ms a b = absurd a
same_lines (t ∷ ts) (l ∷ ls) [] a b = absurd b
same_lines (t ∷ ts) (l ∷ ls) (m ∷ ms) a b =
    let first : l ≡ m = same_line t l m a.0 b.0 in
    let rest : ls ≡ ms = same_lines ts ls ms a.1 b.1 in
    λ i. first i ∷ rest i

-- where all texts say lines, none has a fault
all_said : (before : List (List ℕ)) (text : List ℕ) (after : List (List ℕ)) (ls : List RecordLine) (f : LineFault) → AreLines (before ++ text ∷ after) ls → IsLineFault text f → ⊥
all_said [] text after [] f a b = a
all_said [] text after (l ∷ ls) f a b = no_fault text l f a.0 b
all_said (t ∷ ts) text after [] f a b = a
all_said (t ∷ ts) text after (l ∷ ls) f a b = all_said ts text after ls f a.1 b

lines_no_fault : (texts : List (List ℕ)) (ls : List RecordLine) (n : ℕ) (f : LineFault) → AreLines texts ls → IsFirstFault texts n f → ⊥
lines_no_fault texts ls n f a b = all_said b.before b.text b.after ls f (subst (λ x. AreLines x ls) b.split a) b.faulty

-- one text has the first fault
first_apart : (xs ys : List (List ℕ)) (ls ms : List RecordLine) (x y : List ℕ) (us vs : List (List ℕ)) (f g : LineFault) → AreLines xs ls → AreLines ys ms → xs ++ x ∷ us ≡ ys ++ y ∷ vs
    → IsLineFault x f → IsLineFault y g → (length xs ≡ length ys) × (f ≡ g)
first_apart [] [] ls ms x y us vs f g a b e p q = (refl, same_fault y f g (subst (λ z. IsLineFault z f) (head_same e) p) q)
first_apart [] (t ∷ ys) ls [] x y us vs f g a b e p q = absurd b
first_apart [] (t ∷ ys) ls (m ∷ ms) x y us vs f g a b e p q = absurd (no_fault t m f b.0 (subst (λ z. IsLineFault z f) (head_same e) p))
first_apart (t ∷ xs) [] [] ms x y us vs f g a b e p q = absurd a
first_apart (t ∷ xs) [] (l ∷ ls) ms x y us vs f g a b e p q = absurd (no_fault t l g a.0 (subst (λ z. IsLineFault z g) (sym (head_same e)) q))
first_apart (t ∷ xs) (s ∷ ys) [] ms x y us vs f g a b e p q = absurd a
first_apart (t ∷ xs) (s ∷ ys) (l ∷ ls) [] x y us vs f g a b e p q = absurd b
first_apart (t ∷ xs) (s ∷ ys) (l ∷ ls) (m ∷ ms) x y us vs f g a b e p q =
    let rest = first_apart xs ys ls ms x y us vs f g a.1 b.1 (tail_same e) p q in
    (omega (arith, rest.0), rest.1)

same_first_fault : (texts : List (List ℕ)) (n m : ℕ) (f g : LineFault) → IsFirstFault texts n f → IsFirstFault texts m g → (n ≡ m) × (f ≡ g)
same_first_fault texts n m f g a b =
    let same = first_apart a.before b.before a.lines b.lines a.text b.text a.after b.after f g a.said b.said (sym a.split ∙ b.split) a.faulty b.faulty in
    (omega (arith, same.0, a.counted, b.counted), same.1)

-- where texts say lines, they are read so, or there was no memory
pub lines_read : (texts : List (List ℕ)) (r : Result (List RecordLine) RecordFault) (ls : List RecordLine) → IsRecordReading texts r → AreLines texts ls → (r ≡ Ok ls) ⊎ (r ≡ Err Memory)
lines_read texts (Ok ms) ls a b = inl (ap Ok (same_lines texts ms ls a b))
lines_read texts (Err (Line n f)) ls a b = absurd (lines_no_fault texts ls n f b a)
lines_read texts (Err Memory) ls a b = inr refl

-- where a text has the first fault, it is told, or there was no memory
pub fault_read : (texts : List (List ℕ)) (r : Result (List RecordLine) RecordFault) (n : ℕ) (f : LineFault) → IsRecordReading texts r → IsFirstFault texts n f → (r ≡ Err (Line n f)) ⊎ (r ≡ Err Memory)
fault_read texts (Ok ms) n f a b = absurd (lines_no_fault texts ms n f a b)
fault_read texts (Err (Line m g)) n f a b = inl (let same = same_first_fault texts m n g f a b in λ i. Err (Line (same.0 i) (same.1 i)))
fault_read texts (Err Memory) n f a b = inr refl
