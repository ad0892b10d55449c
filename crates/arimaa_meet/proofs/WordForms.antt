-- Words by their first one, and how a run ends that writes an answer.
use Rattle.std.proofs.Common.{◌≡◌, ◌-◌, ℕ, suc, List, [], ◌∷◌, length, drop, slice_get, Option, Some, inl, inr, refl, sym, ◌∙◌, ap, subst, arith, ⊎_elim}
use Rattle.std.specs.Prelude.{◌⊎◌}
use Rattle.arimaa_outside.specs.declared.status.Status.{Status}
use Rattle.arimaa_outside.specs.declared.status.Status.TheVariants.{Done, Memory, WriteFault}
use Rattle.arimaa_time.specs.Fields.{IsControl}
use Rattle.arimaa_time.proofs.Lemmas.Controls.{read_laws}
use Rattle.arimaa_meet.specs.declared.words.Asked.{Asked}
use Rattle.arimaa_meet.specs.Words.{AreProgramsFrom, AsksForMeet}
use Rattle.arimaa_outside.specs.Writing.{EndsWith}
use Rattle.arimaa_record.proofs.Lemmas.FormLaws.{head_same, tail_same}

-- the first word, and then the others
pub first_word : (words : List (List ℕ)) (text : List ℕ) → Some text ≡ slice_get words 0
    → words ≡ text ∷ drop 1 words
first_word [] text is = cc
first_word (word ∷ later) text is = cc

-- the words after the first one
pub later_count : (words : List (List ℕ)) (text : List ℕ) → Some text ≡ slice_get words 0
    → length (drop 1 words) ≡ length words - 1
later_count [] text is = cc
later_count (word ∷ later) text is = omega arith

pub later_programs : (words : List (List ℕ)) → AreProgramsFrom 1 words → AreProgramsFrom 0 (drop 1 words)
later_programs [] all k d low within = absurd (omega arith)
later_programs (word ∷ later) all k d low within = all (suc k) d (omega arith) (omega arith)

-- the words ask for one meet
pub one_asked : (words : List (List ℕ)) (a b : Asked) → AsksForMeet words a → AsksForMeet words b → a ≡ b
one_asked words a b p q =
    let forms : p.text ∷ p.programs ≡ q.text ∷ q.programs = sym p.form ∙ q.form in
    let texts : p.text ≡ q.text = head_same forms in
    let others : p.programs ≡ q.programs = tail_same forms in
    let laws = read_laws p.text _ refl in
    let both = sym (laws.only a.control p.control) ∙ laws.only b.control (subst (λ (t : List ℕ). IsControl t b.control) (sym texts) q.control) in
    let controls : a.control ≡ b.control = cc in
    let counts : a.programs ≡ b.programs = sym p.count ∙ (ap (λ (l : List (List ℕ)). length l) others ∙ q.count) in
    λ i. record { control = controls i; programs = counts i }

-- a text that was written has this status, or that of a failed write
pub ended_done : (result : Status) (before after : Option (List ℕ)) (text : List ℕ)
    → EndsWith result before after Done text → (result ≡ Done) ⊎ (result ≡ WriteFault)
ended_done result before after text ends = ⊎_elim (λ p. inl p.0) (λ p. inr p.0) ends

pub never_memory : (result : Status) → (result ≡ Done) ⊎ (result ≡ WriteFault) → result ≡ Memory → ⊥
never_memory result (inl e) m = (let bad : Done ≡ Memory = sym e ∙ m in cc)
never_memory result (inr e) m = (let bad : WriteFault ≡ Memory = sym e ∙ m in cc)

pub among : (result : Status) → (result ≡ Done) ⊎ (result ≡ WriteFault)
    → (result ≡ Done) ⊎ ((result ≡ WriteFault) ⊎ (result ≡ Memory))
among result (inl e) = inl e
among result (inr e) = inr (inl e)
