-- What is told of records, one after another.
use Rattle.std.proofs.Common.{◌≡◌, ℕ, List, [], ◌∷◌, ◌++◌, map, refl, sym, ◌∙◌, ap}
use Rattle.std.specs.List.{AllZip}
use Rattle.arimaa_record.specs.Laws.{LinesApart}
use Rattle.arimaa_judge.specs.RecordState.{before_lines}
use Rattle.arimaa_judge.proofs.Lemmas.JudgedLines.{one_judgement}
use Rattle.arimaa_archive.specs.declared.record_judgement.Told.{Told}
use Rattle.arimaa_archive.specs.RecordJudgements.{IsTold, told_of}

-- what holds of the values of the elements of a list holds of the list of these values
pub all_zip_map : {A B C : Type 0} (f : A → B) (R : B → C → Type 0) (xs : List A) (ys : List C)
    → AllZip (λ x y. R (f x) y) xs ys → AllZip R (map f xs) ys
all_zip_map f R [] [] all = tt
all_zip_map f R [] (y ∷ ys) all = all
all_zip_map f R (x ∷ xs) [] all = all
all_zip_map f R (x ∷ xs) (y ∷ ys) all = (all.0, all_zip_map f R xs ys all.1)

-- one thing is told of given lines
one_told : LinesApart → (lines : List (List ℕ)) (a b : Told) → IsTold lines a → IsTold lines b → a ≡ b
one_told apart lines a b p q =
    let same = one_judgement apart before_lines 1 lines p.judged q.judged p.judgement q.judgement in
    p.value ∙ (ap told_of same ∙ sym q.value)

-- so it is of records, one after another
pub all_told : LinesApart → (records : List (List (List ℕ))) (a b : List Told)
    → AllZip IsTold records a → AllZip IsTold records b → a ≡ b
all_told apart [] [] [] p q = refl
all_told apart [] [] (y ∷ ys) p q = absurd q
all_told apart [] (x ∷ xs) b p q = absurd p
all_told apart (r ∷ rs) [] b p q = absurd p
all_told apart (r ∷ rs) (x ∷ xs) [] p q = absurd q
all_told apart (r ∷ rs) (x ∷ xs) (y ∷ ys) p q =
    let first : x ≡ y = one_told apart r x y p.0 q.0 in
    let later : xs ≡ ys = all_told apart rs xs ys p.1 q.1 in
    λ i. first i ∷ later i
