-- The texts of records, block by block.
use Rattle.std.proofs.Common.{◌≡◌, ℕ, zero, suc, ◌+◌, ◌*◌, ◌/◌, ◌%◌, ◌<◌, ◌≤◌, ◌++◌, min, List, [], ◌∷◌, length, take, drop, refl, sym, ◌∙◌, ap, arith, append_assoc, drop-drop, ⊎_elim}
use Rattle.std.proofs.lemmas.Bool.{cases_lt}
use Rattle.std.proofs.lemmas.List.{append-nil, drop_all}
use Rattle.std.proofs.lemmas.Nat.{div-add-mod', mod_below}
use native.Mathlib.Nat.{add-mul, one-mul}
use Rattle.arimaa_archive.specs.declared.record_judgement.Told.{Told}
use Rattle.arimaa_archive.specs.Report.{text_of_record, text_of_records}

-- the texts of the first records, and then those of the others
pub text_of_blocks : (first size : ℕ) (all : List Told)
    → text_of_records first (take size all) ++ text_of_records (first + size) (drop size all)
    ≡ text_of_records first all
text_of_blocks first zero all = ap (λ n. text_of_records n all) (omega arith)
text_of_blocks first (suc size) [] = refl
text_of_blocks first (suc size) (told ∷ later) =
    let number : first + suc size ≡ first + 1 + size = omega arith in
    append_assoc (text_of_record first told) (text_of_records (first + 1) (take size later))
    (text_of_records (first + suc size) (drop size later))
    ∙ (ap (λ n. text_of_record first told
    ++ (text_of_records (first + 1) (take size later) ++ text_of_records n (drop size later)))
    number
    ∙ ap (λ x. text_of_record first told ++ x) (text_of_blocks (first + 1) size later))

-- the text of the blocks so far, with one more
pub one_block_more : (n size : ℕ) (all : List Told) (text block : List ℕ)
    → text ++ text_of_records (n * size + 1) (drop (n * size) all) ≡ text_of_records 1 all
    → block ≡ text_of_records (n * size + 1) (take size (drop (n * size) all))
    → (text ++ block) ++ text_of_records ((n + 1) * size + 1) (drop ((n + 1) * size) all)
    ≡ text_of_records 1 all
one_block_more n size all text block so_far is =
    let next : (n + 1) * size ≡ n * size + size = omega arith in
    let number : n * size + 1 + size ≡ (n + 1) * size + 1 = omega arith in
    let left : drop size (drop (n * size) all) ≡ drop ((n + 1) * size) all =
    drop-drop size (n * size) all ∙ ap (λ k. drop k all) (sym next) in
    let both : block ++ text_of_records ((n + 1) * size + 1) (drop ((n + 1) * size) all)
    ≡ text_of_records (n * size + 1) (drop (n * size) all) =
    ap (λ x. x ++ text_of_records ((n + 1) * size + 1) (drop ((n + 1) * size) all)) is
    ∙ (ap (λ x. text_of_records (n * size + 1) (take size (drop (n * size) all)) ++ x)
    (sym (ap (λ k. text_of_records k (drop size (drop (n * size) all))) number
    ∙ ap (text_of_records ((n + 1) * size + 1)) left))
    ∙ text_of_blocks (n * size + 1) size (drop (n * size) all)) in
    append_assoc text block (text_of_records ((n + 1) * size + 1) (drop ((n + 1) * size) all))
    ∙ (ap (λ x. text ++ x) both ∙ so_far)

-- so many blocks hold all records
blocks_cover : (count len size : ℕ) → 0 < size → count ≡ len / size + min 1 (len % size)
    → len ≤ count * size
blocks_cover count len size some is =
    let all : len / size * size + len % size ≡ len = div-add-mod' len size in
    let below : len % size < size = mod_below len size some in
    ⊎_elim
    (λ (rest : 0 < len % size).
    let one_more : count ≡ len / size + 1 = omega arith in
    let wide : count * size ≡ len / size * size + 1 * size =
    ap (λ n. n * size) one_more ∙ add-mul (len / size) 1 size in
    omega (arith, one-mul size))
    (λ none.
    let whole : count ≡ len / size = omega arith in
    let wide : count * size ≡ len / size * size = ap (λ n. n * size) whole in
    omega arith)
    (cases_lt 0 (len % size))

-- no record is left after the last block
pub all_blocks : (n size : ℕ) (all : List Told) (text : List ℕ)
    → text ++ text_of_records (n * size + 1) (drop (n * size) all) ≡ text_of_records 1 all
    → 0 < size → n ≡ length all / size + min 1 (length all % size)
    → text ≡ text_of_records 1 all
all_blocks n size all text so_far some count =
    let none : drop (n * size) all ≡ [] =
    drop_all (n * size) all (blocks_cover n (length all) size some count) in
    sym (append-nil text) ∙ (ap (λ x. text ++ text_of_records (n * size + 1) x) (sym none) ∙ so_far)
