use Rattle.std.proofs.Common.{◌≡◌, Bool, true, false, refl, sym, arith}
use Rattle.std.proofs.lemmas.List.Sums.{position_or_len_is}
use Rattle.arimaa_record.specs.Lines.{is_feed}
use Rattle.arimaa_archive.proofs.parts.line_len.Goals as goal

not_true : (b : Bool) → (b ≡ true → ⊥) → b ≡ false
not_true true never = absurd (never refl)
not_true false never = refl

pub returns-in-Some-clause-value : goal.returns-in-Some-clause-value
returns-in-Some-clause-value c =
    let found = c.in-Some.ensures in
    let less = found.0.high in
    sym (position_or_len_is is_feed c.args.bytes.now c.in-Some.place 0 (omega arith)
    (λ k below. not_true _ (found.0.before k (omega arith) below)) (λ _. found.1))

pub returns-in-None-clause-value : goal.returns-in-None-clause-value
returns-in-None-clause-value c =
    let never = c.in-None.ensures in
    sym (position_or_len_is is_feed c.args.bytes.now _ 0 (omega arith)
    (λ k below. not_true _ (never k (omega arith) (omega arith))) (λ more. absurd (omega arith)))
