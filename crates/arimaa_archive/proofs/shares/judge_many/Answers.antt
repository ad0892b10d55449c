use Rattle.std.proofs.Common.{◌+◌, ◌%◌, ◌<◌, List, [], ◌∷◌, ◌++◌, get_or, take, refl, sym, ◌∙◌, subst, arith}
use Rattle.std.specs.List.{AllZip}
use Rattle.std.proofs.lemmas.List.{take_more}
use Rattle.arimaa_archive.specs.declared.parts.Part.{Part}
use Rattle.arimaa_archive.specs.declared.record_judgement.Told.{Told}
use Rattle.arimaa_archive.specs.Shares.{IsShare}
use Rattle.arimaa_archive.specs.RecordJudgements.{IsToldOfPart}
use Rattle.arimaa_archive.proofs.ShareLaws.{ok_value, told_in_share}
use Rattle.arimaa_archive.proofs.shares.judge_many.Goals as goal
use Rattle.arimaa_record.proofs.Lemmas.PlainLaws.{all_zip_push}

pub records-preserved : goal.records-preserved
records-preserved g c =
    let none : Part = record { start = 0; end = 0 } in
    let less : c.records.place % c.args.workers < c.args.workers = omega arith in
    let given = (c.in_ok-shares.ensures.each (c.records.place % c.args.workers) c.index.result.now less).1.met in
    let share = ok_value (λ v. IsShare c.args.bytes.now c.args.parts.now (c.records.place % c.args.workers) c.args.workers v.items)
    _ c.in-Ok.share (sym c.index.ensures ∙ c.in-Ok.is) given in
    let told : IsToldOfPart c.args.bytes.now (get_or c.args.parts.now c.records.place none) c.index-in-Ok.result.now =
    subst (λ (x : Told). IsToldOfPart c.args.bytes.now (get_or c.args.parts.now c.records.place none) x) (sym c.index-in-Ok.ensures)
    (told_in_share c.args.bytes.now c.args.parts.now (c.records.place % c.args.workers) c.args.workers c.records.place
    c.in-Ok.share.items share (omega arith) refl c.records-test.true none c.index-in-Ok.result.now) in
    subst (λ (xs : List Told). AllZip (IsToldOfPart c.args.bytes.now) (take (c.records.place + 1) c.args.parts.now) xs)
    (sym c.in_ok-push-in-Ok.ensures.items)
    (subst (λ (ps : List Part). AllZip (IsToldOfPart c.args.bytes.now) ps (c.records.told.items ++ c.index-in-Ok.result.now ∷ []))
    (sym (take_more c.args.parts.now c.records.place none c.records-test.true))
    (all_zip_push (IsToldOfPart c.args.bytes.now) (take c.records.place c.args.parts.now) c.records.told.items
    (get_or c.args.parts.now c.records.place none) c.index-in-Ok.result.now c.records.invariant told))
