use Rattle.std.proofs.Common.{◌≡◌, ℕ, ◌+◌, ◌*◌, ◌++◌, List, drop, take, sym, ◌∙◌, ap, subst, arith}
use Rattle.arimaa_archive.specs.Report.{text_of_records}
use Rattle.arimaa_archive.proofs.Blocks.{all_blocks, one_block_more}
use Rattle.arimaa_archive.proofs.ShareLaws.{ok_value}
use Rattle.arimaa_archive.proofs.report.all_records_text.Goals as goal

pub joined-preserved : goal.joined-preserved
joined-preserved g c =
    let given = (c.in_ok-texts.ensures.each c.joined.place c.index.result.now (omega arith)).1 in
    let made = ok_value (λ text. text.items ≡ text_of_records (c.joined.place * c.args.size + 1) given.argument.now)
    _ c.in-Ok.block (sym c.index.ensures ∙ c.in-Ok.is) given.call in
    let is : c.in-Ok.block.items ≡ text_of_records (c.joined.place * c.args.size + 1) (take c.args.size (drop (c.joined.place * c.args.size) c.args.told.now)) =
    made ∙ ap (text_of_records (c.joined.place * c.args.size + 1)) given.argument_is.value in
    subst (λ (x : List ℕ). x ++ text_of_records ((c.joined.place + 1) * c.args.size + 1) (drop ((c.joined.place + 1) * c.args.size) c.args.told.now) ≡ text_of_records 1 c.args.told.now)
    (sym (c.in_ok-extend_from_slice-in-Ok.ensures.items ∙ ap (λ x. c.joined.text.items ++ x) c.deref.ensures.value))
    (one_block_more c.joined.place c.args.size c.args.told.now c.joined.text.items c.in-Ok.block.items c.joined.invariant is)

pub returns : goal.returns
returns g c =
    all_blocks c.joined.place c.args.size c.args.told.now c.joined.text.items c.joined.invariant c.requires
    (omega (arith, c.in_ok-texts.ensures.len))
