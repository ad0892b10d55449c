use Rattle.std.proofs.Common.{◌≡◌, ◌+◌, length, refl, ◌∙◌, ap, arith}
use Rattle.std.proofs.lemmas.List.{length_push}
use Rattle.arimaa_archive.proofs.ShareLaws.{one_more}
use Rattle.arimaa_archive.proofs.shares.judge_share.Goals as goal

pub records-preserved : goal.records-preserved
records-preserved g c =
    let items = c.in_ok-push.ensures.items in
    let size : length c.push.new.self.items ≡ length c.records.told.items + 1 =
    ap length items ∙ length_push c.records.told.items c.in_ok-judged.field-0 in
    record {
      place = rw size (omega (arith, c.records.invariant.place));
      each = λ k part d less.
          one_more c.args.bytes.now c.args.parts.now c.args.worker c.args.workers (length c.records.told.items) c.records.place
          c.records.told.items c.push.new.self.items c.in_ok-judged.field-0 _ items refl c.records.invariant.place c.records-test.true
          c.in_ok-judged.ensures c.records.invariant.each k part d (omega arith);
    }
