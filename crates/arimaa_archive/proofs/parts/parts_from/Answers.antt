use Rattle.std.proofs.Common.{◌+◌, ◌<◌, ◌≤◌, length, ◌∙◌, arith, vec_len}
use Rattle.std.proofs.lemmas.List.Elements.{All-push, All-same}
use Rattle.arimaa_archive.specs.declared.parts.Part.{Part}
use Rattle.arimaa_archive.specs.Archive.{IsWithin, place_from, records_from}
use Rattle.arimaa_archive.proofs.RecordPlaces.{next_place, one_part_more, records_place_from}
use Rattle.arimaa_archive.proofs.parts.parts_from.Goals as goal

pub records-preserved : goal.records-preserved
records-preserved c =
    let items = c.in_ok-push.ensures.items in
    let at : (vec_len c.records.parts < c.in-Some.start) × (c.in-Some.start ≤ length c.args.bytes.now) =
    rw c.in-Some.is at c.records.invariant.place in
    let part : Part = record { start = c.in-Some.start; end = c.in-Some.start + c.cut_at_game-cut.result.before } in
    let inside : IsWithin (length c.args.bytes.now) part = record { ordered = omega arith; bounded = omega arith } in
    record {
      place = rw c.place_from-next.ensures
          (next_place c.in-Some.start (vec_len c.push.new.self) (length c.split_at.result.1.now) (length c.args.bytes.now)
          c.cut_at_game-cut.result.after c.cut_at_game-cut.ensures.place (omega arith) (omega arith));
      few = omega arith;
      within = All-same (IsWithin (length c.args.bytes.now)) c.push.new.self.items _ items
          (All-push (IsWithin (length c.args.bytes.now)) c.records.parts.items part c.records.invariant.within inside);
      records = rw (items, c.place_from-next.ensures)
          (one_part_more c.args.bytes.now c.records.parts.items c.in-Some.start c.cut_at_game-cut.result.before
          (place_from c.in-Some.start c.cut_at_game-cut.result.after) (records_from c.args.bytes.now c.args.first)
          (rw c.in-Some.is at c.records.invariant.records)
          (rw c.split_at.ensures.back at c.cut_at_game-cut.ensures.before)
          ((rw c.split_at.ensures.back at c.cut_at_game-cut.ensures.records)
          ∙ records_place_from c.args.bytes.now c.in-Some.start c.cut_at_game-cut.result.after));
    }
