use Rattle.std.proofs.Common.{arith, refl, rules, [], ◌+◌}
use Rattle.std.proofs.lemmas.List.{nil_from_length}
use Rattle.arimaa_record.proofs.Lemmas.LineGathering.{midway-more, gathers-ended, takes-midway}
use Rattle.arimaa_record.proofs.line_reader.LineReader.gather.Goals as goal

pub pieces-preserved : goal.pieces-preserved
pieces-preserved g c =
    let moved = rw c.if-branch.false at c.in_ok-move_piece.ensures.moved in
    record {
      midway = midway-more _ _ _ c.move_piece.new.held _ _ _ _ _ _ _ _ c.pieces.invariant.midway moved c.in_ok-count.ensures.taken (search rules);
      limit = omega arith;
      ended = c.pieces.invariant.ended;
      failed = c.pieces.invariant.failed;
      sound = search rules;
    }

pub returns-then-self-gt-INPUT_LIMIT-clause-lost : goal.returns-then-self-gt-INPUT_LIMIT-clause-lost
returns-then-self-gt-INPUT_LIMIT-clause-lost g c =
    let moved = rw c.if-branch.false at c.in_ok-move_piece.ensures.moved in
    takes-midway _ _ c.fill.new.self _ [] _ _
    (midway-more _ _ _ c.move_piece.new.held _ _ _ _ _ _ _ _ c.pieces.invariant.midway moved c.in_ok-count.ensures.taken (search rules)) refl c.in_ok-count.ensures.room

pub returns-then-count-eq0-clause-gathers : goal.returns-then-count-eq0-clause-gathers
returns-then-count-eq0-clause-gathers g c =
    let moved = rw c.if-branch.false at c.in_ok-move_piece.ensures.moved in
    gathers-ended c.args.self.now _ _ _
    (midway-more _ _ _ c.move_piece.new.held _ _ _ _ (c.pieces.self.taken + c.in_ok-count.count) _ _ _ c.pieces.invariant.midway moved c.in_ok-count.ensures.taken (search rules)) (nil_from_length c.fill.new.self (omega (arith, c.in_ok-count.ensures.count))) (search rules)
