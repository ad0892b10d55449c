use Rattle.std.proofs.Common.{◌≡◌, ◌+◌, ◌<◌, ◌∷◌, List, ℕ, length, take, drop, sym, ◌∙◌, subst, arith, length-drop, true≢false}
use Rattle.std.proofs.lemmas.List.{take_rest}
use Rattle.arimaa_record.specs.Lines.{lines_of}
use Rattle.arimaa_cli.specs.Parts.{IsFirstLine, IsParted}
use Rattle.arimaa_cli.proofs.Parting.{passed_more, passed_none, passed_parted}
use Rattle.arimaa_cli.proofs.parts.parts_of.Goals as goal

pub loop-line-init : goal.loop-line-init
loop-line-init c = passed_none c.args.word.now c.args.bytes.now

pub returns-then-says-clause-made : goal.returns-then-says-clause-made
returns-then-says-clause-made c =
    let bytes = c.args.bytes.now in
    let start = c.loop-line.start in
    let less : start < length bytes = omega (arith, length-drop start bytes, c.in-Some.ensures.shorter) in
    let is : lines_of (drop start bytes) ≡ c.in-Some.line.now ∷ lines_of c.in-Some.field-0-1.now = rw (take_rest bytes start) at c.in-Some.ensures.lines in
    let first : IsFirstLine (drop start bytes) c.first_line_len.result = rw (take_rest bytes start) at c.first_line_len.ensures in
    subst (λ (t : List ℕ). IsParted c.args.word.now bytes (take start bytes) t) (sym (take_rest bytes (start + c.first_line_len.result)))
    (passed_parted c.args.word.now bytes start c.loop-line.lines c.first_line_len.result c.in-Some.line.now c.in-Some.field-0-1.now c.loop-line.invariant less first is (c.says.ensures.0 c.if-says.true))

pub loop-line-preserved : goal.loop-line-preserved
loop-line-preserved c =
    let bytes = c.args.bytes.now in
    let start = c.loop-line.start in
    let less : start < length bytes = omega (arith, length-drop start bytes, c.in-Some.ensures.shorter) in
    let is : lines_of (drop start bytes) ≡ c.in-Some.line.now ∷ lines_of c.in-Some.field-0-1.now = rw (take_rest bytes start) at c.in-Some.ensures.lines in
    let first : IsFirstLine (drop start bytes) c.first_line_len.result = rw (take_rest bytes start) at c.first_line_len.ensures in
    passed_more c.args.word.now bytes start c.loop-line.lines c.first_line_len.result c.in-Some.line.now c.in-Some.field-0-1.now c.loop-line.invariant less first is
    (λ says. true≢false (sym (c.says.ensures.1 says) ∙ c.if-says.false))
