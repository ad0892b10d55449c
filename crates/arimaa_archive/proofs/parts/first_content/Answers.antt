use Rattle.std.proofs.Common.{sym, ◌∙◌, ap}
use Rattle.arimaa_record.specs.Lines.{lines_of}
use Rattle.arimaa_record.proofs.Lemmas.LineLaws.{no_lines}
use Rattle.arimaa_archive.specs.Archive.{first_content}
use Rattle.arimaa_archive.proofs.parts.first_content.Goals as goal

pub returns : goal.returns
returns c =
    sym (c.lines.invariant.same ∙ ap (first_content c.lines.number) (ap lines_of c.in_default.ensures.none ∙ no_lines))
