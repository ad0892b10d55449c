use Rattle.arimaa_archive.proofs.Covering.{count_lines, keep_lines}
use Rattle.arimaa_archive.proofs.laws.records_keep_lines.Goals as goal

pub returns-clause-lines : goal.returns-clause-lines
returns-clause-lines c = keep_lines

pub returns-clause-count : goal.returns-clause-count
returns-clause-count c = count_lines
