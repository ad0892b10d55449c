use Rattle.arimaa_model.proofs.Home.{gold_row, silver_row}
use Rattle.arimaa_model.proofs.decision.goal_row.Goals as goal

pub returns-in-Gold : goal.returns-in-Gold
returns-in-Gold c = rw c.in-Gold.is gold_row

pub returns-in-Silver : goal.returns-in-Silver
returns-in-Silver c = rw c.in-Silver.is silver_row
