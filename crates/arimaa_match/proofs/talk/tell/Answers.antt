use Rattle.arimaa_board.specs.declared.piece.Color.TheVariants.{Gold, Silver}
use Rattle.arimaa_match.proofs.Counted.{cause_as, side_cause}
use Rattle.arimaa_match.proofs.Parts.{went_as}
use Rattle.arimaa_match.proofs.Sides.{with_gold_went, with_silver_went}
use Rattle.arimaa_match.proofs.talk.tell.Goals as goal

pub returns-in-Gold-clause-went : goal.returns-in-Gold-clause-went
returns-in-Gold-clause-went g c =
    λ given. rw c.in-Gold.is
    (went_as (with_gold_went _ given c.tell-told.ensures.never_falls c.tell-told.ensures.went)
    c.stopped.ensures)

pub returns-in-Silver-clause-went : goal.returns-in-Silver-clause-went
returns-in-Silver-clause-went g c =
    λ given. rw c.in-Silver.is
    (went_as (with_silver_went _ given c.tell-told-in-Silver.ensures.never_falls
    c.tell-told-in-Silver.ensures.went) c.stopped-in-Silver.ensures)

pub returns-in-Gold-clause-cause : goal.returns-in-Gold-clause-cause
returns-in-Gold-clause-cause g c =
    cause_as _ _ c.stopped.ensures (side_cause Gold _ _ c.tell-told.result c.tell-told.ensures.cause)

pub returns-in-Silver-clause-cause : goal.returns-in-Silver-clause-cause
returns-in-Silver-clause-cause g c =
    cause_as _ _ c.stopped-in-Silver.ensures
    (side_cause Silver _ _ c.tell-told-in-Silver.result c.tell-told-in-Silver.ensures.cause)
