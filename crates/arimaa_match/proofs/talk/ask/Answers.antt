use Rattle.std.proofs.Common.{◌∙◌, ap}
use Rattle.arimaa_board.specs.declared.piece.Color.TheVariants.{Gold, Silver}
use Rattle.arimaa_match.specs.Parts.{with_value}
use Rattle.arimaa_match.proofs.Counted.{cause_as, side_cause}
use Rattle.arimaa_match.proofs.Parts.{went_as}
use Rattle.arimaa_match.proofs.Sides.{stopped_with_value, with_gold_went, with_silver_went}
use Rattle.arimaa_match.proofs.talk.ask.Goals as goal

pub returns-in-Gold-clause-went : goal.returns-in-Gold-clause-went
returns-in-Gold-clause-went g c = λ given.
    rw c.in-Gold.is
    (went_as (with_gold_went _ given c.ask-heard.ensures.never_falls c.ask-heard.ensures.went)
    (ap (with_value c.ask-heard.new.self.line) c.stopped.ensures
    ∙ stopped_with_value Gold c.ask-heard.new.self.line c.ask-heard.result))

pub returns-in-Silver-clause-went : goal.returns-in-Silver-clause-went
returns-in-Silver-clause-went g c = λ given.
    rw c.in-Silver.is
    (went_as (with_silver_went _ given c.ask-heard-in-Silver.ensures.never_falls
    c.ask-heard-in-Silver.ensures.went)
    (ap (with_value c.ask-heard-in-Silver.new.self.line) c.stopped-in-Silver.ensures
    ∙ stopped_with_value Silver c.ask-heard-in-Silver.new.self.line
    c.ask-heard-in-Silver.result))

pub returns-in-Gold-clause-cause : goal.returns-in-Gold-clause-cause
returns-in-Gold-clause-cause g c =
    cause_as _ _ c.stopped.ensures (side_cause Gold _ _ c.ask-heard.result c.ask-heard.ensures.cause)

pub returns-in-Silver-clause-cause : goal.returns-in-Silver-clause-cause
returns-in-Silver-clause-cause g c =
    cause_as _ _ c.stopped-in-Silver.ensures
    (side_cause Silver _ _ c.ask-heard-in-Silver.result c.ask-heard-in-Silver.ensures.cause)
