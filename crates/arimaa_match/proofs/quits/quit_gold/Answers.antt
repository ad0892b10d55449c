use Rattle.std.proofs.Common.{sym, ◌∙◌}
use Rattle.arimaa_board.specs.declared.piece.Color.TheVariants.{Gold}
use Rattle.arimaa_match.proofs.Ends.{quit_broken, quit_off, quit_told}
use Rattle.arimaa_match.proofs.Parts.{went_as}
use Rattle.arimaa_match.proofs.Sides.{with_gold_went}
use Rattle.arimaa_match.proofs.quits.quit_gold.Goals as goal

pub returns-then-broken : goal.returns-then-broken
returns-then-broken g c = λ other given. quit_broken Gold (sym c.broken.ensures ∙ c.if-broken.true)

pub returns-in-Err : goal.returns-in-Err
returns-in-Err g c =
    λ other given. quit_off Gold (sym c.broken.ensures ∙ c.if-broken.false)
    (went_as (with_gold_went other given c.tell-told.ensures.never_falls c.tell-told.ensures.went)
    c.stopped.ensures) c.in-Err.is

pub returns-in-Ok : goal.returns-in-Ok
returns-in-Ok g c =
    λ other given. quit_told Gold (sym c.broken.ensures ∙ c.if-broken.false)
    (went_as (with_gold_went other given c.tell-told.ensures.never_falls c.tell-told.ensures.went)
    c.stopped.ensures) c.in-Ok.is
