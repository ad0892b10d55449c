use Rattle.arimaa_board.specs.declared.piece.Color.TheVariants.{Gold, Silver}
use Rattle.arimaa_match.specs.Parts.{view_of}
use Rattle.arimaa_match.proofs.Ends.{quitting_as}
use Rattle.arimaa_match.proofs.Parts.{went_off, went_on}
use Rattle.arimaa_match.proofs.quits.quit_both.Goals as goal

pub returns-in-Err : goal.returns-in-Err
returns-in-Err g c =
    λ given. went_off _
    (quitting_as Gold
    (c.in-Err.ensures
    (view_of g.P.Port.sent g.P.Port.answers g.P.Port.counts c.args.silver.now.port) given)
    c.requires.gold_so)

pub returns-in-Ok : goal.returns-in-Ok
returns-in-Ok g c = λ given.
    went_on _ (quitting_as Gold
    (c.in-Ok.ensures
    (view_of g.P.Port.sent g.P.Port.answers g.P.Port.counts c.args.silver.now.port) given)
    c.requires.gold_so)
    (quitting_as Silver
    (c.quit_silver.ensures
    (view_of g.P.Port.sent g.P.Port.answers g.P.Port.counts c.quit_gold.new.gold.port) given)
    c.requires.silver_so)
