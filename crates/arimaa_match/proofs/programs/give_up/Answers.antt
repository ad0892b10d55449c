use Rattle.std.proofs.Common.{◌∙◌, None, sym}
use Rattle.arimaa_board.specs.declared.piece.Color.TheVariants.{Gold}
use Rattle.arimaa_match.specs.Parts.{view_of}
use Rattle.arimaa_match.proofs.Counted.{fell_never}
use Rattle.arimaa_match.proofs.Ends.{quitting_as}
use Rattle.arimaa_match.proofs.Openings.{silver_off, silver_quit_off, silver_unopened}
use Rattle.arimaa_match.proofs.programs.give_up.Goals as goal

pub returns-in-Err-clause-went : goal.returns-in-Err-clause-went
returns-in-Err-clause-went g c = λ control old given a.
    rw c.into_port.ensures
    (silver_off control c.args.fault (sym c.unopened.ensures ∙ c.in-Err.is) a)

pub returns-in-Err-quit_gold-clause-went : goal.returns-in-Err-quit_gold-clause-went
returns-in-Err-quit_gold-clause-went g c = λ control old given a.
    rw c.into_port-in-Err-quit_gold.ensures
    (silver_quit_off control c.args.fault c.in-Ok.done (sym c.unopened.ensures ∙ c.in-Ok.is) a
    (quitting_as Gold (c.in-Err-quit_gold.ensures _ given) c.requires))

pub returns-in-Err-quit_gold-clause-never_falls : goal.returns-in-Err-quit_gold-clause-never_falls
returns-in-Err-quit_gold-clause-never_falls g c =
    rw c.into_port-in-Err-quit_gold.ensures
    (fell_never (c.in-Err-quit_gold.ensures
    (view_of g.P.Port.sent g.P.Port.answers g.P.Port.counts c.args.silver) None)).gold

pub returns-in-Ok-quit_gold-clause-went : goal.returns-in-Ok-quit_gold-clause-went
returns-in-Ok-quit_gold-clause-went g c = λ control old given a.
    rw c.into_port-in-Ok-quit_gold.ensures
    (silver_unopened control c.args.fault c.in-Ok.done (sym c.unopened.ensures ∙ c.in-Ok.is) a
    (quitting_as Gold (c.in-Ok-quit_gold.ensures _ given) c.requires))

pub returns-in-Ok-quit_gold-clause-never_falls : goal.returns-in-Ok-quit_gold-clause-never_falls
returns-in-Ok-quit_gold-clause-never_falls g c =
    rw c.into_port-in-Ok-quit_gold.ensures
    (fell_never (c.in-Ok-quit_gold.ensures
    (view_of g.P.Port.sent g.P.Port.answers g.P.Port.counts c.args.silver) None)).gold
