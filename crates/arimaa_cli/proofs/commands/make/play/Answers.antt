use Rattle.std.proofs.Common.{subst}
use Rattle.std.specs.Prelude.{Result}
use Rattle.arimaa_board.specs.declared.position.Position.{Position}
use Rattle.arimaa_game.specs.declared.fault.GameFault.{GameFault}
use Rattle.arimaa_game.specs.Faults.{IsFaultOf}
use Rattle.arimaa_cli.proofs.Generator.{playable}
use Rattle.arimaa_cli.proofs.commands.make.play.Goals as goal

pub unreachable-requires : goal.unreachable-requires
unreachable-requires c =
    let ok = playable c.args.game.now c.args.p.now c.args.q.now c.args.turn.now c.requires.place.0 c.requires.on c.requires.last c.requires.place.1 c.requires.reaches in
    c.in_default.not-Memory (subst (λ (r : Result Position GameFault). IsFaultOf r c.in-Err.fault) ok c.in-Err.ensures.fault)
