use Rattle.arimaa_match.proofs.KeptPhases.{kept_playing, one_longer}
use Rattle.arimaa_match.proofs.TurnLabels.{turn_counted}
use Rattle.arimaa_match.proofs.umpire.Umpire.write_turn.Goals as goal

pub invariant_of-self-2 : goal.invariant_of-self-2
invariant_of-self-2 c =
    let playing = rw (← c.self.view_is) at c.requires in (
      kept_playing c.self.inside.phase c.self.inside.due.side c.next-self-inside.result.side playing
          c.self.invariant.0,
      one_longer _ _ _ _ c.in_ok-push.ensures.pushed c.self.invariant.1,
      turn_counted _ _ _ _ _ _ c.in_ok-push.ensures.pushed c.self.invariant.2,
    )
