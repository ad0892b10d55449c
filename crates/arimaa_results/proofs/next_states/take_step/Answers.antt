use Rattle.std.proofs.Common.{sym, ap, subst}
use Rattle.arimaa_step.specs.declared.accepted_steps.AcceptedSteps.{AcceptedSteps}
use Rattle.arimaa_results.specs.NextStates.{pairs_left, AreAllAccepted}
use Rattle.arimaa_results.proofs.StatePairs.{left_accepted, pairs_taken, is_accepted, pairs_none}
use Rattle.arimaa_results.proofs.next_states.take_step.Goals as goal

pub returns-in_default : goal.returns-in_default
returns-in_default c =
    let st = c.args.state.now in
    record {
      accepted = tt;
      left_accepted = subst (λ (a : AcceptedSteps). AreAllAccepted st a) (sym c.in_default.ensures.0) c.requires;
      pairs = ap (pairs_left st) (sym c.in_default.ensures.0);
      none = pairs_none st c.args.steps.now c.in_default.ensures.1;
    }

pub returns : goal.returns
returns c =
    let st = c.args.state.now in
    let old = c.args.steps.now in
    let here = rw c.board.ensures at c.in-Some-at.ensures.value in
    record {
      accepted = is_accepted st old _ _ c.take_first.new.steps c.in-Some.ensures c.requires c.in-Some-at.piece (sym here);
      left_accepted = left_accepted st old _ _ c.take_first.new.steps c.in-Some.ensures c.requires;
      pairs = pairs_taken st old _ _ c.take_first.new.steps c.in-Some.ensures c.requires c.in-Some-at.piece (sym here);
      none = tt;
    }
