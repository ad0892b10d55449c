use Rattle.std.proofs.Common.{◌<◌, length, sym, subst}
use Rattle.arimaa_refute.specs.declared.escape.Escape.{Escape}
use Rattle.arimaa_refute.specs.OwnEscapes.{first_evasion}
use Rattle.arimaa_refute.specs.Refutations.{Terms, IsBelow}
use Rattle.arimaa_refute.proofs.Levels.{evasion-below}
use Rattle.arimaa_refute.proofs.maker.escape_from.Goals as goal
use Rattle.arimaa_strategy.proofs.Lemmas.NotedTurns.{marked-steps}

pub push-requires : goal.push-requires
push-requires c =
    let t : Terms = c.args.asker.now in
    record {
      steps = subst (λ (e : Escape). 0 < length e.turn) (sym c.in_ok-escape.ensures.escape)
          (marked-steps c.args.q.now c.in_ok-escape.reached (first_evasion t.attacker t.barred c.args.depth c.args.q.now) c.in_ok-escape.ensures.leads);
    }

pub meet_replies-requires-clause-below : goal.meet_replies-requires-clause-below
meet_replies-requires-clause-below c =
    let t : Terms = c.args.asker.now in
    subst (λ (u : Terms). IsBelow u c.args.depth c.in_ok-escape.reached) (sym c.escape_of.ensures.same) (evasion-below t c.args.depth c.args.q.now c.in_ok-escape.reached c.requires.wants c.in_ok-escape.ensures.leads)
