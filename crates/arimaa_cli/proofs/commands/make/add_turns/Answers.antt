use Rattle.std.proofs.Common.{◌≡◌, ◌+◌, ◌-◌, suc, None, sym, ◌∙◌, ap, arith}
use Rattle.std.specs.Prelude.{Ok, Err}
use Rattle.arimaa_game.specs.Play.{Play}
use Rattle.arimaa_model.specs.Game.{barred_by, ending}
use Rattle.arimaa_model.proofs.Lemmas.Listed.{result-turn}
use Rattle.arimaa_cli.specs.Commands.Make.{GoesOnAt, IsMadeFrom}
use Rattle.arimaa_cli.specs.Commands.Make.IsMadeFrom.{crowded, enough, over}
use Rattle.arimaa_cli.proofs.Generator.{made_on, open_ending, some_next}
use Rattle.arimaa_cli.proofs.commands.make.add_turns.Goals as goal

pub returns-in-Some : goal.returns-in-Some
returns-in-Some c =
    c.loop.invariant.leads (Ok c.loop.text.items)
    (over _ c.loop.number c.loop.due c.loop.game.history c.loop.text.items c.in-Some.field-0 (sym (open_ending c.loop.game c.loop.invariant.unclosed) ∙ sym c.in-Some.ensures))

pub pick-requires-clause-some : goal.pick-requires-clause-some
pick-requires-clause-some c =
    let on : ending c.loop.game.history ≡ None = sym (open_ending c.loop.game c.loop.invariant.unclosed) ∙ sym c.in_default.ensures in
    let same : c.barred-barred.result.now ≡ barred_by c.loop.game.history = c.barred-barred.ensures.value ∙ ap barred_by c.history.ensures.value in
    rw same (some_next c.loop.game.history c.now-p.result on c.now-p.ensures.present)

pub returns-in_default-pick : goal.returns-in_default-pick
returns-in_default-pick c =
    let on : ending c.loop.game.history ≡ None = sym (open_ending c.loop.game c.loop.invariant.unclosed) ∙ sym c.in_default.ensures in
    let same : c.barred-barred.result.now ≡ barred_by c.loop.game.history = c.barred-barred.ensures.value ∙ ap barred_by c.history.ensures.value in
    let goes : GoesOnAt c.loop.game.history c.now-p.result = record { on = on; last = c.now-p.ensures.present } in
    let left : c.args.asked.turns - c.loop.counter ≡ suc (c.args.asked.turns - (c.loop.counter + 1)) = omega arith in
    let made : IsMadeFrom (c.args.asked.turns - c.loop.counter) c.loop.number c.loop.due c.loop.game.history c.loop.text.items (Err c.now-p.result) =
    rw left (crowded _ c.loop.number c.loop.due c.loop.game.history c.loop.text.items c.now-p.result goes (rw same at c.in_default-pick.ensures.crowded)) in
    c.loop.invariant.leads (Err c.now-p.result) made

pub push_turn-requires : goal.push_turn-requires
push_turn-requires c = result-turn c.now-p.result c.in-Some-pick.picked.turn c.in-Some-pick.picked.reached c.in-Some-pick.ensures.reaches

pub loop-preserved : goal.loop-preserved
loop-preserved c =
    let on : ending c.loop.game.history ≡ None = sym (open_ending c.loop.game c.loop.invariant.unclosed) ∙ sym c.in_default.ensures in
    let same : c.barred-barred.result.now ≡ barred_by c.loop.game.history = c.barred-barred.ensures.value ∙ ap barred_by c.history.ensures.value in
    let goes : GoesOnAt c.loop.game.history c.now-p.result = record { on = on; last = c.now-p.ensures.present } in
    let left : c.args.asked.turns - c.loop.counter ≡ suc (c.args.asked.turns - (c.loop.counter + 1)) = omega arith in
    let choice = rw (same, c.number_after-number.ensures) at c.in-Some-pick.ensures.picked in
    record {
      empty = c.pick.ensures.empty;
      room = c.pick.ensures.room;
      unclosed = ap (λ (g : Play). g.closing) c.in_ok-play.ensures ∙ c.loop.invariant.unclosed;
      leads = λ made rest. c.loop.invariant.leads made
          (made_on _ _ c.loop.number c.loop.due c.loop.game.history c.loop.text.items c.now-p.result c.in-Some-pick.picked.reached c.in-Some-pick.picked.turn made left goes choice
          _ _ _ _ c.number_after-number.ensures c.next-due.ensures (ap (λ (g : Play). g.history) c.in_ok-play.ensures) c.in_ok-push_turn.ensures rest);
    }

pub returns : goal.returns
returns c =
    let left : c.args.asked.turns - c.loop.counter ≡ 0 = omega arith in
    let made : IsMadeFrom (c.args.asked.turns - c.loop.counter) c.loop.number c.loop.due c.loop.game.history c.loop.text.items (Ok c.loop.text.items) =
    rw left (enough c.loop.number c.loop.due c.loop.game.history c.loop.text.items) in
    c.loop.invariant.leads (Ok c.loop.text.items) made
