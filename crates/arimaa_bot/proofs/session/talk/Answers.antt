use Rattle.std.proofs.Common.{◌∙◌, arith, refl, subst, sym}
use Rattle.arimaa_aei.specs.Commands.{command_of}
use Rattle.arimaa_bot.specs.Stages.{IsWhole}
use Rattle.arimaa_bot.proofs.Midst.{midst_begun, midst_ended, midst_enough, midst_more}
use Rattle.arimaa_bot.proofs.Whole.{whole_after}
use Rattle.arimaa_bot.proofs.session.talk.Goals as goal
use Rattle.arimaa_outside.proofs.Lemmas.CountLaws.{falls_never, never_fall}

pub loop-heard-init : goal.loop-heard-init
loop-heard-init g c = record { midst = midst_begun _ _; whole = tt; faults = refl; never_falls = falls_never _ }

pub returns-in-Err-clause-session : goal.returns-in-Err-clause-session
returns-in-Err-clause-session g c = midst_ended _ c.loop-heard.heard _ _ _ _ _ c.loop-heard-test.true c.loop-heard.invariant.midst c.in-Err.ensures.dealt

pub loop-heard-preserved : goal.loop-heard-preserved
loop-heard-preserved g c =
    let dealt = c.in-Ok.ensures.dealt in
    record {
      midst = midst_more _ c.loop-heard.heard _ _ _ _ _ c.loop-heard.invariant.midst dealt;
      whole = subst IsWhole (sym dealt.after_is) (whole_after c.loop-heard.stage (command_of dealt.line) c.loop-heard.invariant.whole);
      faults = c.in-Ok.ensures.cause ∙ c.loop-heard.invariant.faults;
      never_falls = never_fall c.loop-heard.invariant.never_falls c.in-Ok.ensures.never_falls;
    }

pub returns-clause-session : goal.returns-clause-session
returns-clause-session g c = midst_enough _ c.loop-heard.heard _ _ _ c.loop-heard-test.false (omega arith) c.loop-heard.invariant.midst
