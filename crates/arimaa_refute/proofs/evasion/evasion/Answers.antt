use Rattle.std.proofs.Common.{◌+◌, ◌<◌, length, is_some, ◌∙◌, ap, arith}
use Rattle.arimaa_model.specs.Results.{next}
use Rattle.arimaa_region.specs.Segments.{live_of}
use Rattle.arimaa_refute.specs.Refutations.{Terms}
use Rattle.arimaa_refute.proofs.FirstEvasions.{unwon-some}
use Rattle.arimaa_refute.proofs.Levels.{below-next, long-crowd, unwon-suc}
use Rattle.arimaa_refute.proofs.evasion.evasion.Goals as goal

pub first_unwon-first-requires-clause-below : goal.first_unwon-first-requires-clause-below
first_unwon-first-requires-clause-below c = λ q stands. below-next c.args.asker.now c.args.depth c.args.p.now q c.requires.wants stands

pub unwrap-requires : goal.unwrap-requires
unwrap-requires c =
    let t : Terms = c.args.asker.now in
    ap is_some c.in_ok-first-in-Ok.ensures.first ∙ unwon-some t.attacker t.barred c.args.depth c.args.p.now (unwon-suc t c.args.depth c.args.p.now c.requires.wants)

pub returns-in-Err-clause-failure : goal.returns-in-Err-clause-failure
returns-in-Err-clause-failure c =
    let t : Terms = c.args.asker.now in
    let list = ap (λ qs. length (next qs c.args.p.now)) c.barred.ensures in
    let empty = ap (λ s. length (live_of s)) c.requires.empty in
    let full = c.in-Err.ensures.full in
    let room = c.requires.room in
    let long : t.room < length (next t.barred c.args.p.now) = omega arith in
    (c.requires.wants.below, long-crowd t (c.args.depth + 1) c.args.p.now c.requires.wants.unwon.undecided (omega arith) long)
