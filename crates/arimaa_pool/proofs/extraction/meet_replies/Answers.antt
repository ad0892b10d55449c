use Rattle.std.proofs.Common.{◌≡◌, ◌<◌, length, false, is_some, refl, sym, ◌∙◌, ap, arith}
use Rattle.arimaa_model.specs.DecidedPositions.{decided}
use Rattle.arimaa_model.specs.Results.{next}
use Rattle.arimaa_model.proofs.Lemmas.Lists.{is_some-None}
use Rattle.arimaa_region.specs.Segments.{live_of}
use Rattle.arimaa_pool.specs.Terms.{Terms}
use Rattle.arimaa_pool.proofs.RankBounds.{won-crowd}
use Rattle.arimaa_pool.proofs.extraction.meet_replies.Goals as goal

pub returns-in-Err-clause-failure : goal.returns-in-Err-clause-failure
returns-in-Err-clause-failure c =
    let t : Terms = c.args.asker.now in
    let none : is_some (decided c.args.r.now) ≡ false = ap is_some (sym c.decided.ensures) ∙ (sym c.is_some.ensures ∙ c.if-is_some.false) in
    let undecided = is_some-None (decided c.args.r.now) none in
    let list = ap (λ qs. length (next qs c.args.r.now)) c.barred.ensures in
    let empty = ap (λ s. length (live_of s)) c.requires.empty in
    let full = c.in-Err.ensures.full in
    let room = c.requires.room in
    let long : t.room < length (next t.barred c.args.r.now) = omega arith in
    record { kind = (refl, refl); cause = won-crowd t.attacker t.barred c.args.r.now c.args.rank t.room undecided c.requires.won long }
