use Rattle.std.proofs.Common.{◌≡◌, ◌<◌, ◌≤◌, false, true, length, is_some, refl, sym, ◌∙◌, ap, arith}
use Rattle.arimaa_model.specs.DecidedPositions.{decided}
use Rattle.arimaa_model.specs.Ranks.{rank_within}
use Rattle.arimaa_model.specs.Results.{next}
use Rattle.arimaa_model.specs.Wins.{wins}
use Rattle.arimaa_model.proofs.Lemmas.Lists.{is_some-None}
use Rattle.arimaa_region.specs.Segments.{live_of}
use Rattle.arimaa_forced.specs.Needs.{IsAsked}
use Rattle.arimaa_pool.specs.Terms.{Terms}
use Rattle.arimaa_pool.proofs.HandedOn.{fail_on}
use Rattle.arimaa_pool.proofs.RankBounds.{rank-least, asked_itself, decided-lost, long-crowd}
use Rattle.arimaa_pool.proofs.depths.deepen.Goals as goal

pub returns-in_err-ask-clause-failure : goal.returns-in_err-ask-clause-failure
returns-in_err-ask-clause-failure g c =
    let t : Terms = c.args.crew.now.terms in
    fail_on c.ask.result c.from_residual.result c.in_err-ask.field-0.0 t t
    (λ u q j. (q ≡ c.args.p.now) × (j ≡ 0))
    (IsAsked t.attacker t.barred c.args.p.now (rank_within t.attacker t.barred c.args.n c.args.p.now))
    refl c.in_err-ask.was c.from_residual.ensures.1 c.ask.ensures.failure
    (λ q j is. asked_itself t.attacker t.barred c.args.p.now q j 0 _ is.0 is.1 (omega arith))

pub returns-then-is_some-clause-found : goal.returns-then-is_some-clause-found
returns-then-is_some-clause-found g c =
    let t : Terms = c.args.crew.now.terms in
    let lost : wins t.attacker t.barred 0 c.args.p.now ≡ false = sym c.in_ok-ask.ensures.verdict ∙ c.if-branch.false in
    let some : is_some (decided c.args.p.now) ≡ true = ap is_some (sym c.decided.ensures) ∙ (sym c.is_some.ensures ∙ c.if-is_some.true) in
    decided-lost t.attacker t.barred c.args.p.now c.args.n some lost

pub returns-in-Err-clause-failure : goal.returns-in-Err-clause-failure
returns-in-Err-clause-failure g c =
    let t : Terms = c.args.crew.now.terms in
    let lost : wins t.attacker t.barred 0 c.args.p.now ≡ false = sym c.in_ok-ask.ensures.verdict ∙ c.if-branch.false in
    let none : is_some (decided c.args.p.now) ≡ false = ap is_some (sym c.decided.ensures) ∙ (sym c.is_some.ensures ∙ c.if-is_some.false) in
    let undecided = is_some-None (decided c.args.p.now) none in
    let some : 1 ≤ c.args.n = omega arith in
    let bound = rank-least t.attacker t.barred c.args.p.now c.args.n 1 some (λ j small. let zero_is : j ≡ 0 = omega arith in ap (λ k. wins t.attacker t.barred k c.args.p.now) zero_is ∙ lost) in
    let list = ap (λ qs. length (next qs c.args.p.now)) (c.barred.ensures ∙ ap (λ (u : Terms). u.barred) c.ask.ensures.terms) in
    let empty = ap (λ s. length (live_of s)) c.requires.empty in
    let full = c.in-Err.ensures.full in
    let room = c.requires.room in
    let long : t.room < length (next t.barred c.args.p.now) = omega arith in
    record { kind = asked_itself t.attacker t.barred c.args.p.now c.args.p.now 1 1 _ refl refl bound; cause = long-crowd t.attacker t.barred c.args.p.now 1 t.room undecided (omega arith) long }
