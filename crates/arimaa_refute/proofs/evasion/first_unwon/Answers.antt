use Rattle.std.proofs.Common.{◌≡◌, true, false, not, sym, ◌∙◌, ap, subst}
use Rattle.std.proofs.lemmas.Bool.{not_from_false}
use Rattle.arimaa_model.specs.Results.{next}
use Rattle.arimaa_model.specs.Wins.{wins}
use Rattle.arimaa_refute.specs.Refutations.{Terms, IsBelow}
use Rattle.arimaa_refute.proofs.RefutationLaws.{place-left, place-stands, free-more, free-here}
use Rattle.arimaa_refute.proofs.evasion.first_unwon.Goals as goal

pub ask-requires-clause-below : goal.ask-requires-clause-below
ask-requires-clause-below c =
    let t : Terms = c.args.asker.now in
    let here = place-left c.args.list.now.segments (next t.barred c.args.p.now) c.loop-place.place c.get-reply.result c.requires.list c.get-reply.ensures in
    subst (λ (u : Terms). IsBelow u c.args.depth c.get-reply.result) (sym c.loop-place.invariant.same) (c.requires.below c.get-reply.result (place-stands c.loop-place.place c.get-reply.result (next t.barred c.args.p.now) _ here))

pub returns-then-not-branch-clause-first : goal.returns-then-not-branch-clause-first
returns-then-not-branch-clause-first c =
    let t : Terms = c.args.asker.now in
    let here = place-left c.args.list.now.segments (next t.barred c.args.p.now) c.loop-place.place c.get-reply.result c.requires.list c.get-reply.ensures in
    let lost : wins t.attacker t.barred c.args.depth c.get-reply.result ≡ false = sym (ap (λ (u : Terms). wins u.attacker u.barred c.args.depth c.get-reply.result) c.loop-place.invariant.same) ∙ (sym c.in_ok-ask.ensures.verdict ∙ c.if-not-branch.true) in
    free-here (λ q. not (wins t.attacker t.barred c.args.depth q)) (next t.barred c.args.p.now) c.loop-place.place c.get-reply.result here (not_from_false _ lost) c.loop-place.invariant.left

pub loop-place-preserved : goal.loop-place-preserved
loop-place-preserved c =
    let t : Terms = c.args.asker.now in
    let here = place-left c.args.list.now.segments (next t.barred c.args.p.now) c.loop-place.place c.get-reply.result c.requires.list c.get-reply.ensures in
    let won : wins t.attacker t.barred c.args.depth c.get-reply.result ≡ true = sym (ap (λ (u : Terms). wins u.attacker u.barred c.args.depth c.get-reply.result) c.loop-place.invariant.same) ∙ (sym c.in_ok-ask.ensures.verdict ∙ c.if-not-branch.false) in
    record {
      same = c.ask.ensures.same ∙ c.loop-place.invariant.same;
      left = free-more (λ q. not (wins t.attacker t.barred c.args.depth q)) (next t.barred c.args.p.now) c.loop-place.place c.get-reply.result here (ap not won) c.loop-place.invariant.left;
    }
