use Rattle.std.proofs.Common.{◌≡◌, ◌<◌, List, true, rules, sym, ◌∙◌, ap, arith}
use Rattle.arimaa_board.specs.Board.{same_color}
use Rattle.arimaa_board.specs.declared.position.Position.{Position}
use Rattle.arimaa_model.specs.Results.{first_occurrences}
use Rattle.arimaa_model.specs.Strategies.{open_replies}
use Rattle.arimaa_refute.specs.OwnEscapes.{turns_left}
use Rattle.arimaa_refute.specs.Refutations.{Terms, first_queue}
use Rattle.arimaa_refute.proofs.RefutationLaws.{first-own, on-ok}
use Rattle.arimaa_refute.proofs.maker.meet_first.Goals as goal

pub returns-then-eq-clause-met : goal.returns-then-eq-clause-met
returns-then-eq-clause-met c =
    let t : Terms = c.args.asker.now in
    let same : c.eq.result ≡ same_color c.args.p.now.side c.attacker-2.result = search rules in
    let own : same_color c.args.p.now.side t.attacker ≡ true = ap (same_color c.args.p.now.side) (sym c.attacker-2.ensures) ∙ (sym same ∙ c.if-eq.true) in
    let left : c.turns_left-turns.result ≡ turns_left t.attacker c.args.n c.args.p.now = c.turns_left-turns.ensures ∙ ap (λ x. turns_left x c.args.n c.args.p.now) c.attacker.ensures in
    let some : 0 < c.turns_left-turns.result = omega arith in
    let some_left : 0 < turns_left t.attacker c.args.n c.args.p.now = omega (arith, left, some) in
    on-ok c.meet_replies.result
    (c.meet_replies.new.queue ≡ first_occurrences c.args.queue.now (open_replies t.barred c.args.p.now))
    (c.meet_replies.new.queue ≡ first_queue t.attacker t.barred c.args.n c.args.p.now)
    (λ met. met ∙ (ap (λ (l : List Position). first_occurrences l (open_replies t.barred c.args.p.now)) c.requires.new ∙ first-own t.attacker t.barred c.args.n c.args.p.now own some_left))
    c.meet_replies.ensures.met
