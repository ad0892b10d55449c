use Rattle.std.proofs.Common.{◌≡◌, ◌∙◌, ◌+◌, length, ap, sym}
use Rattle.arimaa_game.specs.Play.{Play}
use Rattle.arimaa_game.proofs.Lemmas.Endings.{taken-back}
use Rattle.arimaa_game.proofs.game.Game.take_back.Goals as goal

pub invariant_of-self : goal.invariant_of-self
invariant_of-self c =
    let g : Play = record { history = c.self.inside.history; closing = c.self.inside.closing } in
    let counted : c.turns.result + 1 ≡ length g.history = c.turns.ensures.counted ∙ ap (λ (x : Play). length x.history) (sym c.self.view_is) in
    (taken-back g c.pop.new.self c.pop.result c.turns.result c.self.inside.ending c.self.invariant (sym c.is_some.ensures ∙ c.if-is_some.false)
    counted c.if-turns-eq0.false c.pop.ensures.popped c.pop.ensures.none.0).kept

pub returns-clause-taken : goal.returns-clause-taken
returns-clause-taken c =
    let g : Play = record { history = c.self.inside.history; closing = c.self.inside.closing } in
    let counted : c.turns.result + 1 ≡ length g.history = c.turns.ensures.counted ∙ ap (λ (x : Play). length x.history) (sym c.self.view_is) in
    let taken = taken-back g c.pop.new.self c.pop.result c.turns.result c.self.inside.ending c.self.invariant (sym c.is_some.ensures ∙ c.if-is_some.false)
    counted c.if-turns-eq0.false c.pop.ensures.popped c.pop.ensures.none.0 in
    record {
      last = taken.last;
      before = sym c.self.view_is ∙ (λ i. record { history = taken.before i; closing = c.self.inside.closing });
      present = c.now.ensures.present;
      running = taken.running;
    }
