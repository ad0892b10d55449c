use Rattle.std.proofs.Common.{◌≡◌, ◌∙◌, ap, eq-eqb, false, true, rules, sym, true≢false, None, refl}
use Rattle.std.specs.Prelude.{◌==◌}
use Rattle.arimaa_model.specs.Wins.{is_nil}
use Rattle.arimaa_game.specs.Play.{turns_in}
use Rattle.arimaa_judge.specs.declared.record_state.Stage.TheVariants as stage
use Rattle.arimaa_judge.specs.declared.rule.Rule.TheVariants as rule
use Rattle.arimaa_judge.specs.RecordState.{RecordState, with_turn_back}
use Rattle.arimaa_judge.specs.RecordStateInvariant.{AreRepeats}
use Rattle.arimaa_judge.specs.Rules.{rule_of_label}
use Rattle.arimaa_judge.proofs.DueLabels.{labels-none, none-standing, repeats-taken, same-state, state_at, taken-state}
use Rattle.arimaa_judge.proofs.record_state.RecordState.take_back.Goals as goal

pub returns-then-not-take_back : goal.returns-then-not-take_back
returns-then-not-take_back c =
    let s = c.self.inside in
    let g = c.in-Playing.game in
    let refused : c.take_back.result ≡ false = search rules in
    let none : (turns_in g.history == 0) ≡ true = search rules in
    let same : c.take_back.new.game.history ≡ g.history = rw refused at c.take_back.ensures.history in
    let begin : state_at (stage.Playing g) s.repeated s.due s.closed s.word ≡ c.args.self.now =
    ap (λ at. state_at at s.repeated s.due s.closed s.word) (sym c.in-Playing.is) ∙ c.self.view_is in
    let nil : is_nil c.args.self.now.labels ≡ true = ap (λ (x : RecordState). is_nil x.labels) (sym begin) ∙ (labels-none (turns_in g.history) s.repeated s.due ∙ none) in
    let allowed : rule_of_label c.args.self.now c.args.label ≡ None = search rules in
    record { rule = rw (allowed, nil) refl; after = same-state g c.take_back.new.game s.repeated s.due s.closed s.word same ∙ begin }

pub invariant_of-self-in-Playing : goal.invariant_of-self-in-Playing
invariant_of-self-in-Playing c =
    let s = c.self.inside in
    let g = c.in-Playing.game in
    let taken : c.take_back.result ≡ true = search rules in
    let some : (turns_in g.history == 0) ≡ false = search rules in
    let less = rw taken at c.take_back.ensures.history in
    let repeats : AreRepeats (turns_in g.history) s.repeated s.due = rw c.in-Playing.is at c.self.invariant.repeats in
    record {
      game = c.take_back.ensures.under_way;
      repeats = repeats-taken g c.take_back.new.game s.repeated c.label_taken_back.result.1 s.due c.label_taken_back.result.0
          (λ e. true≢false (sym (eq-eqb (turns_in g.history) 0 e) ∙ some)) less repeats c.label_taken_back.ensures.repeats;
      setups = tt;
      word = c.self.invariant.word;
    }

pub returns-else-not-take_back : goal.returns-else-not-take_back
returns-else-not-take_back c =
    let s = c.self.inside in
    let g = c.in-Playing.game in
    let taken : c.take_back.result ≡ true = search rules in
    let some : (turns_in g.history == 0) ≡ false = search rules in
    let less = rw taken at c.take_back.ensures.history in
    let begin : state_at (stage.Playing g) s.repeated s.due s.closed s.word ≡ c.args.self.now =
    ap (λ at. state_at at s.repeated s.due s.closed s.word) (sym c.in-Playing.is) ∙ c.self.view_is in
    let nil : is_nil c.args.self.now.labels ≡ false = ap (λ (x : RecordState). is_nil x.labels) (sym begin) ∙ (labels-none (turns_in g.history) s.repeated s.due ∙ some) in
    let allowed : rule_of_label c.args.self.now c.args.label ≡ None = search rules in
    record {
      rule = rw (allowed, nil) refl;
      after = taken-state g c.take_back.new.game s.repeated c.label_taken_back.result.1 s.due c.label_taken_back.result.0 s.closed s.word
          (λ e. true≢false (sym (eq-eqb (turns_in g.history) 0 e) ∙ some)) less c.label_taken_back.ensures.labels
          ∙ ap with_turn_back begin;
    }

pub returns-in_default-stage : goal.returns-in_default-stage
returns-in_default-stage c =
    let s = c.self.inside in
    let none = none-standing s.stage s.repeated s.due c.in_default-stage.not-Playing in
    let nil : is_nil c.args.self.now.labels ≡ true = ap (λ (x : RecordState). is_nil x.labels) (sym c.self.view_is) ∙ none in
    let allowed : rule_of_label c.args.self.now c.args.label ≡ None = search rules in
    record { rule = rw (allowed, nil) refl; after = c.self.view_is }
