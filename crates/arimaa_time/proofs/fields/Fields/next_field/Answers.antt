use Rattle.std.proofs.Common.{option_copied, ap, sym, ◌∙◌}
use Rattle.arimaa_time.specs.Fields.{fields_left}
use Rattle.arimaa_time.proofs.Cutting.{fields_left-some, fields_left-none}
use Rattle.arimaa_time.proofs.fields.Fields.next_field.Goals as goal

pub returns-in-Some-clause-value : goal.returns-in-Some-clause-value
returns-in-Some-clause-value c =
    (fields_left-some c.in_ok-text.text.now _ _ c.args.self.now (ap (λ o. fields_left (option_copied o)) (sym c.in_ok-text.was) ∙ c.self.view_is) c.in-Some.ensures).0

pub returns-in-Some-clause-rest : goal.returns-in-Some-clause-rest
returns-in-Some-clause-rest c =
    (fields_left-some c.in_ok-text.text.now _ _ c.args.self.now (ap (λ o. fields_left (option_copied o)) (sym c.in_ok-text.was) ∙ c.self.view_is) c.in-Some.ensures).1

pub returns-in-None-clause-value : goal.returns-in-None-clause-value
returns-in-None-clause-value c =
    (fields_left-none c.in_ok-text.text.now c.args.self.now (ap (λ o. fields_left (option_copied o)) (sym c.in_ok-text.was) ∙ c.self.view_is) c.in-None.ensures).0

pub returns-in-None-clause-rest : goal.returns-in-None-clause-rest
returns-in-None-clause-rest c =
    (fields_left-none c.in_ok-text.text.now c.args.self.now (ap (λ o. fields_left (option_copied o)) (sym c.in_ok-text.was) ∙ c.self.view_is) c.in-None.ensures).1
