use Rattle.std.proofs.Common.{◌≡◌, List, Ok, Err, Result, subst, ℕ}
use Rattle.std.specs.Prelude.{◌↔◌}
use Rattle.arimaa_board.specs.declared.turn.NotedStep.{NotedStep}
use Rattle.arimaa_notation.specs.declared.fault.NoteFault.{NoteFault}
use Rattle.arimaa_notation.specs.declared.fault.NoteFault.TheVariants.{Token, Steps, Setup}
use Rattle.arimaa_notation.specs.Items.{items_of}
use Rattle.arimaa_notation.specs.Grammar.{IsTurnReading, IsTurnText}
use Rattle.arimaa_notation.proofs.Lemmas.TurnReading.{one_reading}
use Rattle.arimaa_notation.proofs.Lemmas.Reading.{turn_read}
use Rattle.arimaa_notation.proofs.turn.read_turn.Goals as goal

-- the answer is this one exactly where the items are read as it
exactly : (items : List (List ℕ)) (r s : Result (List NotedStep) NoteFault) → IsTurnReading items r → (r ≡ s) ↔ IsTurnReading items s
exactly items r s h = let P : Result (List NotedStep) NoteFault → Type 0 = IsTurnReading items in (λ e. subst P e h, λ g. one_reading items r s h g)

pub returns-clause-turn : goal.returns-clause-turn
returns-clause-turn c =
    λ t. let both = exactly (items_of c.args.bytes.now) c.reading.result (Ok t) c.reading.ensures in
    (λ e. let h = both.0 e in record { steps = h.0; some = h.1; few = h.2 }, λ (h : IsTurnText c.args.bytes.now t). both.1 (h.steps, h.some, h.few))

pub returns-clause-token : goal.returns-clause-token
returns-clause-token c = λ n. exactly (items_of c.args.bytes.now) c.reading.result (Err (Token n)) c.reading.ensures

pub returns-clause-steps : goal.returns-clause-steps
returns-clause-steps c = exactly (items_of c.args.bytes.now) c.reading.result (Err Steps) c.reading.ensures

pub returns-clause-no_setup : goal.returns-clause-no_setup
returns-clause-no_setup c = λ e. (exactly (items_of c.args.bytes.now) c.reading.result (Err Setup) c.reading.ensures).0 e

pub returns-clause-value : goal.returns-clause-value
returns-clause-value c = turn_read c.args.bytes.now _ (returns-clause-turn c)
