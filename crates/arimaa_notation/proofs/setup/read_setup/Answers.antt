use Rattle.std.proofs.Common.{◌≡◌, List, Ok, Err, Result, subst, ℕ}
use Rattle.std.specs.Prelude.{◌↔◌}
use Rattle.arimaa_board.specs.declared.piece.Color.{Color}
use Rattle.arimaa_board.specs.Setup.{Lineup}
use Rattle.arimaa_notation.specs.declared.fault.NoteFault.{NoteFault}
use Rattle.arimaa_notation.specs.declared.fault.NoteFault.TheVariants.{Token, Steps, Setup}
use Rattle.arimaa_notation.specs.Items.{items_of}
use Rattle.arimaa_notation.specs.Grammar.{IsSetupReading, IsSetupText}
use Rattle.arimaa_notation.proofs.Lemmas.SetupReading.{one_reading}
use Rattle.arimaa_notation.proofs.Lemmas.SetupRule.{setup_read}
use Rattle.arimaa_notation.proofs.setup.read_setup.Goals as goal

-- the answer is this one exactly where the items are read as it
exactly : (items : List (List ℕ)) (color : Color) (r s : Result Lineup NoteFault) → IsSetupReading items color r → (r ≡ s) ↔ IsSetupReading items color s
exactly items color r s h = let P : Result Lineup NoteFault → Type 0 = IsSetupReading items color in (λ e. subst P e h, λ g. one_reading items color r s h g)

pub returns-clause-setup : goal.returns-clause-setup
returns-clause-setup c =
    λ s. let both = exactly (items_of c.args.bytes.now) c.args.color c.reading.result (Ok s) c.reading.ensures in
    (λ e. let h = both.0 e in record { entries = h.0; side = h.1; rule = h.2 }, λ (h : IsSetupText c.args.bytes.now c.args.color s). both.1 (h.entries, h.side, h.rule))

pub returns-clause-token : goal.returns-clause-token
returns-clause-token c = λ n. exactly (items_of c.args.bytes.now) c.args.color c.reading.result (Err (Token n)) c.reading.ensures

pub returns-clause-no_setup : goal.returns-clause-no_setup
returns-clause-no_setup c = exactly (items_of c.args.bytes.now) c.args.color c.reading.result (Err Setup) c.reading.ensures

pub returns-clause-no_steps : goal.returns-clause-no_steps
returns-clause-no_steps c = λ e. (exactly (items_of c.args.bytes.now) c.args.color c.reading.result (Err Steps) c.reading.ensures).0 e

pub returns-clause-value : goal.returns-clause-value
returns-clause-value c = setup_read c.args.bytes.now c.args.color _ (returns-clause-setup c)
