-- The faults of turns and takebacks in a game.
use Rattle.std.specs.Prelude.{◌≡◌, Option, None, Some, Result, Ok, Err}
use Rattle.arimaa_model.specs.declared.fault.ApplyFault.{ApplyFault}
use Rattle.arimaa_model.specs.declared.fault.ApplyFault.TheVariants as applying
use Rattle.arimaa_model.specs.declared.fault.FirstFault.{FirstFault}
use Rattle.arimaa_model.specs.declared.fault.FirstFault.TheVariants as first
use Rattle.arimaa_game.specs.declared.fault.GameFault.{GameFault}
use Rattle.arimaa_game.specs.declared.fault.GameFault.TheVariants as faults

-- the fault of a turn that cannot be applied
abbrev pub fault_of : ApplyFault → GameFault
fault_of (applying.Step place e) = faults.Step place e
fault_of (applying.Turn e) = faults.Turn e

-- the fault is the one that is due; want of memory comes only where none is
abbrev pub IsFaultOf : {V : Type 0} → Result V GameFault → GameFault → Type 0
IsFaultOf (Err e) fault = fault ≡ e
IsFaultOf (Ok v) fault = fault ≡ faults.Memory

-- the rule that a turn breaks by a fault: none where the game has ended or memory is wanting; a
-- fault of takebacks alone breaks none either
abbrev pub rule_broken : GameFault → Option FirstFault
rule_broken faults.Over = None
rule_broken faults.NoTurn = None
rule_broken (faults.Step place e) = Some (first.Step place e)
rule_broken faults.Mark = Some first.Mark
rule_broken (faults.Turn e) = Some (first.Turn e)
rule_broken faults.Repeat = Some first.Repeat
rule_broken faults.Memory = None

-- the rule that a turn breaks by what is answered
abbrev pub rule_of_answer : {V : Type 0} → Result V GameFault → Option FirstFault
rule_of_answer (Ok v) = None
rule_of_answer (Err e) = rule_broken e
