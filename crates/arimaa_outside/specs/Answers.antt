-- What a port answered to a call. Want of memory is no answer: the call can be made again.
use Rattle.std.specs.Prelude.{ℕ, List, [], ◌∷◌, Result, Ok, Err}
use Rattle.arimaa_outside.specs.declared.receipt.Heard.{Heard}
use Rattle.arimaa_outside.specs.declared.receipt.Heard.TheVariants as heard
use Rattle.arimaa_outside.specs.declared.port_answer.PortAnswer.{PortAnswer}
use Rattle.arimaa_outside.specs.declared.port_answer.PortAnswer.TheVariants as answer
use Rattle.arimaa_outside.specs.declared.port_fault.PortFault.{PortFault}
use Rattle.arimaa_outside.specs.declared.port_fault.PortFault.TheVariants as fault
use Rattle.arimaa_outside.specs.declared.speech.Said.{Said}
use Rattle.arimaa_outside.specs.declared.speech.Said.TheVariants as said

-- what was said, where it was heard so and this is the line
abbrev pub said_as : Heard → List ℕ → Said
said_as heard.Line line = said.Line line
said_as heard.Ended line = said.Ended
said_as heard.Long line = said.Long

-- what a call that was refused answered
abbrev pub refusal_answer : PortFault → List PortAnswer
refusal_answer fault.Failed = answer.Failed ∷ []
refusal_answer fault.Memory = []

-- what a call of `send` answered
abbrev pub send_answer : {T : Type 0} → Result T PortFault → List PortAnswer
send_answer (Ok _) = answer.Sent ∷ []
send_answer (Err refusal) = refusal_answer refusal

-- what a call of `receive` answered that left this line
abbrev pub receive_answer : Result Heard PortFault → List ℕ → List PortAnswer
receive_answer (Ok how) line = answer.Heard (said_as how line) ∷ []
receive_answer (Err refusal) line = refusal_answer refusal
