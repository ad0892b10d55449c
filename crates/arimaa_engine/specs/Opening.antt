-- What the opening of a session comes to.
use Rattle.std.specs.Prelude.{◌≡◌, false, List, ℕ, Option, Ok, Err}
use Rattle.arimaa_outside.specs.Counts.{Counts, NeverFall}
use Rattle.arimaa_outside.specs.declared.port_answer.PortAnswer.{PortAnswer}
use Rattle.arimaa_time.specs.declared.control.Control.{Control}
use Rattle.arimaa_engine.specs.declared.fault.EngineFault.{EngineFault}
use Rattle.arimaa_engine.specs.Exchange.{Went, told_by}
use Rattle.arimaa_engine.specs.Faults.{IsCause}
use Rattle.arimaa_engine.specs.Session.{opening}
use Rattle.arimaa_engine.specs.Talk.{Talk}

module _ {P : Type 0} (sent : P → Option (List (List ℕ))) (answers : P → Option (List PortAnswer))
    (counts : P → Counts) where
  -- a session was opened over a port: the lines of the opening passed, and no call of the port
  -- failed
  pub record IsOpened (control : Control) (port : P) (talk : Talk P) : Type 0 where
    pub went : Went (opening control) (told_by sent answers port) (told_by sent answers talk.port)
        (Ok tt)
    pub whole : talk.broken ≡ false
    pub faults : (counts talk.port).faults ≡ (counts port).faults
    pub never_falls : NeverFall (counts port) (counts talk.port)

  -- the opening of a session over a port met a fault, which has its cause, and the port came back
  pub record IsRefused (control : Control) (port : P) (refusal : EngineFault × P) : Type 0 where
    pub went : Went (opening control) (told_by sent answers port) (told_by sent answers refusal.1)
        (Err refusal.0)
    pub cause : IsCause (counts port) (counts refusal.1) refusal.0
    pub never_falls : NeverFall (counts port) (counts refusal.1)
