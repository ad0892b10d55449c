-- Parts of a match, as functions of what the two ports answer and of the moments that the clock
-- gives.
use Rattle.std.specs.Prelude.{◌≡◌, List, [], ◌∷◌, ◌++◌, ℕ, Option, None, Some, Result, Ok, Err, Bool, false, alloc_error}
use Rattle.std.specs.declared.alloc.AllocError.{AllocError}
use Rattle.arimaa_board.specs.declared.piece.Color.{Color}
use Rattle.arimaa_board.specs.declared.piece.Color.TheVariants.{Gold, Silver}
use Rattle.arimaa_board.specs.Board.{same_color}
use Rattle.arimaa_outside.specs.declared.port_answer.PortAnswer.{PortAnswer}
use Rattle.arimaa_outside.specs.Counts.{Counts, NeverFall}
use Rattle.arimaa_outside.specs.ToldLines.{TellsMore, told_after}
use Rattle.arimaa_engine.specs.declared.fault.EngineFault.{EngineFault}
use Rattle.arimaa_engine.specs.declared.fault.EngineFault.TheVariants as fault
use Rattle.arimaa_engine.specs.Faults.{IsCause}
use Rattle.arimaa_engine.specs.Talk.{Talk}
use Rattle.arimaa_engine.specs.Exchange.{Exchange, Told, told_by}
use Rattle.arimaa_engine.specs.Exchange as engine
use Rattle.arimaa_match.specs.declared.side_fault.SideFault.{SideFault}

-- what is to come in a match: the answers of Gold's port and of Silver's, and the moments
pub record Coming : Type 0 where
  pub gold : List PortAnswer
  pub silver : List PortAnswer
  pub moments : List ℕ

-- the lines that each engine is sent
pub record Lines : Type 0 where
  pub to_gold : List (List ℕ)
  pub to_silver : List (List ℕ)

-- no lines
abbrev pub no_lines : Lines
no_lines = record { to_gold = []; to_silver = [] }

-- these come, and then those
abbrev pub and_coming : Coming → Coming → Coming
and_coming a b = record {
  gold = a.gold ++ b.gold;
  silver = a.silver ++ b.silver;
  moments = a.moments ++ b.moments;
}

-- these lines are sent, and then those
abbrev pub and_lines : Lines → Lines → Lines
and_lines a b = record { to_gold = a.to_gold ++ b.to_gold; to_silver = a.to_silver ++ b.to_silver }

-- what a part comes to: its value, none where the answers or moments end before it does, what comes
-- after it, and the lines that it sent
pub record Ran (X : Type 0) : Type 0 where
  pub value : Option X
  pub left : Coming
  pub lines : Lines

-- a part of a match: what it comes to by what is to come
abbrev pub Part : Type 0 → Type 0
Part X = Coming → Ran X

-- nothing happens, and this is the value
abbrev pub value_part : {X : Type 0} → X → Part X
value_part x coming = record { value = Some x; left = coming; lines = no_lines }

-- the answers or moments end
abbrev pub out_of_answers : {X : Type 0} → Part X
out_of_answers coming = record { value = None; left = coming; lines = no_lines }

-- what follows on a value, if there is one
abbrev pub going_on : {X Y : Type 0} → (X → Part Y) → Option X → Part Y
going_on later None = out_of_answers
going_on later (Some x) = later x

-- these lines were sent before
abbrev pub after_lines : {X : Type 0} → Lines → Ran X → Ran X
after_lines lines ran =
    record { value = ran.value; left = ran.left; lines = and_lines lines ran.lines }

-- what follows on a part that came to this
abbrev pub continuation : {X Y : Type 0} → (X → Part Y) → Ran X → Ran Y
continuation later ran = after_lines ran.lines (going_on later ran.value ran.left)

-- one part, and then the one that its value leads to
abbrev pub and_then : {X Y : Type 0} → Part X → (X → Part Y) → Part Y
and_then first later coming = continuation later (first coming)

-- what follows on an outcome that is no fault
abbrev pub unless_fault : {X Y : Type 0} → (X → Part (Result Y SideFault)) → Result X SideFault
    → Part (Result Y SideFault)
unless_fault later (Ok x) = later x
unless_fault later (Err fault) = value_part (Err fault)

-- one part, and unless it met a fault the one that its value leads to
abbrev pub if_fine : {X Y : Type 0} → Part (Result X SideFault) → (X → Part (Result Y SideFault))
    → Part (Result Y SideFault)
if_fine first later = and_then first (unless_fault later)

-- the next moment of the clock
abbrev pub moment_in : List ℕ → Part ℕ
moment_in [] coming = out_of_answers coming
moment_in (m ∷ later) coming = record {
  value = Some m;
  left = record { gold = coming.gold; silver = coming.silver; moments = later };
  lines = no_lines;
}

abbrev pub timing : Part ℕ
timing coming = moment_in coming.moments coming

-- a fault is one of a side's session
abbrev pub of_side : {X : Type 0} → Color → Result X EngineFault → Result X SideFault
of_side side (Ok x) = Ok x
of_side side (Err why) = Err (record { side = side; fault = why })

-- an outcome of a side's exchange
abbrev pub outcome_of_side : {X : Type 0} → Color → Option (Result X EngineFault)
    → Option (Result X SideFault)
outcome_of_side side None = None
outcome_of_side side (Some r) = Some (of_side side r)

-- an exchange with Gold's engine that came to this
abbrev pub with_gold : {X : Type 0} → Coming → engine.Ran X → Ran (Result X SideFault)
with_gold coming ran = record {
  value = outcome_of_side Gold ran.outcome;
  left = record { gold = ran.left; silver = coming.silver; moments = coming.moments };
  lines = record { to_gold = ran.lines; to_silver = [] };
}

-- the same with Silver's
abbrev pub with_silver : {X : Type 0} → Coming → engine.Ran X → Ran (Result X SideFault)
with_silver coming ran = record {
  value = outcome_of_side Silver ran.outcome;
  left = record { gold = coming.gold; silver = ran.left; moments = coming.moments };
  lines = record { to_gold = []; to_silver = ran.lines };
}

-- an exchange with a side's engine
abbrev pub with_engine : {X : Type 0} → Color → Exchange X → Part (Result X SideFault)
with_engine Gold exchange coming = with_gold coming (exchange coming.gold)
with_engine Silver exchange coming = with_silver coming (exchange coming.silver)

-- what a port tells and counts
pub record PortView : Type 0 where
  pub told : Told
  pub counts : Counts

-- what a port tells and counts, by the words for it
abbrev pub view_of : {P : Type 0} → (P → Option (List (List ℕ))) → (P → Option (List PortAnswer))
    → (P → Counts) → P → PortView
view_of sent answers counts port = record { told = told_by sent answers port; counts = counts port }

-- what both ports tell and count, and what the clock tells
pub record Scene : Type 0 where
  pub gold : PortView
  pub silver : PortView
  pub given : Option (List ℕ)

-- what these ports and the clock tell
abbrev pub scene_of : PortView → PortView → Option (List ℕ) → Scene
scene_of gold silver given = record { gold = gold; silver = silver; given = given }

-- what the ports of two sessions tell and count, where the clock tells this
abbrev pub scene : {P : Type 0} → (P → Option (List (List ℕ))) → (P → Option (List PortAnswer))
    → (P → Counts) → Talk P → Talk P → Option (List ℕ) → Scene
scene sent answers counts gold silver given = record {
  gold = view_of sent answers counts gold.port;
  silver = view_of sent answers counts silver.port;
  given = given;
}

-- the same, the clock apart
abbrev pub ports : {P : Type 0} → (P → Option (List (List ℕ))) → (P → Option (List PortAnswer))
    → (P → Counts) → Talk P → Talk P → Scene
ports sent answers counts gold silver = scene sent answers counts gold silver None

-- between two scenes the ports gave these answers, the clock gave these moments, these lines were
-- sent, and no count fell
pub record Between (old new : Scene) (heard : Coming) (lines : Lines) : Type 0 where
  pub gold_answers : new.gold.told.answers ≡ told_after old.gold.told.answers heard.gold
  pub silver_answers : new.silver.told.answers ≡ told_after old.silver.told.answers heard.silver
  pub to_gold : new.gold.told.sent ≡ told_after old.gold.told.sent lines.to_gold
  pub to_silver : new.silver.told.sent ≡ told_after old.silver.told.sent lines.to_silver
  pub moments : TellsMore old.given heard.moments new.given
  pub gold_counts : NeverFall old.gold.counts new.gold.counts
  pub silver_counts : NeverFall old.silver.counts new.silver.counts

-- a part took place and came to this value, whatever comes later
pub record TookPlace {X : Type 0} (part : Part X) (old new : Scene) (value : X) : Type 0 where
  pub heard : Coming
  pub lines : Lines
  pub between : Between old new heard lines
  pub agrees : (later : Coming)
      → part (and_coming heard later) ≡ record { value = Some value; left = later; lines = lines }

-- a part was broken off: the lines that were sent are the first of those that the part sends by
-- what was heard
pub record BrokeOff {X : Type 0} (part : Part X) (old new : Scene) : Type 0 where
  pub heard : Coming
  pub lines : Lines
  pub rest : Lines
  pub between : Between old new heard lines
  pub begins : (part heard).lines ≡ and_lines lines rest

-- a part took place, or was broken off for want of memory
abbrev pub WentSo : {X : Type 0} → Part X → Scene → Scene → Result X AllocError → Type 0
WentSo part old new (Ok x) = TookPlace part old new x
WentSo part old new (Err e) = BrokeOff part old new

-- a part went so
pub record Went {X : Type 0} (part : Part X) (old new : Scene)
    (result : Result X AllocError) : Type 0 where
  pub so : WentSo part old new result

-- neither session is broken
pub record AreWhole {P : Type 0} (gold silver : Talk P) : Type 0 where
  pub gold_whole : gold.broken ≡ false
  pub silver_whole : silver.broken ≡ false

-- which session is broken after an outcome
abbrev pub is_broken_by : {X : Type 0} → Color → Result X SideFault → Bool
is_broken_by side (Ok x) = false
is_broken_by side (Err fault) = same_color side fault.side

-- the sessions are broken as the outcome says
pub record AreAfter {X P : Type 0} (r : Result X SideFault) (gold silver : Talk P) : Type 0 where
  pub gold_so : gold.broken ≡ is_broken_by Gold r
  pub silver_so : silver.broken ≡ is_broken_by Silver r

-- what a call of a side's session comes to: want of memory stands apart
abbrev pub outcome_of_call : {X : Type 0} → Color → Result X EngineFault
    → Result (Result X SideFault) AllocError
outcome_of_call side (Ok x) = Ok (Ok x)
outcome_of_call side (Err fault.Memory) = Err alloc_error
outcome_of_call side (Err fault.Failed) = Ok (Err (record { side = side; fault = fault.Failed }))
outcome_of_call side (Err fault.Ended) = Ok (Err (record { side = side; fault = fault.Ended }))
outcome_of_call side (Err fault.Long) = Ok (Err (record { side = side; fault = fault.Long }))
outcome_of_call side (Err fault.Silent) = Ok (Err (record { side = side; fault = fault.Silent }))
outcome_of_call side (Err (fault.Version text)) =
    Ok (Err (record { side = side; fault = fault.Version text }))

-- this value in place of the one of a call that met no fault
abbrev pub with_value : {X Y : Type 0} → X → Result (Result Y SideFault) AllocError
    → Result (Result X SideFault) AllocError
with_value x (Ok (Ok _)) = Ok (Ok x)
with_value x (Ok (Err fault)) = Ok (Err fault)
with_value x (Err e) = Err e

-- the last line of a side's session
abbrev pub line_at : {P : Type 0} → Color → Talk P → Talk P → List ℕ
line_at Gold gold silver = gold.line
line_at Silver gold silver = silver.line

-- the counts of a side's port
abbrev pub counts_at : Color → Scene → Counts
counts_at Gold s = s.gold.counts
counts_at Silver s = s.silver.counts

-- the fault of an engine is none of memory
abbrev pub IsNoMemory : EngineFault → Type 0
IsNoMemory fault.Memory = ⊥
IsNoMemory fault.Failed = Unit {0}
IsNoMemory fault.Ended = Unit {0}
IsNoMemory fault.Long = Unit {0}
IsNoMemory fault.Silent = Unit {0}
IsNoMemory (fault.Version text) = Unit {0}

-- the fault of a side's session, if there is one, is none of memory and has its cause in what that
-- side's port counted
abbrev pub IfFault : {X : Type 0} → Scene → Scene → Result X SideFault → Type 0
IfFault before now (Ok x) = Unit {0}
IfFault before now (Err f) =
    IsCause (counts_at f.side before) (counts_at f.side now) f.fault × IsNoMemory f.fault
