-- What the ports counted where a side's session met a fault.
use Rattle.std.proofs.Common.{◌≡◌, Option, Some, None, Result, Ok, Err, subst}
use Rattle.std.specs.Prelude.{IfOk}
use Rattle.std.specs.declared.alloc.AllocError.{AllocError}
use Rattle.arimaa_board.specs.declared.piece.Color.{Color}
use Rattle.arimaa_board.specs.declared.piece.Color.TheVariants.{Gold, Silver}
use Rattle.arimaa_outside.specs.Counts.{Counts, NeverFall}
use Rattle.arimaa_outside.proofs.Lemmas.CountLaws.{falls_never, never_fall}
use Rattle.arimaa_engine.specs.declared.fault.EngineFault.{EngineFault}
use Rattle.arimaa_engine.specs.declared.fault.EngineFault.TheVariants as fault
use Rattle.arimaa_engine.specs.Faults.{HasCause, IsCause}
use Rattle.arimaa_engine.proofs.Lemmas.Causes.{caused_later}
use Rattle.std.proofs.Common.{ℕ, List, le_trans}
use Rattle.arimaa_match.specs.declared.ending.MatchEnd.{MatchEnd}
use Rattle.arimaa_match.specs.declared.ending.MatchEnd.TheVariants as end
use Rattle.arimaa_match.specs.declared.side_fault.SideFault.{SideFault}
use Rattle.arimaa_match.specs.Match.{IfEndsByFault, IfEngineFault}
use Rattle.arimaa_match.specs.Texts.{HasEnded}
use Rattle.arimaa_match.specs.Parts.{Part, Scene, Went, WentSo, counts_at, IfFault, outcome_of_call}

-- no count of either port fell
pub record NeitherFell (before now : Scene) : Type 0 where
  pub gold : NeverFall before.gold.counts now.gold.counts
  pub silver : NeverFall before.silver.counts now.silver.counts

so_fell : {X : Type 0} (part : Part X) (old new : Scene) (r : Result X AllocError)
    → WentSo part old new r → NeitherFell old new
so_fell part old new (Ok x) a =
    record { gold = a.between.gold_counts; silver = a.between.silver_counts }
so_fell part old new (Err e) a =
    record { gold = a.between.gold_counts; silver = a.between.silver_counts }

-- no count fell while a part took place
pub fell_never : {X : Type 0} {part : Part X} {old new : Scene} {r : Result X AllocError}
    → Went part old new r → NeitherFell old new
fell_never {X} {part} {old} {new} {r} went = so_fell part old new r went.so

at_side : (side : Color) (old new : Scene) → NeitherFell old new
    → NeverFall (counts_at side old) (counts_at side new)
at_side Gold old new n = n.gold
at_side Silver old new n = n.silver

-- a cause stays one as the counts grow
grown_cause : (old mid new : Counts) (why : EngineFault) → NeverFall mid new → IsCause old mid why
    → IsCause old new why
grown_cause old mid new fault.Failed n cause = le_trans cause n.faults
grown_cause old mid new fault.Ended n cause = le_trans cause n.stops
grown_cause old mid new fault.Long n cause = le_trans cause n.stops
grown_cause old mid new fault.Silent n cause = le_trans cause n.lines
grown_cause old mid new (fault.Version text) n cause = le_trans cause n.lines
grown_cause old mid new fault.Memory n cause = tt

-- a fault that was met later has its cause from the start
pub fault_later : {X : Type 0} (old mid new : Scene) (r : Result X SideFault) → NeitherFell old mid
    → IfFault mid new r → IfFault old new r
fault_later old mid new (Ok x) n cause = tt
fault_later old mid new (Err f) n cause = (
  caused_later (counts_at f.side old) (counts_at f.side mid) (counts_at f.side new) f.fault
      (at_side f.side old mid n) cause.0,
  cause.1,
)

pub faults_later : {X : Type 0} (old mid new : Scene) (r : Result (Result X SideFault) AllocError)
    → NeitherFell old mid → IfOk r (IfFault mid new) → IfOk r (IfFault old new)
faults_later old mid new (Ok r) n cause = fault_later old mid new r n cause
faults_later old mid new (Err e) n cause = tt

pub end_later : (old mid new : Scene) (how : MatchEnd) → NeitherFell old mid
    → IfEngineFault mid new how → IfEngineFault old new how
end_later old mid new (end.Engine side why) n cause = (
  caused_later (counts_at side old) (counts_at side mid) (counts_at side new) why
      (at_side side old mid n) cause.0,
  cause.1,
)
end_later old mid new (end.Won winner why) n cause = tt
end_later old mid new end.Limit n cause = tt

pub ends_later : (old mid new : Scene) (r : Result (Option MatchEnd) AllocError)
    → NeitherFell old mid → IfOk r (IfEndsByFault mid new) → IfOk r (IfEndsByFault old new)
ends_later old mid new (Err e) n cause = tt
ends_later old mid new (Ok None) n cause = tt
ends_later old mid new (Ok (Some how)) n cause = end_later old mid new how n cause

-- and it has it to the end
pub end_sooner : (old mid new : Scene) (how : MatchEnd) → NeitherFell mid new
    → IfEngineFault old mid how → IfEngineFault old new how
end_sooner old mid new (end.Engine side why) n cause = (
  grown_cause (counts_at side old) (counts_at side mid) (counts_at side new) why
      (at_side side mid new n) cause.0,
  cause.1,
)
end_sooner old mid new (end.Won winner why) n cause = tt
end_sooner old mid new end.Limit n cause = tt

-- what stops a call of a side's session has its cause
pub side_cause : {X : Type 0} (side : Color) (old new : Scene) (r : Result X EngineFault)
    → HasCause (counts_at side old) (counts_at side new) r
    → IfOk (outcome_of_call side r) (IfFault old new)
side_cause side old new (Ok x) cause = tt
side_cause side old new (Err fault.Failed) cause = (cause, tt)
side_cause side old new (Err fault.Ended) cause = (cause, tt)
side_cause side old new (Err fault.Long) cause = (cause, tt)
side_cause side old new (Err fault.Silent) cause = (cause, tt)
side_cause side old new (Err (fault.Version text)) cause = (cause, tt)
side_cause side old new (Err fault.Memory) cause = tt

-- an outcome under another name has the same cause
pub cause_as : {X : Type 0} (old new : Scene) {r other : Result (Result X SideFault) AllocError}
    → other ≡ r → IfOk r (IfFault old new) → IfOk other (IfFault old new)
cause_as {X} old new {r} {other} same cause = rw same cause

-- none fell where nothing happened, nor in two parts where none fell in each
pub fell_none : (now : Scene) → NeitherFell now now
fell_none now =
    record { gold = falls_never now.gold.counts; silver = falls_never now.silver.counts }

pub fell_both : (old mid new : Scene) → NeitherFell old mid → NeitherFell mid new
    → NeitherFell old new
fell_both old mid new a b =
    record { gold = never_fall a.gold b.gold; silver = never_fall a.silver b.silver }

-- the clock does not matter
pub ports_fell : {old new : Scene} {one other : Option (List ℕ)} → NeitherFell old new
    → NeitherFell (record { gold = old.gold; silver = old.silver; given = one })
    (record { gold = new.gold; silver = new.silver; given = other })
ports_fell n = record { gold = n.gold; silver = n.silver }

-- a fault that ends a match has its cause
pub broken_cause : {X : Type 0} (old new : Scene) (f : SideFault) (told : Result X SideFault)
    (r : Result (Option MatchEnd) AllocError) → told ≡ Err f → IfFault old new told
    → IfOk r (λ how. how ≡ Some (end.Engine f.side f.fault)) → IfOk r (IfEndsByFault old new)
broken_cause {X} old new f told (Err e) same cause ended = tt
broken_cause {X} old new f told (Ok how) same cause ended =
    let here : IfFault {X = X} old new (Err f) =
    subst (λ (t : Result X SideFault). IfFault old new t) same cause in
    rw ended here

-- an end that has its cause is none of memory
pub ended_of : (old new : Scene) (how : MatchEnd) → IfEngineFault old new how → HasEnded how
ended_of old new (end.Engine side why) cause = cause.1
ended_of old new (end.Won winner why) cause = tt
ended_of old new end.Limit cause = tt
