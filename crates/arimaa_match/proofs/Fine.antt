-- Parts that may meet a fault, one after the other.
use Rattle.std.proofs.Common.{◌≡◌, List, [], ◌∷◌, ℕ, Option, Result, Ok, Err, refl, subst}
use Rattle.std.specs.declared.alloc.AllocError.{AllocError}
use Rattle.arimaa_outside.specs.ToldLines.{TellsMore}
use Rattle.arimaa_outside.proofs.Lemmas.CountLaws.{falls_never}
use Rattle.arimaa_outside.proofs.Lemmas.ToldLaws.{told_nothing}
use Rattle.arimaa_match.specs.declared.side_fault.SideFault.{SideFault}
use Rattle.arimaa_match.specs.Parts.{Part, PortView, Scene, Went, if_fine, no_lines, timing, unless_fault, with_value}
use Rattle.arimaa_match.proofs.Parts.{went_done, went_off, went_on}

pub fine_on : {X Y : Type 0} {first : Part (Result X SideFault)}
    (later : X → Part
    (Result Y SideFault)) {old mid new : Scene} {told : Result X SideFault} {x : X} {r : Result
    (Result Y SideFault) AllocError}
    → Went first old mid (Ok told) → told ≡ Ok x → Went (later x) mid new r
    → Went (if_fine first later) old new r
fine_on {X} {Y} {first} later {old} {mid} {new} {told} {x} {r} a same b =
    went_on (unless_fault later)
    (subst (λ (t : Result X SideFault). Went first old mid (Ok t)) same a) b

pub fine_wrong : {X Y : Type 0} {first : Part (Result X SideFault)}
    (later : X → Part
    (Result Y SideFault)) {old mid : Scene} {told : Result X SideFault} {fault : SideFault}
    → Went first old mid (Ok told) → told ≡ Err fault
    → Went {X = Result Y SideFault} (if_fine first later) old mid (Ok (Err fault))
fine_wrong {X} {Y} {first} later {old} {mid} {told} {fault} a same =
    went_on (unless_fault later)
    (subst (λ (t : Result X SideFault). Went first old mid (Ok t)) same a) went_done

pub fine_off : {X Y : Type 0} {first : Part (Result X SideFault)}
    (later : X → Part (Result Y SideFault)) {old mid : Scene} {e f : AllocError}
    → Went {X = Result X SideFault} first old mid (Err e)
    → Went {X = Result Y SideFault} (if_fine first later) old mid (Err f)
fine_off {X} {Y} {first} later a = went_off (unless_fault later) a

-- the same where the value of the first part is known beside its outcome
pub value_on : {X Y Z : Type 0} {first : Part (Result X SideFault)}
    (later : X → Part
    (Result Y SideFault)) {old mid new : Scene} {told : Result Z SideFault} {x : X} {z : Z}
    {r : Result (Result Y SideFault) AllocError}
    → Went first old mid (with_value x (Ok told)) → told ≡ Ok z → Went (later x) mid new r
    → Went (if_fine first later) old new r
value_on {X} {Y} {Z} {first} later {old} {mid} {new} {told} {x} {z} {r} a same b =
    went_on (unless_fault later)
    (subst (λ (t : Result Z SideFault). Went first old mid (with_value x (Ok t))) same a) b

pub value_wrong : {X Y Z : Type 0} {first : Part (Result X SideFault)}
    (later : X → Part (Result Y SideFault)) {old mid : Scene} {told : Result Z SideFault}
    (x : X) {fault : SideFault}
    → Went first old mid (with_value x (Ok told)) → told ≡ Err fault
    → Went {X = Result Y SideFault} (if_fine first later) old mid (Ok (Err fault))
value_wrong {X} {Y} {Z} {first} later {old} {mid} {told} x {fault} a same =
    went_on (unless_fault later)
    (subst (λ (t : Result Z SideFault). Went first old mid (with_value x (Ok t))) same a)
    went_done

-- the clock gave a moment
pub timing_went : (gold silver : PortView) {old new : Option (List ℕ)} {m : ℕ}
    → TellsMore old (m ∷ []) new
    → Went timing (record { gold = gold; silver = silver; given = old })
    (record { gold = gold; silver = silver; given = new }) (Ok m)
timing_went gold silver {old} {new} {m} told = record {
  so = record {
    heard = record { gold = []; silver = []; moments = m ∷ [] };
    lines = no_lines;
    between = record {
      gold_answers = told_nothing gold.told.answers;
      silver_answers = told_nothing silver.told.answers;
      to_gold = told_nothing gold.told.sent;
      to_silver = told_nothing silver.told.sent;
      moments = told;
      gold_counts = falls_never gold.counts;
      silver_counts = falls_never silver.counts;
    };
    agrees = λ later. refl;
  };
}
