-- An exchange with one engine as a part of a match.
use Rattle.std.proofs.Common.{◌≡◌, List, [], ℕ, Option, Result, Ok, Err, ap, refl}
use Rattle.std.specs.Prelude.{alloc_error}
use Rattle.std.specs.declared.alloc.AllocError.{AllocError}
use Rattle.arimaa_board.specs.declared.piece.Color.{Color}
use Rattle.arimaa_board.specs.declared.piece.Color.TheVariants.{Gold, Silver}
use Rattle.arimaa_outside.specs.Counts.{NeverFall}
use Rattle.arimaa_outside.proofs.Lemmas.CountLaws.{falls_never}
use Rattle.arimaa_outside.proofs.Lemmas.ToldLaws.{told_nothing}
use Rattle.arimaa_engine.specs.declared.fault.EngineFault.{EngineFault}
use Rattle.arimaa_engine.specs.declared.fault.EngineFault.TheVariants as fault
use Rattle.arimaa_engine.specs.Exchange.{Exchange, Told, TookPlaceOrBroke}
use Rattle.arimaa_engine.specs.Exchange as engine
use Rattle.arimaa_match.specs.declared.side_fault.SideFault.{SideFault}
use Rattle.arimaa_match.specs.Parts.{BrokeOff, PortView, TookPlace, Went, WentSo, of_side, scene_of, outcome_of_call, with_engine, with_gold, with_silver, with_value}
use Rattle.arimaa_match.proofs.Parts.{tells_none}

gold_took : {X : Type 0} (exchange : Exchange X) (old new silver : PortView)
    (given : Option (List ℕ)) (r : Result X EngineFault) → NeverFall old.counts new.counts
    → engine.TookPlace exchange old.told new.told r
    → TookPlace (with_engine Gold exchange) (scene_of old silver given) (scene_of new silver given) (of_side Gold r)
gold_took exchange old new silver given r n a = record {
  heard = record { gold = a.heard; silver = []; moments = [] };
  lines = record { to_gold = a.lines; to_silver = [] };
  between = record {
    gold_answers = a.answers;
    silver_answers = told_nothing silver.told.answers;
    to_gold = a.sent;
    to_silver = told_nothing silver.told.sent;
    moments = tells_none given;
    gold_counts = n;
    silver_counts = falls_never silver.counts;
  };
  agrees = λ later. ap (with_gold later) (a.agrees later.gold);
}

silver_took : {X : Type 0} (exchange : Exchange X) (old new gold : PortView)
    (given : Option (List ℕ)) (r : Result X EngineFault) → NeverFall old.counts new.counts
    → engine.TookPlace exchange old.told new.told r
    → TookPlace (with_engine Silver exchange) (scene_of gold old given) (scene_of gold new given) (of_side Silver r)
silver_took exchange old new gold given r n a = record {
  heard = record { gold = []; silver = a.heard; moments = [] };
  lines = record { to_gold = []; to_silver = a.lines };
  between = record {
    gold_answers = told_nothing gold.told.answers;
    silver_answers = a.answers;
    to_gold = told_nothing gold.told.sent;
    to_silver = a.sent;
    moments = tells_none given;
    gold_counts = falls_never gold.counts;
    silver_counts = n;
  };
  agrees = λ later. ap (with_silver later) (a.agrees later.silver);
}

gold_off : {X : Type 0} (exchange : Exchange X) (old new silver : PortView)
    (given : Option (List ℕ)) → NeverFall old.counts new.counts
    → engine.BrokeOff exchange old.told new.told
    → BrokeOff (with_engine Gold exchange) (scene_of old silver given) (scene_of new silver given)
gold_off exchange old new silver given n a = record {
  heard = record { gold = a.heard; silver = []; moments = [] };
  lines = record { to_gold = a.lines; to_silver = [] };
  rest = record { to_gold = a.rest; to_silver = [] };
  between = record {
    gold_answers = a.answers;
    silver_answers = told_nothing silver.told.answers;
    to_gold = a.sent;
    to_silver = told_nothing silver.told.sent;
    moments = tells_none given;
    gold_counts = n;
    silver_counts = falls_never silver.counts;
  };
  begins = ap (λ lines. record { to_gold = lines; to_silver = [] }) a.begins;
}

silver_off : {X : Type 0} (exchange : Exchange X) (old new gold : PortView)
    (given : Option (List ℕ)) → NeverFall old.counts new.counts
    → engine.BrokeOff exchange old.told new.told
    → BrokeOff (with_engine Silver exchange) (scene_of gold old given) (scene_of gold new given)
silver_off exchange old new gold given n a = record {
  heard = record { gold = []; silver = a.heard; moments = [] };
  lines = record { to_gold = []; to_silver = a.lines };
  rest = record { to_gold = []; to_silver = a.rest };
  between = record {
    gold_answers = told_nothing gold.told.answers;
    silver_answers = a.answers;
    to_gold = told_nothing gold.told.sent;
    to_silver = a.sent;
    moments = tells_none given;
    gold_counts = falls_never gold.counts;
    silver_counts = n;
  };
  begins = ap (λ lines. record { to_gold = []; to_silver = lines }) a.begins;
}

-- what follows where an exchange took place, and where it was broken off, follows in each case
by_outcome : {X : Type 0} {exchange : Exchange X} {old new : Told} (side : Color)
    (So : Result (Result X SideFault) AllocError → Type 0)
    → ((r : Result X EngineFault) → engine.TookPlace exchange old new r → So (Ok (of_side side r)))
    → (engine.BrokeOff exchange old new → So (Err alloc_error))
    → (r : Result X EngineFault) → TookPlaceOrBroke exchange old new r → So (outcome_of_call side r)
by_outcome side So took off (Ok x) a = took (Ok x) a
by_outcome side So took off (Err fault.Failed) a = took (Err fault.Failed) a
by_outcome side So took off (Err fault.Ended) a = took (Err fault.Ended) a
by_outcome side So took off (Err fault.Long) a = took (Err fault.Long) a
by_outcome side So took off (Err fault.Silent) a = took (Err fault.Silent) a
by_outcome side So took off (Err (fault.Version text)) a = took (Err (fault.Version text)) a
by_outcome side So took off (Err fault.Memory) a = off a

-- an exchange with Gold's engine is a part of the match, and Silver's port stays as it was
pub with_gold_went : {X : Type 0} {exchange : Exchange X} {old new : PortView}
    {r : Result X EngineFault} (silver : PortView) (given : Option (List ℕ))
    → NeverFall old.counts new.counts → engine.Went exchange old.told new.told r
    → Went (with_engine Gold exchange) (scene_of old silver given) (scene_of new silver given) (outcome_of_call Gold r)
with_gold_went {X} {exchange} {old} {new} {r} silver given n a = record {
  so = by_outcome Gold
      (WentSo (with_engine Gold exchange) (scene_of old silver given) (scene_of new silver given))
      (λ r. gold_took exchange old new silver given r n) (gold_off exchange old new silver given n)
      r a.so;
}

-- the same of Silver's engine
pub with_silver_went : {X : Type 0} {exchange : Exchange X} {old new : PortView}
    {r : Result X EngineFault} (gold : PortView) (given : Option (List ℕ))
    → NeverFall old.counts new.counts → engine.Went exchange old.told new.told r
    → Went (with_engine Silver exchange) (scene_of gold old given) (scene_of gold new given) (outcome_of_call Silver r)
with_silver_went {X} {exchange} {old} {new} {r} gold given n a = record {
  so = by_outcome Silver
      (WentSo (with_engine Silver exchange) (scene_of gold old given) (scene_of gold new given))
      (λ r. silver_took exchange old new gold given r n) (silver_off exchange old new gold given n)
      r a.so;
}

-- the value of an exchange stays beside what stops it
pub stopped_with_value : {X Y : Type 0} (side : Color) (x : X) (r : Result Y EngineFault)
    → with_value x (outcome_of_call side r) ≡ outcome_of_call side (engine.value_unless_fault x r)
stopped_with_value side x (Ok y) = refl
stopped_with_value side x (Err fault.Failed) = refl
stopped_with_value side x (Err fault.Ended) = refl
stopped_with_value side x (Err fault.Long) = refl
stopped_with_value side x (Err fault.Silent) = refl
stopped_with_value side x (Err (fault.Version text)) = refl
stopped_with_value side x (Err fault.Memory) = refl
