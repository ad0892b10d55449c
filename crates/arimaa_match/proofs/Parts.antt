-- Parts of a match, one after the other.
use Rattle.std.proofs.Common.{◌≡◌, ◌∙◌, ◌++◌, List, [], Option, None, Some, Result, Ok, Err, ap, append_assoc, refl, subst, sym}
use Rattle.std.specs.declared.alloc.AllocError.{AllocError}
use Rattle.arimaa_outside.specs.ToldLines.{TellsMore, told_after}
use Rattle.arimaa_outside.proofs.Lemmas.CountLaws.{falls_never, never_fall}
use Rattle.arimaa_outside.proofs.Lemmas.ToldLaws.{told_nothing, told_twice, told_both}
use Rattle.arimaa_match.specs.Parts.{Between, BrokeOff, Coming, Lines, Part, Scene, TookPlace, Went, WentSo, after_lines, and_lines, and_then, continuation, value_part, going_on, and_coming, no_lines}

pub joined_assoc : (a b c : Coming) → and_coming (and_coming a b) c ≡ and_coming a (and_coming b c)
joined_assoc a b c =
    ap (λ gold. record {
      gold = gold;
      silver = (a.silver ++ b.silver)
          ++ c.silver;
      moments = (a.moments ++ b.moments) ++ c.moments;
    })
    (append_assoc a.gold b.gold c.gold)
    ∙ ap (λ silver.
    record {
      gold = a.gold
          ++ (b.gold ++ c.gold);
      silver = silver;
      moments = (a.moments ++ b.moments) ++ c.moments;
    })
    (append_assoc a.silver b.silver c.silver)
    ∙ ap (λ moments.
    record {
      gold = a.gold ++ (b.gold ++ c.gold);
      silver = a.silver
          ++ (b.silver ++ c.silver);
      moments = moments;
    }) (append_assoc a.moments b.moments c.moments)

pub lines_assoc : (a b c : Lines) → and_lines (and_lines a b) c ≡ and_lines a (and_lines b c)
lines_assoc a b c =
    ap (λ lines. record {
      to_gold = lines;
      to_silver = (a.to_silver ++ b.to_silver)
          ++ c.to_silver;
    }) (append_assoc a.to_gold b.to_gold c.to_gold)
    ∙ ap (λ lines. record { to_gold = a.to_gold ++ (b.to_gold ++ c.to_gold); to_silver = lines })
    (append_assoc a.to_silver b.to_silver c.to_silver)

-- what is told of moments after two calls
tells_both : {X : Type 0} (old mid new : Option (List X)) (first second : List X)
    → TellsMore old first mid → TellsMore mid second new → TellsMore old (first ++ second) new
tells_both {X} old mid None first second a b = tt
tells_both {X} old None (Some now) first second a b = let none : Some now ≡ None = b in absurd cc
tells_both {X} old (Some had) (Some now) first second a b =
    b ∙ ap (λ told. told_after told second) a ∙ told_twice old first second

pub tells_none : {X : Type 0} (told : Option (List X)) → TellsMore told [] told
tells_none None = tt
tells_none (Some had) = told_nothing (Some had)

pub between_none : (s : Scene)
    → Between s s (record { gold = []; silver = []; moments = [] }) no_lines
between_none s = record {
  gold_answers = told_nothing s.gold.told.answers;
  silver_answers = told_nothing s.silver.told.answers;
  to_gold = told_nothing s.gold.told.sent;
  to_silver = told_nothing s.silver.told.sent;
  moments = tells_none s.given;
  gold_counts = falls_never s.gold.counts;
  silver_counts = falls_never s.silver.counts;
}

pub between_both : (old mid new : Scene) (h k : Coming) (l m : Lines) → Between old mid h l
    → Between mid new k m → Between old new (and_coming h k) (and_lines l m)
between_both old mid new h k l m a b = record {
  gold_answers = told_both _ _ _ _ _ a.gold_answers b.gold_answers;
  silver_answers = told_both _ _ _ _ _ a.silver_answers b.silver_answers;
  to_gold = told_both _ _ _ _ _ a.to_gold b.to_gold;
  to_silver = told_both _ _ _ _ _ a.to_silver b.to_silver;
  moments = tells_both old.given mid.given new.given h.moments k.moments a.moments b.moments;
  gold_counts = never_fall a.gold_counts b.gold_counts;
  silver_counts = never_fall a.silver_counts b.silver_counts;
}

-- a part that has not begun was broken off
not_begun : {X : Type 0} (part : Part X) (s : Scene) → BrokeOff part s s
not_begun part s = record {
  heard = record { gold = []; silver = []; moments = [] };
  lines = no_lines;
  rest = (part (record { gold = []; silver = []; moments = [] })).lines;
  between = between_none s;
  begins = refl;
}

-- nothing took place
took_none : {X : Type 0} (x : X) (s : Scene) → TookPlace (value_part x) s s x
took_none x s = record {
  heard = record { gold = []; silver = []; moments = [] };
  lines = no_lines;
  between = between_none s;
  agrees = λ later. refl;
}

place_both : {X Y : Type 0} (first : Part X) (later : X → Part Y) (old mid new : Scene) (x : X)
    (y : Y) → TookPlace first old mid x → TookPlace (later x) mid new y
    → TookPlace (and_then first later) old new y
place_both first later old mid new x y a b = record {
  heard = and_coming a.heard b.heard;
  lines = and_lines a.lines b.lines;
  between = between_both _ _ _ _ _ _ _ a.between b.between;
  agrees = λ rest.
      ap (λ coming. continuation later (first coming)) (joined_assoc a.heard b.heard rest)
      ∙ ap (continuation later) (a.agrees (and_coming b.heard rest))
      ∙ ap (after_lines a.lines) (b.agrees rest);
}

off_both : {X Y : Type 0} (first : Part X) (later : X → Part Y) (old mid new : Scene) (x : X)
    → TookPlace first old mid x → BrokeOff (later x) mid new
    → BrokeOff (and_then first later) old new
off_both first later old mid new x a b = record {
  heard = and_coming a.heard b.heard;
  lines = and_lines a.lines b.lines;
  rest = b.rest;
  between = between_both _ _ _ _ _ _ _ a.between b.between;
  begins = ap (λ ran. (continuation later ran).lines) (a.agrees b.heard)
      ∙ ap (and_lines a.lines) b.begins ∙ sym (lines_assoc a.lines b.lines b.rest);
}

off_first : {X Y : Type 0} (first : Part X) (later : X → Part Y) (old new : Scene)
    → BrokeOff first old new → BrokeOff (and_then first later) old new
off_first first later old new a = record {
  heard = a.heard;
  lines = a.lines;
  rest = and_lines a.rest (going_on later (first a.heard).value (first a.heard).left).lines;
  between = a.between;
  begins = ap (λ lines. and_lines lines
      (going_on later (first a.heard).value (first a.heard).left).lines) a.begins
      ∙ lines_assoc a.lines a.rest _;
}

both_so : {X Y : Type 0} (first : Part X) (later : X → Part Y) (old mid new : Scene) (x : X)
    (r : Result Y AllocError) → TookPlace first old mid x → WentSo (later x) mid new r
    → WentSo (and_then first later) old new r
both_so first later old mid new x (Ok y) a b = place_both first later old mid new x y a b
both_so first later old mid new x (Err e) a b = off_both first later old mid new x a b

-- a part took place, and then the one that its value leads to went so
pub went_on : {X Y : Type 0} {first : Part X}
    (later : X → Part Y) {old mid new : Scene} {x : X} {r : Result Y AllocError}
    → Went first old mid (Ok x) → Went (later x) mid new r → Went (and_then first later) old new r
went_on {X} {Y} {first} later {old} {mid} {new} {x} {r} a b =
    record { so = both_so first later old mid new x r a.so b.so }

-- a part was broken off, and with it all that was to follow
pub went_off : {X Y : Type 0} {first : Part X}
    (later : X → Part Y) {old new : Scene} {e f : AllocError} → Went {X = X} first old new (Err e)
    → Went {X = Y} (and_then first later) old new (Err f)
went_off {X} {Y} {first} later {old} {new} a = record { so = off_first first later old new a.so }

-- the memory was wanting before a part began
pub went_nowhere : {X : Type 0} (part : Part X) {s : Scene} {e : AllocError}
    → Went {X = X} part s s (Err e)
went_nowhere part {s} = record { so = not_begun part s }

-- nothing was to be done
pub went_done : {X : Type 0} {x : X} {s : Scene} → Went (value_part x) s s (Ok x)
went_done {X} {x} {s} = record { so = took_none x s }

-- the same part under another name of its result
pub went_as : {X : Type 0} {part : Part X} {old new : Scene} {r other : Result X AllocError}
    → Went part old new r → other ≡ r → Went part old new other
went_as {X} {part} {old} {new} {r} {other} went same =
    subst (λ r. Went part old new r) (sym same) went
