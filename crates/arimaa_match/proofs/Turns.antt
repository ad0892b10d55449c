-- A turn of a match, and the turns one after the other.
use Rattle.std.proofs.Common.{◌≡◌, ◌∙◌, List, [], ℕ, suc, ◌+◌, ◌-◌, ◌<◌, ◌≤◌, add-zero, arith, Option, None, Some, Result, Ok, Err, ap, refl, subst, sym}
use Rattle.std.specs.Prelude.{IfOk, OnOk}
use Rattle.std.specs.declared.alloc.AllocError.{AllocError}
use Rattle.arimaa_board.specs.declared.piece.Color.{Color}
use Rattle.arimaa_match.specs.declared.side_fault.SideFault.{SideFault}
use Rattle.arimaa_match.specs.declared.ending.MatchEnd.{MatchEnd}
use Rattle.arimaa_match.specs.declared.ending.MatchEnd.TheVariants as end
use Rattle.arimaa_match.specs.declared.ending.Verdict.{Verdict}
use Rattle.arimaa_match.specs.Match.{Finished, Thought, Turned, after_ruling, after_turn, after_verdict, ended_by, playing, thinking, turn, turned_as}
use Rattle.arimaa_match.specs.Parts.{Between, BrokeOff, Coming, Lines, Part, Scene, TookPlace, Went, WentSo, after_lines, and_lines, and_then, continuation, value_part, and_coming, no_lines}
use Rattle.arimaa_match.specs.Thoughts.{thought}
use Rattle.arimaa_match.specs.MatchState.{HasRuled, MatchState, broken_off, ruling}
use Rattle.arimaa_match.proofs.Parts.{between_both, between_none, joined_assoc, lines_assoc, went_done, went_nowhere, went_off, went_on}

-- the same value under another name
pub went_to : {X : Type 0} {part : Part X} {old new : Scene} {x y : X} → Went part old new (Ok x)
    → x ≡ y → Went part old new (Ok y)
went_to {X} {part} {old} {new} a same = subst (λ (x : X). Went part old new (Ok x)) same a

-- a fault has ended the match, and the record has broken off
pub broke_off : (s t : MatchState) (fault : SideFault) {scene : Scene}
    (r : Result (Option MatchEnd) AllocError) → OnOk r (t ≡ broken_off s)
    → IfOk r (λ how. how ≡ Some (end.Engine fault.side fault.fault))
    → Went (value_part (ended_by s fault)) scene scene (turned_as t r)
broke_off s t fault (Ok how) state ended =
    went_to went_done
    (ap (λ state. record { state = state; end = Some (end.Engine fault.side fault.fault) })
    (sym state) ∙ ap (λ (how : Option MatchEnd). record { state = t; end = how }) (sym ended))
broke_off s t fault (Err e) state ended = went_nowhere _

-- what follows on a verdict that is the one due
pub ruled_on : (s : MatchState) {t : MatchState}
    (used : ℕ) {words text : List ℕ} {v : Verdict} {old new : Scene} {r : Result Turned AllocError}
    → words ≡ text → HasRuled (ruling s used words) t (Ok v) → Went (after_verdict t v) old new r
    → Went (after_ruling (ruling s used text)) old new r
ruled_on s {t} used {words} {text} {v} {old} {new} {r} same so a =
    subst (λ (p : Part Turned). Went p old new r)
    (ap (λ state. after_verdict state v) so.0 ∙ ap (after_verdict (ruling s used words).state) so.1
    ∙ ap (λ (w : List ℕ). after_ruling (ruling s used w)) same) a

-- a side has thought, with these reserves
pub thinking_as : {side other : Color} {g g′ s s′ : ℕ} {old new : Scene} {r : Result
    (Result Thought SideFault) AllocError} → side ≡ other → g ≡ g′ → s ≡ s′
    → Went (thinking side g s) old new r → Went (thinking other g′ s′) old new r
thinking_as {side} {other} {g} {g′} {s} {s′} {old} {new} {r} one two three a =
    subst (λ (p : Part (Result Thought SideFault)). Went p old new r)
    (ap (λ side. thinking side g s) one ∙ ap (λ g. thinking other g s) two
    ∙ ap (thinking other g′) three) a

-- a part has come so far that the rest is left
pub record Leads {X : Type 0} (whole rest : Part X) (old now : Scene) : Type 0 where
  pub heard : Coming
  pub lines : Lines
  pub between : Between old now heard lines
  pub leads : (later : Coming) → whole (and_coming heard later) ≡ after_lines lines (rest later)

pub leads_none : {X : Type 0} (part : Part X) (s : Scene) → Leads part part s s
leads_none part s = record {
  heard = record { gold = []; silver = []; moments = [] };
  lines = no_lines;
  between = between_none s;
  leads = λ later. refl;
}

-- one part more took place
leads_on : {X Y : Type 0} (whole : Part Y) (first : Part X) (later : X → Part Y)
    (old mid new : Scene) (x : X) → Leads whole (and_then first later) old mid
    → TookPlace first mid new x → Leads whole (later x) old new
leads_on whole first later old mid new x a b = record {
  heard = and_coming a.heard b.heard;
  lines = and_lines a.lines b.lines;
  between = between_both _ _ _ _ _ _ _ a.between b.between;
  leads = λ rest.
      ap whole (joined_assoc a.heard b.heard rest) ∙ a.leads (and_coming b.heard rest)
      ∙ ap (λ ran. after_lines a.lines (continuation later ran)) (b.agrees rest)
      ∙ ap (λ lines.
      record { value = (later x rest).value; left = (later x rest).left; lines = lines })
      (sym (lines_assoc a.lines b.lines (later x rest).lines));
}

place_end : {X : Type 0} (whole rest : Part X) (old mid new : Scene) (x : X)
    → Leads whole rest old mid → TookPlace rest mid new x → TookPlace whole old new x
place_end whole rest old mid new x a b = record {
  heard = and_coming a.heard b.heard;
  lines = and_lines a.lines b.lines;
  between = between_both _ _ _ _ _ _ _ a.between b.between;
  agrees = λ later. ap whole (joined_assoc a.heard b.heard later) ∙ a.leads (and_coming b.heard later)
      ∙ ap (after_lines a.lines) (b.agrees later);
}

off_end : {X : Type 0} (whole rest : Part X) (old mid new : Scene) → Leads whole rest old mid
    → BrokeOff rest mid new → BrokeOff whole old new
off_end whole rest old mid new a b = record {
  heard = and_coming a.heard b.heard;
  lines = and_lines a.lines b.lines;
  rest = b.rest;
  between = between_both _ _ _ _ _ _ _ a.between b.between;
  begins = ap (λ ran. ran.lines) (a.leads b.heard) ∙ ap (and_lines a.lines) b.begins
      ∙ sym (lines_assoc a.lines b.lines b.rest);
}

end_so : {X : Type 0} (whole rest : Part X) (old mid new : Scene) (r : Result X AllocError)
    → Leads whole rest old mid → WentSo rest mid new r → WentSo whole old new r
end_so whole rest old mid new (Ok x) a b = place_end whole rest old mid new x a b
end_so whole rest old mid new (Err e) a b = off_end whole rest old mid new a b

-- the rest went so
pub leads_end : {X : Type 0} {whole rest : Part X} {old mid new : Scene} {r : Result X AllocError}
    → Leads whole rest old mid → Went rest mid new r → Went whole old new r
leads_end {X} {whole} {rest} {old} {mid} {new} {r} a b =
    record { so = end_so whole rest old mid new r a b.so }

one_more : (n : ℕ) (s : MatchState)
    → playing (suc n) s ≡ and_then (turn s) (λ t. after_turn (playing n) t.state t.end)
unfolding playing
one_more n s = refl

none_more : (s : MatchState) → playing 0 s ≡ value_part (record { final = s; how = end.Limit })
unfolding playing
none_more s = refl

-- where the match is after so many setups and turns
pub record Midst (first s : MatchState) (k : ℕ) (old now : Scene) : Type 0 where
  pub leads : (n : ℕ) → n + k ≡ 100002 → Leads (playing 100002 first) (playing n s) old now

pub midst_none : (first : MatchState) (old : Scene) → Midst first first 0 old old
midst_none first old = record {
  leads = λ n whole. subst (λ (p : Part Finished). Leads (playing 100002 first) p old old)
      (ap (λ n. playing n first) (sym whole ∙ add-zero n)) (leads_none _ old);
}

-- the turns that are left go on with this one
turn_left : (first s : MatchState) (k n : ℕ) (old mid : Scene) → Midst first s k old mid
    → suc n + k ≡ 100002
    → Leads (playing 100002 first)
    (and_then (turn s) (λ t. after_turn (playing n) t.state t.end)) old mid
turn_left first s k n old mid m whole =
    subst (λ (p : Part Finished). Leads (playing 100002 first) p old mid) (one_more n s)
    (m.leads (suc n) whole)

-- a turn has not ended the match
pub midst_more : {first s t : MatchState} {k : ℕ} {old mid new : Scene} → Midst first s k old mid
    → Went (turn s) mid new (Ok (record { state = t; end = None })) → Midst first t (k + 1) old new
midst_more {first} {s} {t} {k} {old} {mid} {new} m went = record {
  leads = λ n whole. leads_on _ _ _ old mid new (record { state = t; end = None })
      (turn_left first s k n old mid m (omega arith)) went.so;
}

-- a turn has ended the match, or was broken off
pub midst_end : {first s t : MatchState} {k : ℕ} {old mid new : Scene} {how : MatchEnd} → k < 100002
    → Midst first s k old mid → Went (turn s) mid new (Ok (record { state = t; end = Some how }))
    → Went (playing 100002 first) old new (Ok (record { final = t; how = how }))
midst_end {first} {s} {t} {k} {old} {mid} {new} {how} below m went =
    leads_end (turn_left first s k (100001 - k) old mid m (omega arith)) (went_on _ went went_done)

pub midst_off : {first s : MatchState} {k : ℕ} {old mid new : Scene} {e f : AllocError} → k < 100002
    → Midst first s k old mid → Went {X = Turned} (turn s) mid new (Err e)
    → Went {X = Finished} (playing 100002 first) old new (Err f)
midst_off {first} {s} {k} {old} {mid} {new} {e} {f} below m went =
    leads_end (turn_left first s k (100001 - k) old mid m (omega arith)) (went_off _ went)

pub midst_out : {first s : MatchState} (k : ℕ) {old now : Scene} → 100002 ≤ k → k ≤ 100002
    → Midst first s k old now
    → Went (playing 100002 first) old now (Ok (record { final = s; how = end.Limit }))
midst_out {first} {s} k {old} {now} least most m =
    leads_end (subst (λ (p : Part Finished). Leads (playing 100002 first) p old now) (none_more s)
    (m.leads 0 (omega arith))) went_done

-- a side that has thought met this fault, or used this time
pub thought_fault : {part : Part (Result Thought SideFault)} {old new : Scene}
    (line : List ℕ) {r : Result ℕ SideFault} {fault : SideFault}
    → Went part old new (thought line (Ok r)) → r ≡ Err fault → Went part old new (Ok (Err fault))
thought_fault {part} {old} {new} line a same =
    subst (λ (r : Result ℕ SideFault). Went part old new (thought line (Ok r))) same a

pub thought_fine : {part : Part (Result Thought SideFault)} {old new : Scene}
    (line : List ℕ) {r : Result ℕ SideFault} {used : ℕ} → Went part old new (thought line (Ok r))
    → r ≡ Ok used → Went part old new (Ok (Ok (record { used = used; line = line })))
thought_fine {part} {old} {new} line a same =
    subst (λ (r : Result ℕ SideFault). Went part old new (thought line (Ok r))) same a

-- a turn came to this end
pub end_known : {part : Part Turned} {old new : Scene} {s : MatchState}
    {end other : Option MatchEnd} → Went part old new (Ok (record { state = s; end = end }))
    → end ≡ other → Went part old new (Ok (record { state = s; end = other }))
end_known {part} {old} {new} {s} a same =
    went_to a (ap (λ (how : Option MatchEnd). record { state = s; end = how }) same)
