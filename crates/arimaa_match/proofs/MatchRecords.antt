-- The record of a match is one that the judge accepts.
use Rattle.std.proofs.Common.{◌≡◌, ◌++◌, ◌+◌, ◌≤◌, ◌<◌, ℕ, zero, suc, Bool, true, false, List, [], ◌∷◌, Option, None, Some, Result, Ok, Err, ap, arith, cond, length, refl, subst, eq-eqb}
use Rattle.std.specs.Prelude.{IfOk, is_some, option_map}
use Rattle.std.specs.declared.alloc.AllocError.{AllocError}
use Rattle.std.proofs.lemmas.Option.{same_Some}
use Rattle.arimaa_board.specs.declared.board.Board.{Board}
use Rattle.arimaa_board.specs.declared.position.Position.{Position}
use Rattle.arimaa_board.specs.declared.turn.NotedStep.{NotedStep}
use Rattle.arimaa_board.specs.declared.piece.Color.{Color}
use Rattle.arimaa_board.specs.declared.piece.Color.TheVariants.{Gold, Silver}
use Rattle.arimaa_board.specs.NotedTurns.{noted_turn}
use Rattle.arimaa_board.specs.Setup.{Lineup}
use Rattle.arimaa_board.specs.declared.ending.Ending.{Ending}
use Rattle.arimaa_board.specs.declared.ending.Word.TheVariants as word
use Rattle.arimaa_board.specs.ColorLaws.{same_color-refl}
use Rattle.arimaa_model.specs.Game.{ending, present}
use Rattle.arimaa_model.specs.Marks.{marks_of}
use Rattle.arimaa_notation.specs.Readers.{setup_of_text, turn_of_text}
use Rattle.arimaa_notation.proofs.Lemmas.Reading.{turn_named}
use Rattle.arimaa_notation.proofs.Lemmas.SetupRule.{setup_named}
use Rattle.arimaa_step.specs.declared.marks.Marks.TheVariants.{Optional}
use Rattle.arimaa_step.specs.MarkRules.{marks_fit}
use Rattle.arimaa_time.specs.declared.control.Control.{Control}
use Rattle.arimaa_outside.specs.declared.port_fault.PortFault.{PortFault}
use Rattle.arimaa_outside.specs.declared.port_fault.PortFault.TheVariants as port
use Rattle.arimaa_engine.specs.declared.fault.EngineFault.{EngineFault}
use Rattle.arimaa_engine.specs.declared.fault.EngineFault.TheVariants as fault
use Rattle.arimaa_engine.specs.Session.{opening}
use Rattle.arimaa_engine.specs.Waits.{text_of_move}
use Rattle.arimaa_aei.specs.Answers.{speech_of_line}
use Rattle.arimaa_clock.specs.Account.{answer_of}
use Rattle.arimaa_clock.specs.declared.account.Spend.{Spend}
use Rattle.arimaa_clock.specs.declared.account.Spend.TheVariants as spend
use Rattle.arimaa_aei.specs.declared.command.Command.{Command}
use Rattle.arimaa_judge.specs.declared.rule.Rule.{Rule}
use Rattle.arimaa_judge.specs.RecordState.{before_lines, is_playing}
use Rattle.arimaa_judge.specs.Rules.{turn_rule}
use Rattle.arimaa_record.specs.declared.line.RecordLine.TheVariants as line
use Rattle.arimaa_match.specs.declared.ending.MatchEnd.{MatchEnd}
use Rattle.arimaa_match.specs.declared.ending.MatchEnd.TheVariants as end
use Rattle.arimaa_match.specs.declared.ending.Verdict.{Verdict}
use Rattle.arimaa_match.specs.declared.ending.Verdict.TheVariants as verdict
use Rattle.arimaa_match.specs.declared.ending.MatchCause.TheVariants as cause
use Rattle.arimaa_match.specs.MatchState.{Made, MatchState, Moves, Places, Ruling, after_booking, account_of, before_match, booking, loss_by_word, command_of, if_lawful, is_over, is_resignation, line_of, lost_by, with_time_logged, made_by, rightly_marked, rule_broken, ruling, ruling_after, ruling_of, side_due, with_time_spent, spent_by, turn_at, turn_read_in, with_line}
use Rattle.arimaa_match.specs.declared.ending.MatchDone.{MatchDone}
use Rattle.arimaa_match.specs.declared.side_fault.SideFault.{SideFault}
use Rattle.arimaa_match.specs.Match.{Finished, Thought, Turned, after_announcing, after_thinking, after_turn, after_verdict, announcing, ended_by, left_by, match_of, playing, quitting, quitting_both, thinking, turn}
use Rattle.arimaa_match.specs.Parts.{Coming, Part, Ran, Scene, Went, and_then, value_part, going_on, and_coming, with_engine}
use Rattle.arimaa_match.specs.Programs.{after_gold, after_silver, match_of_programs, unbegun, unstarted}
use Rattle.arimaa_match.specs.Records.{IsAcceptedMatch, ending_in_record}
use Rattle.arimaa_match.proofs.KeptRecords.{IsBookedRecord, IsLastRecord, bare_last, closing_last, ended_last, later_booked, running_last, setup_more, turn_more}

-- what is kept of a match between two answers, after so many bookings
pub record IsKeptMatch (s : MatchState) (k : ℕ) : Type 0 where
  pub booked : IsBookedRecord s.lines s.game k
  pub running : ending s.game.history ≡ None

-- what a verdict leaves of the record
abbrev pub IsRuledRecord : MatchState → Verdict → ℕ → Type 0
IsRuledRecord s (verdict.Moved told) k = IsKeptMatch s k
IsRuledRecord s (verdict.Won winner why) k =
    IsLastRecord s.lines (ending_in_record (end.Won winner why))
IsRuledRecord s verdict.Limit k = IsLastRecord s.lines None

-- what was booked is ruled on
booked_ruling : (s : MatchState) (told : Command) (k : ℕ) → k ≤ 100002
    → IsBookedRecord s.lines s.game k
    → IsRuledRecord (booking s told).state (booking s told).verdict k
booked_ruling s told k small booked = by_ending (ending s.game.history) refl where
  by_over : (over : Bool) → ending s.game.history ≡ None → let r : Ruling =
      cond over (record {
        state = record s { lines = s.lines ++ line.Bare s.game.due.number s.game.due.side ∷ [] };
        verdict = verdict.Limit;
      })
      (record { state = s; verdict = verdict.Moved told }) in IsRuledRecord r.state r.verdict k
  by_over true running = bare_last s.lines s.game k booked small running
  by_over false running = record { booked = booked; running = running }

  by_ending : (e : Option Ending) → ending s.game.history ≡ e
      → IsRuledRecord (after_booking s told e).state (after_booking s told e).verdict k
  by_ending (Some e) is = ended_last s.lines s.game k booked small e is
  by_ending None is = by_over (is_over s) is

-- a turn with steps has some with its right marks
marked_some : (b : Board) (noted : List NotedStep) → 0 < length noted
    → 0 < length (rightly_marked b (noted_turn noted))
unfolding marks_of
marked_some b [] some = some
marked_some b (n ∷ ns) some = omega arith

-- a turn that breaks no rule in a game that goes on breaks none of a record's
no_rule : (h : List Position) (noted : List NotedStep) → ending h ≡ None
    → rule_broken h noted ≡ None → turn_rule h noted ≡ None
no_rule h noted running none = rw running at none

module _ (s : MatchState) (k : ℕ) (kept : IsKeptMatch s k) (small : k ≤ 100001) (used : ℕ) where
  -- what is left of the record where this was made, or nothing lawful
  abbrev Left : Option Made → Type 0
  Left made = IsRuledRecord (ruling_of s used made).state (ruling_of s used made).verdict (k + 1)

  refused : Left None
  refused = bare_last s.lines s.game k kept.booked (omega arith) kept.running

  made_left : (made : Made)
      → IsBookedRecord (with_line s (line_of s made)).lines (with_line s (line_of s made)).game
      (k + 1) → Left (Some made)
  made_left made booked =
      booked_ruling (with_line (with_time_logged s used) (line_of s made)) (command_of made) (k + 1)
      (omega arith) booked

  turn_left : is_playing s.game ≡ true → (p : Position) (marked : List NotedStep)
      → present s.game.history ≡ Some p → 0 < length marked
      → rule_broken s.game.history marked ≡ None → Left (Some (Moves marked))
  turn_left playing p marked now some none =
      made_left (Moves marked)
      (turn_more s.lines s.game k kept.booked (omega arith) p marked now some
      (rw (eq-eqb s.game.due.number s.game.due.number refl, same_color-refl s.game.due.side, kept.running, playing)
      (no_rule s.game.history marked kept.running none)))

  turns_left : is_playing s.game ≡ true → (read : Option (List NotedStep))
      → ((noted : List NotedStep) → read ≡ Some noted → 0 < length noted)
      → Left (option_map Moves (turn_read_in s.game.history read))
  turns_left playing None some = refused
  turns_left playing (Some noted) some = by_now (present s.game.history) refl where
    by_rule : (p : Position) → present s.game.history ≡ Some p → (marked : List NotedStep)
        → 0 < length marked → (broken : Option Rule) → rule_broken s.game.history marked ≡ broken
        → Left (option_map Moves (cond (is_some broken) None (Some marked)))
    by_rule p now marked filled (Some r) e = refused
    by_rule p now marked filled None e = turn_left playing p marked now filled e

    by_fit : (p : Position) → present s.game.history ≡ Some p → (fits : Bool)
        → Left (option_map Moves
        (cond fits (if_lawful s.game.history (rightly_marked p.board (noted_turn noted))) None))
    by_fit p now false = refused
    by_fit p now true =
        by_rule p now (rightly_marked p.board (noted_turn noted))
        (marked_some p.board noted (some noted refl))
        (rule_broken s.game.history (rightly_marked p.board (noted_turn noted))) refl

    by_now : (now : Option Position) → present s.game.history ≡ now
        → Left (option_map Moves (turn_at s.game.history now noted))
    by_now None e = refused
    by_now (Some p) e = by_fit p e (marks_fit Optional p.board noted)

  setups_left : is_playing s.game ≡ false → (read : Option Lineup)
      → ((setup : Lineup) → read ≡ Some setup → setup.color ≡ side_due s)
      → Left (option_map Places read)
  setups_left before None color = refused
  setups_left before (Some setup) color =
      made_left (Places setup)
      (setup_more s.lines s.game k kept.booked (omega arith) setup before kept.running
      (color setup refl))

  words_left : (words : List ℕ) (playing : Bool) → is_playing s.game ≡ playing
      → Left (cond playing (option_map Moves (turn_read_in s.game.history (turn_of_text words)))
      (option_map Places (setup_of_text (side_due s) words)))
  words_left words true is =
      turns_left is (turn_of_text words) (λ noted e. (turn_named words noted e).some)
  words_left words false is =
      setups_left is (setup_of_text (side_due s) words)
      (λ setup e. (setup_named words (side_due s) setup e).side)

  in_time_left : (words : List ℕ) (resigns : Bool) → let r : Ruling =
      cond resigns (lost_by s (loss_by_word s word.Resigns) cause.Resign)
      (ruling_of s used (made_by s words)) in IsRuledRecord r.state r.verdict (k + 1)
  in_time_left words true =
      closing_last s.lines s.game k kept.booked (omega arith) word.Resigns kept.running
  in_time_left words false = words_left words (is_playing s.game) refl

  answer_left : (words : List ℕ) (answer : Spend)
      → IsRuledRecord (ruling_after s used words answer).state
      (ruling_after s used words answer).verdict (k + 1)
  answer_left words spend.Out =
      closing_last s.lines s.game k kept.booked (omega arith) word.Time kept.running
  answer_left words (spend.Kept reserve) = in_time_left words (is_resignation words)

spent_kept : (s : MatchState) (k used : ℕ) (side : Color) → IsKeptMatch s k
    → IsKeptMatch (spent_by side s used) k
spent_kept s k used Gold kept = record { booked = kept.booked; running = kept.running }
spent_kept s k used Silver kept = record { booked = kept.booked; running = kept.running }

-- what an answer leaves of the record
ruling_left : (s : MatchState) (k used : ℕ) (words : List ℕ) → IsKeptMatch s k → k ≤ 100001
    → IsRuledRecord (ruling s used words).state (ruling s used words).verdict (k + 1)
unfolding ruling
ruling_left s k used words kept small =
    answer_left (with_time_spent s used) k (spent_kept s k used (side_due s) kept) small used words
    (answer_of (account_of s (side_due s)) used)

-- a part with a value led to it from the value of its first part
value_of : {X Y : Type 0} (Q : Y → Type 0) (first : Part X) (later : X → Part Y) (coming : Coming)
    (y : Y) → (and_then first later coming).value ≡ Some y
    → ((x : X) → (first coming).value ≡ Some x → (later x (first coming).left).value ≡ Some y → Q y)
    → Q y
value_of {X} {Y} Q first later coming y is lead = by_value (first coming).value refl is where
  by_value : (v : Option X) → (first coming).value ≡ v
      → (going_on later v (first coming).left).value ≡ Some y → Q y
  by_value None was e = absurd (cc)
  by_value (Some x) was e = lead x was e

-- what a turn leaves of the record
abbrev IsTurnedRecord : MatchState → Option MatchEnd → ℕ → Type 0
IsTurnedRecord s None k = IsKeptMatch s k
IsTurnedRecord s (Some how) k = IsLastRecord s.lines (ending_in_record how)

fault_left : (s : MatchState) (k : ℕ) (f : SideFault) (t : Turned) → IsKeptMatch s k → k ≤ 100002
    → Some (ended_by s f) ≡ Some t → IsTurnedRecord t.state t.end k
fault_left s k f t kept small is =
    subst (λ (t : Turned). IsTurnedRecord t.state t.end k) (same_Some (ended_by s f) t is)
    (bare_last s.lines s.game k kept.booked small kept.running)

announced_left : (s : MatchState) (k : ℕ) (told : Result (Unit {0}) SideFault) (t : Turned)
    → IsKeptMatch s k → k ≤ 100002 → Some (after_announcing s told) ≡ Some t
    → IsTurnedRecord t.state t.end k
announced_left s k (Ok x) t kept small is =
    subst (λ (t : Turned). IsTurnedRecord t.state t.end k)
    (same_Some (after_announcing s (Ok x)) t is) kept
announced_left s k (Err f) t kept small is = fault_left s k f t kept small is

verdict_left : (s : MatchState) (v : Verdict) (k : ℕ) (c : Coming) (t : Turned) → k ≤ 100002
    → IsRuledRecord s v k → (after_verdict s v c).value ≡ Some t → IsTurnedRecord t.state t.end k
verdict_left s (verdict.Won winner why) k c t small ruled is =
    subst (λ (t : Turned). IsTurnedRecord t.state t.end k)
    (same_Some (record { state = s; end = Some (end.Won winner why) }) t is) ruled
verdict_left s verdict.Limit k c t small ruled is =
    subst (λ (t : Turned). IsTurnedRecord t.state t.end k)
    (same_Some (record { state = s; end = Some end.Limit }) t is) ruled
verdict_left s (verdict.Moved made) k c t small ruled is =
    value_of (λ (t : Turned). IsTurnedRecord t.state t.end k) (announcing made)
    (λ told. value_part (after_announcing s told)) c t is
    (λ told was e. announced_left s k told t ruled small e)

thought_left : (s : MatchState) (k : ℕ) (r : Result Thought SideFault) (c : Coming) (t : Turned)
    → IsKeptMatch s k → k ≤ 100001 → (after_thinking s r c).value ≡ Some t
    → IsTurnedRecord t.state t.end (k + 1)
thought_left s k (Err f) c t kept small is =
    fault_left s (k + 1) f t
    (record { booked = later_booked s.lines s.game k kept.booked; running = kept.running })
    (omega arith) is
thought_left s k (Ok th) c t kept small is =
    verdict_left (ruling s th.used (text_of_move (speech_of_line th.line))).state
    (ruling s th.used (text_of_move (speech_of_line th.line))).verdict (k + 1) c t (omega arith)
    (ruling_left s k th.used (text_of_move (speech_of_line th.line)) kept small) is

turn_left_so : (s : MatchState) (k : ℕ) (c : Coming) (t : Turned) → IsKeptMatch s k → k ≤ 100001
    → (turn s c).value ≡ Some t → IsTurnedRecord t.state t.end (k + 1)
unfolding turn
turn_left_so s k c t kept small is =
    value_of (λ (t : Turned). IsTurnedRecord t.state t.end (k + 1))
    (thinking (side_due s) s.gold_account.reserve s.silver_account.reserve)
    (after_thinking s) c t is (λ r was e. thought_left s k r _ t kept small e)

-- the setups and turns of a match leave such a record
abbrev IsFinishedRecord : Finished → Type 0
IsFinishedRecord f = IsLastRecord f.final.lines (ending_in_record f.how)

-- the setups and turns after one that came to this
by_end : (n k : ℕ) (f : Finished)
    → ((s : MatchState) (c : Coming) → IsKeptMatch s k → (playing n s c).value ≡ Some f
    → IsFinishedRecord f)
    → (later : MatchState) (how : Option MatchEnd) (rest : Coming) → IsTurnedRecord later how k
    → (after_turn (playing n) later how rest).value ≡ Some f → IsFinishedRecord f
by_end n k f go later None rest left e = go later rest left e
by_end n k f go later (Some how) rest left e =
    subst IsFinishedRecord (same_Some (record { final = later; how = how }) f e) left

playing_left : (n k : ℕ) (s : MatchState) (c : Coming) (f : Finished) → k + n ≡ 100002
    → IsKeptMatch s k → (playing n s c).value ≡ Some f → IsFinishedRecord f
unfolding playing
playing_left zero k s c f whole kept is =
    subst IsFinishedRecord (same_Some (record { final = s; how = end.Limit }) f is)
    (running_last s.lines s.game k kept.booked (omega arith) kept.running)
playing_left (suc n) k s c f whole kept is =
    value_of IsFinishedRecord (turn s) (λ t. after_turn (playing n) t.state t.end) c f is
    (λ t was e.
    by_end n (k + 1) f (λ s c kept e. playing_left n (k + 1) s c f (omega arith) kept e)
    t.state t.end (turn s c).left (turn_left_so s k c t kept (omega arith) was) e)

-- a match begins with an empty record
begun_kept : (control : Control) → IsKeptMatch (before_match control) 0
begun_kept control = record {
  booked = record {
    writable = tt;
    accepted = refl;
    unclosed = refl;
    no_word = refl;
    side = refl;
    least = omega arith;
    most = omega arith;
  };
  running = refl;
}

accepted_of : (f : Finished) → IsFinishedRecord f → IsAcceptedMatch (left_by f)
accepted_of f is =
    record { writable = is.writable; last = is.last; accepted = is.accepted; ending = is.ending }

-- the judge accepts the record of each match
pub match_accepted : (control : Control) (c : Coming) (m : MatchDone)
    → (match_of control c).value ≡ Some m → IsAcceptedMatch m
unfolding match_of
match_accepted control c m is =
    value_of IsAcceptedMatch (playing 100002 (before_match control))
    (λ f. and_then (quitting_both f.how) (λ _. value_part (left_by f))) c m is
    (λ f was e. value_of IsAcceptedMatch (quitting_both f.how) (λ _. value_part (left_by f)) _ m e
    (λ u quit last. subst IsAcceptedMatch (same_Some (left_by f) m last)
    (accepted_of f
    (playing_left 100002 0 (before_match control) c f refl (begun_kept control) was))))

-- a match that has not begun has an empty record
pub unbegun_accepted : (side : Color) (why : EngineFault) → IsAcceptedMatch (unbegun side why)
unbegun_accepted side why =
    record { writable = tt; last = before_lines; accepted = refl; ending = refl }

-- the same where a program was not started
pub unstarted_accepted : (side : Color) (why : PortFault)
    → IfOk (unstarted side why) IsAcceptedMatch
unstarted_accepted side port.Failed = unbegun_accepted side fault.Failed
unstarted_accepted side port.Memory = tt

silver_accepted : (control : Control) (r : Result (Unit {0}) SideFault) (c : Coming) (m : MatchDone)
    → (after_silver control r c).value ≡ Some m → IsAcceptedMatch m
silver_accepted control (Ok x) c m is = match_accepted control c m is
silver_accepted control (Err f) c m is =
    value_of IsAcceptedMatch (quitting Gold false) (λ _. value_part (unbegun f.side f.fault)) c m is
    (λ u was e. subst IsAcceptedMatch (same_Some (unbegun f.side f.fault) m e)
    (unbegun_accepted f.side f.fault))

gold_accepted : (control : Control) (r : Result (Unit {0}) SideFault) (c : Coming) (m : MatchDone)
    → (after_gold control r c).value ≡ Some m → IsAcceptedMatch m
gold_accepted control (Ok x) c m is =
    value_of IsAcceptedMatch (with_engine Silver (opening control)) (after_silver control) c m is
    (λ r was e. silver_accepted control r _ m e)
gold_accepted control (Err f) c m is =
    subst IsAcceptedMatch (same_Some (unbegun f.side f.fault) m is) (unbegun_accepted f.side f.fault)

-- the same of a match between two programs
pub programs_accepted : (control : Control) (c : Coming) (m : MatchDone)
    → (match_of_programs control c).value ≡ Some m → IsAcceptedMatch m
unfolding match_of_programs
programs_accepted control c m is =
    value_of IsAcceptedMatch (with_engine Gold (opening control)) (after_gold control) c m is
    (λ r was e. gold_accepted control r _ m e)

-- a part that took place has a value
pub went_accepted : {part : Part MatchDone} {old new : Scene} (r : Result MatchDone AllocError)
    → ((c : Coming) (m : MatchDone) → (part c).value ≡ Some m → IsAcceptedMatch m)
    → Went part old new r → IfOk r IsAcceptedMatch
went_accepted {part} {old} {new} (Err e) each went = tt
went_accepted {part} {old} {new} (Ok m) each went =
    let nothing : Coming = record { gold = []; silver = []; moments = [] } in
    each (and_coming went.so.heard nothing) m
    (ap (λ (r : Ran MatchDone). r.value) (went.so.agrees nothing))
