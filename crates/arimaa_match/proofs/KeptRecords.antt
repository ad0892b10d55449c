-- The record of a match between two answers, and at its end.
use Rattle.std.proofs.Common.{◌≡◌, ◌∙◌, ◌++◌, ◌+◌, ◌≤◌, ◌<◌, ℕ, true, false, List, [], ◌∷◌, Option, None, Some, Ok, ap, arith, length, refl, reverse, rules, sym, true≢false, eq-eqb}
use Rattle.std.specs.Prelude.{not, nat_lt, ◌==◌}
use Rattle.std.specs.List.{AllByRecursion}
use Rattle.std.proofs.lemmas.Bool.Decides.{nat_tests}
use Rattle.arimaa_board.specs.declared.piece.Color.{Color}
use Rattle.arimaa_board.specs.declared.piece.Color.TheVariants.{Gold, Silver}
use Rattle.arimaa_board.specs.declared.position.Position.{Position}
use Rattle.arimaa_board.specs.declared.turn.NotedStep.{NotedStep}
use Rattle.arimaa_board.specs.NotedTurns.{noted_turn}
use Rattle.arimaa_board.specs.Piece.{other_color}
use Rattle.arimaa_board.specs.Setup.{Lineup}
use Rattle.arimaa_board.specs.declared.ending.Ending.{Ending}
use Rattle.arimaa_board.specs.declared.ending.Word.{Word}
use Rattle.arimaa_board.specs.ColorLaws.{same_color-refl}
use Rattle.arimaa_model.specs.Faults.{reached_by}
use Rattle.arimaa_model.specs.Game.{closed_by, ending, present}
use Rattle.arimaa_model.specs.Wins.{is_nil}
use Rattle.arimaa_model.proofs.Lemmas.Present.{present-push}
use Rattle.arimaa_record.specs.declared.label.Label.{Label}
use Rattle.arimaa_record.specs.declared.line.RecordLine.{RecordLine}
use Rattle.arimaa_record.specs.declared.line.RecordLine.TheVariants as line
use Rattle.arimaa_record.specs.Label.{label_after, label_of, next_label}
use Rattle.arimaa_record.specs.Written.{IsInRange, IsWritable}
use Rattle.arimaa_record.proofs.Lemmas.PlainLaws.{all_more}
use Rattle.arimaa_judge.specs.RecordState.{RecordState, after_line, before_lines, declared_or, is_playing, side_due as side_to_move, state_ending, with_bare, with_closing, with_setup_after, with_turn}
use Rattle.arimaa_judge.specs.Rules.{rule_at, rule_of_line}
use Rattle.arimaa_match.specs.Records.{AreAccepted}
use Rattle.arimaa_match.proofs.RecordLaws.{accepted_more}

-- the side that is due is the one to move; before there is a position it is Silver where Gold's
-- setup stands, and else Gold
abbrev pub IsSideDue : Option Lineup → Option Position → Color → Type 0
IsSideDue gold (Some p) side = p.side ≡ side
IsSideDue None None side = side ≡ Gold
IsSideDue (Some g) None side = side ≡ Silver

-- what is kept of a record once so many setups and turns were booked
pub record IsBookedRecord (lines : List RecordLine) (game : RecordState) (k : ℕ) : Type 0 where
  pub writable : AllByRecursion IsWritable lines
  pub accepted : AreAccepted before_lines lines game
  pub unclosed : game.closed ≡ false
  pub no_word : game.word ≡ None
  pub side : IsSideDue game.gold (present game.history) game.due.side
  pub least : 1 ≤ game.due.number
  pub most : game.due.number ≤ k + 1

-- what is kept of a record that has ended so
pub record IsLastRecord (lines : List RecordLine) (ended : Option Ending) : Type 0 where
  pub writable : AllByRecursion IsWritable lines
  pub last : RecordState
  pub accepted : AreAccepted before_lines lines last
  pub ending : state_ending last ≡ ended

open_rule : (s : RecordState) (l : RecordLine) → s.closed ≡ false → rule_of_line s l ≡ None
    → rule_at s (Ok l) ≡ None
open_rule s l unclosed none = rw unclosed none

-- the side to move is the one that is due
to_move : (s : RecordState) → IsSideDue s.gold (present s.history) s.due.side
    → side_to_move s ≡ s.due.side
to_move s is = by_present (present s.history) refl is where
  by_present : (now : Option Position) → present s.history ≡ now → IsSideDue s.gold now s.due.side
      → side_to_move s ≡ s.due.side
  by_present None e i = rw e refl
  by_present (Some p) e i = rw e i

-- the label after one of these numbers: the other side is due, and the number grows by one at most
after_silver : (n : ℕ) → n < 999999999 → label_after n Silver ≡ label_of (n + 1) Gold
after_silver n below =
    let small : nat_lt n 999999999 ≡ true = grind (arith, nat_tests) in rw small refl

next_side : (n : ℕ) (side : Color) → n < 999999999 → (label_after n side).side ≡ other_color side
next_side n Gold below = refl
next_side n Silver below = ap (λ (l : Label). l.side) (after_silver n below)

next_least : (n : ℕ) (side : Color) → n < 999999999 → 1 ≤ n → 1 ≤ (label_after n side).number
next_least n Gold below least = least
next_least n Silver below least =
    let is = ap (λ (l : Label). l.number) (after_silver n below) in omega (arith, is)

next_most : (n k : ℕ) (side : Color) → n < 999999999 → n ≤ k + 1
    → (label_after n side).number ≤ k + 1 + 1
next_most n k Gold below most = omega arith
next_most n k Silver below most =
    let is = ap (λ (l : Label). l.number) (after_silver n below) in omega (arith, is)

-- before there is a position the history is empty
no_history : (h : List Position) → not (is_nil h) ≡ false → h ≡ []
no_history [] e = refl
no_history (p ∷ h) e = absurd (true≢false e)

-- a position more is the present one
turn_present : (h : List Position) (p : Position) (noted : List NotedStep) → present h ≡ Some p
    → present (with_turn h (noted_turn noted)) ≡ Some (reached_by p (reverse (noted_turn noted)))
turn_present h p noted now = rw now (present-push h (reached_by p (reverse (noted_turn noted))))

module _ (lines : List RecordLine) (s : RecordState) (k : ℕ) (kept : IsBookedRecord lines s k)
    (small : k ≤ 100002) where
  in_range : IsInRange s.due.number
  in_range = record { least = kept.least; most = let most = kept.most in omega arith }

  -- a game that the rules have ended
  pub ended_last : (e : Ending) → ending s.history ≡ Some e → IsLastRecord lines (Some e)
  ended_last e is = record {
    writable = kept.writable;
    last = s;
    accepted = kept.accepted;
    ending = ap (λ (w : Option Ending). declared_or w (ending s.history)) kept.no_word ∙ is;
  }

  -- a game that goes on, and no line more
  pub running_last : ending s.history ≡ None → IsLastRecord lines None
  running_last running = record {
    writable = kept.writable;
    last = s;
    accepted = kept.accepted;
    ending = ap (λ (w : Option Ending). declared_or w (ending s.history)) kept.no_word ∙ running;
  }

  bare_rule : rule_of_line s (line.Bare s.due.number s.due.side) ≡ None
  bare_rule = rw (eq-eqb s.due.number s.due.number refl, same_color-refl s.due.side) refl

  -- a label alone ends the record
  pub bare_last : ending s.history ≡ None
      → IsLastRecord (lines ++ line.Bare s.due.number s.due.side ∷ []) None
  bare_last running = record {
    writable = all_more IsWritable lines (line.Bare s.due.number s.due.side) kept.writable in_range;
    last = with_bare s;
    accepted = accepted_more before_lines lines s (line.Bare s.due.number s.due.side) kept.accepted
        (open_rule s (line.Bare s.due.number s.due.side) kept.unclosed bare_rule);
    ending = ap (λ (w : Option Ending). declared_or w (ending s.history)) kept.no_word ∙ running;
  }

  closing_rule : (word : Word) → ending s.history ≡ None
      → rule_of_line s (line.Closing s.due.number s.due.side word) ≡ None
  closing_rule word running = rw (eq-eqb s.due.number s.due.number refl, same_color-refl s.due.side, running) refl

  -- a word ends the record: the side that is due has lost
  pub closing_last : (word : Word) → ending s.history ≡ None
      → IsLastRecord (lines ++ line.Closing s.due.number s.due.side word ∷ [])
      (Some (closed_by word s.due.side))
  closing_last word running = record {
    writable = all_more IsWritable lines
        (line.Closing s.due.number s.due.side word) kept.writable in_range;
    last = with_closing s word;
    accepted = accepted_more before_lines lines s
        (line.Closing s.due.number s.due.side word) kept.accepted
        (open_rule s (line.Closing s.due.number s.due.side word) kept.unclosed
        (closing_rule word running));
    ending = ap (λ (c : Color). Some (closed_by word c)) (to_move s kept.side);
  }

  below : s.due.number < 999999999
  below = let most = kept.most in omega arith

  -- a turn is booked
  pub turn_more : (p : Position) (noted : List NotedStep) → present s.history ≡ Some p
      → 0 < length noted → rule_of_line s (line.Turn s.due.number s.due.side noted) ≡ None
      → IsBookedRecord (lines ++ line.Turn s.due.number s.due.side noted ∷ [])
      (after_line s (line.Turn s.due.number s.due.side noted)) (k + 1)
  turn_more p noted now some rule = record {
    writable = all_more IsWritable lines (line.Turn s.due.number s.due.side noted) kept.writable
        (in_range, some);
    accepted = accepted_more before_lines lines s
        (line.Turn s.due.number s.due.side noted) kept.accepted
        (open_rule s (line.Turn s.due.number s.due.side noted) kept.unclosed rule);
    unclosed = kept.unclosed;
    no_word = kept.no_word;
    side =
        let here : p.side ≡ s.due.side = (let is = kept.side in rw now at is) in
        rw (turn_present s.history p noted now)
        (ap other_color here ∙ sym (next_side s.due.number s.due.side below));
    least = next_least s.due.number s.due.side below kept.least;
    most = next_most s.due.number k s.due.side below kept.most;
  }

  setup_rule : (setup : Lineup) → is_playing s ≡ false → ending s.history ≡ None
      → rule_of_line s (line.Setup s.due.number s.due.side setup) ≡ None
  setup_rule setup before running =
      rw (eq-eqb s.due.number s.due.number refl, same_color-refl s.due.side, running, before) refl

  -- what a setup leaves of the record, where Gold's stands or does not
  record IsPlacedSo (t : RecordState) : Type 0 where
    unclosed : t.closed ≡ false
    no_word : t.word ≡ None
    side : IsSideDue t.gold (present t.history) t.due.side
    due : t.due ≡ next_label s.due

  placed : (setup : Lineup) → is_playing s ≡ false → (gold : Option Lineup) → s.gold ≡ gold
      → IsPlacedSo (with_setup_after s setup gold)
  placed setup before None is =
      let none : s.history ≡ [] = no_history s.history before in
      let gold : s.due.side ≡ Gold = (let side = kept.side in rw (is, none) at side) in
      record {
        unclosed = kept.unclosed;
        no_word = kept.no_word;
        side = rw none (next_side s.due.number s.due.side below ∙ ap other_color gold);
        due = refl;
      }
  placed setup before (Some g) is =
      let none : s.history ≡ [] = no_history s.history before in
      let silver : s.due.side ≡ Silver = (let side = kept.side in rw (is, none) at side) in
      record {
        unclosed = kept.unclosed;
        no_word = kept.no_word;
        side = sym (next_side s.due.number s.due.side below ∙ ap other_color silver);
        due = refl;
      }

  -- a setup is booked
  pub setup_more : (setup : Lineup) → is_playing s ≡ false → ending s.history ≡ None
      → setup.color ≡ s.due.side
      → IsBookedRecord (lines ++ line.Setup s.due.number s.due.side setup ∷ [])
      (after_line s (line.Setup s.due.number s.due.side setup)) (k + 1)
  setup_more setup before running color =
      let so = placed setup before s.gold refl in
      record {
        writable = all_more IsWritable lines
            (line.Setup s.due.number s.due.side setup) kept.writable (in_range, color);
        accepted = accepted_more before_lines lines s
            (line.Setup s.due.number s.due.side setup) kept.accepted
            (open_rule s (line.Setup s.due.number s.due.side setup) kept.unclosed
            (setup_rule setup before running));
        unclosed = so.unclosed;
        no_word = so.no_word;
        side = so.side;
        least = rw so.due (next_least s.due.number s.due.side below kept.least);
        most = rw so.due (next_most s.due.number k s.due.side below kept.most);
      }

-- one booking more may have come
pub later_booked : (lines : List RecordLine) (s : RecordState) (k : ℕ) → IsBookedRecord lines s k
    → IsBookedRecord lines s (k + 1)
later_booked lines s k b = record {
  writable = b.writable;
  accepted = b.accepted;
  unclosed = b.unclosed;
  no_word = b.no_word;
  side = b.side;
  least = b.least;
  most = let most = b.most in omega arith;
}
