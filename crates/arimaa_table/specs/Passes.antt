-- What clauses say of a table and its passes.
use Rattle.std.specs.Prelude.{◌≡◌, ℕ, ◌+◌, ◌-◌, ◌<◌, ◌≤◌, ◌^◌}
use mathlib.Core.Option.{some}
use lib.ListN.{get_elem?}
use Rattle.atomic_table.specs.Table.{State}
use Rattle.atomic_table.specs.declared.shared.Seat.{Seat}
use Rattle.arimaa_line.specs.declared.bounds.Bounds.{Bounds}
use Rattle.arimaa_line.specs.declared.line.Line.{Line}
use Rattle.arimaa_line.specs.Bounds.{AreTrueBounds, KeepsBounds}
use Rattle.arimaa_line.specs.Lines.{IsTrueLine, IsLineOf, LosesNoBound}
use Rattle.arimaa_line.specs.Lines.{empty_line, line_of_bounds, stamp_of}
use Rattle.arimaa_table.specs.declared.view.PlaceView.{PlaceView}
use Rattle.arimaa_table.specs.declared.view.PassView.{PassView}
use Rattle.arimaa_table.specs.declared.view.Setting.{Setting}
use Rattle.arimaa_table.specs.declared.table.Table.{Table}
use Rattle.arimaa_table.specs.declared.table.TablePass.{TablePass}
use Rattle.arimaa_table.specs.declared.answers.Looked.{Looked}
use Rattle.arimaa_table.specs.declared.answers.Looked.TheVariants.{Found}
use Rattle.arimaa_table.specs.declared.answers.Looked.TheVariants as looked
use Rattle.arimaa_table.specs.declared.answers.Added.{Added}
use Rattle.arimaa_table.specs.declared.answers.Added.TheVariants as added
use Rattle.arimaa_table.specs.declared.answers.Put.{Put}
use Rattle.arimaa_table.specs.declared.answers.Put.TheVariants.{Stored, Lost, Busy, Worn}
use Rattle.arimaa_table.specs.Between.{WasBusy}
use Rattle.arimaa_table.specs.Places.{at, IsLive, view_with, NoNewer, Ruled}

-- what the table was told once, when it was made
abbrev pub setting_of : Table → Setting
setting_of t = t.words.shared.key

-- the number of its lines
abbrev pub lines_of : Table → ℕ
lines_of t = (setting_of t).lines

-- what a pass knows of its table
abbrev pub view : TablePass → PassView
view p = p.seat.me.0

-- what it knows of the place i
abbrev pub place_view : TablePass → ℕ → PlaceView
place_view p i = at i (view p)

-- the seat is one of this table's words, and not spent
abbrev pub IsSeatOf : Table → Seat Line PassView → Type 0
IsSeatOf t s = (s.table_id ≡ t.words.shared.table_id) × IsLive (setting_of t) s.me.0

-- the pass is one of this table
abbrev pub IsPassOf : Table → TablePass → Type 0
IsPassOf t p = IsSeatOf t p.seat

-- a true line of the table's context
abbrev pub IsTrueIn : Table → Line → Type 0
IsTrueIn t l = IsTrueLine (setting_of t).attacker (setting_of t).barred l

-- in this call the pass took the line l of a place, and left the line x there
pub record TookLine (t : Table) (old new : PlaceView) (l x : Line) : Type 0 where
  -- the line found is empty or true in the table's context
  pub is_true : IsTrueIn t l
  -- it is no older than the one that the pass kept
  pub no_older : NoNewer old.kept l
  -- it is the one that the pass took
  pub took : new.took ≡ l
  -- the pass keeps the line that it left
  pub kept : new.kept ≡ x
  -- the pass took the place once
  pub once : new.takings ≡ old.takings + 1
  -- it gave the place back
  pub last : new.last < new.seen
  -- it took the place after all that it had seen
  pub after : old.seen < new.last
  -- it made a step
  pub steps : old.steps < new.steps
  -- the first line that any pass takes at a place is the empty one
  pub first : new.last ≡ 1 → l ≡ empty_line
  -- where the two lines name the same position, no bound is lost or loosened
  pub bounds : (k : Bounds) → IsLineOf x k → LosesNoBound l k

-- what the pass knows has changed at the place i alone
abbrev pub OnlyHere : TablePass → TablePass → ℕ → Type 0
OnlyHere old new i = view new ≡ view_with (view old) i (place_view new i)

-- what a look at the place i answers
abbrev pub LookedAt : Table → TablePass → TablePass → ℕ → Looked → Type 0
LookedAt t old new i (Found l) = TookLine t (place_view old i) (place_view new i) l l
LookedAt t old new i (looked.Busy c) = WasBusy (place_view old i) (place_view new i) c

-- the bounds are right in the table's context
abbrev pub IsTrueOf : Table → Bounds → Type 0
IsTrueOf t k = AreTrueBounds (setting_of t).attacker (setting_of t).barred k

-- what a put at the place i answers
abbrev pub PutAt : Table → TablePass → TablePass → ℕ → Line → Bounds → Put → Type 0
PutAt t old new i seen known (Stored s) =
    (s ≡ stamp_of seen + 1) × (s < 2 ^ 64)
    × TookLine t (place_view old i) (place_view new i) seen (line_of_bounds known s)
PutAt t old new i seen known (Lost l) =
    (stamp_of seen < stamp_of l) × (stamp_of seen + 1 < 2 ^ 64)
    × TookLine t (place_view old i) (place_view new i) l l
PutAt t old new i seen known (Busy c) =
    (stamp_of seen + 1 < 2 ^ 64) × WasBusy (place_view old i) (place_view new i) c
PutAt t old new i seen known Worn =
    (stamp_of seen ≡ 2 ^ 64 - 1) × (place_view new i ≡ place_view old i)

-- in this call the pass took a line of a place, and left there these bounds and those of the line
pub record AddedTo (t : Table) (old new : PlaceView) (known : Bounds) (s : ℕ) : Type 0 where
  -- the line found
  pub line : Line
  -- what was put over it
  pub bounds : Bounds
  -- the stamp is the next one
  pub stamp : s ≡ stamp_of line + 1
  pub most : s < 2 ^ 64
  -- the bounds name the position of those that were given
  pub position : bounds.position ≡ known.position
  -- each of those stands, no looser
  pub keeps_known : KeepsBounds known bounds
  -- so does each bound of the line, where it names the position
  pub keeps_line : LosesNoBound line bounds
  -- they are right
  pub right : IsTrueOf t bounds
  -- the line was taken, and they were left in its place
  pub took : TookLine t old new line (line_of_bounds bounds s)

-- what an adding at the place i answers
abbrev pub AddedAt : Table → TablePass → TablePass → ℕ → Bounds → Added → Type 0
AddedAt t old new i known (added.Stored s) =
    AddedTo t (place_view old i) (place_view new i) known s
AddedAt t old new i known (added.Busy c) = WasBusy (place_view old i) (place_view new i) c
AddedAt t old new i known added.Worn =
    (l : Line) × (stamp_of l ≡ 2 ^ 64 - 1) × TookLine t (place_view old i) (place_view new i) l l

-- at one moment of the call the rule held, and this pass knew what it knows now
abbrev pub IsRuled : Table → TablePass → Type 0
IsRuled t p =
    (s : State Line PassView) × (j : ℕ)
    × Ruled (setting_of t) s × (get_elem? s.views j ≡ some (view p))

-- at each place the pass keeps a line that is no older than before
abbrev pub KeepsNoOlder : TablePass → TablePass → Type 0
KeepsNoOlder old new = (i : ℕ) → NoNewer (place_view old i).kept (place_view new i).kept

-- how many loads and takings the pass has made at each place
abbrev pub steps_of : TablePass → ℕ → ℕ
steps_of p i = (place_view p i).steps

-- at each place the pass made at least as many loads and takings
abbrev pub NoFewer : (ℕ → ℕ) → (ℕ → ℕ) → Type 0
NoFewer old new = (i : ℕ) → old i ≤ new i

-- the steps of a pass that holds no place: its loads, its takings, and one giving back for each
-- taking that succeeded
abbrev pub all_steps : PlaceView → ℕ
all_steps p = p.steps + p.takings

-- in this call the pass made three steps at the place i at most, and took it once at most
pub record TriesOnce (old new : TablePass) (i : ℕ) : Type 0 where
  pub steps : all_steps (place_view new i) ≤ all_steps (place_view old i) + 3
  pub takings : (place_view new i).takings ≤ (place_view old i).takings + 1
