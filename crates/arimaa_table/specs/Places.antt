-- The rule of the turn counts, what each step does to a view, and what it tells.
use Rattle.std.specs.Prelude.{◌≡◌, ◌≢◌, ℕ, ◌+◌, ◌/◌, ◌%◌, ◌<◌, ◌≤◌, ◌⊎◌, true, false, List, [], ◌∷◌}
use Rattle.std.specs.Prelude.{map, length, max, replicate, slice_index, slice_index_or, slice_set}
use Rattle.std.specs.Prelude.{if◌then◌else◌, nat_lt}
use mathlib.Core.Option.{Option, none, some}
use lib.ListN.{get_elem?}
use Rattle.atomic_table.specs.Table.{State, Me, Step, rest}
use Rattle.arimaa_board.specs.declared.piece.Color.{Color}
use Rattle.arimaa_board.specs.declared.position.Position.{Position}
use Rattle.arimaa_board.specs.declared.piece.Color.TheVariants.{Gold}
use Rattle.arimaa_line.specs.declared.line.Line.{Line}
use Rattle.arimaa_line.specs.Lines.{IsTrueLine, empty_line, stamp_of}
use Rattle.arimaa_table.specs.declared.view.Kind.TheVariants.{Nothing, Load, Took, Missed}
use Rattle.arimaa_table.specs.declared.view.PlaceView.{PlaceView}
use Rattle.arimaa_table.specs.declared.view.PassView.{PassView}
use Rattle.arimaa_table.specs.declared.view.Setting.{Setting}

-- what a pass knows of a place at which it made no step
abbrev pub untouched_place : PlaceView
untouched_place = record {
  kept = empty_line;
  took = empty_line;
  seen = 0;
  takings = 0;
  last = 0;
  steps = 0;
  kind = Nothing;
  found = 0;
  holds = false;
}

-- a load found the count c
abbrev pub after_load : PlaceView → ℕ → PlaceView
after_load p c = record p { seen = c; steps = p.steps + 1; kind = Load; found = c }

-- a taking failed, since it found the count c
abbrev pub after_miss : PlaceView → ℕ → PlaceView
after_miss p c = record p { seen = c; steps = p.steps + 1; kind = Missed; found = c }

-- it found the even count c and the line l
abbrev pub after_take : PlaceView → ℕ → Line → PlaceView
after_take p c l = record {
  kept = l;
  took = l;
  seen = c + 1;
  takings = p.takings + 1;
  last = c + 1;
  steps = p.steps + 1;
  kind = Took;
  found = c;
  holds = true;
}

-- it left the even count c and the line l
abbrev pub after_give : PlaceView → ℕ → Line → PlaceView
after_give p c l = record p { kept = l; seen = c; holds = false }

-- the kept line is no newer than this one, and is this one where the stamps are the same
abbrev pub NoNewer : Line → Line → Type 0
NoNewer kept line = (stamp_of kept ≤ stamp_of line) × (stamp_of kept ≡ stamp_of line → kept ≡ line)

-- the count of the last taking of a pass that holds nothing: 0, or below the count that it saw
abbrev pub LastBelow : PlaceView → Type 0
LastBelow p = (p.last ≡ 0) ⊎ (p.last < p.seen)

-- what a pass knows of a place with this count and this line
pub record Knows (line : Line) (count : ℕ) (p : PlaceView) : Type 0 where
  pub kept : NoNewer p.kept line
  pub seen : p.seen ≤ count
  pub held : p.holds ≡ true → p.last ≡ p.seen
  pub free : p.holds ≡ false → LastBelow p
  pub none_taken : p.takings ≡ 0 → p.last ≡ 0

-- the takings of all passes at one place
abbrev pub takings_of : List PlaceView → ℕ
takings_of [] = 0
takings_of (p ∷ ps) = p.takings + takings_of ps

-- a pass that holds the place is the holder, took it at this odd count, and keeps its line
pub record Holds (line : Line) (count holder j : ℕ) (p : PlaceView) : Type 0 where
  pub only : j ≡ holder
  pub odd : count % 2 ≡ 1
  pub last : p.last ≡ count
  pub kept : p.kept ≡ line

-- whether the pass of this number holds the place
abbrev pub HoldsAt : List PlaceView → ℕ → Type 0
HoldsAt ps holder = (p : PlaceView) × (get_elem? ps holder ≡ some p) × (p.holds ≡ true)

-- one place, with its count, its slot, and what each pass knows of it
pub record Place (attacker : Color) (barred : List Position)
    (count : ℕ) (home : Option (Option Line)) (ps : List PlaceView) : Type 0 where
  pub line : Line
  pub holder : ℕ
  pub is_true : IsTrueLine attacker barred line
  pub at_home : count % 2 ≡ 0 → home ≡ some (some line)
  pub away : count % 2 ≡ 1 → (home ≡ some none) × HoldsAt ps holder
  pub holds : (j : ℕ) (p : PlaceView)
      → get_elem? ps j ≡ some p → p.holds ≡ true → Holds line count holder j p
  pub knows : (j : ℕ) (p : PlaceView) → get_elem? ps j ≡ some p → Knows line count p
  pub takings : takings_of ps ≡ (count + 1) / 2
  pub first : count ≡ 0 → line ≡ empty_line

-- what a pass knows of the place i
abbrev pub at : ℕ → PassView → PlaceView
at i v = slice_index_or v.places i untouched_place

-- what the table was told, and what a pass knows of it
pub record Context : Type 0 where
  pub attacker : Color
  pub barred : List Position
  pub lines : ℕ

-- the context of a table
abbrev pub context_of : Setting → Context
context_of k = record { attacker = k.attacker; barred = k.barred; lines = k.lines }

-- the context that a pass was given
abbrev pub context : PassView → Context
context v = record { attacker = v.attacker; barred = v.barred; lines = length v.places }

-- a pass has the context and covers all places, or was joined away and knows nothing
pub record Passes (k : Context) (v : PassView) : Type 0 where
  pub live : v.spent ≡ false
      → (v.attacker ≡ k.attacker) × (v.barred ≡ k.barred) × (length v.places ≡ k.lines)
  pub spent : v.spent ≡ true → v.places ≡ []

-- the rule of all places, each with a count and a slot, and of all passes
pub record Rule (k : Context) (s : State Line PassView) : Type 0 where
  pub counts : length s.words ≡ k.lines
  pub slots : length s.homes ≡ k.lines
  pub each_pass : (j : ℕ) (v : PassView) → get_elem? s.views j ≡ some v → Passes k v
  pub each_place : (i : ℕ) → i < k.lines
      → Place k.attacker k.barred (slice_index s.words i) (get_elem? s.homes i) (map (at i) s.views)

-- the rule of a table
abbrev pub Ruled : Setting → State Line PassView → Type 0
Ruled k = Rule (context_of k)

-- the rule held at a moment at which a pass knew this, and the place i had the count c
abbrev pub WasRuled : PassView → ℕ → ℕ → Type 0
WasRuled v i c =
    (s : State Line PassView) × (j : ℕ)
    × Rule (context v) s × (get_elem? s.views j ≡ some v) × (slice_index s.words i ≡ c)

-- the first pass
abbrev pub first_view : Setting → PassView
first_view k = record {
  spent = false;
  attacker = k.attacker;
  barred = k.barred;
  places = replicate k.lines untouched_place;
}

-- a pass of a table with this setting, which is not spent
abbrev pub IsLive : Setting → PassView → Type 0
IsLive k v =
    (v.spent ≡ false) × (v.attacker ≡ k.attacker)
    × (v.barred ≡ k.barred) × (length v.places ≡ k.lines)

-- the pass holds no place
abbrev pub HoldsNone : PassView → Type 0
HoldsNone v = (i : ℕ) → (at i v).holds ≡ false

-- the view with what it knows of the place i replaced
abbrev pub view_with : PassView → ℕ → PlaceView → PassView
view_with v i p = record v { places = slice_set v.places i p }

-- the view of the pass that steps, and the lines that it has in hand
abbrev Mine : Type 0
Mine = Me Line PassView

-- what a count that is found tells of an earlier one
abbrev pub Later : PlaceView → ℕ → Type 0
Later p c = (p.seen ≤ c) × (p.holds ≡ false → LastBelow p)

-- what a load tells: the count, which is no smaller than the one seen before
abbrev pub TellsLoad : Step Line → Mine → ℕ → Mine → Type 0
TellsLoad st m r m' =
    (m' ≡ (view_with m.0 st.word (after_load (at st.word m.0) r), m.1))
    × Later (at st.word m.0) r × WasRuled m'.0 st.word r

-- the line found is true, no older than the kept one, and empty where no pass took it before
abbrev pub IsFor : PassView → ℕ → ℕ → Line → Type 0
IsFor v i c l =
    IsTrueLine v.attacker v.barred l × NoNewer (at i v).kept l × (c ≡ 0 → l ≡ empty_line)

-- a taking that expects the count seen takes the line at that count, and else tells the count found
abbrev pub TellsTaking : Step Line → Mine → ℕ → Mine → Type 0
TellsTaking st m r m' =
    st.first ≡ (at st.word m.0).seen
    → (r ≡ st.first → (l : Line)
    × IsFor m.0 st.word r l
    × (m' ≡ (view_with m.0 st.word (after_take (at st.word m.0) r l), (st.word, l) ∷ m.1)))
    × (r ≢ st.first → (m' ≡ (view_with m.0 st.word (after_miss (at st.word m.0) r), m.1))
    × Later (at st.word m.0) r
    × WasRuled m'.0 st.word r)

-- the line in hand
abbrev pub in_hand : List (ℕ × Line) → Line
in_hand [] = empty_line
in_hand (x ∷ xs) = x.1

-- what a giving tells: the line in hand is the line of the place from then on
abbrev pub TellsGiving : Step Line → Mine → ℕ → Mine → Type 0
TellsGiving st m r m' =
    (m' ≡ (view_with m.0 st.word (after_give (at st.word m.0) r (in_hand m.1)), rest m.1))
    × WasRuled m'.0 st.word r

-- a split: the pass keeps all, and the new one is a copy without takings
abbrev pub same_view : PassView → PassView
same_view v = v

-- what a new pass knows of a place: what the old one knows, but for its takings
abbrev pub place_without_takings : PlaceView → PlaceView
place_without_takings p = record p { takings = 0; last = 0; took = empty_line }

-- the view of a new pass
abbrev pub view_without_takings : PassView → PassView
view_without_takings v = record v { places = map place_without_takings v.places }

-- a join
abbrev pub newer : Line → Line → Line
newer a b = if nat_lt (stamp_of a) (stamp_of b) then b else a

-- what two passes know together: the newer line, the larger counts, all takings and steps
abbrev pub place_after_join : PlaceView → PlaceView → PlaceView
place_after_join p q = record {
  kept = newer p.kept q.kept;
  took = p.took;
  seen = max p.seen q.seen;
  takings = p.takings + q.takings;
  last = max p.last q.last;
  steps = p.steps + q.steps;
  kind = p.kind;
  found = p.found;
  holds = false;
}

-- the same, place by place
abbrev pub places_after_join : List PlaceView → List PlaceView → List PlaceView
places_after_join [] qs = []
places_after_join (p ∷ ps) [] = []
places_after_join (p ∷ ps) (q ∷ qs) = place_after_join p q ∷ places_after_join ps qs

-- the view of a pass to which another was joined
abbrev pub view_after_join : PassView → PassView → PassView
view_after_join v w = record v { places = places_after_join v.places w.places }

-- the view of a pass that was joined to another
abbrev pub spent_view : PassView
spent_view = record { spent = true; attacker = Gold; barred = []; places = [] }
