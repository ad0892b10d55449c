-- Options: each stands at most once, as its word and a number, in any order.
use Rattle.std.specs.Prelude.{◌≡◌, ◌≤◌, ◌^◌, ℕ, List, [], ◌∷◌, Option, None, Some, codes}
use Rattle.std.specs.Option.{unwrap_or}
use Rattle.std.specs.Fmt.{decimal}
use Rattle.arimaa_pool.specs.Limits.{AreWithinLimits}
use Rattle.arimaa_options.specs.declared.option_values.Given.{Given}
use Rattle.arimaa_options.specs.declared.search_options.SearchOptions.{SearchOptions}
use Rattle.arimaa_options.specs.declared.setting.Setting.{Setting}
use Rattle.arimaa_options.specs.declared.setting.Setting.TheVariants.{Depth, Workers, Lines, Budget, Room}

-- the word of an option
abbrev pub word_of : Setting → List ℕ
word_of Depth = codes "--depth"
word_of Workers = codes "--workers"
word_of Lines = codes "--lines"
word_of Budget = codes "--budget"
word_of Room = codes "--room"

-- the least number of an option
abbrev pub least_of : Setting → ℕ
least_of Depth = 0
least_of Workers = 1
least_of Lines = 1
least_of Budget = 1
least_of Room = 1

-- the greatest number of an option
abbrev pub most_of : Setting → ℕ
most_of Depth = 20
most_of Workers = 16
most_of Lines = 262144
most_of Budget = 2 ^ 40
most_of Room = 1048576

-- the number that is given for an option, if one is
abbrev pub given_for : Setting → Given → Option ℕ
given_for Depth g = g.depth
given_for Workers g = g.workers
given_for Lines g = g.lines
given_for Budget g = g.budget
given_for Room g = g.room

-- with a number for an option
abbrev pub with_number : Setting → ℕ → Given → Given
with_number Depth n g = record g { depth = Some n }
with_number Workers n g = record g { workers = Some n }
with_number Lines n g = record g { lines = Some n }
with_number Budget n g = record g { budget = Some n }
with_number Room n g = record g { room = Some n }

-- no option is given
abbrev pub nothing_given : Given
nothing_given = record { depth = None; workers = None; lines = None; budget = None; room = None }

-- two words are this option, which isn't given yet, and its number, which is in its range
pub record IsOption (given : Given) (name number : List ℕ) (o : Setting) (n : ℕ) : Type 0 where
  pub named : name ≡ word_of o
  pub written : number ≡ decimal n
  pub least : least_of o ≤ n
  pub most : n ≤ most_of o
  pub fresh : given_for o given ≡ None

-- where some options are given already, the words give others, two words each, and then these are
-- given
unfoldable pub Give : Given → List (List ℕ) → Given → Type 0
Give given [] after = given ≡ after
Give given (name ∷ []) after = ⊥
Give given (name ∷ number ∷ words) after =
    (o : Setting) × (n : ℕ) × IsOption given name number o n
    × Give (with_number o n given) words after

-- what options ask for: the depth and the number of workers where they are given, and the settings,
-- each by its number, and else 4 workers, 65,536 lines, a budget of 10,000,000 and room for 262,144
abbrev pub options_of : Given → SearchOptions
options_of g = record {
  depth = g.depth;
  workers = g.workers;
  settings = record {
    workers = unwrap_or g.workers 4;
    lines = unwrap_or g.lines 65536;
    budget = unwrap_or g.budget 10000000;
    room = unwrap_or g.room 262144;
  };
}

-- the words are options that ask for this
pub record AreOptions (words : List (List ℕ)) (o : SearchOptions) : Type 0 where
  pub given : Given
  pub in_form : Give nothing_given words given
  pub set : o ≡ options_of given

-- a depth that is given is at most 20, and the settings are within the prover's limits
pub record AreWithinRanges (o : SearchOptions) : Type 0 where
  pub depth : unwrap_or o.depth 0 ≤ 20
  pub limits : AreWithinLimits o.settings
