-- How the words are read: as they stand where they have the plain form, and else as clap reads
-- them.
use Rattle.std.specs.Prelude.{◌⊎◌, ℕ, List}
use Rattle.arimaa_cli.specs.declared.commands.Command.{Command}
use Rattle.arimaa_cli.specs.declared.play.Pairing.{Pairing}
use Rattle.arimaa_cli.specs.Commands.{AreWords}
use Rattle.arimaa_cli.specs.OtherWords.{AreMatched}
use Rattle.arimaa_cli.specs.Play.{AsksToPlay}

-- the words have the plain form of a command or of a match
abbrev pub ArePlain : List (List ℕ) → Type 0
ArePlain words = ((c : Command) × AreWords words c) ⊎ ((asked : Pairing) × AsksToPlay words asked)

-- words are read as these; there is one such list for any words
pub data AreReadAs (words : List (List ℕ)) : List (List ℕ) → Type 0 where
  -- words in the plain form as they stand
  plain : ArePlain words → AreReadAs words words
  -- others as the list that clap's matches give
  matched : (ArePlain words → ⊥) → (list : List (List ℕ)) → AreMatched words list
      → AreReadAs words list
  -- those that clap refuses as they stand, so that they ask for nothing
  refused : (ArePlain words → ⊥) → ((list : List (List ℕ)) → AreMatched words list → ⊥)
      → AreReadAs words words

-- this holds of the words as they are read
abbrev pub AsRead : List (List ℕ) → (List (List ℕ) → Type 0) → Type 0
AsRead words Holds = (read : List (List ℕ)) → AreReadAs words read → Holds read
