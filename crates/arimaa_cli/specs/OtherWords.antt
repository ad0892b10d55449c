-- Words outside the plain form: the list in the plain form's order that clap's matches give for
-- them.
use Rattle.std.specs.Prelude.{◌≡◌, true, List, [], ◌∷◌, ◌++◌, Option, None, Some, codes, slice_get}
use Rattle.clap.specs.Words.{App, Row, Rule, Shape, Text, first_of, matches_of, new_app, new_rule, with_rule}
use Rattle.clap.specs.Simple.{on_top}
use Rattle.clap.specs.Kinds.{Kinds}
use Rattle.clap.specs.Faults.{fault_of}

-- an option, which takes one value; the id is its word
abbrev pub option_rule : Text → Text → Rule
option_rule id name = record (new_rule id) { long = Some name }

-- with help off
abbrev pub without_help : Shape → Shape
without_help s = record s { disable_help_flag = true }

-- what clap reads: up to three words after the name, and four options, each with a value; help is
-- off
abbrev pub words_app : App
words_app =
    with_rule (with_rule (with_rule (with_rule
    (with_rule (with_rule (with_rule
    (on_top without_help (new_app (codes "arimaa")))
    (new_rule (codes "first"))) (new_rule (codes "second"))) (new_rule (codes "third")))
    (option_rule (codes "--workers") (codes "workers")))
    (option_rule (codes "--lines") (codes "lines")))
    (option_rule (codes "--budget") (codes "budget")))
    (option_rule (codes "--room") (codes "room"))

-- the kinds of fault that clap finds in the words; none where it accepts them
unfoldable pub faults_of : List Text → Kinds
faults_of words = fault_of words_app words

-- what clap finds in words that it accepts
unfoldable pub rows_for : List Text → List Row
rows_for words = matches_of words_app words

-- a word, if there is one
abbrev pub one_word : Option Text → List Text
one_word None = []
one_word (Some word) = word ∷ []

-- an option and its value, if there is one
abbrev pub two_words : Text → Option Text → List Text
two_words name None = []
two_words name (Some value) = name ∷ value ∷ []

-- the word of this id that was found, if one was
abbrev pub word_in : Text → List Row → List Text
word_in id rows = one_word (first_of id rows)

-- the option of this id with the value that was found, if one was
abbrev pub option_in : Text → List Row → List Text
option_in id rows = two_words id (first_of id rows)

-- what was found, in the order of the plain form
abbrev pub values_of : Text → List Row → List Text
values_of name rows =
    (((((((name ∷ []) ++ word_in (codes "first") rows) ++ word_in (codes "second") rows)
    ++ word_in (codes "third") rows) ++ option_in (codes "--workers") rows)
    ++ option_in (codes "--lines") rows) ++ option_in (codes "--budget") rows)
    ++ option_in (codes "--room") rows

-- clap accepts the words, of which the first is the command's name, and this is what it finds
pub record AreMatched (words list : List Text) : Type 0 where
  pub name : Text
  pub named : slice_get words 0 ≡ Some name
  pub accepted : faults_of words ≡ []
  pub found : list ≡ values_of name (rows_for words)
