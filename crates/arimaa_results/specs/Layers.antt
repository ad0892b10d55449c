-- The distinct states after so many steps, kept by their words.
use Rattle.std.specs.Prelude.{ℕ, zero, suc, Bool, List, [], ◌∷◌}
use Rattle.std.specs.List.{flat_map}
use Rattle.arimaa_board.specs.declared.position.Position.{Position}
use Rattle.arimaa_step.specs.declared.state.TurnState.{TurnState}
use Rattle.arimaa_step.specs.State.{state_of}
use Rattle.arimaa_step.specs.StateWords.{state_planes, state_in_planes}
use Rattle.arimaa_region.specs.Same.{same_words, firsts}
use Rattle.arimaa_region.specs.Segments.{Stacked}
use Rattle.arimaa_results.specs.Additions.{IsAdded}
use Rattle.arimaa_results.specs.Ahead.{next_states, brings}

-- the words of a state, in a list
abbrev pub keeps : TurnState → List (List ℕ)
keeps st = state_planes st ∷ []

-- the words of the states that one more step makes
unfoldable pub planes_after : Position → List ℕ → List (List ℕ)
planes_after p w = flat_map keeps (next_states (state_in_planes p w))

-- the distinct states after n steps, each once, in the order of the first list of steps to it
unfoldable pub layer : Position → ℕ → List (List ℕ)
layer p zero = keeps (state_of p [])
layer p (suc n) = firsts same_words [] (flat_map (planes_after p) (layer p n))

-- the layers after one to n steps, the last one first
unfoldable pub layers_to : Position → ℕ → List (List (List ℕ))
layers_to p zero = []
layers_to p (suc n) = layer p (suc n) ∷ layers_to p n

-- what one more step brings about from kept states
abbrev pub brings_next : List Position → Position → List ℕ → List Position
brings_next barred p w = brings barred 1 (state_in_planes p w)

-- the positions that are placed from the states after n steps
abbrev pub brought_from : List Position → Position → ℕ → List Position
brought_from barred p n = flat_map (brings_next barred p) (layer p n)

-- values added to the top layer
abbrev pub IsKept : Stacked (List ℕ) → Stacked (List ℕ) → Bool → Bool → List (List ℕ) → Type 0
IsKept old new whole over adds =
    IsAdded (List ℕ) same_words old.room new.room old.segments new.segments whole over adds
