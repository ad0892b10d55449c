use Rattle.std.proofs.Common.{◌≡◌, map, take}
use Rattle.arimaa_cli.proofs.other_words.texts_of.Given as goal

-- the words up to here stand in the vector
abbrev pub invariant-loop-place : goal.invariant-loop-place
invariant-loop-place l = map (λ w. w.now) l.texts.items ≡ take l.place l.words
