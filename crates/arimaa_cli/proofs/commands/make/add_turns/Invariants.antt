use Rattle.std.proofs.Common.{◌≡◌, ◌-◌, ℕ, List, [], ◌∷◌, None}
use Rattle.std.specs.Prelude.{Result}
use Rattle.arimaa_board.specs.declared.position.Position.{Position}
use Rattle.arimaa_cli.specs.declared.commands.make.TheConstants.{MOST_PLACES}
use Rattle.arimaa_cli.specs.Commands.Make.{IsMadeFrom}
use Rattle.arimaa_cli.proofs.commands.make.add_turns.Given as goal

abbrev pub invariant-loop : goal.invariant-loop
invariant-loop l = record {
  empty : l.region.segments ≡ [];
  room : l.region.room ≡ MOST_PLACES;
  unclosed : l.game.closing ≡ None;
  leads : (made : Result (List ℕ) Position) → IsMadeFrom (l.end - l.counter) l.number l.due l.game.history l.text.items made
      → IsMadeFrom l.fn.asked.turns l.fn.asked.number l.fn.due (l.fn.start ∷ []) l.fn.text.items made;
}
