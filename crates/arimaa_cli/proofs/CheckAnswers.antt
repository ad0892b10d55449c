-- What is found of a text behind a record, as an answer.
use Rattle.std.proofs.Common.{◌≡◌, ℕ, ◌+◌, ◌≤◌, List, ◌∷◌, ◌++◌, length, Option, None, Some, refl, sym, ap, subst, arith, length-append, true≢false}
use Rattle.std.specs.Prelude.{IsSome, Result, Ok, Err, IfOk}
use Rattle.std.specs.declared.alloc.AllocError.{AllocError}
use Rattle.arimaa_board.specs.declared.position.Position.{Position}
use Rattle.arimaa_model.specs.Game.{present}
use Rattle.arimaa_record.specs.Lines.{lines_of}
use Rattle.arimaa_cli.specs.declared.answer.Answer.{Answer}
use Rattle.arimaa_cli.specs.declared.record.Game.{Game}
use Rattle.arimaa_cli.specs.Parts.{IsMadeOf, IsPartedAnswer}
use Rattle.arimaa_cli.specs.Commands.Prove.{IsOpenAt, closing_word}
use Rattle.arimaa_cli.specs.Records.{IsGame}
use Rattle.arimaa_cli.specs.Records.IsRecordAnswer.{lawful}
use Rattle.arimaa_cli.proofs.Parting.{lines_few}

-- a game that no word closed stands at its last position
pub stands_at : (game : Game) → closing_word game.ending ≡ None → IsSome (present game.history) → (p : Position) × IsOpenAt game p
stands_at game unclosed some = by (present game.history) refl some where
  by : (o : Option Position) → o ≡ present game.history → IsSome o → (p : Position) × IsOpenAt game p
  by None e s = absurd (true≢false (sym s))
  by (Some p) e s = (p, record { open_yet = unclosed; last = sym e })

-- the number of a line is at most the length of the text
pub line_within : (text : List ℕ) (before : List (List ℕ)) (line : List ℕ) (after : List (List ℕ)) (n : ℕ) → lines_of text ≡ before ++ line ∷ after → n ≡ length before + 1 → n ≤ length text
line_within text before line after n split counted =
    let few = lines_few text in
    omega (arith, ap length split, length-append before (line ∷ after))

-- what is answered about the game of the record that the input begins with is answered about the input
pub about_input : (word : List ℕ) (IsTold : ℕ → Option (List ℕ) → Game → Answer → Type 0) (given front : List ℕ) (text : Option (List ℕ)) (line : ℕ) → IsMadeOf word given front text
    → line ≡ length (lines_of front) + 1 → (game : Game) → IsGame front game → (r : Result Answer AllocError) → IfOk r (IsTold line text game) → IfOk r (IsPartedAnswer word IsTold given)
about_input word IsTold given front text line made counted game is (Ok a) says =
    record { front = front; text = text; made = made; told = lawful game is a (subst (λ (k : ℕ). IsTold k text game a) counted says) }
about_input word IsTold given front text line made counted game is (Err e) says = tt

-- an answer that tells what is answered is right
pub told_so : (IsTold : Answer → Type 0) (b : Answer) → IsTold b → (r : Result Answer AllocError) → IfOk r (λ a. a ≡ b) → IfOk r IsTold
told_so IsTold b right (Ok a) e = subst IsTold (sym e) right
told_so IsTold b right (Err x) e = tt
