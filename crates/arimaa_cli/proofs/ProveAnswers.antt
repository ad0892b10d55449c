-- A verdict of the prover, as an answer.
use Rattle.std.proofs.Common.{◌≡◌, ℕ, Option, None, Some, Bool, true, false, is_some, refl, sym, ◌∙◌, ap, subst, true≢false}
use Rattle.std.specs.Prelude.{Result, Ok, Err, IfOk, not}
use Rattle.std.specs.declared.alloc.AllocError.{AllocError}
use Rattle.arimaa_board.specs.declared.position.Position.{Position}
use Rattle.arimaa_pool.specs.declared.verdict.Verdict.{Verdict}
use Rattle.arimaa_pool.specs.declared.verdict.Verdict.TheVariants.{Yes, No, Spent, Crowded}
use Rattle.arimaa_pool.specs.Verdicts.{IsAnswer, Plays, terms_of}
use Rattle.arimaa_cli.specs.declared.answer.Answer.{Answer}
use Rattle.arimaa_cli.specs.declared.answer.Answer.TheVariants as answer
use Rattle.arimaa_cli.specs.declared.commands.prove.Asked.{Asked}
use Rattle.arimaa_cli.specs.declared.record.Game.{Game}
use Rattle.arimaa_cli.specs.Commands.Prove.{IsOpenAt, IsProveAnswer, answer_of_verdict}
use Rattle.arimaa_cli.specs.Commands.Prove.IsProveAnswer.{crowded, no_win, spent, won}
use Rattle.arimaa_cli.specs.Texts.{spent_text}

pub none_there : (o : Option Position) (b : Bool) → is_some o ≡ not b → b ≡ true → o ≡ None
none_there None b e t = refl
none_there (Some p) b e t = absurd (true≢false (e ∙ ap not t))

pub one_there : (o : Option Position) (b : Bool) → is_some o ≡ not b → b ≡ false → (p : Position) × (o ≡ Some p)
one_there None b e t = absurd (true≢false (sym (e ∙ ap not t)))
one_there (Some p) b e t = (p, refl)

-- what is told of a right verdict is what prove answers
pub verdict_answers : (ask : Asked) (game : Game) (p : Position) → IsOpenAt game p → (v : Verdict)
    → IsAnswer (terms_of ask.attacker game.history ask.settings) p ask.depth v → Plays ask.attacker game.history v → IsProveAnswer ask game (answer_of_verdict v)
verdict_answers ask game p open_at (Yes r s) is plays = won p r s open_at (record { exact = is.1; within = is.0; own = is.2; plays = plays })
verdict_answers ask game p open_at No is plays = no_win p open_at is
verdict_answers ask game p open_at (Spent q j k) is plays =
    subst (λ (b : ℕ). IsProveAnswer ask game (answer.Spent (spent_text q j b))) (sym is.2) (spent p q j open_at is.0 is.1)
verdict_answers ask game p open_at (Crowded q j) is plays = crowded p q j open_at is.0 is.1

-- an answer that tells a right verdict is right
pub told_right : (ask : Asked) (game : Game) (v : Verdict) → IsProveAnswer ask game (answer_of_verdict v) → (r : Result Answer AllocError) → IfOk r (λ a. a ≡ answer_of_verdict v)
    → IfOk r (IsProveAnswer ask game)
told_right ask game v right (Ok a) e = subst (IsProveAnswer ask game) (sym e) right
told_right ask game v right (Err x) e = tt
