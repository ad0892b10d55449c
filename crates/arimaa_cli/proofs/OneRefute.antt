-- Over given bytes refute has one answer, unless the maker of escapes stops short.
use Rattle.std.proofs.Common.{ℕ, List, inl, inr, refl, sym, ◌∙◌, ap, subst, true≢false}
use Rattle.std.specs.Prelude.{Ok}
use Rattle.arimaa_board.specs.declared.position.Position.{Position}
use Rattle.arimaa_refute.specs.declared.escape.Escape.{Escape}
use Rattle.arimaa_refute.specs.declared.refute_answer.Refuted.{Refuted}
use Rattle.arimaa_refute.specs.declared.refute_answer.Refuted.TheVariants as refuted
use Rattle.arimaa_refute.specs.Refutations.{IsDone}
use Rattle.arimaa_cli.specs.declared.answer.Answer.{Answer}
use Rattle.arimaa_cli.specs.declared.commands.prove.Asked.{Asked}
use Rattle.arimaa_cli.specs.declared.record.Game.{Game}
use Rattle.arimaa_cli.specs.Answer.{IsStop}
use Rattle.arimaa_cli.specs.Commands.Refute.{IsAmpleAt, IsMade, IsRefuteAnswer, IsToldOf, answer_of_refuted}
use Rattle.arimaa_cli.specs.Positions.IsAnswerAt.{told as told_at, unasked}
use Rattle.arimaa_cli.specs.Records.{IsGame, IsRecordAnswer}
use Rattle.arimaa_cli.specs.Records.IsRecordAnswer.{bad, lawful}
use Rattle.arimaa_cli.proofs.OneParting.{AreOne}
use Rattle.arimaa_cli.proofs.OneVerify.{one_at}

one_made : (asked : Asked) (h : List Position) (p : Position) (x y : Refuted) → IsMade asked h p x → IsMade asked h p y → AreOne (answer_of_refuted x) (answer_of_refuted y)
one_made asked h p (refuted.Held c) (refuted.Held d) f g = inl (ap (λ (e : List Escape). answer_of_refuted (refuted.Held e)) (f.right.own ∙ sym g.right.own))
one_made asked h p (refuted.Held c) refuted.Wins f g = absurd (true≢false (sym g.right ∙ f.right.lost))
one_made asked h p refuted.Wins (refuted.Held d) f g = absurd (true≢false (sym f.right ∙ g.right.lost))
one_made asked h p refuted.Wins refuted.Wins f g = inl refl
one_made asked h p (refuted.Spent q n k) y f g = inr (inl tt)
one_made asked h p (refuted.Crowded q n) y f g = inr (inl tt)
one_made asked h p x (refuted.Spent q n k) f g = inr (inr tt)
one_made asked h p x (refuted.Crowded q n) f g = inr (inr tt)

one_told : (asked : Asked) (h : List Position) (p : Position) (a b : Answer) → IsToldOf asked h p a → IsToldOf asked h p b → AreOne a b
one_told asked h p a b f g =
    subst (λ (z : Answer). AreOne z b) (sym f.told) (subst (λ (z : Answer). AreOne (answer_of_refuted f.found) z) (sym g.told) (one_made asked h p f.found g.found f.made g.made))

-- about a game there is one answer, unless one of two is a stop
pub one_refute : (asked : Asked) (game : Game) (a b : Answer) → IsRefuteAnswer asked game a → IsRefuteAnswer asked game b → AreOne a b
one_refute asked game a b p q = one_at game _ _ (λ place c d f g. one_told asked game.history place c d f g) a b p q

-- ---- stops

done_is_no_stop : (x : Refuted) → IsDone x → IsStop (Ok (answer_of_refuted x)) → ⊥
done_is_no_stop (refuted.Held c) done stop = stop
done_is_no_stop refuted.Wins done stop = stop
done_is_no_stop (refuted.Spent q n k) done stop = done
done_is_no_stop (refuted.Crowded q n) done stop = done

ample_at : (asked : Asked) (game : Game) → IsAmpleAt asked game → (a : Answer) → IsRefuteAnswer asked game a → IsStop (Ok a) → ⊥
ample_at asked game ample a (unasked x u) stop = stop
ample_at asked game ample a (told_at p o b says) stop =
    done_is_no_stop says.found (says.made.complete (ample p o.last)) (subst (λ (z : Answer). IsStop (Ok z)) says.told stop)

-- where budget and room are ample, the maker of escapes doesn't stop short
pub ample_stops_none : (asked : Asked) (bytes : List ℕ) → ((game : Game) → IsGame bytes game → IsAmpleAt asked game) → (a : Answer) → IsRecordAnswer bytes (IsRefuteAnswer asked) a → IsStop (Ok a) → ⊥
ample_stops_none asked bytes ample a (bad text wrong) stop = stop
ample_stops_none asked bytes ample a (lawful game is b says) stop = ample_at asked game (ample game is) a says stop
