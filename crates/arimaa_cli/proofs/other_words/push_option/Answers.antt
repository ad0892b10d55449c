use Rattle.std.proofs.Common.{◌≡◌, ◌∙◌, ◌++◌, ◌∷◌, [], List, ℕ, Option, OnOk, subst, sym, ap}
use Rattle.std.proofs.lemmas.Result.{IfOk-weaker}
use Rattle.std.proofs.lemmas.List.{append_assoc}
use mathlib.Core.List.{append-nil}
use Rattle.clap.specs.Words.{found_of}
use Rattle.clap.proofs.WalkLemmas.{first_value-rows}
use Rattle.arimaa_cli.specs.OtherWords.{two_words}
use Rattle.arimaa_cli.proofs.other_words.push_option.Goals as goal

pub returns-in_ok-push-in-Some : goal.returns-in_ok-push-in-Some
returns-in_ok-push-in-Some c = subst (λ (o : Option (List ℕ)). OnOk c.push-in-Some.result (c.push-in-Some.new.self ≡ c.args.list.now ++ two_words c.args.id.now o))
    (c.in-Some.ensures ∙ first_value-rows (found_of c.args.matches.now) c.args.id.now) (
    let first = c.in_ok-push-in-Some.ensures.ok in
    IfOk-weaker c.push-in-Some.result _ _ (λ u e. e ∙ ap (λ (l : List (List ℕ)). l ++ c.in-Some.value.now ∷ []) first ∙ append_assoc c.args.list.now (c.args.id.now ∷ []) (c.in-Some.value.now ∷ [])) c.push-in-Some.ensures.ok)

pub returns-in-None : goal.returns-in-None
returns-in-None c = subst (λ (o : Option (List ℕ)). c.args.list.now ≡ c.args.list.now ++ two_words c.args.id.now o)
    (c.in-None.ensures ∙ first_value-rows (found_of c.args.matches.now) c.args.id.now) (sym (append-nil _))
