use Rattle.std.proofs.Common.{◌≡◌, ◌++◌, List, ℕ, Option, OnOk, subst, sym, ◌∙◌}
use mathlib.Core.List.{append-nil}
use Rattle.clap.specs.Words.{found_of}
use Rattle.clap.proofs.WalkLemmas.{first_value-rows}
use Rattle.arimaa_cli.specs.OtherWords.{one_word}
use Rattle.arimaa_cli.proofs.other_words.push_word.Goals as goal

pub returns-in-Some : goal.returns-in-Some
returns-in-Some c = subst (λ (o : Option (List ℕ)). OnOk c.push.result (c.push.new.self ≡ c.args.list.now ++ one_word o))
    (c.in-Some.ensures ∙ first_value-rows (found_of c.args.matches.now) c.args.id.now) c.push.ensures.ok

pub returns-in-None : goal.returns-in-None
returns-in-None c = subst (λ (o : Option (List ℕ)). c.args.list.now ≡ c.args.list.now ++ one_word o)
    (c.in-None.ensures ∙ first_value-rows (found_of c.args.matches.now) c.args.id.now) (sym (append-nil _))
