use Rattle.std.proofs.Common.{◌≡◌, ◌∙◌, map, true, ap, refl, sym, subst, ⊎_elim}
use Rattle.clap.specs.Words.{App, app_of, fault_of, is_simple, is_simple_and_free}
use Rattle.clap.specs.Words.{matches_of as found_in, IsAmong, Kinds, kind_of}
use Rattle.arimaa_cli.specs.OtherWords.{faults_of, rows_for, words_app}
use Rattle.arimaa_cli.proofs.other_words.matches_of.Goals as goal

simple : is_simple words_app ≡ true
simple = refl

free : is_simple_and_free words_app ≡ true
free = refl

pub returns-in-Ok-clause-some : goal.returns-in-Ok-clause-some
unfolding faults_of rows_for
returns-in-Ok-clause-some c =
    let words = map (λ w. w.now) c.args.words.now in
    let app : app_of c.in_ok-command.field-0 ≡ words_app = c.in_ok-command.ensures in (
      ap (λ (a : App). fault_of a words) (sym app) ∙ c.in-Ok.ensures.kinds (ap is_simple_and_free app ∙ free),
      (c.in-Ok.ensures.matches (ap is_simple app ∙ simple)).0 ∙ ap (λ (a : App). found_in a words) app,
    )

pub returns : goal.returns
unfolding faults_of
returns c =
    let words = map (λ w. w.now) c.args.words.now in
    let app : app_of c.in_ok-command.field-0 ≡ words_app = c.in_ok-command.ensures in record {
      some = tt;
      none = λ e. ⊎_elim
          (λ memory. c.in_default.not-OutOfMemory (c.kind.ensures ∙ memory))
          (λ among. subst (λ (k : Kinds). IsAmong (kind_of c.in-Err.error) k) (ap (λ (a : App). fault_of a words) app ∙ e) among)
          (c.in-Err.ensures.kinds (ap is_simple_and_free app ∙ free));
    }
