use Rattle.std.proofs.Common.{◌≡◌, ◌∷◌, ℕ, List, ap, drop, arith, refl, subst, sym}
use Rattle.std.specs.Prelude.{codes}
use Rattle.std.specs.Fmt.{decimal}
use Rattle.arimaa_judge.specs.Texts.{side_word}
use Rattle.arimaa_cli.specs.declared.commands.Command.TheVariants.{Refute}
use Rattle.arimaa_cli.specs.declared.commands.prove.Asked.{Asked}
use Rattle.arimaa_cli.specs.Commands.{AreWords}
use Rattle.arimaa_cli.specs.Options.{AreOptionsOfOne}
use Rattle.arimaa_cli.proofs.CommandForms.{prove_words, same_name}
use Rattle.arimaa_options.proofs.Lemmas.OptionForms.{if_none}
use Rattle.arimaa_cli.proofs.words.read_refute.Goals as goal

pub overflow_cast-depth : goal.overflow_cast-depth
overflow_cast-depth c =
    let read = (c.in_ok-depth.ensures c.in_ok-depth.field-0).0 refl in
    let low = read.0 in
    omega arith

pub returns-clause-form : goal.returns-clause-form
returns-clause-form c =
    let ws = c.args.words.now in
    let name = same_name c.ne.result c.in_ok-get.field-0.now (codes "refute") c.ne.ensures c.if-ne.false in
    let side = (c.in_ok-attacker.ensures c.in_ok-attacker.attacker).0 refl in
    let depth = (c.in_ok-depth.ensures c.in_ok-depth.field-0).0 refl in
    let number = depth.1 in
    let all = prove_words ws c.in_ok-get.field-0.now c.in_ok-get-2.field-0.now c.in_ok-get-3.field-0.now c.in_ok-get.ensures.word c.in_ok-get-2.ensures.word c.in_ok-get-3.ensures.word in
    let form : ws ≡ codes "refute" ∷ side_word c.in_ok-attacker.attacker ∷ decimal c.in_ok-depth.field-0 ∷ drop 3 ws = cc in
    record { form = record { options = drop 3 ws; form = form; set = c.in_ok-settings.ensures.form }; in_range = (depth.0, c.in_ok-settings.ensures.limits) }

pub returns-in_err-settings-clause-none : goal.returns-in_err-settings-clause-none
returns-in_err-settings-clause-none c = if_none c.from_residual-in_err-settings.result ((asked : Asked) → AreWords c.args.words.now (Refute asked) → ⊥) (λ asked are.
    let options : drop 3 c.args.words.now ≡ are.form.options = ap (drop 3) are.form.form in
    c.in_err-settings.ensures.none asked.settings (subst (λ (o : List (List ℕ)). AreOptionsOfOne o asked.settings) (sym options) are.form.set) are.in_range.1)
