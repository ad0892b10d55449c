use Rattle.std.proofs.Common.{◌≡◌, ◌∷◌, [], subst, sym}
use Rattle.std.specs.Prelude.{codes}
use Rattle.arimaa_time.specs.Fields.{IsControl}
use Rattle.arimaa_cli.specs.Commands.{IsTextWord}
use Rattle.arimaa_cli.proofs.CommandForms.{four}
use Rattle.arimaa_cli.proofs.play.read_play.Goals as goal

pub returns-in-Ok-clause-form : goal.returns-in-Ok-clause-form
returns-in-Ok-clause-form c =
    let gold = c.in_ok-gold.ensures.form in
    let silver = c.in_ok-silver.ensures.form in
    let text = c.in_ok-text.ensures.form in
    let all = four c.args.words.now (codes "play") c.in_ok-get.field-0.now c.in_ok-get-2.field-0.now c.in_ok-get-3.field-0.now (c.is_named.ensures.0 c.if-not-is_named.false) c.in_ok-get.ensures.word c.in_ok-get-2.ensures.word c.in_ok-get-3.ensures.word in
    let form : c.args.words.now ≡ codes "play" ∷ c.in_ok-gold.gold ∷ c.in_ok-silver.silver ∷ c.in_ok-text.text ∷ [] = cc in
    record {
      text = c.in_ok-text.text;
      form = form;
      gold = subst IsTextWord (sym gold.0) gold.1;
      silver = subst IsTextWord (sym silver.0) silver.1;
      plain = subst IsTextWord (sym text.0) text.1;
      control = subst (λ bytes. IsControl bytes c.in-Ok.control) c.as_bytes.ensures c.in-Ok.ensures.read;
    }
