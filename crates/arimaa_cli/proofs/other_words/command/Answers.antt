use Rattle.std.proofs.Common.{ap, ap₂, codes, Some, ◌≡◌, ◌∙◌}
use Rattle.std.proofs.lemmas.Result.{IfOk-weaker}
use Rattle.clap.specs.Words.{Rule, Text, app_of, new_app, rule_of, with_rule}
use Rattle.clap.specs.Simple.{app_of_fields, on_top}
use Rattle.arimaa_cli.specs.OtherWords.{option_rule, without_help}
use Rattle.arimaa_cli.proofs.other_words.command.Goals as goal

-- with a long name
abbrev with_long : Text → Rule → Rule
with_long name r = record r { long = Some name }

pub returns : goal.returns
returns c =
    let off : app_of c.disable_help_flag.result ≡ on_top without_help (new_app (codes "arimaa")) = ap app_of_fields c.disable_help_flag.ensures ∙ ap (on_top without_help) c.new.ensures.app in
    let workers : rule_of c.long.result ≡ option_rule (codes "--workers") (codes "workers") = ap rule_of c.long.ensures ∙ ap (with_long (codes "workers")) c.new-5.ensures.rule in
    let lines : rule_of c.long-2.result ≡ option_rule (codes "--lines") (codes "lines") = ap rule_of c.long-2.ensures ∙ ap (with_long (codes "lines")) c.new-6.ensures.rule in
    let budget : rule_of c.long-3.result ≡ option_rule (codes "--budget") (codes "budget") = ap rule_of c.long-3.ensures ∙ ap (with_long (codes "budget")) c.new-7.ensures.rule in
    let room : rule_of c.long-4.result ≡ option_rule (codes "--room") (codes "room") = ap rule_of c.long-4.ensures ∙ ap (with_long (codes "room")) c.new-8.ensures.rule in
    let first = c.in_ok-arg.ensures.shape c.new-2.ensures.optional.1 ∙ ap₂ with_rule off c.new-2.ensures.rule in
    let second = c.in_ok-arg-2.ensures.shape c.new-3.ensures.optional.1 ∙ ap₂ with_rule first c.new-3.ensures.rule in
    let third = c.in_ok-arg-3.ensures.shape c.new-4.ensures.optional.1 ∙ ap₂ with_rule second c.new-4.ensures.rule in
    let fourth = c.in_ok-arg-4.ensures.shape (rw c.long.ensures c.new-5.ensures.optional.1) ∙ ap₂ with_rule third workers in
    let fifth = c.in_ok-arg-5.ensures.shape (rw c.long-2.ensures c.new-6.ensures.optional.1) ∙ ap₂ with_rule fourth lines in
    let sixth = c.in_ok-arg-6.ensures.shape (rw c.long-3.ensures c.new-7.ensures.optional.1) ∙ ap₂ with_rule fifth budget in
    IfOk-weaker c.arg-7.result _ _ (λ command adds. adds.shape (rw c.long-4.ensures c.new-8.ensures.optional.1) ∙ ap₂ with_rule sixth room) c.arg-7.ensures
