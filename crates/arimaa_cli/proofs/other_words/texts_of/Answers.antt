use Rattle.std.proofs.Common.{◌∙◌, ◌++◌, ◌∷◌, [], List, ℕ, ap, map, sym, arith}
use lib.Seq.{take_all}
use Rattle.arimaa_cli.proofs.OtherForms.{map_more, one_more}
use Rattle.arimaa_cli.proofs.other_words.texts_of.Goals as goal

pub loop-place-preserved : goal.loop-place-preserved
loop-place-preserved c =
    let more = one_more c.args.words.now c.loop-place.place c.in-Some.word.now c.in-Some.ensures.word in
    ap (map (λ w. w.now)) c.in_ok-push-in-Some.ensures.items ∙ map_more c.loop-place.texts.items c.in-Some.word ∙ ap (λ (l : List (List ℕ)). l ++ c.in-Some.word.now ∷ []) c.loop-place.invariant ∙ sym more

pub returns : goal.returns
returns c =
    let len = c.len-place-end.ensures in
    c.loop-place.invariant ∙ take_all c.loop-place.place c.args.words.now (omega arith)
