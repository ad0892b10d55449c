use Rattle.std.proofs.Common.{◌+◌, ◌++◌, List, ℕ, sym, ◌∙◌, ap, append_assoc}
use Rattle.arimaa_meet.specs.declared.table.Score.{Score}
use Rattle.arimaa_meet.specs.Report.{text_of_score, text_of_table}
use Rattle.arimaa_meet.proofs.PairSteps.{table_more}
use Rattle.arimaa_meet.proofs.table.push_table.Goals as goal

pub loop-place-preserved : goal.loop-place-preserved
loop-place-preserved c =
    let n = c.loop-place.place in
    let ms = c.args.matches.now in
    let t = c.args.text.now.items in
    c.in_ok-push_score.ensures
    ∙ (ap (λ (l : List ℕ). l ++ text_of_score (n + 1) c.count_score.result) c.loop-place.invariant
    ∙ (append_assoc t (text_of_table n ms) (text_of_score (n + 1) c.count_score.result)
    ∙ ap (λ (l : List ℕ). t ++ l)
    (ap (λ (s : Score). text_of_table n ms ++ text_of_score (n + 1) s) c.count_score.ensures ∙ sym (table_more n ms))))
