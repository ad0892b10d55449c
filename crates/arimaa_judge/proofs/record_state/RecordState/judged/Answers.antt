use Rattle.std.proofs.Common.{◌≡◌, ◌∙◌, ap, length, subst, sym}
use Rattle.arimaa_game.specs.Play.{turns_in}
use Rattle.arimaa_judge.specs.declared.judgement.Judged.TheVariants.{Lawful}
use Rattle.arimaa_judge.specs.Judgement.{lawful_of}
use Rattle.arimaa_judge.specs.RecordState.{RecordState, declared_or}
use Rattle.arimaa_judge.specs.RecordStateInvariant.{history_of, labels_before}
use Rattle.arimaa_judge.proofs.Accepting.{ended_by}
use Rattle.arimaa_judge.proofs.DueLabels.{labels-count}
use Rattle.arimaa_judge.proofs.record_state.RecordState.judged.Goals as goal

pub returns-clause-value : goal.returns-clause-value
returns-clause-value c =
    let s = c.self.inside in
    let count : c.turns_in-turns.result ≡ length (labels_before (turns_in (history_of s.stage)) s.repeated s.due) =
    c.turns_in-turns.ensures ∙ sym (labels-count (turns_in (history_of s.stage)) s.repeated s.due) in
    let ended = c.declared_or-ending.ensures ∙ ap (declared_or s.word) c.ending_in.ensures in
    subst (λ (x : RecordState). Lawful c.history_in.result c.turns_in-turns.result c.declared_or-ending.result s.due ≡ lawful_of x) c.self.view_is
    (λ i. Lawful (c.history_in.ensures.value i) (count i) (ended i) s.due)

pub returns-clause-ended : goal.returns-clause-ended
returns-clause-ended c =
    rw (c.declared_or-ending.ensures, c.ending_in.ensures, c.history_in.ensures.value) (ended_by c.self.inside.word _ c.self.invariant.word)
