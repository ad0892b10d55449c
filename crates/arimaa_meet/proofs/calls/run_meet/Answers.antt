use Rattle.arimaa_outside.specs.declared.status.Status.TheVariants.{Done}
use Rattle.arimaa_meet.proofs.WordForms.{among, ended_done, never_memory, one_asked}
use Rattle.std.proofs.Common.{ℕ, List, subst}
use Rattle.arimaa_outside.specs.Writing.{EndsWith}
use Rattle.arimaa_meet.proofs.calls.run_meet.Goals as goal

pub returns-in-None-clause-played : goal.returns-in-None-clause-played
returns-in-None-clause-played g c = λ asked asks. absurd (c.in-None.ensures.none asked asks)

pub returns-in-Ok-clause-played : goal.returns-in-Ok-clause-played
returns-in-Ok-clause-played g c = λ asked asks.
    let before = g.O.Sink.contents c.args.output.now in
    let after = g.O.Sink.contents c.write_answer-in-Ok.new.sink in
    let ends = subst (λ (t : List ℕ). EndsWith c.write_answer-in-Ok.result before after Done t) c.deref.ensures.value c.write_answer-in-Ok.ensures.ends in
    let either = ended_done c.write_answer-in-Ok.result before after c.in-Ok.text.items ends in
    rw (one_asked c.args.words.now asked c.in-Some.asked asks c.in-Some.ensures.form)
    (record {
      report = λ some. (c.in-Ok.text.items, c.in-Ok.ensures, ends);
      unwritten = λ none. absurd (never_memory c.write_answer-in-Ok.result either none);
      others = among c.write_answer-in-Ok.result either;
    })
