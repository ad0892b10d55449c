use Rattle.std.proofs.Common.{◌≡◌, ◌∙◌, inl, Ok, subst}
use Rattle.arimaa_match.specs.Texts.{text_of_match}
use Rattle.arimaa_outside.specs.Writing.{EndsWith}
use Rattle.arimaa_cli.specs.Play.{status_at}
use Rattle.arimaa_cli.proofs.Matches.{cause_of, status_among, status_end}
use Rattle.arimaa_cli.proofs.play.play.Goals as goal

pub returns-clause-played : goal.returns-clause-played
returns-clause-played g c =
    let before = g.O.Sink.contents c.args.output.now in
    let after = g.O.Sink.contents c.write_answer.new.sink in
    let text : c.deref.result.now ≡ text_of_match c.in-Ok.done = c.deref.ensures.value ∙ c.in-Ok-match_text.ensures.text in
    let ends = subst (λ t. EndsWith c.write_answer.result before after c.status_at.result t) text c.write_answer.ensures.ends in
    let told = subst (λ s. EndsWith c.write_answer.result before after s (text_of_match c.in-Ok.done)) c.status_at.ensures ends in
    let status = status_end c.write_answer.result (status_at c.in-Ok.done.ending) before after (text_of_match c.in-Ok.done) told in
    record {
      outcome = Ok c.in-Ok.done;
      went = rw (← c.as_str-gold.ensures, ← c.as_str-silver.ensures) c.in-Ok.ensures.went;
      told = inl told;
      lawful = λ _. c.in-Ok-match_text.ensures.lawful c.in-Ok.ensures.written;
      engine_fault = cause_of c.in-Ok.done.ending c.write_answer.result _ _ c.in-Ok.ensures.cause status;
      others = status_among c.in-Ok.done.ending c.write_answer.result status;
    }
