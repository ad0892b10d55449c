use Rattle.arimaa_refute.proofs.Lemmas.EscapeReading.{escapes-back, ok-weaker}
use Rattle.arimaa_refute.proofs.written_form.escapes_text.Goals as goal

pub returns-clause-reads_back : goal.returns-clause-reads_back
returns-clause-reads_back c =
    ok-weaker c.strategy_text.result
    (λ text back a all. escapes-back a text.items c.args.escapes.now c.in_ok-strategy.strategy c.in_ok-strategy.ensures back all)
    c.strategy_text.ensures.reads_back
