use Rattle.arimaa_cli.proofs.record.record_of.Goals as goal

pub returns : goal.returns
returns c = c.told.ensures c.args.bytes.now c.in_ok-judged.ensures.judged
