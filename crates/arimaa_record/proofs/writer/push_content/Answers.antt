use Rattle.std.proofs.Common.{◌++◌, ◌∙◌, sym, ap, subst}
use Rattle.std.proofs.lemmas.Result.{on_ok_weaker}
use Rattle.arimaa_notation.specs.Grammar.{IsSetupText}
use Rattle.arimaa_notation.specs.Written.{text_of_setup}
use Rattle.arimaa_record.specs.Label.{text_of_label}
use Rattle.arimaa_record.specs.declared.line.RecordLine.TheVariants as line
use Rattle.arimaa_record.proofs.WrittenBack.{ReadsBack, line_back, on_ok, setup_line}
use Rattle.arimaa_record.proofs.writer.push_content.Goals as goal

pub returns-in-Blank-clause-reads_back : goal.returns-in-Blank-clause-reads_back
returns-in-Blank-clause-reads_back c = subst ReadsBack (sym c.in-Blank.is) (line_back line.Blank tt)

pub returns-in_ok-push_label-in-Start-clause-reads_back :
    goal.returns-in_ok-push_label-in-Start-clause-reads_back
returns-in_ok-push_label-in-Start-clause-reads_back c =
    on_ok c.push_part.result (subst ReadsBack (sym c.in-Start.is) (line_back (line.Start c.in-Start.number c.in-Start.side c.in-Start.board) tt))

pub returns-in_ok-push_label-in-Setup-clause-text :
    goal.returns-in_ok-push_label-in-Setup-clause-text
returns-in_ok-push_label-in-Setup-clause-text c =
    on_ok_weaker c.push_part-in-Setup.result
    (λ e. setup_line c.args.text.now.items c.push_label-in-Setup.new.text.items c.push_part-in-Setup.new.text.items c.as_bytes.result.now c.in-Setup.number c.in-Setup.side c.in-Setup.setup c.args.line.now e
    (c.in_ok-push_label-in-Setup.ensures ∙ ap (λ label. c.args.text.now.items ++ text_of_label label) c.new-in-Setup.ensures) (c.as_bytes.ensures.value ∙ (c.deref.ensures.0 ∙ c.setup_text.ensures.text)) c.setup_text.ensures.reads_back.rule c.in-Setup.is)
    c.push_part-in-Setup.ensures

pub returns-in_ok-push_label-in-Setup-clause-reads_back :
    goal.returns-in_ok-push_label-in-Setup-clause-reads_back
returns-in_ok-push_label-in-Setup-clause-reads_back c =
    let s = c.in-Setup.setup in
    let text : IsSetupText (text_of_setup s) s.color s = subst (λ x. IsSetupText x s.color s) c.setup_text.ensures.text c.setup_text.ensures.reads_back in
    on_ok c.push_part-in-Setup.result (subst ReadsBack (sym c.in-Setup.is) (line_back (line.Setup c.in-Setup.number c.in-Setup.side s) text))

pub returns-in_ok-push_label-in-Turn-clause-reads_back :
    goal.returns-in_ok-push_label-in-Turn-clause-reads_back
returns-in_ok-push_label-in-Turn-clause-reads_back c =
    on_ok_weaker c.push_turn.result (λ text. subst ReadsBack (sym c.in-Turn.is) (line_back (line.Turn c.in-Turn.number c.in-Turn.side c.in-Turn.noted) text)) c.push_turn.ensures.reads_back

pub returns-in_ok-push_label-in-Closing-clause-reads_back :
    goal.returns-in_ok-push_label-in-Closing-clause-reads_back
returns-in_ok-push_label-in-Closing-clause-reads_back c =
    on_ok c.push_part-in-Closing.result (subst ReadsBack (sym c.in-Closing.is) (line_back (line.Closing c.in-Closing.number c.in-Closing.side c.in-Closing.word) tt))

pub returns-in-Bare-clause-reads_back : goal.returns-in-Bare-clause-reads_back
returns-in-Bare-clause-reads_back c = on_ok c.push_label-in-Bare.result (subst ReadsBack (sym c.in-Bare.is) (line_back (line.Bare c.in-Bare.number c.in-Bare.side) tt))

pub returns-in_ok-push_label-in-Takeback-clause-reads_back :
    goal.returns-in_ok-push_label-in-Takeback-clause-reads_back
returns-in_ok-push_label-in-Takeback-clause-reads_back c =
    on_ok c.push_part-in-Takeback.result (subst ReadsBack (sym c.in-Takeback.is) (line_back (line.Takeback c.in-Takeback.number c.in-Takeback.side) tt))
