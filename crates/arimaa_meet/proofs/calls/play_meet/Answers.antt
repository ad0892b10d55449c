use Rattle.std.proofs.Common.{◌∙◌, List, length, sym, ap, subst, arith}
use Rattle.std.specs.List.{AllZip}
use Rattle.arimaa_meet.specs.declared.match_report.Told.{Told}
use Rattle.arimaa_meet.specs.Shares.{IsTold}
use Rattle.arimaa_meet.proofs.ReportSteps.{all_judged, told_as_many}
use Rattle.arimaa_meet.proofs.calls.play_meet.Goals as goal

pub report-requires-clause-few : goal.report-requires-clause-few
report-requires-clause-few g c =
    let h = c.in_ok-told.ensures in
    let many = told_as_many h.matches c.in_ok-told.told.items c.in_ok-all_pairs.field-0.items h.telling h.programs in
    let lent = ap (λ (l : List Told). length l) c.deref.ensures.value in
    let few = c.in_ok-all_pairs.ensures.few in
    omega (arith, many, lent, few)

pub returns : goal.returns
returns g c =
    let h = c.in_ok-told.ensures in
    record {
      matches = h.matches;
      plays = h.plays;
      pairs = h.programs ∙ c.in_ok-all_pairs.ensures.pairs;
      judged = all_judged h.matches c.in_ok-told.told.items h.telling;
      text_so = c.in_ok-text.ensures h.matches
          (subst (λ (l : List Told). AllZip IsTold h.matches l) (sym c.deref.ensures.value) h.telling);
    }
