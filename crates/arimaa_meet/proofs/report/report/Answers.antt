use Rattle.std.proofs.Common.{◌≡◌, ◌<◌, ◌≤◌, ◌++◌, ℕ, List, length, map, get_or, sym, ◌∙◌, ap, subst, arith, rules}
use Rattle.std.proofs.lemmas.List.{take_all}
use Rattle.arimaa_meet.specs.declared.match_count.Counted.{Counted}
use Rattle.arimaa_meet.specs.declared.match_report.Told.{Told}
use Rattle.arimaa_meet.specs.Matches.{MeetMatch}
use Rattle.arimaa_meet.specs.Report.{text_of_matches, text_of_table}
use Rattle.arimaa_meet.specs.Scores.{table_count}
use Rattle.arimaa_meet.specs.Shares.{IsTold}
use Rattle.arimaa_meet.proofs.ReportSteps.{any_match, counted_more, text_more, told_at, told_count}
use Rattle.arimaa_meet.proofs.report.report.Goals as goal

pub matches-preserved : goal.matches-preserved
matches-preserved c =
    let all = c.args.told.now in
    let place = c.matches.place in
    let told = c.index-told-place.result in
    let again = get_or all place c.index-told-place-in-matches.result in
    let low : place < length all = search rules in
    record {
      text = λ ms zip.
          let size = told_count ms all zip in
          text_more ms place any_match told c.matches.text.items c.push_match.new.text.items (omega arith)
          (subst (λ (t : Told). IsTold (get_or ms place any_match) t) (sym c.index-told-place.is)
          (told_at ms all place any_match told zip low))
          (c.matches.invariant.text ms zip) c.in_ok-push_match.ensures;
      counts = λ ms zip.
          let size = told_count ms all zip in
          counted_more ms place any_match again c.matches.counted.items c.push.new.self.items (omega arith)
          (told_at ms all place any_match c.index-told-place-in-matches.result zip low)
          (c.matches.invariant.counts ms zip) c.in_ok-push.ensures.items;
    }

pub returns : goal.returns
returns c = λ ms zip.
    let size = told_count ms c.args.told.now zip in
    let past : length c.args.told.now ≤ c.matches.place = search rules in
    let whole = take_all c.matches.place ms (omega arith) in
    let text : c.matches.text.items ≡ text_of_matches 1 ms =
    c.matches.invariant.text ms zip ∙ ap (λ (l : List MeetMatch). text_of_matches 1 l) whole in
    let counts : c.deref.result.now ≡ map table_count ms =
    c.deref.ensures.value ∙ (c.matches.invariant.counts ms zip ∙ ap (λ (l : List MeetMatch). map table_count l) whole) in
    c.in_ok-push_table.ensures
    ∙ (ap (λ (l : List ℕ). l ++ text_of_table c.args.programs c.deref.result.now) text
    ∙ ap (λ (l : List Counted). text_of_matches 1 ms ++ text_of_table c.args.programs l) counts)
