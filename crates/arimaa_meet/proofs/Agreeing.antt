-- Meets that came to the same.
use Rattle.std.proofs.Common.{◌≡◌, suc, List, [], ◌∷◌, map, Option, Some, refl, sym, ◌∙◌, ap, subst, arith}
use Rattle.std.proofs.lemmas.Option.{same_Some}
use Rattle.arimaa_judge.specs.Agreement.{JudgementsAgree}
use Rattle.arimaa_judge.specs.Judgement.{IsJudged}
use Rattle.arimaa_record.specs.Written.{text_of_record}
use Rattle.arimaa_record.proofs.Lemmas.FormLaws.{head_same, tail_same}
use Rattle.arimaa_match.specs.declared.ending.MatchDone.{MatchDone}
use Rattle.arimaa_match.specs.Laws.{ToldOnce}
use Rattle.arimaa_match.specs.Parts.{Coming, Ran, and_coming}
use Rattle.arimaa_match.specs.Programs.{match_of_programs}
use Rattle.arimaa_meet.specs.Agreement.{AreJudged, MatchesAgree, ReportsAgree}
use Rattle.arimaa_meet.specs.Matches.{MeetMatch}
use Rattle.arimaa_meet.specs.Report.{text_of_report}

pub matches_agree : ToldOnce → MatchesAgree
matches_agree once control old new other_old other_new heard lines other_lines a b tells other_tells between other_between played other =
    let nothing : Coming = record { gold = []; silver = []; moments = [] } in
    let first : played.heard ≡ heard = (once old new played.heard heard played.lines lines tells played.between between).0 in
    let second : other.heard ≡ heard = (once other_old other_new other.heard heard other.lines other_lines other_tells other.between other_between).0 in
    let value : Coming → Option MatchDone = λ (c : Coming). (match_of_programs control (and_coming c nothing)).value in
    let one : value played.heard ≡ Some a = ap (λ (r : Ran MatchDone). r.value) (played.agrees nothing) in
    let two : value other.heard ≡ Some b = ap (λ (r : Ran MatchDone). r.value) (other.agrees nothing) in
    same_Some a b (sym one ∙ (ap value (first ∙ sym second) ∙ two))

same_matches : JudgementsAgree → (a b : List MeetMatch) → map (λ (m : MeetMatch). m.pair) a ≡ map (λ (m : MeetMatch). m.pair) b
    → map (λ (m : MeetMatch). m.done) a ≡ map (λ (m : MeetMatch). m.done) b → AreJudged a → AreJudged b → a ≡ b
same_matches agree [] [] pairs dones judged other = refl
same_matches agree [] (y ∷ ys) pairs dones judged other = cc
same_matches agree (x ∷ xs) [] pairs dones judged other = cc
same_matches agree (x ∷ xs) (y ∷ ys) pairs dones judged other =
    let pair : x.pair ≡ y.pair = head_same pairs in
    let done : x.done ≡ y.done = head_same dones in
    let said : IsJudged (text_of_record y.done.written) x.judged =
    subst (λ (d : MatchDone). IsJudged (text_of_record d.written) x.judged) done (judged 0 x (omega arith)) in
    let judgement : x.judged ≡ y.judged = agree (text_of_record y.done.written) x.judged y.judged said (other 0 y (omega arith)) in
    let later : xs ≡ ys = same_matches agree xs ys
    (tail_same pairs)
    (tail_same dones)
    (λ k m within. judged (suc k) m (omega arith)) (λ k m within. other (suc k) m (omega arith)) in
    λ i. record { pair = pair i; done = done i; judged = judgement i } ∷ later i

pub reports_agree : JudgementsAgree → ReportsAgree
reports_agree agree programs a b pairs dones judged other =
    ap (λ (l : List MeetMatch). text_of_report programs l) (same_matches agree a b pairs dones judged other)
