-- The report, one match after another.
use Rattle.std.proofs.Common.{◌≡◌, ◌<◌, ℕ, ◌+◌, zero, suc, List, [], ◌∷◌, ◌++◌, length, map, take, get_or, None, append-nil, append_assoc, refl, sym, ◌∙◌, ap, arith}
use Rattle.std.specs.List.{AllZip}
use Rattle.std.proofs.lemmas.List.{length-map, length-take-le, map-append, take_more}
use Rattle.arimaa_board.specs.declared.piece.Color.TheVariants.{Gold}
use Rattle.arimaa_judge.specs.declared.judgement.Judged.TheVariants.{Lawful}
use Rattle.arimaa_match.specs.declared.ending.MatchEnd.TheVariants.{Limit}
use Rattle.arimaa_match.specs.Texts.{text_of_match}
use Rattle.arimaa_meet.specs.declared.match_count.Counted.{Counted}
use Rattle.arimaa_meet.specs.declared.pairs.Pair.{Pair}
use Rattle.arimaa_meet.specs.declared.match_report.Told.{Told}
use Rattle.arimaa_meet.specs.Matches.{IsJudgedMatch, MeetMatch}
use Rattle.arimaa_meet.specs.Report.{line_of_pair, text_of_matches}
use Rattle.arimaa_meet.specs.Scores.{table_count}
use Rattle.arimaa_meet.specs.Shares.{IsTold}

-- one match more
matches_push : (n k : ℕ) (xs : List MeetMatch) (m : MeetMatch) → k ≡ n + length xs
    → text_of_matches n (xs ++ m ∷ []) ≡ text_of_matches n xs ++ (line_of_pair k m.pair ++ text_of_match m.done)
matches_push n k [] m at =
    let same : n ≡ k = omega arith in
    append-nil (line_of_pair n m.pair ++ text_of_match m.done)
    ∙ ap (λ (i : ℕ). line_of_pair i m.pair ++ text_of_match m.done) same
matches_push n k (x ∷ xs) m at =
    let own : List ℕ = line_of_pair n x.pair ++ text_of_match x.done in
    ap (λ (l : List ℕ). own ++ l) (matches_push (n + 1) k xs m (omega arith))
    ∙ sym (append_assoc own (text_of_matches (n + 1) xs) (line_of_pair k m.pair ++ text_of_match m.done))

-- what is told of the match in a place
pub told_at : (ms : List MeetMatch) (all : List Told) (k : ℕ) (m : MeetMatch) (t : Told)
    → AllZip IsTold ms all → k < length all → IsTold (get_or ms k m) (get_or all k t)
told_at [] [] k m t zip within = absurd (omega arith)
told_at [] (y ∷ ys) k m t zip within = absurd zip
told_at (x ∷ xs) [] k m t zip within = absurd zip
told_at (x ∷ xs) (y ∷ ys) zero m t zip within = zip.0
told_at (x ∷ xs) (y ∷ ys) (suc k) m t zip within = told_at xs ys k m t zip.1 (omega arith)

-- as many matches as are told of
pub told_count : (ms : List MeetMatch) (all : List Told) → AllZip IsTold ms all → length ms ≡ length all
told_count [] [] zip = refl
told_count [] (y ∷ ys) zip = absurd zip
told_count (x ∷ xs) [] zip = absurd zip
told_count (x ∷ xs) (y ∷ ys) zip = let rest : length xs ≡ length ys = told_count xs ys zip.1 in omega arith

-- the text of the first matches, and of one more
pub text_more : (ms : List MeetMatch) (place : ℕ) (m : MeetMatch) (told : Told) (before after : List ℕ)
    → place < length ms → IsTold (get_or ms place m) told
    → before ≡ text_of_matches 1 (take place ms)
    → after ≡ before ++ (line_of_pair (place + 1) told.counted.pair ++ told.text.items)
    → after ≡ text_of_matches 1 (take (place + 1) ms)
text_more ms place m told before after within is was now =
    let one : MeetMatch = get_or ms place m in
    let size : length (take place ms) ≡ place = length-take-le place ms (omega arith) in
    now
    ∙ (ap (λ (l : List ℕ). l ++ (line_of_pair (place + 1) told.counted.pair ++ told.text.items)) was
    ∙ (ap (λ (c : Counted). text_of_matches 1 (take place ms) ++ (line_of_pair (place + 1) c.pair ++ told.text.items)) is.counted_so
    ∙ (ap (λ (l : List ℕ). text_of_matches 1 (take place ms) ++ (line_of_pair (place + 1) one.pair ++ l)) is.text
    ∙ (sym (matches_push 1 (place + 1) (take place ms) one (omega arith))
    ∙ ap (λ (l : List MeetMatch). text_of_matches 1 l) (sym (take_more ms place m within))))))

-- what the first matches count, and one more
pub counted_more : (ms : List MeetMatch) (place : ℕ) (m : MeetMatch) (told : Told) (before after : List Counted)
    → place < length ms → IsTold (get_or ms place m) told
    → before ≡ map table_count (take place ms) → after ≡ before ++ told.counted ∷ []
    → after ≡ map table_count (take (place + 1) ms)
counted_more ms place m told before after within is was now =
    let one : MeetMatch = get_or ms place m in
    now
    ∙ (ap (λ (l : List Counted). l ++ told.counted ∷ []) was
    ∙ (ap (λ (c : Counted). map table_count (take place ms) ++ c ∷ []) is.counted_so
    ∙ (sym (map-append table_count (take place ms) (one ∷ []))
    ∙ ap (λ (l : List MeetMatch). map table_count l) (sym (take_more ms place m within)))))

-- as many are told of as there are pairs
pub told_as_many : (ms : List MeetMatch) (all : List Told) (pairs : List Pair) → AllZip IsTold ms all
    → map (λ (m : MeetMatch). m.pair) ms ≡ pairs → length all ≡ length pairs
told_as_many ms all pairs zip same =
    sym (told_count ms all zip) ∙ (sym (length-map ms (λ (m : MeetMatch). m.pair)) ∙ ap (λ (l : List Pair). length l) same)

-- the records of the matches that are told of are judged
pub all_judged : (ms : List MeetMatch) (all : List Told) → AllZip IsTold ms all
    → (k : ℕ) (m : MeetMatch) → k < length ms → IsJudgedMatch (get_or ms k m)
all_judged [] all zip k m within = absurd (omega arith)
all_judged (x ∷ xs) [] zip k m within = absurd zip
all_judged (x ∷ xs) (y ∷ ys) zip zero m within = zip.0.judged
all_judged (x ∷ xs) (y ∷ ys) zip (suc k) m within = all_judged xs ys zip.1 k m (omega arith)

-- any match
pub any_match : MeetMatch
any_match = record {
  pair = record { gold = 0; silver = 0 };
  done = record { written = []; ending = Limit; log = [] };
  judged = Lawful [] 0 None (record { number = 0; side = Gold });
}
