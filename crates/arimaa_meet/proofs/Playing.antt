-- The matches of a worker, one after another.
use Rattle.std.proofs.Common.{◌≡◌, ℕ, ◌+◌, ◌%◌, ◌<◌, List, [], ◌∷◌, ◌++◌, length, map, take, get_or, Option, refl, sym, ◌∙◌, ap, subst, arith}
use Rattle.std.specs.List.{AllZip}
use Rattle.std.proofs.lemmas.List.{length-take-le, map-append, take_more}
use Rattle.arimaa_outside.specs.Counts.{Counts}
use Rattle.arimaa_outside.specs.declared.port_answer.PortAnswer.{PortAnswer}
use Rattle.arimaa_meet.specs.declared.pairs.Pair.{Pair}
use Rattle.arimaa_meet.specs.Seats.{PlaysMatch, PlaysMatches, Seat, Terms}
use Rattle.arimaa_meet.specs.declared.match_report.Told.{Told}
use Rattle.arimaa_meet.specs.Matches.{MeetMatch}
use Rattle.arimaa_meet.specs.Shares.{HasPlayedPair, IsTold, dealt_to}
use Rattle.arimaa_meet.proofs.Dealing.{dealt_last, dealt_other}
use Rattle.arimaa_record.proofs.Lemmas.PlainLaws.{all_zip_push}

module _ {L : Type 0} (sent : L → Option (List (List ℕ))) (answers : L → Option (List PortAnswer))
    (counts : L → Counts) (terms : Terms) where
  -- one match more
  pub plays_more : (old mid new : Seat L) (matches : List MeetMatch) (m : MeetMatch)
      → PlaysMatches sent answers counts terms old mid matches
      → PlaysMatch sent answers counts terms mid new m
      → PlaysMatches sent answers counts terms old new (matches ++ m ∷ [])
  plays_more old mid new [] m before more =
      (new, subst (λ (s : Seat L). PlaysMatch sent answers counts terms s new m) before more, refl)
  plays_more old mid new (first ∷ later) m before more =
      (before.0, before.1, plays_more before.0 mid new later m before.2 more)

module _ {L : Type 0} (sent : L → Option (List (List ℕ))) (answers : L → Option (List PortAnswer))
    (counts : L → Counts) (terms : Terms) (pairs : List Pair) (worker workers : ℕ) where
  -- a worker's first matches were played, and this is told of them
  pub record ShareProgress (place : ℕ) (old now : Seat L) (told : List Told) : Type 0 where
    pub matches : List MeetMatch
    pub programs : map (λ m. m.pair) matches ≡ dealt_to worker workers (take place pairs)
    pub telling : AllZip IsTold matches told
    pub plays : PlaysMatches sent answers counts terms old now matches

  -- one more that is dealt to it
  pub share_more : (place : ℕ) (old mid now : Seat L) (told more : List Told) (pair : Pair) (one : Told)
      → ShareProgress place old mid told → place < length pairs → place % workers ≡ worker
      → pair ≡ get_or pairs place pair → HasPlayedPair sent answers counts terms pair mid now one
      → more ≡ told ++ one ∷ [] → ShareProgress (place + 1) old now more
  share_more place old mid now told more pair one before within own reads played added =
      let m : MeetMatch = played.the_match in
      let ms : List MeetMatch = before.matches in
      let size : length (take place pairs) ≡ place = length-take-le place pairs (omega arith) in
      record {
        matches = ms ++ m ∷ [];
        programs = map-append (λ (x : MeetMatch). x.pair) ms (m ∷ [])
            ∙ (ap (λ (l : List Pair). l ++ m.pair ∷ []) before.programs
            ∙ (ap (λ (p : Pair). dealt_to worker workers (take place pairs) ++ p ∷ []) (played.programs ∙ reads)
            ∙ (sym (dealt_last 0 place worker workers (take place pairs) (get_or pairs place pair) (omega (arith, size)) own)
            ∙ ap (λ (l : List Pair). dealt_to worker workers l) (sym (take_more pairs place pair within)))));
        telling = subst (λ (l : List Told). AllZip IsTold (ms ++ m ∷ []) l) (sym added) (all_zip_push IsTold ms told m one before.telling played.telling);
        plays = plays_more sent answers counts terms old mid now ms m before.plays played.plays;
      }

  -- one more that is dealt to another one
  pub share_same : (place : ℕ) (old now : Seat L) (told : List Told) (pair : Pair)
      → ShareProgress place old now told → place < length pairs → (place % workers ≡ worker → ⊥)
      → ShareProgress (place + 1) old now told
  share_same place old now told pair before within other =
      let size : length (take place pairs) ≡ place = length-take-le place pairs (omega arith) in
      record {
        matches = before.matches;
        programs = before.programs
            ∙ (sym (dealt_other 0 place worker workers (take place pairs) (get_or pairs place pair) (omega (arith, size)) other)
            ∙ ap (λ (l : List Pair). dealt_to worker workers l) (sym (take_more pairs place pair within)));
        telling = before.telling;
        plays = before.plays;
      }
