-- The workers: how spawners and clocks come to them and go back, and what they played.
use Rattle.std.proofs.Common.{append-nil, drop, take, ◌≡◌, ℕ, ◌+◌, ◌<◌, ◌≤◌, true, List, [], ◌++◌, length, map, get_or, Option, inl, inr, sym, ◌∙◌, ap, subst, arith}
use Rattle.std.specs.Prelude.{◌⊎◌, Vec}
use Rattle.std.specs.List.{AllZip, list_all}
use Rattle.std.specs.declared.alloc.Global.{Global}
use Rattle.std.proofs.lemmas.Bool.{cases_lt}
use Rattle.std.proofs.lemmas.List.{drop_all, take_all, get_or-map, get_or_default, length-map}
use Rattle.std.proofs.lemmas.List.Sums.{AllPass-from_list_all}
use Rattle.arimaa_outside.specs.Counts.{Counts}
use Rattle.arimaa_outside.specs.declared.port_answer.PortAnswer.{PortAnswer}
use Rattle.arimaa_meet.specs.declared.meet.Meet.{Meet}
use Rattle.arimaa_meet.specs.declared.pairs.Pair.{Pair}
use Rattle.arimaa_meet.specs.declared.match_report.Told.{Told}
use Rattle.arimaa_meet.specs.declared.workers.Worker.{Worker}
use Rattle.arimaa_meet.specs.Matches.{MeetMatch}
use Rattle.arimaa_meet.specs.Seats.{PlaysMatches, Seat, Terms}
use Rattle.arimaa_meet.specs.Shares.{AreShares, AreTold, HasPlayedShare, HavePlayed, HavePlayedShares, IsTold, dealt_to}
use Rattle.arimaa_meet.specs.Workers.{HasWorked, terms_of}
use Rattle.arimaa_meet.proofs.Gathering.{some_of}

-- the workers are numbered from 0
abbrev pub AreNumbered : {S K : Type 0} → List (Worker S K) → Type 0
AreNumbered {S} {K} ws = (k : ℕ) (d : Worker S K) → k < length ws → (get_or ws k d).number ≡ k

-- a list in which a part that is all of it was written again
pub refilled : {A : Type 0} (n : ℕ) (xs ys : List A) → n ≡ length xs → length ys ≡ length xs
    → take n (ys ++ drop (length ys) xs) ≡ ys
refilled {A} n xs ys size same =
    ap (λ (l : List A). take n (ys ++ l)) (drop_all (length ys) xs (omega arith))
    ∙ (ap (λ (l : List A). take n l) (append-nil ys) ∙ take_all n ys (omega arith))

module _ {S K L : Type 0} (sent : L → Option (List (List ℕ))) (answers : L → Option (List PortAnswer))
    (counts : L → Counts) (seat : S → K → Seat L) where
  -- what workers played is what was played over their spawners and clocks
  pub played_shares : (meet : Meet) (old new : List (Worker S K)) → meet.workers ≡ length old → AreNumbered old
      → length new ≡ length old
      → ((k : ℕ) (d : Worker S K) → k < length old → HasWorked sent answers counts seat meet (get_or old k d) (get_or new k d))
      → ((k : ℕ) (d : Worker S K) → k < length new → (get_or new k d).finished ≡ true)
      → HavePlayedShares sent answers counts seat (terms_of meet) meet.pairs.items
      (map (λ (w : Worker S K). w.spawner) old) (map (λ (w : Worker S K). w.spawner) new)
      (map (λ (w : Worker S K). w.clock) old) (map (λ (w : Worker S K). w.clock) new)
      (map (λ (w : Worker S K). w.told) new)
  played_shares meet old new workers numbered size worked finished =
      let spawner : Worker S K → S = λ (w : Worker S K). w.spawner in
      let clock : Worker S K → K = λ (w : Worker S K). w.clock in
      let told : Worker S K → Vec Told Global = λ (w : Worker S K). w.told in
      let old_spawners = length-map old spawner in
      record {
        each = λ w s k d low.
            let z : Worker S K = record { number = 0; spawner = s; clock = k; told = d; finished = true } in
            let within : w < length old = omega (arith, old_spawners) in
            let later : w < length new = omega (arith, size) in
            let own : Worker S K = get_or old w z in
            let then_own : Worker S K = get_or new w z in
            let p : HasPlayedShare sent answers counts (terms_of meet) meet.pairs.items own.number meet.workers (seat own.spawner own.clock) (seat then_own.spawner then_own.clock) then_own.told.items =
            (worked w z within).told (finished w z later) in
            let seat_before : seat own.spawner own.clock ≡ seat (get_or (map spawner old) w s) (get_or (map clock old) w k) =
            ap (λ (x : S). seat x own.clock) (sym (get_or-map spawner old w z s within))
            ∙ ap (λ (x : K). seat (get_or (map spawner old) w s) x) (sym (get_or-map clock old w z k within)) in
            let seat_after : seat then_own.spawner then_own.clock ≡ seat (get_or (map spawner new) w s) (get_or (map clock new) w k) =
            ap (λ (x : S). seat x then_own.clock) (sym (get_or-map spawner new w z s later))
            ∙ ap (λ (x : K). seat (get_or (map spawner new) w s) x) (sym (get_or-map clock new w z k later)) in
            record {
              matches = p.matches;
              programs = p.programs
                  ∙ (ap (λ (n : ℕ). dealt_to n meet.workers meet.pairs.items) (numbered w z within)
                  ∙ ap (λ (n : ℕ). dealt_to w n meet.pairs.items) (workers ∙ sym old_spawners));
              telling = subst (λ (v : Vec Told Global). AllZip IsTold p.matches v.items) (sym (get_or-map told new w z d later)) p.telling;
              plays = subst (λ (x : Seat L). PlaysMatches sent answers counts (terms_of meet) x (seat (get_or (map spawner new) w s) (get_or (map clock new) w k)) p.matches) seat_before
                  (subst (λ (x : Seat L). PlaysMatches sent answers counts (terms_of meet) (seat own.spawner own.clock) x p.matches) seat_after p.plays);
            };
        share_count = length-map new told ∙ (size ∙ sym old_spawners);
        spawner_count = length-map new spawner ∙ (size ∙ sym old_spawners);
        clock_count = length-map new clock ∙ (size ∙ sym old_spawners);
      }

  -- and so it is where these came to the workers from lists and went back to empty ones
  pub all_shares : (meet : Meet) (old new : List (Worker S K)) (spawners between_spawners later_spawners : List S)
      (clocks between_clocks later_clocks : List K) (none shares : List (Vec Told Global))
      → meet.workers ≡ length spawners → AreNumbered old → length new ≡ length old
      → ((k : ℕ) (d : Worker S K) → k < length old → HasWorked sent answers counts seat meet (get_or old k d) (get_or new k d))
      → list_all (λ (w : Worker S K). w.finished) new ≡ true
      → map (λ (w : Worker S K). w.spawner) old ≡ spawners → map (λ (w : Worker S K). w.clock) old ≡ clocks
      → between_spawners ≡ [] → between_clocks ≡ [] → none ≡ []
      → later_spawners ≡ between_spawners ++ map (λ (w : Worker S K). w.spawner) new
      → later_clocks ≡ between_clocks ++ map (λ (w : Worker S K). w.clock) new
      → shares ≡ none ++ map (λ (w : Worker S K). w.told) new
      → HavePlayedShares sent answers counts seat (terms_of meet) meet.pairs.items spawners later_spawners clocks later_clocks shares
  all_shares meet old new spawners between_spawners later_spawners clocks between_clocks later_clocks none shares
      workers numbered size worked finished from_spawners from_clocks no_spawners no_clocks no_shares to_spawners to_clocks to_shares =
      let spawner : Worker S K → S = λ (w : Worker S K). w.spawner in
      let clock : Worker S K → K = λ (w : Worker S K). w.clock in
      let told : Worker S K → Vec Told Global = λ (w : Worker S K). w.told in
      let back_spawners : map spawner new ≡ later_spawners = sym (to_spawners ∙ ap (λ (l : List S). l ++ map spawner new) no_spawners) in
      let back_clocks : map clock new ≡ later_clocks = sym (to_clocks ∙ ap (λ (l : List K). l ++ map clock new) no_clocks) in
      let all_told : map told new ≡ shares = sym (to_shares ∙ ap (λ (l : List (Vec Told Global)). l ++ map told new) no_shares) in
      subst (λ (x : List S). HavePlayedShares sent answers counts seat (terms_of meet) meet.pairs.items x later_spawners clocks later_clocks shares) from_spawners
      (subst (λ (x : List S). HavePlayedShares sent answers counts seat (terms_of meet) meet.pairs.items (map spawner old) x clocks later_clocks shares) back_spawners
      (subst (λ (x : List K). HavePlayedShares sent answers counts seat (terms_of meet) meet.pairs.items (map spawner old) (map spawner new) x later_clocks shares) from_clocks
      (subst (λ (x : List K). HavePlayedShares sent answers counts seat (terms_of meet) meet.pairs.items (map spawner old) (map spawner new) (map clock old) x shares) back_clocks
      (subst (λ (x : List (Vec Told Global)). HavePlayedShares sent answers counts seat (terms_of meet) meet.pairs.items (map spawner old) (map spawner new) (map clock old) (map clock new) x) all_told
      (played_shares meet old new (workers ∙ (ap (λ (l : List S). length l) (sym from_spawners) ∙ length-map old spawner))
      numbered size worked (AllPass-from_list_all (λ (w : Worker S K). w.finished) new finished))))))

  module _ (terms : Terms) (pairs : List Pair) (spawners later_spawners : List S) (clocks later_clocks : List K)
      (shares : List (Vec Told Global)) (s : S) (k : K) (d : Vec Told Global)
      (played : HavePlayedShares sent answers counts seat terms pairs spawners later_spawners clocks later_clocks shares) where
    -- these matches were played by a worker, and are told
    record IsPlayed (w : ℕ) (ms : List MeetMatch) : Type 0 where
      programs : map (λ m. m.pair) ms ≡ dealt_to w (length spawners) pairs
      telling : AllZip IsTold ms (get_or shares w d).items
      plays : PlaysMatches sent answers counts terms (seat (get_or spawners w s) (get_or clocks w k))
          (seat (get_or later_spawners w s) (get_or later_clocks w k)) ms

    chosen : (w : ℕ) → (w < length spawners) ⊎ (length spawners ≤ w) → (ms : List MeetMatch) × (w < length spawners → IsPlayed w ms)
    chosen w (inl less) =
        let p = played.each w s k d less in
        (p.matches, λ low. record { programs = p.programs; telling = p.telling; plays = p.plays })
    chosen w (inr past) = ([], λ low. absurd (omega arith))

    -- the matches of each worker
    pub of_worker : ℕ → List MeetMatch
    of_worker w = (chosen w (cases_lt w (length spawners))).0

    facts : (w : ℕ) → w < length spawners → IsPlayed w (of_worker w)
    unfolding of_worker chosen
    facts w low = (chosen w (cases_lt w (length spawners))).1 low

    pub are_shares : AreShares pairs of_worker shares
    are_shares = record {
      programs = λ w low. (facts w (omega (arith, played.share_count))).programs
          ∙ ap (λ (n : ℕ). dealt_to w n pairs) (sym played.share_count);
      telling = λ w e low. subst (λ (v : Vec Told Global). AllZip IsTold (of_worker w) v.items)
          (get_or_default shares w d e low) (facts w (omega (arith, played.share_count))).telling;
    }

    -- what was told of all of them, in order
    pub all_played : (told : List Told) → length clocks ≡ length spawners → AreTold pairs (length shares) of_worker told
        → HavePlayed sent answers counts seat terms pairs spawners later_spawners clocks later_clocks told
    all_played told same_length are = record {
      matches = are.matches;
      programs = are.programs;
      telling = are.telling;
      plays = λ w x y low.
          let dealt : of_worker w ≡ dealt_to w (length spawners) are.matches =
          sym (are.dealt w (omega (arith, played.share_count))) ∙ ap (λ (n : ℕ). dealt_to w n are.matches) played.share_count in
          let seat_before : seat (get_or spawners w s) (get_or clocks w k) ≡ seat (get_or spawners w x) (get_or clocks w y) =
          ap (λ (z : S). seat z (get_or clocks w k)) (get_or_default spawners w s x low)
          ∙ ap (λ (z : K). seat (get_or spawners w x) z) (get_or_default clocks w k y (omega (arith, same_length))) in
          let seat_after : seat (get_or later_spawners w s) (get_or later_clocks w k) ≡ seat (get_or later_spawners w x) (get_or later_clocks w y) =
          ap (λ (z : S). seat z (get_or later_clocks w k)) (get_or_default later_spawners w s x (omega (arith, played.spawner_count)))
          ∙ ap (λ (z : K). seat (get_or later_spawners w x) z) (get_or_default later_clocks w k y (omega (arith, played.clock_count))) in
          subst (λ (ms : List MeetMatch). PlaysMatches sent answers counts terms (seat (get_or spawners w x) (get_or clocks w y)) (seat (get_or later_spawners w x) (get_or later_clocks w y)) ms) dealt
          (subst (λ (z : Seat L). PlaysMatches sent answers counts terms z (seat (get_or later_spawners w x) (get_or later_clocks w y)) (of_worker w)) seat_before
          (subst (λ (z : Seat L). PlaysMatches sent answers counts terms (seat (get_or spawners w s) (get_or clocks w k)) z (of_worker w)) seat_after (facts w low).plays));
    }

  -- the matches of each worker, which are told of in its share, and what it says that they are told
  -- of in order
  pub all_told : (terms : Terms) (pairs given : List Pair) (spawners later_spawners : List S) (clocks later_clocks : List K)
      (shares : List (Vec Told Global)) (workers : ℕ) → 0 < length spawners → length clocks ≡ length spawners → given ≡ pairs
      → workers ≡ length shares
      → HavePlayedShares sent answers counts seat terms pairs spawners later_spawners clocks later_clocks shares
      → (own : ℕ → List MeetMatch) × AreShares given own shares
      × ((told : List Told) → AreTold given workers own told
      → HavePlayed sent answers counts seat terms pairs spawners later_spawners clocks later_clocks told)
  all_told terms pairs given spawners later_spawners clocks later_clocks shares workers some same_length same counted played =
      let s : S = some_of spawners some in
      let k : K = some_of clocks (omega (arith, same_length)) in
      let d : Vec Told Global = some_of shares (omega (arith, played.share_count)) in
      let own : ℕ → List MeetMatch = of_worker terms pairs spawners later_spawners clocks later_clocks shares s k d played in (
        own,
        subst (λ (ps : List Pair). AreShares ps own shares) (sym same)
            (are_shares terms pairs spawners later_spawners clocks later_clocks shares s k d played),
        λ told are. all_played terms pairs spawners later_spawners clocks later_clocks shares s k d played told same_length
            (subst (λ (ps : List Pair). AreTold ps (length shares) own told) same
            (subst (λ (n : ℕ). AreTold given n own told) counted are)),
      )
