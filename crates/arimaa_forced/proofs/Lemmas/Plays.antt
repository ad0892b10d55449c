-- What is accepted wins every play.
use Rattle.std.proofs.Common.{◌≡◌, ℕ, zero, suc, ◌<◌, ◌≤◌, List, [], ◌∷◌, ◌++◌, map, None, Some, true, false, cond, not, inl, ⊎_elim, refl, sym, ◌∙◌, ap, subst, arith, nat_le, true≢false, is_some}
use Rattle.std.specs.List.{list_all}
use Rattle.std.proofs.lemmas.Bool.{le-leb, leb-true, false_from_ne_true, not_from_false, not-true, cases_Bool}
use Rattle.arimaa_board.specs.declared.piece.Color.{Color}
use Rattle.arimaa_board.specs.Piece.{other_color}
use Rattle.arimaa_board.specs.Board.{same_color}
use Rattle.arimaa_board.specs.declared.position.Position.{Position}
use Rattle.arimaa_board.specs.declared.ending.Ending.{Ending}
use Rattle.arimaa_model.specs.DecidedPositions.{decided, won_by}
use Rattle.arimaa_model.specs.Results.{same_position, stands_in, results, next}
use Rattle.arimaa_model.specs.Ranks.{above}
use Rattle.arimaa_model.specs.Wins.{wins}
use Rattle.arimaa_model.proofs.Lemmas.WinsLaws.{wins-decided, wins-stuck, wins-deeper}
use Rattle.arimaa_model.specs.Game.{count_in, barred_by, lawful_at, IsLawfulAt, ending_at, ended_for, stuck_cause, present}
use Rattle.arimaa_model.specs.Strategies.{Planned, find_entry, answer_to}
use Rattle.arimaa_forced.specs.Acceptance.{s_rank, q_rank, is_covered, covered_for, answered_for, IsGood, AreGood, is_ready, root_rank, Accepts}
use Rattle.arimaa_forced.specs.Play.{HasAnswer, WinsEveryPlay}
use Rattle.arimaa_model.proofs.Lemmas.Members.{In, In-filter, filter-In, In-any, In-all, all-In, find-is}
use Rattle.arimaa_model.proofs.Lemmas.Positions.{same_position-Decides, other_color-same, stands-In, In-stands, results-side, next-results, count-more}
use Rattle.arimaa_model.proofs.Lemmas.Barring.{barred-twice, once-unbarred}
use Rattle.arimaa_model.proofs.Lemmas.Ranking.{above-In, some-length}
use Rattle.arimaa_model.proofs.Lemmas.Meeting.{side-own, side-other}
use Rattle.arimaa_model.proofs.Lemmas.Present.{present-push}

pub ending-decided : (h : List Position) (p : Position) (e : Ending) → decided p ≡ Some e → ending_at h p ≡ Some e
unfolding ending_at
ending-decided h p e is = rw is refl

pub ending-stuck : (h : List Position) (p : Position) → decided p ≡ None → lawful_at h p ≡ [] → ending_at h p ≡ won_by (other_color p.side) (stuck_cause (results p))
unfolding ending_at
ending-stuck h p undecided none = rw (undecided, none) refl

open-end : (p q : Position) (qs : List Position) → In q qs → ended_for p None qs ≡ None
open-end p q [] i = absurd i
open-end p q (x ∷ qs) i = refl

pub ending-open : (h : List Position) (p q : Position) → decided p ≡ None → In q (lawful_at h p) → ending_at h p ≡ None
unfolding ending_at
ending-open h p q undecided i = rw undecided (open-end p q (lawful_at h p) i)

module _ (a : Color) (barred : List Position) (s : List Planned) where
  -- each turn of a play lowers this
  abbrev measure : Position → ℕ
  measure p = root_rank a barred s p

  ready-decided : (p : Position) (e : Ending) → decided p ≡ Some e → is_ready a barred s p ≡ true → same_color e.winner a ≡ true
  ready-decided p e is ready =
      let now : cond (same_color p.side a) (covered_for a s p (Some e)) (answered_for a barred s p (Some e)) ≡ true = rw is at ready in
      elim (same_color p.side a) as (λ v. cond v (same_color e.winner a) (same_color e.winner a) ≡ true → same_color e.winner a ≡ true) [ true ↦ λ h. h | false ↦ λ h. h ] now

  good-of : (earlier es : List Planned) (p : Position) (e : Planned) → AreGood a barred s earlier es → find_entry es p ≡ Some e → (before : List Planned) × IsGood a barred s before e
  good-of earlier [] p e good found = let wrong : true ≡ false = cc in absurd (true≢false wrong)
  good-of earlier (x ∷ es) p e good found =
      elim (same_position x.position p) as (λ v. cond v (Some x) (find_entry es p) ≡ Some e → (before : List Planned) × IsGood a barred s before e) [
        | true ↦ λ f. let same : x ≡ e = cc in (earlier, subst (λ (y : Planned). IsGood a barred s earlier y) same good.0)
        | false ↦ λ f. good-of (earlier ++ x ∷ []) es p e good.1 f
      ] found

  -- r is what the strategy leads to from p
  pub record IsAnswer (p r : Position) : Type 0 where
    pub turn : answer_to s p ≡ Some r
    pub inside : In r (next barred p)
    pub ready : is_ready a barred s r ≡ true
    pub lower : measure p ≡ suc (measure r)

  answer-from : (p : Position) (e : Planned) (before : List Planned) → same_color p.side a ≡ true → decided p ≡ None → find_entry s p ≡ Some e → IsGood a barred s before e → (r : Position) × IsAnswer p r
  answer-from p e before own undecided found good =
      let there : e.position ≡ p = (same_position-Decides e.position p).0 (find-is (λ x. same_position x.position p) e s found).1 in
      let r : Position = good.result in
      let inside : In r (next barred p) = subst (λ (x : Position). In r (next barred x)) there (stands-In _ r good.allowed) in
      let other : same_color r.side a ≡ false = side-other a p r (results-side p r (next-results barred p r inside)) own in
      let mine : measure p ≡ e.rank = rw (own, undecided, found) refl in
      let theirs : measure r ≡ q_rank a barred s r = rw other refl in (
        r,
        record {
          turn = rw found good.turn;
          inside = inside;
          ready = rw other good.answered;
          lower = mine ∙ (good.exact ∙ ap suc (sym theirs));
        },
      )

  answer-of : (p : Position) → AreGood a barred s [] s → same_color p.side a ≡ true → decided p ≡ None → is_ready a barred s p ≡ true → (r : Position) × IsAnswer p r
  answer-of p good own undecided ready =
      let covered : is_some (find_entry s p) ≡ true = rw (own, undecided) at ready in
      elim (find_entry s p) as (λ o. find_entry s p ≡ o → is_some o ≡ true → (r : Position) × IsAnswer p r) [
        | None ↦ λ _ none. absurd (true≢false (sym none))
        | Some e ↦ λ found _. let g = good-of [] s p e good found in answer-from p e g.0 own undecided found g.1
      ] refl covered

  -- a reply is ready, and lower
  reply-ready : (p q : Position) → same_color p.side a ≡ false → decided p ≡ None → is_ready a barred s p ≡ true → In q (next barred p) → (is_ready a barred s q ≡ true) × (measure q < measure p)
  reply-ready p q other undecided ready i =
      let answered : list_all (is_covered a s) (next barred p) ≡ true = rw (other, undecided) at ready in
      let own : same_color q.side a ≡ true = side-own a p q (results-side p q (next-results barred p q i)) other in
      let covered : is_ready a barred s q ≡ true = rw own (all-In (is_covered a s) q (next barred p) answered i) in
      let theirs : measure p ≡ above (map (s_rank a s) (next barred p)) = rw (other, undecided) refl in
      let mine : measure q ≡ s_rank a s q = rw own refl in
      let less = above-In (s_rank a s) q (next barred p) i in
      (covered, omega arith)

  -- what lies ahead of p stands in the history as often as the barred positions say
  pub record Ahead (h : List Position) (p : Position) : Type 0 where
    pub below : (x : Position) → measure x < measure p → stands_in barred x ≡ false → count_in h x ≤ 1
    pub kept : (x : Position) → stands_in barred x ≡ true → 2 ≤ count_in h x

  ahead-more : (h : List Position) (p q : Position) → Ahead h p → measure q < measure p → Ahead (h ++ q ∷ []) q
  ahead-more h p q ahead lower = record {
    below = λ x less free.
        let old = ahead.below x (omega arith) free in
        let other : same_position x q ≡ false = false_from_ne_true _ (λ same. let e : measure x ≡ measure q = ap measure ((same_position-Decides x q).0 same) in omega arith) in
        let more = count-more h q x in
        let none : cond {A = ℕ} (same_position x q) 1 0 ≡ 0 = rw other refl in
        omega arith;
    kept = λ x bars. let old = ahead.kept x bars in let more = count-more h q x in omega arith;
  }

  lawful-next : (h : List Position) (p q : Position) → Ahead h p → In q (lawful_at h p) → In q (next barred p)
  lawful-next h p q ahead i =
      let parts = In-filter (λ x. nat_le (count_in h x) 1) q (results p) i in
      let few = leb-true (count_in h q) 1 parts.1 in
      let free : stands_in barred q ≡ false = false_from_ne_true _ (λ bars. let many = ahead.kept q bars in omega arith) in
      filter-In (λ x. not (stands_in barred x)) q (results p) parts.0 (not_from_false _ free)

  next-lawful : (h : List Position) (p q : Position) → Ahead h p → measure q < measure p → In q (next barred p) → In q (lawful_at h p)
  next-lawful h p q ahead lower i =
      let parts = In-filter (λ x. not (stands_in barred x)) q (results p) i in
      filter-In (λ x. nat_le (count_in h x) 1) q (results p) parts.0 (le-leb _ 1 (ahead.below q lower (not-true _ parts.1)))

  plays-won : (n : ℕ) (h : List Position) (p : Position) (e : Ending) → present h ≡ Some p → ending_at h p ≡ Some e → same_color e.winner a ≡ true → WinsEveryPlay a s n h
  plays-won zero h p e last is won = rw (last, is) won
  plays-won (suc n) h p e last is won = rw (last, is) won

  plays-own : (n : ℕ) (h : List Position) (p : Position) → present h ≡ Some p → ending_at h p ≡ None → same_color p.side a ≡ true → HasAnswer s h p (λ q. WinsEveryPlay a s n (h ++ q ∷ [])) → WinsEveryPlay a s (suc n) h
  plays-own n h p last goes own answer = rw (last, goes, own) answer

  plays-other : (n : ℕ) (h : List Position) (p : Position) → present h ≡ Some p → ending_at h p ≡ None → same_color p.side a ≡ false → ((q : Position) → IsLawfulAt h p q → WinsEveryPlay a s n (h ++ q ∷ [])) → WinsEveryPlay a s (suc n) h
  plays-other n h p last goes other replies = rw (last, goes, other) replies

  -- what is met in a play
  pub record Met (h : List Position) (p : Position) (n : ℕ) : Type 0 where
    pub last : present h ≡ Some p
    pub ready : is_ready a barred s p ≡ true
    pub within : measure p ≤ n
    pub ahead : Ahead h p

  own-turn : (good : AreGood a barred s [] s) (n : ℕ) (h : List Position) (p : Position) → ((h' : List Position) (q : Position) → Met h' q n → WinsEveryPlay a s n h') → same_color p.side a ≡ true → decided p ≡ None → Met h p (suc n) → WinsEveryPlay a s (suc n) h
  own-turn good n h p rest own undecided m =
      let found = answer-of p good own undecided m.ready in
      let r : Position = found.0 in
      let answer : IsAnswer p r = found.1 in
      let lower = answer.lower in
      let within = m.within in
      let less : measure r < measure p = omega arith in
      let inside : In r (lawful_at h p) = next-lawful h p r m.ahead less answer.inside in
      plays-own n h p m.last (ending-open h p r undecided inside) own (record {
        result = r;
        turn = answer.turn;
        allowed = In-stands (lawful_at h p) r inside;
        rest = rest (h ++ r ∷ []) r (record { last = present-push h r; ready = answer.ready; within = omega arith; ahead = ahead-more h p r m.ahead less });
      })

  other-turn : (n : ℕ) (h : List Position) (p q : Position) → ((h' : List Position) (q' : Position) → Met h' q' n → WinsEveryPlay a s n h') → same_color p.side a ≡ false → decided p ≡ None → Met h p (suc n) → In q (lawful_at h p) → WinsEveryPlay a s (suc n) h
  other-turn n h p q rest other undecided m i =
      plays-other n h p m.last (ending-open h p q undecided i) other
      (λ x allowed.
      let reply = reply-ready p x other undecided m.ready (lawful-next h p x m.ahead (stands-In (lawful_at h p) x allowed)) in
      let lower = reply.1 in
      let within = m.within in
      rest (h ++ x ∷ []) x (record { last = present-push h x; ready = reply.0; within = omega arith; ahead = ahead-more h p x m.ahead lower }))

  -- the other side has no lawful turn
  other-stuck : (n : ℕ) (h : List Position) (p : Position) → present h ≡ Some p → same_color p.side a ≡ false → decided p ≡ None → lawful_at h p ≡ [] → WinsEveryPlay a s n h
  other-stuck n h p last other undecided none =
      plays-won n h p (record { winner = other_color p.side; cause = stuck_cause (results p) }) last (ending-stuck h p undecided none) (other_color-same p.side a ∙ ap not other)

  positive : (p q : Position) → same_color p.side a ≡ false → decided p ≡ None → In q (next barred p) → 0 < measure p
  positive p q other undecided i =
      let theirs : measure p ≡ above (map (s_rank a s) (next barred p)) = rw (other, undecided) refl in
      let less = above-In (s_rank a s) q (next barred p) i in
      omega arith

  pub play : AreGood a barred s [] s → (n : ℕ) (h : List Position) (p : Position) → Met h p n → WinsEveryPlay a s n h
  play good zero h p m =
      elim (decided p) as (λ o. decided p ≡ o → WinsEveryPlay a s zero h) [
        | Some e ↦ λ is. plays-won zero h p e m.last (ending-decided h p e is) (ready-decided p e is m.ready)
        | None ↦ λ undecided. ⊎_elim
            (λ own. let found = answer-of p good own undecided m.ready in let answer : IsAnswer p found.0 = found.1 in let lower = answer.lower in let within = m.within in absurd (omega arith))
            (λ other. elim (lawful_at h p) as (λ l. lawful_at h p ≡ l → WinsEveryPlay a s zero h) [
              | [] ↦ λ none. other-stuck zero h p m.last other undecided none
              | q ∷ qs ↦ λ is.
                  let i : In q (lawful_at h p) = subst (λ (l : List Position). In q l) (sym is) (inl refl) in
                  let some = positive p q other undecided (lawful-next h p q m.ahead i) in
                  let within = m.within in
                  absurd (omega arith)
            ] refl)
            (cases_Bool (same_color p.side a))
      ] refl
  play good (suc n) h p m =
      elim (decided p) as (λ o. decided p ≡ o → WinsEveryPlay a s (suc n) h) [
        | Some e ↦ λ is. plays-won (suc n) h p e m.last (ending-decided h p e is) (ready-decided p e is m.ready)
        | None ↦ λ undecided. ⊎_elim
            (λ own. own-turn good n h p (play good n) own undecided m)
            (λ other. elim (lawful_at h p) as (λ l. lawful_at h p ≡ l → WinsEveryPlay a s (suc n) h) [
              | [] ↦ λ none. other-stuck (suc n) h p m.last other undecided none
              | q ∷ qs ↦ λ is. other-turn n h p q (play good n) other undecided m (subst (λ (l : List Position). In q l) (sym is) (inl refl))
            ] refl)
            (cases_Bool (same_color p.side a))
      ] refl

pub accepted-plays : (a : Color) (h : List Position) (p : Position) (n : ℕ) (s : List Planned) → present h ≡ Some p → Accepts a (barred_by h) n s p → WinsEveryPlay a s n h
accepted-plays a h p n s last accepted =
    play a (barred_by h) s accepted.entries n h p (record {
      last = last;
      ready = accepted.root;
      within = accepted.deep;
      ahead = record { below = λ x _ free. once-unbarred h x free; kept = λ x bars. barred-twice h x bars };
    })

module _ (a : Color) (barred : List Position) (s : List Planned) where
  -- the positions with a rank of at most n are won
  abbrev Won : ℕ → Type 0
  Won n = (p : Position) → is_ready a barred s p ≡ true → root_rank a barred s p ≤ n → wins a barred n p ≡ true

  -- the cases of a position that is ready
  by-cases : (good : AreGood a barred s [] s) (p : Position) (Goal : Type 0)
      → is_ready a barred s p ≡ true
      → ((e : Ending) → decided p ≡ Some e → same_color e.winner a ≡ true → Goal)
      → ((r : Position) → decided p ≡ None → same_color p.side a ≡ true → IsAnswer a barred s p r → Goal)
      → (decided p ≡ None → same_color p.side a ≡ false → next barred p ≡ [] → Goal)
      → ((q : Position) → decided p ≡ None → same_color p.side a ≡ false → In q (next barred p) → Goal)
      → Goal
  by-cases good p Goal ready at_end at_own at_stuck at_other =
      elim (decided p) as (λ o. decided p ≡ o → Goal) [
        | Some e ↦ λ is. at_end e is (ready-decided a barred s p e is ready)
        | None ↦ λ undecided. ⊎_elim
            (λ own. let found = answer-of a barred s p good own undecided ready in at_own found.0 undecided own found.1)
            (λ other. elim (next barred p) as (λ l. next barred p ≡ l → Goal) [
              | [] ↦ λ none. at_stuck undecided other none
              | q ∷ qs ↦ λ is. at_other q undecided other (subst (λ (l : List Position). In q l) (sym is) (inl refl))
            ] refl)
            (cases_Bool (same_color p.side a))
      ] refl

  pub win : AreGood a barred s [] s → (n : ℕ) → Won n
  win good zero p ready within =
      by-cases good p (wins a barred zero p ≡ true) ready
      (λ e is won. wins-decided a barred p zero e is ∙ won)
      (λ r undecided own answer. let lower = answer.lower in absurd (omega arith))
      (λ undecided other none. wins-stuck a barred p zero undecided none ∙ ap not other)
      (λ q undecided other i. let reply = reply-ready a barred s p q other undecided ready i in let less = reply.1 in absurd (omega arith))
  win good (suc n) p ready within =
      by-cases good p (wins a barred (suc n) p ≡ true) ready
      (λ e is won. wins-decided a barred p (suc n) e is ∙ won)
      (λ r undecided own answer.
      let lower = answer.lower in
      let deeper = wins-deeper a barred p n undecided (some-length r (next barred p) answer.inside) in
      let here = In-any (wins a barred n) r (next barred p) answer.inside (win good n r answer.ready (omega arith)) in
      deeper ∙ rw own here)
      (λ undecided other none. wins-stuck a barred p (suc n) undecided none ∙ ap not other)
      (λ q undecided other i.
      let deeper = wins-deeper a barred p n undecided (some-length q (next barred p) i) in
      let all = In-all (wins a barred n) (next barred p) (λ x j. let reply = reply-ready a barred s p x other undecided ready j in let less = reply.1 in win good n x reply.0 (omega arith)) in
      deeper ∙ rw other all)

pub accepted-wins : (a : Color) (barred : List Position) (p : Position) (n : ℕ) (s : List Planned) → Accepts a barred n s p → wins a barred n p ≡ true
accepted-wins a barred p n s accepted = win a barred s accepted.entries n p accepted.root accepted.deep
