-- The strategy of a position with a rank is accepted.
use Rattle.std.proofs.Common.{◌≡◌, ℕ, zero, suc, ◌≤◌, List, [], ◌∷◌, ◌++◌, map, Option, None, Some, true, false, cond, is_none, inl, inr, refl, sym, ◌∙◌, ap, subst, arith, append_assoc, append-nil}
use Rattle.std.specs.List.{filter, flat_map}
use Rattle.std.proofs.lemmas.List.{map-append}
use Rattle.arimaa_board.specs.declared.piece.Color.{Color}
use Rattle.arimaa_board.specs.Board.{same_color}
use Rattle.arimaa_board.specs.declared.position.Position.{Position}
use Rattle.arimaa_model.specs.DecidedPositions.{decided}
use Rattle.arimaa_model.specs.Results.{stands_in, with_new, first_occurrences, next}
use Rattle.arimaa_model.specs.Wins.{wins}
use Rattle.arimaa_model.proofs.Lemmas.WinsLaws.{wins-decided}
use Rattle.arimaa_forced.specs.Acceptance.{s_rank, q_rank, is_covered, is_answered, IsGood, AreGood, is_ready, root_rank, Accepts}
use Rattle.arimaa_model.specs.Ranks.{IsRank, rank_within}
use Rattle.arimaa_model.specs.Strategies.{Planned, find_entry, entry_of, open_replies, open_after, IsOpen, first_met, after_entry, positions_met, strategy_of}
use Rattle.arimaa_model.proofs.Lemmas.Members.{In, filter-In, In-all}
use Rattle.arimaa_model.proofs.Lemmas.Positions.{In-stands}
use Rattle.arimaa_model.proofs.Lemmas.Ranking.{by-cases, wins-le, rank-is, rank-bound, one-rank, rank-decided, rank-stuck, other-won, other-rank}
use Rattle.arimaa_model.proofs.Lemmas.Meeting.{HasEntry, entry-position, entry-rank, entry-has, result-other, wants-ready, all-ready, closed, first-met, found-entry, no-entry}

-- ---- no position twice

-- none of the list stands before it
abbrev Fresh : List Position → List Position → Type 0
Fresh before [] = Unit {0}
Fresh before (x ∷ xs) = (stands_in before x ≡ false) × Fresh (before ++ x ∷ []) xs

fresh-push : (before xs : List Position) (p : Position) → Fresh before xs → stands_in (before ++ xs) p ≡ false → Fresh before (xs ++ p ∷ [])
fresh-push before [] p fresh new = (rw append-nil at new, tt)
fresh-push before (x ∷ xs) p fresh new =
    let same : before ++ x ∷ xs ≡ (before ++ x ∷ []) ++ xs = sym (append_assoc before (x ∷ []) xs) in
    (fresh.0, fresh-push (before ++ x ∷ []) xs p fresh.1 (subst (λ (l : List Position). stands_in l p ≡ false) same new))

fresh-with_new : (qs : List Position) (p : Position) → Fresh [] qs → Fresh [] (with_new qs p)
fresh-with_new qs p fresh =
    elim (stands_in qs p) as (λ v. stands_in qs p ≡ v → Fresh [] (cond v qs (qs ++ p ∷ []))) [
      | true ↦ λ _. fresh
      | false ↦ λ new. fresh-push [] qs p fresh new
    ] refl

fresh-first : (qs ps : List Position) → Fresh [] qs → Fresh [] (first_occurrences qs ps)
fresh-first qs [] fresh = fresh
fresh-first qs (p ∷ ps) fresh = fresh-first (with_new qs p) ps (fresh-with_new qs p fresh)

module _ (a : Color) (barred : List Position) (n : ℕ) where
  abbrev rank : Position → ℕ
  rank p = rank_within a barred n p

  abbrev entry : Position → Planned
  entry p = entry_of a barred n p

  module _ (p : Position) (won : wins a barred n p ≡ true) where
    abbrev at_most : ℕ → List Position
    at_most k = positions_met a barred n p k

    fresh-met : (k : ℕ) → Fresh [] (at_most k)
    fresh-met zero = fresh-first [] (first_met a barred p) tt
    fresh-met (suc k) = fresh-first (at_most k) (flat_map (after_entry a barred n) (at_most k)) (fresh-met k)

    -- the strategy
    abbrev s : List Planned
    s = map entry (at_most n)

    -- a position that is won is covered with its rank
    record Covered (q : Position) : Type 0 where
      covered : is_covered a s q ≡ true
      ranked : IsRank a barred q (s_rank a s q)

    covers : (q : Position) → wins a barred n q ≡ true → (decided q ≡ None → In q (at_most n)) → Covered q
    covers q here there =
        elim (decided q) as (λ o. decided q ≡ o → Covered q) [
          | Some e ↦ λ is.
              let mine : same_color e.winner a ≡ true = sym (wins-decided a barred q n e is) ∙ here in
              let zero_rank : s_rank a s q ≡ 0 = rw (is, mine) refl in
              record { covered = rw is mine; ranked = subst (λ (r : ℕ). IsRank a barred q r) (sym zero_rank) (rank-decided a barred q e is mine) }
          | None ↦ λ undecided.
              let found = found-entry a barred n p won q (at_most n) (there undecided) in
              let same : s_rank a s q ≡ rank q = rw (undecided, found) (entry-rank a barred n q) in
              record { covered = rw (undecided, found) refl; ranked = subst (λ (r : ℕ). IsRank a barred q r) (sym same) (rank-is a barred n q here) }
        ] refl

    -- a position of the other side whose ready replies were met is answered with its rank
    record Answered (r : Position) (m : ℕ) : Type 0 where
      answered : is_answered a barred s r ≡ true
      ranked : q_rank a barred s r ≡ m

    answers : (r : Position) (m : ℕ) → same_color r.side a ≡ false → IsRank a barred r m → m ≤ n → ((y : Position) → In y (open_replies barred r) → In y (at_most n)) → Answered r m
    answers r m other exact small there =
        by-cases a barred r (Answered r m)
        (λ e is.
        let mine : same_color e.winner a ≡ true = sym (wins-decided a barred r m e is) ∙ exact.won in
        let none : m ≡ 0 = one-rank a barred r m 0 exact (rank-decided a barred r e is mine) in
        record { answered = rw is mine; ranked = rw (is, mine) (sym none) })
        (λ undecided stuck.
        let none : m ≡ 0 = one-rank a barred r m 0 exact (rank-stuck a barred r other undecided stuck) in
        record { answered = rw (undecided, stuck) refl; ranked = rw (undecided, stuck) (sym none) })
        (λ q undecided i.
        let replies = other-won a barred r q m other undecided i exact.won in
        let k : ℕ = replies.before in
        let more : m ≡ suc k = replies.more in
        let each : (x : Position) → In x (next barred r) → Covered x =
        λ x j. covers x (wins-le a barred k n x (omega arith) (replies.each x j)) (λ und. there x (wants-ready barred r x undecided j und)) in
        record {
          answered = rw undecided (In-all (is_covered a s) (next barred r) (λ x j. (each x j).covered));
          ranked = rw undecided (other-rank a barred (s_rank a s) r q m other undecided i exact (λ x j. (each x j).ranked));
        })

    good-entry : (before : List Position) (x : Position) → stands_in before x ≡ false → In x (at_most n) → IsGood a barred s (map entry before) (entry x)
    good-entry before x new i =
        let ready : IsOpen a barred n x = all-ready a barred n p won n x i in
        let e : HasEntry a barred n x = entry-has a barred n x ready in
        let more : rank x ≡ suc e.before = e.more in
        let bound = rank-bound a barred n x in
        let same = entry-position a barred n x in
        let met_too : (y : Position) → In y (open_replies barred e.result) → In y (at_most n) =
        λ y j. closed a barred n p won x y i (subst (λ (o : Option Position). In y (open_after barred o)) (sym e.turn) j) in
        let answer : Answered e.result e.before = answers e.result e.before (result-other a barred n x ready e) e.exact (omega arith) met_too in
        record {
          once = subst (λ (q : Position). find_entry (map entry before) q ≡ None) (sym same) (no-entry a barred n p won x before new);
          undecided = ap decided same ∙ ready.undecided;
          result = e.result;
          turn = e.turn;
          allowed = subst (λ (q : Position). stands_in (next barred q) e.result ≡ true) (sym same) (In-stands (next barred x) e.result e.inside);
          answered = answer.answered;
          exact = entry-rank a barred n x ∙ (more ∙ ap suc (sym answer.ranked));
        }

    good-entries : (before xs : List Position) → Fresh before xs → ((x : Position) → In x xs → In x (at_most n)) → AreGood a barred s (map entry before) (map entry xs)
    good-entries before [] fresh inside = tt
    good-entries before (x ∷ xs) fresh inside =
        let rest = good-entries (before ++ x ∷ []) xs fresh.1 (λ y i. inside y (inr i)) in
        let same : map entry (before ++ x ∷ []) ≡ map entry before ++ entry x ∷ [] = map-append entry before (x ∷ []) in
        (good-entry before x fresh.0 (inside x (inl refl)), subst (λ (l : List Planned). AreGood a barred s l (map entry xs)) same rest)

    -- what is met first
    own-met : same_color p.side a ≡ true → decided p ≡ None → In p (at_most n)
    own-met own undecided =
        let passes : is_none (decided p) ≡ true = rw undecided refl in
        let there : In p (filter (λ q. is_none (decided q)) (p ∷ [])) = filter-In (λ q. is_none (decided q)) p (p ∷ []) (inl refl) passes in
        first-met a barred n p won n p (rw own there)

    other-met : same_color p.side a ≡ false → (y : Position) → In y (open_replies barred p) → In y (at_most n)
    other-met other y i = first-met a barred n p won n y (rw other i)

    made-rank : IsRank a barred p n → root_rank a barred s p ≡ n
    made-rank exact =
        elim (same_color p.side a) as (λ v. same_color p.side a ≡ v → cond v (s_rank a s p) (q_rank a barred s p) ≡ n) [
          | true ↦ λ own. one-rank a barred p _ n (covers p won (own-met own)).ranked exact
          | false ↦ λ other. (answers p n other exact (omega arith) (other-met other)).ranked
        ] refl

    made-ready : IsRank a barred p n → is_ready a barred s p ≡ true
    made-ready exact =
        elim (same_color p.side a) as (λ v. same_color p.side a ≡ v → cond v (is_covered a s p) (is_answered a barred s p) ≡ true) [
          | true ↦ λ own. (covers p won (own-met own)).covered
          | false ↦ λ other. (answers p n other exact (omega arith) (other-met other)).answered
        ] refl

    accepted : IsRank a barred p n → Accepts a barred n s p
    accepted exact = record { entries = good-entries [] (at_most n) (fresh-met n) (λ x i. i); root = made-ready exact; deep = let same = made-rank exact in omega arith }

pub made-accepted : (a : Color) (barred : List Position) (p : Position) (r : ℕ) → IsRank a barred p r → Accepts a barred r (strategy_of a barred r p) p
unfolding strategy_of
made-accepted a barred p r exact = accepted a barred r p exact.won exact

pub made-ranked : (a : Color) (barred : List Position) (p : Position) (r : ℕ) → IsRank a barred p r → root_rank a barred (strategy_of a barred r p) p ≡ r
unfolding strategy_of
made-ranked a barred p r exact = made-rank a barred r p exact.won exact
