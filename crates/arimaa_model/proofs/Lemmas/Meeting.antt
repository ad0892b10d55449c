-- What is met when the entries of a strategy are played, and what its entries are.
use Rattle.std.proofs.Common.{◌≡◌, ℕ, zero, suc, ◌+◌, ◌-◌, ◌<◌, ◌≤◌, List, [], ◌∷◌, map, length, get_or, Option, None, Some, Bool, true, false, cond, not, is_none, ◌⊎◌, inl, inr, ⊎_elim, refl, sym, ◌∙◌, ap, subst, arith, true≢false}
use Rattle.std.specs.List.{filter, find, flat_map, Contains}
use Rattle.std.specs.Option.{unwrap_or}
use Rattle.std.proofs.lemmas.Bool.{false_from_ne_true, both_ways, and_parts, and_from}
use Rattle.arimaa_board.specs.declared.piece.Color.{Color}
use Rattle.arimaa_board.specs.Board.{same_color}
use Rattle.arimaa_board.specs.Piece.{other_color}
use Rattle.arimaa_board.specs.declared.position.Position.{Position}
use Rattle.arimaa_board.specs.declared.position.Step.{Step}
use Rattle.arimaa_board.specs.declared.ending.Ending.{Ending}
use Rattle.arimaa_model.specs.DecidedPositions.{decided}
use Rattle.arimaa_model.specs.Results.{same_position, stands_in, result_of, turn_lists, next}
use Rattle.arimaa_model.specs.Members.{AreDistinct}
use Rattle.arimaa_model.specs.Wins.{wins}
use Rattle.arimaa_model.specs.Ranks.{IsRank, rank_within, has_rank}
use Rattle.arimaa_model.specs.Strategies.{Planned, result_at, find_entry, brings, first_best, entry_of, open_for, open_replies, open_after, IsOpen, first_met, positions_met, strategy_of, IsStrategyOf, IsEntry}
use Rattle.arimaa_model.proofs.Lemmas.Members.{In, In-filter, filter-In, find-is, find-some, In-flat_map, flat_map-In}
use Rattle.arimaa_model.proofs.Lemmas.Positions.{same_position-Decides, same_position-same, other_color-same, stands-In, In-stands, not-stands, In-first, first-old, first-new, results-turn, results-side, next-results}
use Rattle.arimaa_model.proofs.Lemmas.Ranking.{wins-le, rank-is, rank-bound, has_rank-is, HasBest, own-rank, other-won}
use Rattle.arimaa_model.proofs.Lemmas.Distinct.{distinct-first}

-- the turn changes who is to move
pub side-own : (a : Color) (p q : Position) → q.side ≡ other_color p.side → same_color p.side a ≡ false → same_color q.side a ≡ true
side-own a p q e other = ap (λ c. same_color c a) e ∙ (other_color-same p.side a ∙ ap not other)

pub side-other : (a : Color) (p q : Position) → q.side ≡ other_color p.side → same_color p.side a ≡ true → same_color q.side a ≡ false
side-other a p q e own = ap (λ c. same_color c a) e ∙ (other_color-same p.side a ∙ ap not own)

-- ---- ready replies

pub is_none-None : (o : Option Ending) → is_none o ≡ true → o ≡ None
is_none-None None h = refl
is_none-None (Some e) h = let wrong : true ≡ false = sym h in absurd (true≢false wrong)

-- q wants an entry after r
pub record Wants (barred : List Position) (r q : Position) : Type 0 where
  pub goes : decided r ≡ None
  pub inside : In q (next barred r)
  pub undecided : decided q ≡ None

pub ready-wants : (barred : List Position) (r q : Position) → In q (open_replies barred r) → Wants barred r q
ready-wants barred r q i =
    elim (decided r) as (λ o. decided r ≡ o → In q (open_for barred r o) → Wants barred r q) [
      | Some e ↦ λ _ none. absurd none
      | None ↦ λ goes j. let parts = In-filter (λ x. is_none (decided x)) q (next barred r) j in record { goes = goes; inside = parts.0; undecided = is_none-None (decided q) parts.1 }
    ] refl i

pub wants-ready : (barred : List Position) (r q : Position) → decided r ≡ None → In q (next barred r) → decided q ≡ None → In q (open_replies barred r)
wants-ready barred r q goes i undecided =
    let passes : is_none (decided q) ≡ true = rw undecided refl in
    let there : In q (open_for barred r None) = filter-In (λ x. is_none (decided x)) q (next barred r) i passes in
    rw goes there

module _ (a : Color) (barred : List Position) (n : ℕ) where
  abbrev rank : Position → ℕ
  rank p = rank_within a barred n p

  abbrev entry : Position → Planned
  entry p = entry_of a barred n p

  abbrev Open : Position → Type 0
  Open p = IsOpen a barred n p

  -- what the entry of p is
  pub record HasEntry (p : Position) : Type 0 where
    pub before : ℕ
    pub more : rank p ≡ suc before
    pub result : Position
    pub turn : result_at (entry p) ≡ Some result
    pub inside : In result (next barred p)
    pub exact : IsRank a barred result before

  pub entry-position : (p : Position) → (entry p).position ≡ p
  unfolding entry_of
  entry-position p = refl

  pub entry-rank : (p : Position) → (entry p).rank ≡ rank p
  unfolding entry_of
  entry-rank p = refl

  brings-parts : (m : ℕ) (p : Position) (o : Option Position) → brings a barred m p o ≡ true → (r : Position) × (o ≡ Some r) × (stands_in (next barred p) r ≡ true) × (has_rank a barred m r ≡ true)
  brings-parts m p None h = let wrong : true ≡ false = sym h in absurd (true≢false wrong)
  brings-parts m p (Some r) h = let parts = and_parts _ _ h in (r, refl, parts.0, parts.1)

  entry-from : (p : Position) → HasBest a barred p (rank p) → HasEntry p
  unfolding entry_of first_best
  entry-from p best =
      let m : ℕ = best.before in
      let more : rank p ≡ suc m = best.more in
      let less : rank p - 1 ≡ m = omega arith in
      let turn = results-turn p best.best (next-results barred p best.best best.inside) in
      let test : List Step → Bool = λ steps. brings a barred m p (result_of p steps) in
      let both : brings a barred m p (Some best.best) ≡ true = and_from _ _ (In-stands (next barred p) best.best best.inside) best.exact in
      let passes : test turn.0 ≡ true = ap (brings a barred m p) turn.2 ∙ both in
      let found = find-some test turn.0 turn_lists turn.1 passes in
      let parts = brings-parts m p (result_of p found.0) (find-is test found.0 turn_lists found.1).1 in
      let steps : unwrap_or (find (λ s. brings a barred (rank p - 1) p (result_of p s)) turn_lists) [] ≡ found.0 =
      ap (λ (k : ℕ). unwrap_or (find (λ s. brings a barred k p (result_of p s)) turn_lists) []) less ∙ ap (λ (o : Option (List Step)). unwrap_or o []) found.1 in
      record {
        before = m;
        more = more;
        result = parts.0;
        turn = ap (result_of p) steps ∙ parts.1;
        inside = stands-In (next barred p) parts.0 parts.2;
        exact = has_rank-is a barred m parts.0 parts.3;
      }

  pub entry-has : (p : Position) → Open p → HasEntry p
  entry-has p ready = entry-from p (own-rank a barred p (rank p) ready.own ready.undecided (rank-is a barred n p ready.won))

  pub result-other : (p : Position) (ready : Open p) (e : HasEntry p) → same_color e.result.side a ≡ false
  result-other p ready e = side-other a p e.result (results-side p e.result (next-results barred p e.result e.inside)) ready.own

  -- what wants an entry after a position of the other side is ready, and has a lower rank
  pub want-ready : (r q : Position) (m : ℕ) → same_color r.side a ≡ false → wins a barred m r ≡ true → m ≤ n → Wants barred r q → Open q × (rank q < m)
  want-ready r q m other won small w =
      let replies = other-won a barred r q m other w.goes w.inside won in
      let k : ℕ = replies.before in
      let more : m ≡ suc k = replies.more in
      let here : wins a barred k q ≡ true = replies.each q w.inside in
      let now : wins a barred n q ≡ true = wins-le a barred k n q (omega arith) here in
      let low = (rank-is a barred n q now).least k here in
      let ready : Open q = record { own = side-own a r q (results-side r q (next-results barred r q w.inside)) other; undecided = w.undecided; won = now } in
      (ready, omega arith)

  -- what is met next from x
  abbrev after : Position → List Position
  after x = open_after barred (result_at (entry x))

  pub after-ready : (x y : Position) → Open x → In y (after x) → Open y × (rank y < rank x)
  after-ready x y ready i =
      let e = entry-has x ready in
      let more : rank x ≡ suc e.before = e.more in
      let bound = rank-bound a barred n x in
      let there : In y (open_replies barred e.result) = subst (λ (o : Option Position). In y (open_after barred o)) e.turn i in
      let found = want-ready e.result y e.before (result-other x ready e) e.exact.won (omega arith) (ready-wants barred e.result y there) in
      let lower = found.1 in
      (found.0, omega arith)

  module _ (p : Position) (won : wins a barred n p ≡ true) where
    abbrev at_most : ℕ → List Position
    at_most k = positions_met a barred n p k

    pub first-ready : (x : Position) → In x (first_met a barred p) → Open x
    first-ready x i =
        elim (same_color p.side a) as (λ v. same_color p.side a ≡ v → In x (cond v (filter (λ q. is_none (decided q)) (p ∷ [])) (open_replies barred p)) → Open x) [
          | true ↦ λ own j.
              let parts = In-filter (λ q. is_none (decided q)) x (p ∷ []) j in
              let same : x ≡ p = ⊎_elim (λ (e : x ≡ p). e) (λ none. absurd none) parts.0 in
              record { own = ap (λ (y : Position). same_color y.side a) same ∙ own; undecided = is_none-None (decided x) parts.1; won = ap (wins a barred n) same ∙ won }
          | false ↦ λ other j. (want-ready p x n other won (omega arith) (ready-wants barred p x j)).0
        ] refl i

    pub all-ready : (k : ℕ) (x : Position) → In x (at_most k) → Open x
    all-ready zero x i = ⊎_elim (λ none. absurd none) (λ j. first-ready x j) (In-first x [] (first_met a barred p) i)
    all-ready (suc k) x i =
        ⊎_elim
        (λ old. all-ready k x old)
        (λ new. let from = In-flat_map after x (at_most k) new in (after-ready from.0 x (all-ready k from.0 from.1) from.2).0)
        (In-first x (at_most k) (flat_map after (at_most k)) i)

    -- a rank is low after many levels, or all that follows was met
    closing : (k : ℕ) (x : Position) → In x (at_most k) → (rank x + k ≤ n) ⊎ ((y : Position) → In y (after x) → In y (at_most k))
    closing zero x i = let bound = rank-bound a barred n x in inl (omega arith)
    closing (suc k) x i =
        let old : In x (at_most k) → (rank x + suc k ≤ n) ⊎ ((y : Position) → In y (after x) → In y (at_most (suc k))) =
        λ there. inr (λ y j. first-new y (at_most k) (flat_map after (at_most k)) (flat_map-In after y x (at_most k) there j)) in
        ⊎_elim old
        (λ new.
        let from = In-flat_map after x (at_most k) new in
        ⊎_elim
        (λ (low : rank from.0 + k ≤ n). let lower = (after-ready from.0 x (all-ready k from.0 from.1) from.2).1 in inl (omega arith))
        (λ done. old (done x from.2))
        (closing k from.0 from.1))
        (In-first x (at_most k) (flat_map after (at_most k)) i)

    pub closed : (x y : Position) → In x (at_most n) → In y (after x) → In y (at_most n)
    closed x y i j =
        ⊎_elim
        (λ (low : rank x + n ≤ n). let e = entry-has x (all-ready n x i) in let more : rank x ≡ suc e.before = e.more in absurd (omega arith))
        (λ done. done y j)
        (closing n x i)

    pub first-met : (k : ℕ) (x : Position) → In x (first_met a barred p) → In x (at_most k)
    first-met zero x i = first-new x [] (first_met a barred p) i
    first-met (suc k) x i = first-old x (at_most k) (flat_map after (at_most k)) (first-met k x i)

    -- the strategy
    abbrev s : List Planned
    s = map entry (at_most n)

    pub found-entry : (q : Position) (ms : List Position) → In q ms → find_entry (map entry ms) q ≡ Some (entry q)
    found-entry q [] i = absurd i
    found-entry q (x ∷ ms) i =
        let here : (x ≡ q) → same_position (entry x).position q ≡ true = λ e. same_position-same _ q (entry-position x ∙ e) in
        elim (same_position (entry x).position q) as (λ v. same_position (entry x).position q ≡ v → cond v (Some (entry x)) (find_entry (map entry ms) q) ≡ Some (entry q)) [
          | true ↦ λ same. let e : x ≡ q = sym (entry-position x) ∙ (same_position-Decides (entry x).position q).0 same in ap (λ (y : Position). Some (entry y)) e
          | false ↦ λ differs. ⊎_elim (λ (e : q ≡ x). absurd (both_ways _ differs (here (sym e)))) (λ j. found-entry q ms j) i
        ] refl

    pub no-entry : (q : Position) (ms : List Position) → stands_in ms q ≡ false → find_entry (map entry ms) q ≡ None
    no-entry q ms new = none ms (λ i. not-stands ms q new i) where
      none : (xs : List Position) → (In q xs → ⊥) → find_entry (map entry xs) q ≡ None
      none [] out = refl
      none (x ∷ xs) out =
          let here : same_position (entry x).position q ≡ false = false_from_ne_true _ (λ same. out (inl (sym ((same_position-Decides (entry x).position q).0 same) ∙ entry-position x))) in
          rw here (none xs (λ i. out (inr i)))

    distinct-met : (k : ℕ) → AreDistinct (at_most k)
    distinct-met zero = distinct-first [] (first_met a barred p) tt
    distinct-met (suc k) = distinct-first (at_most k) (flat_map after (at_most k)) (distinct-met k)

  -- the entry of an open position is right
  pub open-entry : (x : Position) → Open x → IsEntry a barred (entry x)
  unfolding entry_of
  open-entry x ready =
      let e = entry-has x ready in
      record {
        own = ready.own;
        undecided = ready.undecided;
        ranked = rank-is a barred n x ready.won;
        result = e.result;
        turn = e.turn;
        allowed = In-stands (next barred x) e.result e.inside;
        lower = e.before;
        exact = e.more;
        result_ranked = e.exact;
      }

pub In-map : {X Y : Type 0} (f : X → Y) (y : Y) (xs : List X) → In y (map f xs) → (x : X) × In x xs × (y ≡ f x)
In-map f y [] i = absurd i
In-map f y (x ∷ xs) i = ⊎_elim (λ (e : y ≡ f x). (x, inl refl, e)) (λ j. let deep = In-map f y xs j in (deep.0, inr deep.1, deep.2)) i

pub contained : {X : Type 0} (xs : List X) (x : X) (k : ℕ) → k < length xs → get_or xs k x ≡ x → In x xs
contained [] x k small e = absurd (omega arith)
contained (y ∷ ys) x zero small e = inl (sym e)
contained (y ∷ ys) x (suc k) small e = inr (contained ys x k (omega arith) e)

module _ (a : Color) (barred : List Position) (p : Position) (s : List Planned) (is : IsStrategyOf a barred p s) where
  abbrev R : ℕ
  R = is.rank

  abbrev all_met : List Position
  all_met = positions_met a barred R p R

  listed_met : s ≡ map (entry_of a barred R) all_met
  unfolding strategy_of
  listed_met = is.entries

  entry-right : (e : Planned) → In e s → IsEntry a barred e
  entry-right e i =
      let from = In-map (entry_of a barred R) e all_met (subst (λ (l : List Planned). In e l) listed_met i) in
      let open_there = all-ready a barred R p is.exact.won R from.0 from.1 in
      subst (λ (x : Planned). IsEntry a barred x) (sym from.2) (open-entry a barred R from.0 open_there)

  pub exact-entry : (e : Planned) → Contains s e → IsEntry a barred e
  exact-entry e c = entry-right e (contained s e c.0 c.1 c.2)

  pub first-rank : (q : Position) (e : Planned) → find_entry s q ≡ Some e → IsRank a barred q e.rank
  first-rank q e found =
      let there = find-is (λ x. same_position x.position q) e s found in
      let same : e.position ≡ q = (same_position-Decides e.position q).0 there.1 in
      subst (λ (x : Position). IsRank a barred x e.rank) same (entry-right e there.0).ranked

  pub map-back : (ms : List Position) → map (λ (e : Planned). e.position) (map (entry_of a barred R) ms) ≡ ms
  unfolding entry_of
  map-back [] = refl
  map-back (x ∷ ms) = ap (λ l. x ∷ l) (map-back ms)

  pub distinct-entries : AreDistinct (map (λ (e : Planned). e.position) s)
  distinct-entries =
      let same : map (λ (e : Planned). e.position) s ≡ all_met = ap (map (λ (e : Planned). e.position)) listed_met ∙ map-back all_met in
      subst (λ (l : List Position). AreDistinct l) (sym same) (distinct-met a barred R p is.exact.won R)
