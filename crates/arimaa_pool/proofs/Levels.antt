-- The queue of positions that are met, and the levels of a strategy.
use Rattle.std.proofs.Common.{◌≡◌, ℕ, zero, suc, ◌+◌, ◌-◌, ◌<◌, ◌≤◌, List, [], ◌∷◌, ◌++◌, length, take, drop, get_or, map, true, false, cond, ◌⊎◌, inl, inr, ⊎_elim, refl, sym, ◌∙◌, ap, subst, arith, length-append, append_assoc, append-nil}
use Rattle.std.specs.List.{flat_map}
use Rattle.std.proofs.Math.ListN.{get_or-append}
use Rattle.std.proofs.Math.Seq.{take-append_seam}
use Rattle.std.proofs.lemmas.Bool.{cases_lt}
use Rattle.std.proofs.lemmas.List.{flat_map_more, take-append-drop, take_all, take_more}
use Rattle.arimaa_board.specs.declared.piece.Color.{Color}
use Rattle.arimaa_board.specs.declared.position.Position.{Position}
use Rattle.arimaa_model.specs.Results.{stands_in, with_new, first_occurrences}
use Rattle.arimaa_model.specs.Wins.{wins}
use Rattle.arimaa_model.specs.Strategies.{after_entry, positions_met, first_met, strategy_of, entry_of}
use Rattle.arimaa_forced.specs.Entries.{entry_with_marks}
use Rattle.arimaa_model.proofs.Lemmas.Members.{In, In-flat_map, flat_map-In}
use Rattle.arimaa_model.proofs.Lemmas.Positions.{In-stands, In-first, first-new}
use Rattle.arimaa_model.proofs.Lemmas.Reaching.{first_occurrences-append}
use Rattle.arimaa_model.proofs.Lemmas.Meeting.{closed, first-met}
use Rattle.arimaa_pool.specs.Terms.{Terms}
use Rattle.arimaa_pool.specs.Extraction.{IsQueue, written_entry}

-- first occurrences go on from the list
record Goes (qs more : List Position) : Type 0 where
  rest : List Position
  is : more ≡ qs ++ rest

goes-with_new : (qs : List Position) (p : Position) → Goes qs (with_new qs p)
goes-with_new qs p =
    elim (stands_in qs p) as (λ v. Goes qs (cond v qs (qs ++ p ∷ []))) [
      | true ↦ record { rest = []; is = sym (append-nil qs) }
      | false ↦ record { rest = p ∷ []; is = refl }
    ]

goes-first : (qs ps : List Position) → Goes qs (first_occurrences qs ps)
goes-first qs [] = record { rest = []; is = sym (append-nil qs) }
goes-first qs (p ∷ ps) =
    let one = goes-with_new qs p in
    let more = goes-first (with_new qs p) ps in
    record { rest = one.rest ++ more.rest; is = more.is ∙ (ap (λ l. l ++ more.rest) one.is ∙ append_assoc qs one.rest more.rest) }

-- where all stand in the list, none is added
with_new-old : (qs : List Position) (p : Position) → In p qs → with_new qs p ≡ qs
with_new-old qs p i = ap (λ v. cond v qs (qs ++ p ∷ [])) (In-stands qs p i)

none_new : (qs ps : List Position) → ((x : Position) → In x ps → In x qs) → first_occurrences qs ps ≡ qs
none_new qs [] each = refl
none_new qs (p ∷ ps) each =
    let old : with_new qs p ≡ qs = with_new-old qs p (each p (inl refl)) in
    ap (λ l. first_occurrences l ps) old ∙ none_new qs ps (λ x i. each x (inr i))

module _ (a : Color) (barred : List Position) (n : ℕ) (p : Position) (won : wins a barred n p ≡ true) where
  abbrev M : ℕ → List Position
  M k = positions_met a barred n p k

  abbrev after : Position → List Position
  after x = after_entry a barred n x

  -- what is met at all is met by at most n entries in a row
  pub met_within : (k : ℕ) (x : Position) → In x (M k) → In x (M n)
  met_within zero x i = ⊎_elim (λ (none : In x []). absurd none) (λ j. first-met a barred n p won n x j) (In-first x [] (first_met a barred p) i)
  met_within (suc k) x i =
      ⊎_elim
      (λ (old : In x (M k)). met_within k x old)
      (λ new. let from = In-flat_map after x (M k) new in closed a barred n p won from.0 x (met_within k from.0 from.1) from.2)
      (In-first x (M k) (flat_map after (M k)) i)

  -- the levels from n on are the same
  level-same : (k : ℕ) → M (suc k) ≡ M k → (j : ℕ) → M (j + k) ≡ M k
  level-same k same zero = let number : zero + k ≡ k = omega arith in ap M number
  level-same k same (suc j) =
      let deep : M (j + k) ≡ M k = level-same k same j in
      let number : suc j + k ≡ suc (j + k) = omega arith in
      ap M number ∙ (ap (λ l. first_occurrences l (flat_map after l)) deep ∙ same)

  last-same : M (suc n) ≡ M n
  last-same = none_new (M n) (flat_map after (M n)) (λ x i. let from = In-flat_map after x (M n) i in closed a barred n p won from.0 x from.1 from.2)

  level-grows : (k j : ℕ) → length (M k) ≤ length (M (j + k))
  level-grows k zero = let number : zero + k ≡ k = omega arith in let same : length (M (zero + k)) ≡ length (M k) = ap (λ m. length (M m)) number in omega arith
  level-grows k (suc j) =
      let deep = level-grows k j in
      let goes = goes-first (M (j + k)) (flat_map after (M (j + k))) in
      let number : suc j + k ≡ suc (j + k) = omega arith in
      let sum : length (M (suc j + k)) ≡ length (M (j + k)) + length goes.rest = ap (λ m. length (M m)) number ∙ (ap length goes.is ∙ length-append (M (j + k)) goes.rest) in
      omega arith

  level-within : (k : ℕ) → length (M k) ≤ length (M n)
  level-within k =
      ⊎_elim
      (λ (low : k < n).
      let number : (n - k) + k ≡ n = omega arith in
      let grows = level-grows k (n - k) in
      let same : length (M ((n - k) + k)) ≡ length (M n) = ap (λ m. length (M m)) number in omega arith)
      (λ (high : n ≤ k).
      let number : (k - n) + n ≡ k = omega arith in
      let same : length (M k) ≡ length (M n) = ap (λ m. length (M m)) (sym number) ∙ ap length (level-same n last-same (k - n)) in omega arith)
      (cases_lt k n)

  -- a level that is the same as the next one is the last
  last-level : (k : ℕ) → M (suc k) ≡ M k → M k ≡ M n
  last-level k same =
      ⊎_elim
      (λ (low : k < n). let number : (n - k) + k ≡ n = omega arith in sym (level-same k same (n - k)) ∙ ap M number)
      (λ (high : n ≤ k). let number : k ≡ (k - n) + n = omega arith in ap M number ∙ level-same n last-same (k - n))
      (cases_lt k n)

module _ (t : Terms) (n : ℕ) (p : Position) (won : wins t.attacker t.barred n p ≡ true) where
  abbrev L : ℕ → List Position
  L k = positions_met t.attacker t.barred n p k

  abbrev then : Position → List Position
  then x = after_entry t.attacker t.barred n x

  -- the queue begins with what is met first
  pub queue-start : IsQueue t n p 0 (first_occurrences [] (first_met t.attacker t.barred p))
  queue-start = record { level = 0; played = omega arith; queue_is = refl }

  -- what follows after the whole level was played is the next level, of which as many were played
  next-level : (k level : ℕ) (queue : List Position) → k ≡ length (L level) → queue ≡ first_occurrences (L level) (flat_map then (take k (L level))) → queue ≡ L (suc level)
  next-level k level queue all is = is ∙ ap (λ l. first_occurrences (L level) (flat_map then l)) (take_all k (L level) (omega arith))

  turned : (k level : ℕ) (queue : List Position) → k ≡ length (L level) → queue ≡ L (suc level) → queue ≡ first_occurrences (L (suc level)) (flat_map then (take k (L (suc level))))
  turned k level queue all is =
      let goes = goes-first (L level) (flat_map then (L level)) in
      let begins : take k (L (suc level)) ≡ L level = (λ i. take (all i) (goes.is i)) ∙ take-append_seam (L level) goes.rest in
      is ∙ sym (ap (λ l. first_occurrences (L (suc level)) (flat_map then l)) begins ∙ none_new (L (suc level)) (flat_map then (L level)) (λ x i. first-new x (L level) (flat_map then (L level)) i))

  -- one more of a level is played
  one-more : (k level : ℕ) (q : Position) (queue : List Position) → k < length (L level) → queue ≡ first_occurrences (L level) (flat_map then (take k (L level))) → get_or queue k q ≡ q
      → first_occurrences queue (then q) ≡ first_occurrences (L level) (flat_map then (take (k + 1) (L level)))
  one-more k level q queue inside is here =
      let goes = goes-first (L level) (flat_map then (take k (L level))) in
      let same : get_or queue k q ≡ get_or (L level) k q = ap (λ l. get_or l k q) (is ∙ goes.is) ∙ get_or-append (L level) goes.rest q k inside in
      let split : take (k + 1) (L level) ≡ take k (L level) ++ q ∷ [] = take_more (L level) k q inside ∙ ap (λ x. take k (L level) ++ x ∷ []) (sym same ∙ here) in
      let parts : flat_map then (take (k + 1) (L level)) ≡ flat_map then (take k (L level)) ++ then q = ap (flat_map then) split ∙ sym (flat_map_more then [] (take k (L level)) q) in
      sym (ap (first_occurrences (L level)) parts ∙ (first_occurrences-append (L level) (flat_map then (take k (L level))) (then q) ∙ ap (λ l. first_occurrences l (then q)) (sym is)))

  -- the next of the queue is played
  pub queue-more : (k : ℕ) (q : Position) (queue : List Position) → IsQueue t n p k queue → k < length queue → get_or queue k q ≡ q → IsQueue t n p (k + 1) (first_occurrences queue (then q))
  queue-more k q queue is inside here =
      let few = is.played in
      ⊎_elim
      (λ (within : k < length (L is.level)). record { level = is.level; played = omega arith; queue_is = one-more k is.level q queue within is.queue_is here })
      (λ (over : length (L is.level) ≤ k).
      let all : k ≡ length (L is.level) = omega arith in
      let whole = next-level k is.level queue all is.queue_is in
      let more : k < length (L (suc is.level)) = let same : length queue ≡ length (L (suc is.level)) = ap length whole in omega arith in
      record { level = suc is.level; played = omega arith; queue_is = one-more k (suc is.level) q queue more (turned k is.level queue all whole) here })
      (cases_lt k (length (L is.level)))

  -- each position of the queue is met
  pub queue-met : (k : ℕ) (queue : List Position) → IsQueue t n p k queue → (x : Position) → In x queue → In x (L n)
  queue-met k queue is x i =
      ⊎_elim
      (λ (old : In x (L is.level)). met_within t.attacker t.barred n p won is.level x old)
      (λ new.
      let from = In-flat_map then x (take k (L is.level)) new in
      met_within t.attacker t.barred n p won (suc is.level) x (first-new x (L is.level) (flat_map then (L is.level)) (flat_map-In then x from.0 (L is.level) (taken from.0 k (L is.level) from.1) from.2)))
      (In-first x (L is.level) (flat_map then (take k (L is.level))) (subst (In x) is.queue_is i))
    where
      taken : (y : Position) (m : ℕ) (xs : List Position) → In y (take m xs) → In y xs
      taken y zero xs j = absurd j
      taken y (suc m) [] j = absurd j
      taken y (suc m) (z ∷ xs) (inl e) = inl e
      taken y (suc m) (z ∷ xs) (inr j) = inr (taken y m xs j)

  -- and there are no more than that
  pub queue-short : (k : ℕ) (queue : List Position) → IsQueue t n p k queue → length queue ≤ length (L n)
  queue-short k queue is =
      let whole = L is.level in
      let split : flat_map then whole ≡ flat_map then (take k whole) ++ flat_map then (drop k whole) = ap (flat_map then) (sym (take-append-drop k whole)) ∙ flat_map-both then (take k whole) (drop k whole) in
      let level : L (suc is.level) ≡ first_occurrences queue (flat_map then (drop k whole)) = ap (first_occurrences whole) split ∙ (first_occurrences-append whole (flat_map then (take k whole)) (flat_map then (drop k whole)) ∙ ap (λ l. first_occurrences l (flat_map then (drop k whole))) (sym is.queue_is)) in
      let goes = goes-first queue (flat_map then (drop k whole)) in
      let sum : length (L (suc is.level)) ≡ length queue + length goes.rest = ap length (level ∙ goes.is) ∙ length-append queue goes.rest in
      let within = level-within t.attacker t.barred n p won (suc is.level) in
      omega arith
    where
      flat_map-both : (f : Position → List Position) (xs ys : List Position) → flat_map f (xs ++ ys) ≡ flat_map f xs ++ flat_map f ys
      flat_map-both f [] ys = refl
      flat_map-both f (x ∷ xs) ys = ap (λ l. f x ++ l) (flat_map-both f xs ys) ∙ sym (append_assoc (f x) (flat_map f xs) (flat_map f ys))

  -- once all were played, all are met
  pub queue-end : (k : ℕ) (queue : List Position) → IsQueue t n p k queue → length queue ≤ k → queue ≡ L n
  queue-end k queue is past =
      let few = is.played in
      let goes = goes-first (L is.level) (flat_map then (take k (L is.level))) in
      let sum : length queue ≡ length (L is.level) + length goes.rest = ap length (is.queue_is ∙ goes.is) ∙ length-append (L is.level) goes.rest in
      let all : k ≡ length (L is.level) = omega arith in
      let none : length goes.rest ≡ 0 = omega arith in
      let same : queue ≡ L is.level = (is.queue_is ∙ goes.is) ∙ (ap (λ l. L is.level ++ l) (empty goes.rest none) ∙ append-nil (L is.level)) in
      let fixed : L (suc is.level) ≡ L is.level = sym (next-level k is.level queue all is.queue_is) ∙ same in
      same ∙ last-level t.attacker t.barred n p won is.level fixed
    where
      empty : (xs : List Position) → length xs ≡ 0 → xs ≡ []
      empty [] e = refl
      empty (x ∷ xs) e = absurd (omega arith)

  -- what is added to the queue stands behind what was played
  pub played-more : (k : ℕ) (q : Position) (queue ps : List Position) → k < length queue → get_or queue k q ≡ q → take (k + 1) (first_occurrences queue ps) ≡ take k queue ++ q ∷ []
  played-more k q queue ps inside here =
      let goes = goes-first queue ps in
      ap (take (k + 1)) goes.is ∙ (front (k + 1) queue goes.rest (omega arith) ∙ (take_more queue k q inside ∙ ap (λ x. take k queue ++ x ∷ []) here))
    where
      front : (m : ℕ) (xs ys : List Position) → m ≤ length xs → take m (xs ++ ys) ≡ take m xs
      front zero xs ys h = refl
      front (suc m) [] ys h = absurd (omega arith)
      front (suc m) (x ∷ xs) ys h = ap (λ l. x ∷ l) (front m xs ys (omega arith))

  -- all of the queue was played
  pub played-all : (k : ℕ) (queue : List Position) → length queue ≤ k → take k queue ≡ queue
  played-all zero [] h = refl
  played-all (suc k) [] h = refl
  played-all zero (x ∷ xs) h = absurd (omega arith)
  played-all (suc k) (x ∷ xs) h = ap (λ l. x ∷ l) (played-all k xs (omega arith))

  -- the entries of all that is met are the strategy
  pub all-entries : (queue : List Position) → queue ≡ L n → map (written_entry t n) queue ≡ map entry_with_marks (strategy_of t.attacker t.barred n p)
  unfolding strategy_of
  all-entries queue is = ap (map (written_entry t n)) is ∙ twice (L n)
    where
      twice : (qs : List Position) → map (written_entry t n) qs ≡ map entry_with_marks (map (entry_of t.attacker t.barred n) qs)
      twice [] = refl
      twice (q ∷ qs) = ap (λ l. written_entry t n q ∷ l) (twice qs)
