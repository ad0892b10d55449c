-- The shares of the workers, from which what is told is taken in the order of the matches.
use Rattle.std.proofs.Common.{◌≡◌, ◌≢◌, ℕ, ◌+◌, ◌%◌, ◌<◌, ◌≤◌, List, [], ◌∷◌, ◌++◌, length, map, take, drop, set, get_or, append_assoc, append-nil, refl, sym, ◌∙◌, ap, subst, arith, ⊎_elim}
use Rattle.std.specs.Prelude.{Vec}
use Rattle.std.specs.List.{AllZip, remove}
use Rattle.std.specs.declared.alloc.Global.{Global}
use Rattle.std.proofs.lemmas.Bool.{cases_eq}
use Rattle.std.proofs.lemmas.List.{drop_all, drop_more, get_or-set_same, get_or-set_other, length-map, length_push, map-append, take_all, take_more}
use Rattle.arimaa_meet.specs.declared.pairs.Pair.{Pair}
use Rattle.arimaa_meet.specs.declared.match_report.Told.{Told}
use Rattle.arimaa_meet.specs.Matches.{MeetMatch}
use Rattle.arimaa_meet.specs.Shares.{AreShares, AreTold, IsTold, dealt_from, dealt_to}
use Rattle.arimaa_meet.proofs.Dealing.{dealt_head, dealt_last, dealt_other, dealt_skip}
use Rattle.arimaa_meet.proofs.ReportSteps.{told_count}
use Rattle.arimaa_record.proofs.Lemmas.PlainLaws.{all_zip_push}
use Rattle.arimaa_record.proofs.Lemmas.FormLaws.{head_same, tail_same}

-- an element of a list that has one
pub some_of : {A : Type 0} (xs : List A) → 0 < length xs → A
some_of [] low = absurd (omega arith)
some_of (x ∷ xs) low = x

-- the first element, and the others
pub first_taken : {A : Type 0} (xs : List A) (x : A) → 0 < length xs → x ≡ get_or xs 0 x → xs ≡ x ∷ remove xs 0
first_taken [] x low is = absurd (omega arith)
first_taken {A} (y ∷ ys) x low is = ap (λ (z : A). z ∷ ys) (sym is)

no_head : {A : Type 0} (x : A) (xs : List A) → ◌≡◌ {A = List A} [] (x ∷ xs) → ⊥
no_head x xs e = cc

no_matches : (rest : List MeetMatch) → map (λ (m : MeetMatch). m.pair) rest ≡ [] → rest ≡ []
no_matches [] none = refl
no_matches (m ∷ later) none = absurd (no_head m.pair (map (λ (m : MeetMatch). m.pair) later) (sym none))

-- the first of these matches, and what is told of it
record First (rest : List MeetMatch) (p : Pair) (ps : List Pair) (one : Told) (ones : List Told) : Type 0 where
  m : MeetMatch
  later : List MeetMatch
  is : rest ≡ m ∷ later
  programs : m.pair ≡ p
  later_programs : map (λ m. m.pair) later ≡ ps
  telling : IsTold m one
  later_telling : AllZip IsTold later ones

first_of : (rest : List MeetMatch) (p : Pair) (ps : List Pair) (one : Told) (ones : List Told)
    → map (λ (m : MeetMatch). m.pair) rest ≡ p ∷ ps → AllZip IsTold rest (one ∷ ones) → First rest p ps one ones
first_of [] p ps one ones programs telling = absurd (no_head p ps programs)
first_of (m ∷ later) p ps one ones programs telling = record {
  m = m;
  later = later;
  is = refl;
  programs = head_same programs;
  later_programs = tail_same programs;
  telling = telling.0;
  later_telling = telling.1;
}

module _ (pairs : List Pair) (workers : ℕ) (of_worker : ℕ → List MeetMatch) where
  -- what a worker still has to tell, where so many matches are told of
  pub record Left (place worker : ℕ) (matches : List MeetMatch) (share : List Told) : Type 0 where
    pub rest : List MeetMatch
    pub whole : dealt_to worker workers matches ++ rest ≡ of_worker worker
    pub programs : map (λ m. m.pair) rest ≡ dealt_from place worker workers (drop place pairs)
    pub telling : AllZip IsTold rest share

  -- what is told of the first matches has been taken out of the shares
  pub record Gathered (place : ℕ) (shares : List (Vec Told Global)) (told : List Told) : Type 0 where
    pub matches : List MeetMatch
    pub size : length matches ≡ place
    pub programs : map (λ m. m.pair) matches ≡ take place pairs
    pub telling : AllZip IsTold matches told
    pub left : (w : ℕ) (d : Vec Told Global) → w < workers → Left place w matches (get_or shares w d).items

  -- none yet
  pub none_gathered : (shares : List (Vec Told Global)) → length shares ≡ workers → AreShares pairs of_worker shares
      → Gathered 0 shares []
  none_gathered shares size given = record {
    matches = [];
    size = refl;
    programs = refl;
    telling = tt;
    left = λ w d low. record {
      rest = of_worker w;
      whole = refl;
      programs = given.programs w (omega (arith, size)) ∙ ap (λ (n : ℕ). dealt_to w n pairs) size;
      telling = given.telling w d (omega (arith, size));
    };
  }

  -- the rest of the worker whose match is next begins with that match
  next_programs : (place worker : ℕ) (pair : Pair) (matches : List MeetMatch) (share : List Told) → place < length pairs
      → place % workers ≡ worker → (l : Left place worker matches share)
      → map (λ (m : MeetMatch). m.pair) l.rest ≡ get_or pairs place pair ∷ dealt_from (place + 1) worker workers (drop (place + 1) pairs)
  next_programs place worker pair matches share within own l =
      l.programs ∙ (ap (λ (ps : List Pair). dealt_from place worker workers ps) (drop_more pairs place pair within)
      ∙ dealt_head place worker workers (get_or pairs place pair) (drop (place + 1) pairs) own)

  -- so its share isn't empty
  pub some_left : (place worker : ℕ) (pair : Pair) (shares : List (Vec Told Global)) (told : List Told) (d : Vec Told Global)
      → Gathered place shares told → place < length pairs → place % workers ≡ worker → worker < workers
      → 0 < length (get_or shares worker d).items
  some_left place worker pair shares told d before within own there =
      let l = before.left worker d there in
      let ps = next_programs place worker pair before.matches (get_or shares worker d).items within own l in
      let many = told_count l.rest (get_or shares worker d).items l.telling in
      let long = sym (length-map l.rest (λ (m : MeetMatch). m.pair)) ∙ ap (λ (x : List Pair). length x) ps in
      omega (arith, many, long)

  -- one more
  pub gathered_more : (place worker : ℕ) (pair : Pair) (shares : List (Vec Told Global)) (told more : List Told)
      (share later : Vec Told Global) (one : Told) → length shares ≡ workers → place % workers ≡ worker → worker < workers
      → place < length pairs → Gathered place shares told → share ≡ get_or shares worker share
      → share.items ≡ one ∷ later.items → more ≡ told ++ one ∷ []
      → Gathered (place + 1) (set shares worker later) more
  gathered_more place worker pair shares told more share later one size own there within before reads taken added =
      let ms : List MeetMatch = before.matches in
      let items : (get_or shares worker share).items ≡ one ∷ later.items = ap (λ (v : Vec Told Global). v.items) (sym reads) ∙ taken in
      let l : Left place worker ms (get_or shares worker share).items = before.left worker share there in
      let next : List Pair = dealt_from (place + 1) worker workers (drop (place + 1) pairs) in
      let f : First l.rest (get_or pairs place pair) next one later.items =
      first_of l.rest (get_or pairs place pair) next one later.items
      (next_programs place worker pair ms (get_or shares worker share).items within own l)
      (subst (λ (x : List Told). AllZip IsTold l.rest x) items l.telling) in
      let m : MeetMatch = f.m in
      record {
        matches = ms ++ m ∷ [];
        size = length_push ms m ∙ ap (λ (n : ℕ). n + 1) before.size;
        programs = map-append (λ (x : MeetMatch). x.pair) ms (m ∷ [])
            ∙ (ap (λ (x : List Pair). x ++ m.pair ∷ []) before.programs
            ∙ (ap (λ (p : Pair). take place pairs ++ p ∷ []) f.programs ∙ sym (take_more pairs place pair within)));
        telling = subst (λ (x : List Told). AllZip IsTold (ms ++ m ∷ []) x) (sym added) (all_zip_push IsTold ms told m one before.telling f.telling);
        left = λ w d low. ⊎_elim
            (λ (same : w ≡ worker).
            let mine : Left (place + 1) worker (ms ++ m ∷ []) (get_or (set shares worker later) worker d).items = record {
              rest = f.later;
              whole = ap (λ (x : List MeetMatch). x ++ f.later) (dealt_last 0 place worker workers ms m (omega (arith, before.size)) own)
                  ∙ (append_assoc (dealt_to worker workers ms) (m ∷ []) f.later
                  ∙ (ap (λ (x : List MeetMatch). dealt_to worker workers ms ++ x) (sym f.is) ∙ l.whole));
              programs = f.later_programs;
              telling = subst (λ (v : Vec Told Global). AllZip IsTold f.later v.items)
                  (sym (get_or-set_same shares worker later d (omega (arith, size)))) f.later_telling;
            } in
            subst (λ (n : ℕ). Left (place + 1) n (ms ++ m ∷ []) (get_or (set shares worker later) n d).items) (sym same) mine)
            (λ (apart : w ≢ worker).
            let other : place % workers ≡ w → ⊥ = λ (e : place % workers ≡ w). apart (sym e ∙ own) in
            let k : Left place w ms (get_or shares w d).items = before.left w d low in
            let kept : get_or (set shares worker later) w d ≡ get_or shares w d = get_or-set_other shares worker w later d apart in
            let same : Left (place + 1) w (ms ++ m ∷ []) (get_or (set shares worker later) w d).items = record {
              rest = k.rest;
              whole = ap (λ (x : List MeetMatch). x ++ k.rest) (dealt_other 0 place w workers ms m (omega (arith, before.size)) other) ∙ k.whole;
              programs = k.programs ∙ (ap (λ (ps : List Pair). dealt_from place w workers ps) (drop_more pairs place pair within)
                  ∙ dealt_skip place w workers (get_or pairs place pair) (drop (place + 1) pairs) other);
              telling = subst (λ (v : Vec Told Global). AllZip IsTold k.rest v.items) (sym kept) k.telling;
            } in
            same)
            (cases_eq w worker);
      }

  -- all of them
  pub all_gathered : (place : ℕ) (shares : List (Vec Told Global)) (told : List Told) (d : Vec Told Global)
      → length pairs ≤ place → Gathered place shares told → AreTold pairs workers of_worker told
  all_gathered place shares told d past before = record {
    matches = before.matches;
    programs = before.programs ∙ take_all place pairs past;
    telling = before.telling;
    dealt = λ w low.
        let l : Left place w before.matches (get_or shares w d).items = before.left w d low in
        let none : l.rest ≡ [] = no_matches l.rest
        (l.programs ∙ ap (λ (ps : List Pair). dealt_from place w workers ps) (drop_all place pairs past)) in
        sym (append-nil (dealt_to w workers before.matches))
        ∙ (ap (λ (x : List MeetMatch). dealt_to w workers before.matches ++ x) (sym none) ∙ l.whole);
  }
