-- Options, from their words.
use Rattle.std.proofs.Common.{◌≡◌, ℕ, suc, ◌+◌, ◌<◌, ◌≤◌, ◌*◌, ◌^◌, List, [], ◌∷◌, length, drop, Option, None, Some, refl, sym, ◌∙◌, ap, subst, arith}
use Rattle.std.specs.Prelude.{◌==◌, slice_get, zero, IfNone, if◌then◌else◌}
use Rattle.std.specs.Option.{unwrap_or}
use Rattle.std.proofs.lemmas.Fmt.{decimal_injective}
use Rattle.arimaa_options.specs.declared.search_options.SearchOptions.{SearchOptions}
use Rattle.arimaa_options.specs.declared.option_values.Given.{Given}
use Rattle.arimaa_options.specs.declared.setting.Setting.{Setting}
use Rattle.arimaa_options.specs.declared.setting.Setting.TheVariants.{Depth, Workers, Lines, Budget, Room}
use Rattle.arimaa_options.specs.Options.{AreOptions, AreWithinRanges, Give, IsOption, given_for, least_of, options_of, most_of, nothing_given, with_number, word_of}

-- ---- words

-- two words stand from a place on
pub two_words : (ws : List (List ℕ)) (k : ℕ) (a b : List ℕ) → Some a ≡ slice_get ws k → Some b ≡ slice_get ws (k + 1) → drop k ws ≡ a ∷ b ∷ drop (k + 2) ws
two_words [] k a b first second = cc
two_words (x ∷ []) zero a b first second = cc
two_words (x ∷ y ∷ ws) zero a b first second = cc
two_words (x ∷ ws) (suc k) a b first second =
    let e : suc k + 1 ≡ suc (k + 1) = omega arith in
    let f : suc k + 2 ≡ suc (k + 2) = omega arith in
    let next : Some b ≡ slice_get ws (k + 1) = second ∙ ap (slice_get (x ∷ ws)) e in
    two_words ws k a b first next ∙ sym (ap (λ n. a ∷ b ∷ drop n (x ∷ ws)) f)

-- a last word stands at a place
pub last_word : (ws : List (List ℕ)) (k : ℕ) (a : List ℕ) → Some a ≡ slice_get ws k → length ws ≤ k + 1 → drop k ws ≡ a ∷ []
last_word [] k a first end = cc
last_word (x ∷ []) zero a first end = cc
last_word (x ∷ y ∷ ws) zero a first end = absurd (omega arith)
last_word (x ∷ ws) (suc k) a first end = last_word ws k a first (omega arith)

-- a word that stands at a place is one of the words
pub get_within : (ws : List (List ℕ)) (k : ℕ) (a : List ℕ) → Some a ≡ slice_get ws k → k < length ws
get_within [] k a e = (let never : ⊥ = cc in absurd never)
get_within (x ∷ ws) zero a e = omega arith
get_within (x ∷ ws) (suc k) a e = let below = get_within ws k a e in omega arith

-- no word stands from the last place on
pub nothing_left : (ws : List (List ℕ)) (k : ℕ) → length ws ≤ k → drop k ws ≡ []
nothing_left [] zero h = refl
nothing_left [] (suc k) h = refl
nothing_left (x ∷ ws) zero h = absurd (omega arith)
nothing_left (x ∷ ws) (suc k) h = nothing_left ws k (omega arith)

-- what says nothing more than that nothing is given
pub if_none : {A : Type 0} (o : Option A) (X : Type 0) → X → IfNone o X
if_none None X x = x
if_none (Some a) X x = tt

-- ---- one reading

-- the third letter of a word
third : List ℕ → ℕ
third (a ∷ b ∷ c ∷ rest) = c
third _ = 0

-- the option of a word, by its third letter
named : List ℕ → Setting
named word =
    if third word == 100 then Depth
    else if third word == 119 then Workers
    else if third word == 108 then Lines
    else if third word == 98 then Budget
    else Room

named-is : (o : Setting) → named (word_of o) ≡ o
unfolding named third
named-is Depth = refl
named-is Workers = refl
named-is Lines = refl
named-is Budget = refl
named-is Room = refl

one_name : (a b : Setting) → word_of a ≡ word_of b → a ≡ b
one_name a b e = sym (named-is a) ∙ (ap named e ∙ named-is b)

small : (o : Setting) (n : ℕ) → n ≤ most_of o → n < 2 ^ 64
small Depth n h = omega arith
small Workers n h = omega arith
small Lines n h = omega arith
small Budget n h = omega arith
small Room n h = omega arith

one_given : (ws : List (List ℕ)) (g h k : Given) → Give g ws h → Give g ws k → h ≡ k
unfolding Give
one_given [] g h k p q = sym p ∙ q
one_given (x ∷ []) g h k p q = absurd p
one_given (x ∷ y ∷ ws) g h k p q =
    let name : q.0 ≡ p.0 = one_name q.0 p.0 (sym q.2.named ∙ p.2.named) in
    let number : q.1 ≡ p.1 = decimal_injective q.1 p.1 (small q.0 q.1 q.2.most) (small p.0 p.1 p.2.most) (sym q.2.written ∙ p.2.written) in
    one_given ws (with_number p.0 p.1 g) h k p.3 (subst (λ (v : Given). Give v ws k) (λ i. with_number (name i) (number i) g) q.3)

-- words are options that ask for one thing
pub one_options : (ws : List (List ℕ)) (s t : SearchOptions) → AreOptions ws s → AreOptions ws t → s ≡ t
one_options ws s t p q = p.set ∙ ap options_of (one_given ws nothing_given p.given q.given p.in_form q.in_form) ∙ sym q.set

-- ---- a reading that goes on

pub none_more : (g : Given) (ws : List (List ℕ)) → ws ≡ [] → Give g ws g
unfolding Give
none_more g ws e = rw e refl

pub no_half : (g h : Given) (ws : List (List ℕ)) (a : List ℕ) → ws ≡ a ∷ [] → Give g ws h → ⊥
unfolding Give
no_half g h ws a e give = rw e at give

pub next_option : (g h : Given) (ws rest : List (List ℕ)) (a b : List ℕ) → ws ≡ a ∷ b ∷ rest → Give g ws h
    → (o : Setting) × (n : ℕ) × IsOption g a b o n × Give (with_number o n g) rest h
unfolding Give
next_option g h ws rest a b e give = rw e at give

pub one_more : (g v h : Given) (ws rest : List (List ℕ)) (a b : List ℕ) (o : Setting) (n : ℕ) → ws ≡ a ∷ b ∷ rest → IsOption g a b o n → v ≡ with_number o n g
    → Give v rest h → Give g ws h
unfolding Give
one_more g v h ws rest a b o n e is same give = rw e (o, n, is, subst (λ (u : Given). Give u rest h) same give)

pub same_more : (g v h : Given) (ws rest : List (List ℕ)) (a b : List ℕ) (o : Setting) (n : ℕ) → ws ≡ a ∷ b ∷ rest → IsOption g a b o n → v ≡ with_number o n g
    → Give g ws h → Give v rest h
same_more g v h ws rest a b o n e is same give =
    let more = next_option g h ws rest a b e give in
    let name : more.0 ≡ o = one_name more.0 o (sym more.2.named ∙ is.named) in
    let number : more.1 ≡ n = decimal_injective more.1 n (small more.0 more.1 more.2.most) (small o n is.most) (sym more.2.written ∙ is.written) in
    subst (λ (u : Given). Give u rest h) ((λ i. with_number (name i) (number i) g) ∙ sym same) more.3

-- ---- limits

-- each number that is given is in its range
AreInRange : Given → Type 0
AreInRange g = (o : Setting) (n : ℕ) → given_for o g ≡ Some n → (least_of o ≤ n) × (n ≤ most_of o)

grown : (g : Given) (o : Setting) (n : ℕ) → AreInRange g → least_of o ≤ n → n ≤ most_of o → AreInRange (with_number o n g)
unfolding AreInRange
grown g Depth n h s l Depth m e = let same : n ≡ m = cc in (omega arith, omega arith)
grown g Workers n h s l Workers m e = let same : n ≡ m = cc in (omega arith, omega arith)
grown g Lines n h s l Lines m e = let same : n ≡ m = cc in (omega arith, omega arith)
grown g Budget n h s l Budget m e = let same : n ≡ m = cc in (omega arith, omega arith)
grown g Room n h s l Room m e = let same : n ≡ m = cc in (omega arith, omega arith)
grown g Depth n h s l o m e = h o m e
grown g Workers n h s l o m e = h o m e
grown g Lines n h s l o m e = h o m e
grown g Budget n h s l o m e = h o m e
grown g Room n h s l o m e = h o m e

given_ranges : (ws : List (List ℕ)) (g h : Given) → AreInRange g → Give g ws h → AreInRange h
unfolding Give
given_ranges [] g h r e = subst AreInRange e r
given_ranges (x ∷ []) g h r give = absurd give
given_ranges (x ∷ y ∷ ws) g h r give = given_ranges ws (with_number give.0 give.1 g) h (grown g give.0 give.1 r give.2.least give.2.most) give.3

nothing_ranges : AreInRange nothing_given
unfolding AreInRange
nothing_ranges Depth n e = cc
nothing_ranges Workers n e = cc
nothing_ranges Lines n e = cc
nothing_ranges Budget n e = cc
nothing_ranges Room n e = cc

filled : (o : Option ℕ) (d least most : ℕ) → least ≤ d → d ≤ most → ((n : ℕ) → o ≡ Some n → (least ≤ n) × (n ≤ most)) → (least ≤ unwrap_or o d) × (unwrap_or o d ≤ most)
filled None d least most low high h = (low, high)
filled (Some n) d least most low high h = h n refl

-- what options set is within the ranges, but for the room of all workers
pub limits : (ws : List (List ℕ)) (g : Given) (l : SearchOptions) → Give nothing_given ws g → l ≡ options_of g → l.settings.workers * l.settings.room ≤ 4194304 → AreWithinRanges l
unfolding AreInRange
limits ws g l give set room =
    let ranges : AreInRange g = given_ranges ws nothing_given g nothing_ranges give in
    let depth = filled g.depth 0 0 20 (omega arith) (omega arith) (ranges Depth) in
    let workers = filled g.workers 4 1 16 (omega arith) (omega arith) (ranges Workers) in
    let lines = filled g.lines 65536 1 262144 (omega arith) (omega arith) (ranges Lines) in
    let budget = filled g.budget 10000000 1 (2 ^ 40) (omega arith) (omega arith) (ranges Budget) in
    let places = filled g.room 262144 1 1048576 (omega arith) (omega arith) (ranges Room) in
    let all : (options_of g).settings.workers * (options_of g).settings.room ≤ 4194304 = subst (λ (t : SearchOptions). t.settings.workers * t.settings.room ≤ 4194304) set room in
    subst AreWithinRanges (sym set) (record {
      depth = depth.1;
      limits = record {
        some_workers = workers.0;
        most_workers = workers.1;
        some_lines = lines.0;
        most_lines = lines.1;
        some_budget = budget.0;
        most_budget = budget.1;
        some_room = places.0;
        most_room = places.1;
        room_of_all = all;
      };
    })
