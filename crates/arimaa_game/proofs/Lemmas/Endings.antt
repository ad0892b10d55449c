-- How a game ends by the rules and by a word, and what a game keeps at hand.
use Rattle.std.proofs.Common.{◌≡◌, ◌<◌, ◌≤◌, ◌+◌, ℕ, zero, suc, get_or, take, ⊎_elim, length-append, List, [], ◌∷◌, ◌++◌, length, Option, None, Some, false, refl, sym, ap, subst, ◌∙◌, arith, true≢false}
use Rattle.std.specs.Prelude.{IsNone, IsSome, is_some, option_to_list, All, Bool, true, cond, ◌||◌}
use Rattle.std.specs.List.{filter, list_any}
use Rattle.std.specs.Option.{option_or}
use Rattle.std.proofs.Math.Seq.{get_or-append_seam, take-append_seam}
use Rattle.std.proofs.lemmas.Bool.{cases_lt}
use Rattle.std.proofs.lemmas.List.{get_or_append_left, take-append-le}
use Rattle.std.proofs.lemmas.List.Elements.{All-pop, All-push}
use Rattle.arimaa_board.specs.Fit.{IsFit}
use Rattle.arimaa_board.specs.declared.position.Position.{Position}
use Rattle.arimaa_board.specs.declared.ending.Ending.{Ending}
use Rattle.arimaa_board.specs.declared.ending.Word.{Word}
use Rattle.arimaa_model.specs.DecidedPositions.{decided}
use Rattle.arimaa_model.specs.Game.{IsLawful, closed_by, ended_for, ending, ending_at, lawful_at, present}
use Rattle.arimaa_model.proofs.Lemmas.Present.{present-push}
use Rattle.arimaa_model.proofs.Lemmas.Lists.{or-none}
use Rattle.arimaa_game.specs.Play.{AreLawful, Play, IsKept, ending_by, ending_of}

-- a position that is decided has ended the game
pub ending_at-decided : (h : List Position) (p : Position) (e : Ending) → Some e ≡ decided p → Some e ≡ ending_at h p
unfolding ending_at
ending_at-decided h p e is = ap (λ (o : Option Ending). ended_for p o (lawful_at h p)) is

-- another has where no result is left that a turn may bring about
pub ending_at-undecided : (h : List Position) (p : Position) → None ≡ decided p → ended_for p None (lawful_at h p) ≡ ending_at h p
unfolding ending_at
ending_at-undecided h p is = ap (λ (o : Option Ending). ended_for p o (lawful_at h p)) is

-- a position whose side has a result that passes goes on
pub left-some : (p : Position) (passes : Position → Bool) (qs : List Position) → list_any passes qs ≡ true → None ≡ ended_for p None (filter passes qs)
left-some p passes [] some = absurd (true≢false (sym some))
left-some p passes (q ∷ qs) some =
    elim (passes q) as (λ v. v || list_any passes qs ≡ true → None ≡ ended_for p None (cond v (q ∷ filter passes qs) (filter passes qs))) [
      | true ↦ λ _. refl
      | false ↦ λ rest. left-some p passes qs rest
    ] some

-- where none passes, none is left
pub left-none : (passes : Position → Bool) (qs : List Position) → list_any passes qs ≡ false → filter passes qs ≡ []
left-none passes [] none = refl
left-none passes (q ∷ qs) none =
    elim (passes q) as (λ v. v || list_any passes qs ≡ false → cond v (q ∷ filter passes qs) (filter passes qs) ≡ []) [
      | true ↦ λ e. absurd (true≢false e)
      | false ↦ λ rest. left-none passes qs rest
    ] none

-- the ending of a history is that of its present position
pub ending-present : (h : List Position) (p : Position) → present h ≡ Some p → ending h ≡ ending_at h p
ending-present h p now = rw now refl

-- a game that goes on has not ended by the rules
pub running-rules : (g : Play) → ending_of g ≡ None → ending g.history ≡ None
unfolding ending_of
running-rules g running = first (ending g.history) (ending_by g.closing (present g.history)) running where
  first : (o x : Option Ending) → option_or o x ≡ None → o ≡ None
  first None x e = refl
  first (Some a) x e = absurd (cc)

-- and no word has closed it
pub running-unclosed : (g : Play) → IsSome (present g.history) → ending_of g ≡ None → g.closing ≡ None
unfolding ending_of
running-unclosed g some running = by_word g.closing (ending g.history) (present g.history) some running where
  by_word : (w : Option Word) (o : Option Ending) (now : Option Position) → IsSome now → option_or o (ending_by w now) ≡ None → w ≡ None
  by_word None o now some e = refl
  by_word (Some w) o None some e = absurd (true≢false (sym some))
  by_word (Some w) None (Some p) some e = absurd (cc)
  by_word (Some w) (Some a) (Some p) some e = absurd (cc)

-- a game that no word has closed ends by the rules
pub unclosed-ending : (h : List Position) (w : Option Word) → w ≡ None → ending h ≡ ending_of (record { history = h; closing = w })
unfolding ending_of
unclosed-ending h w none = sym (rw none (or-none (ending h)))

-- a game that the rules had not ended ends by its word
pub closed-ending : (h : List Position) (p : Position) (w : Word) → present h ≡ Some p → ending h ≡ None → ending_of (record { history = h; closing = Some w }) ≡ Some (closed_by w p.side)
unfolding ending_of
closed-ending h p w now running = ap (λ (o : Option Ending). option_or o (ending_by (Some w) (present h))) running ∙ ap (ending_by (Some w)) now

no_word : (w : Option Word) → w ≡ None → IsSome w → ⊥
no_word None e some = true≢false (sym some)
no_word (Some w) e some = absurd (cc)

is_present : (o : Option Position) (p : Position) → o ≡ Some p → IsSome o
is_present o p e = rw e refl

-- a lawful position more
lawful-more : (h : List Position) (q : Position) → AreLawful h → (0 < length h → (ending h ≡ None) × IsLawful h q) → AreLawful (h ++ q ∷ [])
lawful-more h q each here =
    λ k d low small.
    let Follows : List Position → Position → Type 0 = λ g r. (ending g ≡ None) × IsLawful g r in
    let whole = length-append h (q ∷ []) in
    ⊎_elim
    (λ (before : k < length h).
    let front : take k (h ++ q ∷ []) ≡ take k h = take-append-le k h (q ∷ []) (omega arith) in
    let same : get_or (h ++ q ∷ []) k d ≡ get_or h k d = get_or_append_left h (q ∷ []) d k before in
    subst (λ (g : List Position). Follows g (get_or (h ++ q ∷ []) k d)) (sym front) (subst (Follows (take k h)) (sym same) (each k d low before)))
    (λ (past : length h ≤ k).
    let last : length h ≡ k = omega arith in
    let front : take (length h) (h ++ q ∷ []) ≡ h = take-append_seam h (q ∷ []) in
    let same : get_or (h ++ q ∷ []) (length h) d ≡ q = get_or-append_seam h q [] d in
    subst (λ (n : ℕ). Follows (take n (h ++ q ∷ [])) (get_or (h ++ q ∷ []) n d)) last
    (subst (λ (g : List Position). Follows g (get_or (h ++ q ∷ []) (length h) d)) (sym front) (subst (Follows h) (sym same) (here (omega arith)))))
    (cases_lt k (length h))

-- what a game keeps after a position was added
pub kept-grown : (h new : List Position) (w : Option Word) (q : Position) (o : Option Ending) → new ≡ h ++ q ∷ [] → w ≡ None → All (λ (x : Position). IsFit x.board) h → IsFit q.board → AreLawful h → (0 < length h → (ending h ≡ None) × IsLawful h q) → o ≡ ending_at new q → IsKept (record { history = new; closing = w }) o
kept-grown h new w q o more none fits fit each lawful is =
    let Fits : Position → Type 0 = λ x. IsFit x.board in
    let now : present new ≡ Some q = ap present more ∙ present-push h q in
    record {
      game = record { some = is_present (present new) q now; fit = subst (All Fits) (sym more) (All-push Fits h q fits fit); lawful = subst AreLawful (sym more) (lawful-more h q each lawful); closing = λ some. absurd (no_word w none some) };
      ending = is ∙ (sym (ending-present new q now) ∙ unclosed-ending new w none);
    }

-- what a game keeps at its first position
pub kept-begun : (h new : List Position) (p : Position) (o : Option Ending) → h ≡ [] → new ≡ h ++ p ∷ [] → IsFit p.board → o ≡ ending_at new p → IsKept (record { history = new; closing = None }) o
kept-begun [] new p o e more fit is =
    kept-grown [] new None p o more refl (λ k d small. absurd (omega arith)) fit (λ k d low small. absurd (omega arith)) (λ some. absurd (omega arith)) is
kept-begun (q ∷ h) new p o e more fit is = absurd (cc)

-- nothing where there isn't something
pub not_ended : (o : Option Ending) → is_some o ≡ false → o ≡ None
not_ended None none = refl
not_ended (Some e) none = absurd (true≢false none)

-- what a game keeps after a word has closed it
pub kept-closed : (g : Play) (p : Position) (o : Option Ending) (word : Word) (e : Ending) → present g.history ≡ Some p → IsKept g o → is_some o ≡ false → e ≡ closed_by word p.side → IsKept (record { history = g.history; closing = Some word }) (Some e)
kept-closed g p o word e now kept running is =
    let none : ending g.history ≡ None = running-rules g (sym kept.ending ∙ not_ended o running) in
    record {
      game = record { some = kept.game.some; fit = kept.game.fit; lawful = kept.game.lawful; closing = λ some. none };
      ending = ap Some is ∙ sym (closed-ending g.history p word now none);
    }

-- where there are positions, one of them is present
some-present : (h : List Position) → 0 < length h → IsSome (present h)
some-present [] some = absurd (omega arith)
some-present (p ∷ []) some = refl
some-present (p ∷ q ∷ h) some = some-present (q ∷ h) (omega arith)

-- and where one is present, there are positions
pub present-some : (h : List Position) → IsSome (present h) → 0 < length h
present-some [] some = absurd (true≢false (sym some))
present-some (p ∷ h) some = omega arith

-- the positions before the last are lawful too
lawful-less : (h : List Position) (q : Position) → AreLawful (h ++ q ∷ []) → AreLawful h
lawful-less h q each k d low small =
    let Follows : List Position → Position → Type 0 = λ g r. (ending g ≡ None) × IsLawful g r in
    let whole = length-append h (q ∷ []) in
    let front : take k (h ++ q ∷ []) ≡ take k h = take-append-le k h (q ∷ []) (omega arith) in
    let same : get_or (h ++ q ∷ []) k d ≡ get_or h k d = get_or_append_left h (q ∷ []) d k small in
    subst (λ (g : List Position). Follows g (get_or h k d)) front (subst (Follows (take k (h ++ q ∷ []))) same (each k d low (omega (arith, whole))))

-- before the last position the game went on
before-last : (h : List Position) (q : Position) → 0 < length h → AreLawful (h ++ q ∷ []) → ending h ≡ None
before-last h q some each =
    let whole = length-append h (q ∷ []) in
    subst (λ (g : List Position). ending g ≡ None) (take-append_seam h (q ∷ [])) (each (length h) q some (omega (arith, whole))).0

-- what a game keeps that goes on, once its last position was taken from it
kept-shrunk : (h : List Position) (q : Position) (w : Option Word) (o : Option Ending) → 0 < length h → o ≡ None
    → IsKept (record { history = h ++ q ∷ []; closing = w }) o → IsKept (record { history = h; closing = w }) o
kept-shrunk h q w o some going kept =
    let Fits : Position → Type 0 = λ x. IsFit x.board in
    let running : ending_of (record { history = h ++ q ∷ []; closing = w }) ≡ None = sym kept.ending ∙ going in
    let unclosed : w ≡ None = running-unclosed (record { history = h ++ q ∷ []; closing = w }) kept.game.some running in
    let before : ending h ≡ None = before-last h q some kept.game.lawful in
    record {
      game = record { some = some-present h some; fit = (All-pop Fits (h ++ q ∷ []) h (Some q) refl kept.game.fit).0; lawful = lawful-less h q kept.game.lawful; closing = λ closed. absurd (no_word w unclosed closed) };
      ending = going ∙ (sym before ∙ unclosed-ending h w unclosed);
    }

-- where a position was taken from a game in which a turn stands, it was the last one
last-taken : (h new : List Position) (r : Option Position) → h ≡ new ++ option_to_list r → (IsNone r → h ≡ []) → 1 < length h
    → (q : Position) × (h ≡ new ++ q ∷ []) × (0 < length new)
last-taken h new None is none more = absurd (let size = ap length (none refl) in omega (arith, size))
last-taken h new (Some q) is none more = (q, is, let size = ap length is in omega (arith, size, length-append new (q ∷ [])))

-- a game of two positions or more, by how many turns stand in it
more-than-one : (turns : ℕ) (h : List Position) → turns + 1 ≡ length h → (turns ≡ 0 → ⊥) → 1 < length h
more-than-one zero h counted some = absurd (some refl)
more-than-one (suc turns) h counted some = omega (arith, counted)

-- what holds where the last position was taken from a game that goes on and in which a turn stands
pub record LastTaken (g : Play) (new : List Position) (o : Option Ending) : Type 0 where
  pub last : Position
  pub before : g.history ≡ new ++ last ∷ []
  pub kept : IsKept (record { history = new; closing = g.closing }) o
  pub running : ending_of (record { history = new; closing = g.closing }) ≡ None

pub taken-back : (g : Play) (new : List Position) (r : Option Position) (turns : ℕ) (o : Option Ending) → IsKept g o → is_some o ≡ false
    → turns + 1 ≡ length g.history → (turns ≡ 0 → ⊥) → g.history ≡ new ++ option_to_list r → (IsNone r → g.history ≡ []) → LastTaken g new o
taken-back g new r turns o kept none counted some is empty =
    let taken = last-taken g.history new r is empty (more-than-one turns g.history counted some) in
    let going : o ≡ None = not_ended o none in
    let whole = subst (λ (h : List Position). IsKept (record { history = h; closing = g.closing }) o) taken.1 kept in
    let shrunk = kept-shrunk new taken.0 g.closing o taken.2 going whole in
    record { last = taken.0; before = taken.1; kept = shrunk; running = sym shrunk.ending ∙ going }
