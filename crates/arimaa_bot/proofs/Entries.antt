-- The first entry of a strategy.
use Rattle.std.proofs.Common.{◌≡◌, ◌∙◌, ◌<◌, ℕ, suc, arith, List, [], ◌∷◌, length, map, get_or, Option, None, Some, Result, Ok, Err, true, true≢false, is_none, is_some, inl, refl, sym, ap}
use Rattle.std.specs.Prelude.{IfOk, slice_get}
use Rattle.std.specs.List.{filter}
use Rattle.arimaa_board.specs.declared.position.Position.{Position}
use Rattle.arimaa_board.specs.declared.turn.NotedStep.{NotedStep}
use Rattle.arimaa_board.specs.NotedTurns.{noted_turn}
use Rattle.arimaa_board.specs.ColorLaws.{same_color-refl}
use Rattle.arimaa_forced.specs.declared.entry.Entry.{Entry}
use Rattle.arimaa_forced.specs.Entries.{entry_with_marks}
use Rattle.arimaa_model.specs.DecidedPositions.{decided}
use Rattle.arimaa_model.specs.Strategies.{Planned, entry_of, first_met, positions_met, strategy_of}
use Rattle.arimaa_model.specs.Wins.{wins}
use Rattle.arimaa_model.proofs.Lemmas.Meeting.{first-met}
use Rattle.arimaa_model.proofs.Lemmas.Members.{In, filter-In}

some_first : (f : Position → Planned) (p : Position) (ps : List Position) → In p ps → (e : Planned) × (slice_get (map f ps) 0 ≡ Some e)
some_first f p [] i = absurd i
some_first f p (q ∷ ps) i = (f q, refl)

-- the strategy of an undecided position that its side wins has a first entry
pub first_of : (barred : List Position) (n : ℕ) (p : Position) → decided p ≡ None → wins p.side barred n p ≡ true → (e : Planned) × (slice_get (strategy_of p.side barred n p) 0 ≡ Some e)
unfolding strategy_of
first_of barred n p open_yet won =
    let passes : is_none (decided p) ≡ true = rw open_yet refl in
    let there : In p (filter (λ q. is_none (decided q)) (p ∷ [])) = filter-In (λ q. is_none (decided q)) p (p ∷ []) (inl refl) passes in
    let first : In p (first_met p.side barred p) = rw (same_color-refl p.side) there in
    some_first (entry_of p.side barred n) p (positions_met p.side barred n p n) (first-met p.side barred n p won n p first)

-- the first entry as it is written
pub first_written : (s : List Entry) (entries : List Planned) (e : Planned) (first : Entry) → s ≡ map entry_with_marks entries → slice_get entries 0 ≡ Some e → first ≡ get_or s 0 first → first ≡ entry_with_marks e
first_written s [] e first same is here = cc
first_written s (x ∷ xs) e first same is here =
    let x_is : x ≡ e = cc in
    here ∙ (ap (λ (l : List Entry). get_or l 0 first) same ∙ ap entry_with_marks x_is)

-- entries that begin with one are some
pub some_entries : (s : List Entry) (entries : List Planned) (e : Planned) → s ≡ map entry_with_marks entries → slice_get entries 0 ≡ Some e → (0 < length s)
some_entries s [] e same is = cc
some_entries s (x ∷ xs) e same is = rw same (omega arith)

-- a turn has as many steps with its marks
pub length-noted : (noted : List NotedStep) → length (noted_turn noted) ≡ length noted
length-noted [] = refl
length-noted (n ∷ noted) = ap suc (length-noted noted)

-- a value, where there is one
pub some_value : {X : Type 0} (o : Option X) → is_some o ≡ true → (x : X) × (o ≡ Some x)
some_value None e = absurd (true≢false (sym e))
some_value (Some x) e = (x, refl)

-- what follows of a value, where a call gave one
pub ok_then : {X E : Type 0} (r : Result X E) (P Q : X → Type 0) → IfOk r P → ((x : X) → P x → Q x) → IfOk r Q
ok_then (Ok x) P Q h f = f x h
ok_then (Err e) P Q h f = tt
