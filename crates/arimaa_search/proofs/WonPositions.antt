-- Lists that end at a position which the side to move has won: that position is decisive.
use Rattle.std.proofs.Common.{◌≡◌, ℕ, ◌≤◌, ◌||◌, List, [], ◌∷◌, ◌++◌, length, drop, None, Some, Bool, true, false, cond, not, refl, sym, ◌∙◌, ap, arith, true≢false}
use Rattle.std.specs.List.{list_any}
use Rattle.std.specs.Option.{option_map_or}
use Rattle.std.proofs.lemmas.Bool.{false≢true, false_from_ne_true}
use Rattle.arimaa_board.specs.declared.piece.Color.{Color}
use Rattle.arimaa_board.specs.declared.piece.Color.TheVariants.{Gold, Silver}
use Rattle.arimaa_board.specs.Board.{same_color}
use Rattle.arimaa_board.specs.declared.position.Position.{Position}
use Rattle.arimaa_board.specs.declared.ending.Ending.{Ending}
use Rattle.arimaa_model.specs.DecidedPositions.{decided}
use Rattle.arimaa_model.specs.Results.{next}
use Rattle.arimaa_model.specs.Wins.{wins}
use Rattle.arimaa_model.proofs.Lemmas.WinsLaws.{wins-decided}
use Rattle.arimaa_forced.specs.Search.{is_decisive}
use Rattle.arimaa_results.specs.ListsToWin.{is_won_by}
use Rattle.arimaa_search.specs.Traces.{GoesPast}

-- what the side to move has won is decisive, for the attacker and against it
own_win : (winner side a : Color) → same_color winner side ≡ true → cond (same_color side a) (same_color winner a) (not (same_color winner a)) ≡ true
own_win Gold Gold Gold e = refl
own_win Gold Gold Silver e = refl
own_win Gold Silver a e = absurd (false≢true e)
own_win Silver Gold a e = absurd (false≢true e)
own_win Silver Silver Gold e = refl
own_win Silver Silver Silver e = refl

won_decisive : (a : Color) (barred : List Position) (n : ℕ) (p q : Position) → is_won_by p.side q ≡ true → is_decisive a barred n p q ≡ true
won_decisive a barred n p q won =
    elim (decided q) as (λ o. decided q ≡ o → option_map_or (λ (e : Ending). same_color e.winner p.side) o false ≡ true → is_decisive a barred n p q ≡ true) [
      | None ↦ λ _ none. absurd (false≢true none)
      | Some e ↦ λ is own.
          (let heard : wins a barred n q ≡ same_color e.winner a = wins-decided a barred q n e is in
          (λ i. cond (same_color p.side a) (heard i) (not (heard i))) ∙ own_win e.winner p.side a own)
    ] refl won

-- a list none of whose elements passes a test has none that passes a narrower one
any_narrower : {X : Type 0} (f g : X → Bool) → ((x : X) → f x ≡ true → g x ≡ true) → (xs : List X) → list_any g xs ≡ false → list_any f xs ≡ false
any_narrower f g narrower [] none = refl
any_narrower f g narrower (x ∷ xs) none =
    elim (g x) as (λ v. g x ≡ v → (v || list_any g xs) ≡ false → (f x || list_any f xs) ≡ false) [
      | true ↦ λ _ some. absurd (true≢false some)
      | false ↦ λ fails later.
          (let here : f x ≡ false = false_from_ne_true (f x) (λ e. true≢false (sym (narrower x e) ∙ fails)) in
          ap (λ v. v || list_any f xs) here ∙ any_narrower f g narrower xs later)
    ] refl none

-- where the look went past the first of a part, and the rest of the part has no decisive position, the part has none that is won
pub none_won : (a : Color) (barred : List Position) (n : ℕ) (p reply : Position) (part rest : List Position) → GoesPast a barred n p reply → next barred p ≡ part ++ rest
    → list_any (is_decisive a barred n p) (drop 1 part) ≡ false → list_any (is_won_by p.side) part ≡ false
none_won a barred n p reply [] rest past is none = refl
none_won a barred n p reply (x ∷ xs) rest past is none =
    let both : x ∷ (xs ++ rest) ≡ reply ∷ drop 1 (next barred p) = sym is ∙ past.0 in
    let first : x ≡ reply = cc in
    let goes : is_decisive a barred n p x ≡ false = ap (is_decisive a barred n p) first ∙ past.1 in
    any_narrower (is_won_by p.side) (is_decisive a barred n p) (won_decisive a barred n p) (x ∷ xs) (ap (λ v. v || list_any (is_decisive a barred n p) xs) goes ∙ none)

-- a part after its first element, and the rest
pub after_part : {X : Type 0} (part rest whole : List X) → whole ≡ part ++ rest → 1 ≤ length part → drop 1 part ++ rest ≡ drop 1 whole
after_part [] rest whole is some = absurd (omega arith)
after_part (x ∷ xs) rest whole is some = sym (ap (drop 1) is)
