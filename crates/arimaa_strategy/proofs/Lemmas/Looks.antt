-- A look through the replies to a position.
use Rattle.std.proofs.Common.{◌≡◌, ℕ, suc, ◌+◌, ◌<◌, ◌≤◌, max, List, ◌∷◌, length, take, drop, get_or, refl, sym, ◌∙◌, ap, arith, Option, None, Some, length-take, length-drop, drop-cons}
use Rattle.std.specs.List.{slice_get}
use Rattle.std.specs.Option.{option_map}
use Rattle.std.proofs.lemmas.List.{get_or-take, get_or-drop, drop_all}
use Rattle.std.proofs.lemmas.Option.{get_or_from_slice_get}
use Rattle.arimaa_board.specs.declared.piece.Color.{Color}
use Rattle.arimaa_board.specs.declared.position.Position.{Position}
use Rattle.arimaa_model.specs.Strategies.{Planned}
use Rattle.arimaa_strategy.specs.Findings.{raised, covered_rank, replies_rank}

max_zero : (o : Option ℕ) → option_map (λ k. max 0 k) o ≡ o
max_zero None = refl
max_zero (Some k) = ap Some (omega arith)

raised_max : (t r : ℕ) (o : Option ℕ) → option_map (λ k. max t k) (raised (Some r) o) ≡ option_map (λ k. max (max t (r + 1)) k) o
raised_max t r None = refl
raised_max t r (Some k) = ap Some (omega arith)

-- the elements of a part of a list
module _ {X : Type 0} (live seg : List X) (first count k : ℕ) (cut : take count (drop first live) ≡ seg) (size : count ≡ length seg) (less : k < count) where
  pub in_live : first + k < length live
  in_live = omega (arith, ap length cut, length-take count (drop first live), length-drop first live)

  pub next_of : (x : X) → slice_get live (first + k) ≡ Some x → drop k seg ≡ x ∷ drop (k + 1) seg
  next_of x at =
      let element : get_or seg k x ≡ x =
      ap (λ (l : List X). get_or l k x) (sym cut) ∙ (get_or-take count (drop first live) k x less ∙ (get_or-drop first live k x ∙ get_or_from_slice_get live (first + k) x x at)) in
      let one : suc k ≡ k + 1 = omega arith in
      drop-cons seg k x (omega arith) ∙ λ i. element i ∷ drop (one i) seg

module _ (a : Color) (s : List Planned) where
  -- the replies from one on are left, and the ranks before it are at most this
  abbrev pub Midst : List Position → ℕ → ℕ → Type 0
  Midst seg k top = option_map (λ n. max top n) (replies_rank a s (drop k seg)) ≡ replies_rank a s seg

  pub midst_start : (seg : List Position) → Midst seg 0 0
  midst_start seg = max_zero (replies_rank a s seg)

  pub midst_more : (seg : List Position) (k top rank : ℕ) (q : Position) → Midst seg k top → drop k seg ≡ q ∷ drop (k + 1) seg → covered_rank a s q ≡ Some rank → Midst seg (k + 1) (max top (rank + 1))
  midst_more seg k top rank q h next covered =
      sym (ap (λ (l : List Position). option_map (λ n. max top n) (replies_rank a s l)) next
      ∙ (ap (λ (o : Option ℕ). option_map (λ n. max top n) (raised o (replies_rank a s (drop (k + 1) seg)))) covered ∙ raised_max top rank (replies_rank a s (drop (k + 1) seg))))
      ∙ h

  pub midst_open : (seg : List Position) (k top : ℕ) (q : Position) → Midst seg k top → drop k seg ≡ q ∷ drop (k + 1) seg → covered_rank a s q ≡ None → None ≡ replies_rank a s seg
  midst_open seg k top q h next open_reply =
      sym (ap (λ (l : List Position). option_map (λ n. max top n) (replies_rank a s l)) next
      ∙ ap (λ (o : Option ℕ). option_map (λ n. max top n) (raised o (replies_rank a s (drop (k + 1) seg)))) open_reply)
      ∙ h

  pub midst_end : (seg : List Position) (k top : ℕ) → Midst seg k top → length seg ≤ k → Some top ≡ replies_rank a s seg
  midst_end seg k top h all =
      let zero_more : max top 0 ≡ top = omega arith in
      sym (ap Some zero_more) ∙ (sym (ap (λ (l : List Position). option_map (λ n. max top n) (replies_rank a s l)) (drop_all k seg all)) ∙ h)
