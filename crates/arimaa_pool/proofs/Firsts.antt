-- The first position of a list that ends a look.
use Rattle.std.proofs.Common.{◌≡◌, ℕ, ◌+◌, ◌≤◌, List, [], ◌∷◌, length, drop, Some, Bool, true, false, cond, not, inl, inr, refl, sym, ◌∙◌, ap, arith}
use mathlib.Core.Bool.{beq}
use Rattle.std.specs.List.{slice_get, find}
use Rattle.std.proofs.Math.ListN.{drop_of_length-le}
use Rattle.std.proofs.lemmas.List.{drop_more}
use Rattle.std.proofs.lemmas.Option.{get_or_from_slice_get, slice_get_within}
use Rattle.arimaa_board.specs.declared.piece.Color.{Color}
use Rattle.arimaa_board.specs.Board.{same_color}
use Rattle.arimaa_board.specs.declared.position.Position.{Position}
use Rattle.arimaa_model.specs.Results.{next}
use Rattle.arimaa_model.specs.Wins.{wins}
use Rattle.arimaa_model.proofs.Lemmas.Members.{In}
use Rattle.arimaa_forced.specs.Search.{up_to, is_decisive, first_decisive, looked_at}
use Rattle.arimaa_region.specs.Segments.{live_of}

-- the list has one segment, whose positions these are
pub one_segment : {X : Type 0} (segments : List (List X)) (qs : List X) → segments ≡ qs ∷ [] → live_of segments ≡ qs
one_segment segments qs is = ap live_of is

-- the place that is looked at is the first of those left
pub first_left : {X : Type 0} (segments : List (List X)) (qs : List X) (place : ℕ) (x : X) → segments ≡ qs ∷ [] → slice_get (live_of segments) place ≡ Some x → drop place qs ≡ x ∷ drop (place + 1) qs
first_left segments qs place x is there =
    let here : slice_get qs place ≡ Some x = ap (λ l. slice_get l place) (sym (one_segment segments qs is)) ∙ there in
    drop_more qs place x (slice_get_within qs place x here) ∙ ap (λ y. y ∷ drop (place + 1) qs) (get_or_from_slice_get qs place x x here)

pub none_left : {X : Type 0} (segments : List (List X)) (qs : List X) (place end : ℕ) → segments ≡ qs ∷ [] → end ≡ length (live_of segments) → end ≤ place → drop place qs ≡ []
none_left segments qs place end is all past = let same : end ≡ length qs = all ∙ ap length (one_segment segments qs is) in drop_of_length-le qs (omega arith)

module _ (a : Color) (barred : List Position) (n : ℕ) (p : Position) where
  abbrev ends : Position → Bool
  ends = is_decisive a barred n p

  -- these next positions are left, and no earlier one is decisive
  pub record Left (rest : List Position) : Type 0 where
    pub first : find ends rest ≡ first_decisive a barred n p
    pub looked : (q : Position) → In q (up_to ends rest) → In q (looked_at a barred n p)

  pub left-start : Left (next barred p)
  left-start = record { first = refl; looked = λ q i. i }

  pub left-more : (q : Position) (rest : List Position) → Left (q ∷ rest) → ends q ≡ false → Left rest
  left-more q rest l goes = record {
    first = sym (ap (λ v. cond v (Some q) (find ends rest)) goes) ∙ l.first;
    looked = λ x i. l.looked x (inr (rw goes i));
  }

  pub left-here : (q : Position) (rest : List Position) → Left (q ∷ rest) → ends q ≡ true → Some q ≡ first_decisive a barred n p
  left-here q rest l stops = sym (ap (λ v. cond v (Some q) (find ends rest)) stops) ∙ l.first

  pub left-looked : (q : Position) (rest : List Position) → Left (q ∷ rest) → In q (looked_at a barred n p)
  left-looked q rest l = l.looked q (inl refl)

  -- where the attacker is to move, what he wins is decisive
  pub own-ends : (q : Position) (v : Bool) → same_color p.side a ≡ true → wins a barred n q ≡ v → ends q ≡ v
  own-ends q v own is = (λ i. cond (own i) (wins a barred n q) (not (wins a barred n q))) ∙ is

  -- the verdict that was heard is decisive just where it is the one that the side to move wants
  pub heard-ends : (q : Position) (own won : Bool) (v : Bool) → own ≡ same_color p.side a → won ≡ wins a barred n q → beq won own ≡ v → ends q ≡ v
  heard-ends q own won v mine heard is = (λ i. cond (sym mine i) (sym heard i) (not (sym heard i))) ∙ (by own won ∙ is) where
    by : (own won : Bool) → cond own won (not won) ≡ beq won own
    by true true = refl
    by true false = refl
    by false true = refl
    by false false = refl
