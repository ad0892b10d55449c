-- The tests of keys are those of positions.
use Rattle.std.proofs.Common.{◌≡◌, Bool, true, false, refl, sym, ◌∙◌, ap, subst}
use Rattle.std.specs.Ordering.{is_eq, bool_cmp, nat_cmp}
use Rattle.std.specs.Cmp.{Equal-is, bool_cmp_total}
use Rattle.std.specs.Cmp.Lexicographic.{slice_cmp}
use Rattle.std.specs.Bool.{Decides, beq}
use Rattle.std.proofs.lemmas.Bool.Decides.{Decides-and, Decides-like, same_from_decides}
use Rattle.std.proofs.lemmas.Slice.Eq.{bytes_eq-Decides}
use Rattle.std.proofs.lemmas.Cmp.{nat_list_cmp_total, tied_itself}
use Rattle.std.proofs.lemmas.Map.Lookups.{CmpEqualImpliesEq, exact_bytes, exact_pairs}
use Rattle.arimaa_board.specs.declared.position.Position.{Position}
use Rattle.arimaa_model.specs.Results.{same_position}
use Rattle.arimaa_model.proofs.Lemmas.Positions.{same_position-Decides}
use Rattle.arimaa_history.specs.declared.key.Key.{Key}
use Rattle.arimaa_history.specs.Keys.{key_of, position_at}
use Rattle.arimaa_history.specs.Counts.{order_of, same_key}

exact_bools : CmpEqualImpliesEq bool_cmp
exact_bools true true e = refl
exact_bools false false e = refl
exact_bools true false e = cc
exact_bools false true e = cc

-- the order of keys tells all keys apart
pub order-Decides : (j k : Key) → Decides (is_eq (order_of j k)) (j ≡ k)
order-Decides j k = (
  λ tied. let parts : (j.planes, j.gold) ≡ (k.planes, k.gold) = exact_pairs (slice_cmp nat_cmp) bool_cmp exact_bytes exact_bools (j.planes, j.gold) (k.planes, k.gold) ((Equal-is (order_of j k)).0 tied) in
      λ i. record { planes = (parts i).0; gold = (parts i).1 },
  λ e. subst (λ (x : Key). is_eq (order_of j x) ≡ true) e (itself j),
) where
  itself : (k : Key) → is_eq (order_of k k) ≡ true
  itself k = rw (tied_itself nat_list_cmp_total k.planes, tied_itself bool_cmp_total k.gold) refl

-- and so does their equality
pub same-Decides : (j k : Key) → Decides (same_key j k) (j ≡ k)
same-Decides j k =
    Decides-like (same_key j k)
    (λ parts i. record { planes = parts.0 i; gold = parts.1 i })
    (λ e. (ap (λ (x : Key). x.planes) e, ap (λ (x : Key). x.gold) e))
    (Decides-and _ _ (bytes_eq-Decides j.planes k.planes) (bools j.gold k.gold)) where
      bools : (a b : Bool) → Decides (beq a b) (a ≡ b)
      bools true true = (λ _. refl, λ _. refl)
      bools false false = (λ _. refl, λ _. refl)
      bools true false = (λ e. cc, λ e. cc)
      bools false true = (λ e. cc, λ e. cc)

-- a test of keys, at positions that come back from their keys, is the test whether these are the same
same_test : (test : Key → Key → Bool) → ((j k : Key) → Decides (test j k) (j ≡ k)) → (p q : Position) → position_at (key_of p) ≡ p → position_at (key_of q) ≡ q → test (key_of p) (key_of q) ≡ same_position q p
same_test test decides p q p_back q_back =
    let keys = decides (key_of p) (key_of q) in
    let at_positions : Decides (test (key_of p) (key_of q)) (q ≡ p) =
    Decides-like (test (key_of p) (key_of q)) (λ (e : key_of p ≡ key_of q). sym q_back ∙ (ap position_at (sym e) ∙ p_back)) (λ (e : q ≡ p). ap key_of (sym e)) keys in
    same_from_decides (test (key_of p) (key_of q)) (same_position q p) at_positions (same_position-Decides q p)

pub tied_keys : (p q : Position) → position_at (key_of p) ≡ p → position_at (key_of q) ≡ q → is_eq (order_of (key_of p) (key_of q)) ≡ same_position q p
tied_keys = same_test (λ j k. is_eq (order_of j k)) order-Decides

pub same_keys : (p q : Position) → position_at (key_of p) ≡ p → position_at (key_of q) ≡ q → same_key (key_of p) (key_of q) ≡ same_position q p
same_keys = same_test same_key same-Decides

-- the same, with the positions in the order of their keys
pub keys_same : (p q : Position) → position_at (key_of p) ≡ p → position_at (key_of q) ≡ q
    → same_key (key_of p) (key_of q) ≡ same_position p q
keys_same p q p_back q_back =
    let turned : Decides (same_position q p) (p ≡ q) =
    Decides-like (same_position q p) (λ (e : q ≡ p). sym e) (λ (e : p ≡ q). sym e) (same_position-Decides q p) in
    same_keys p q p_back q_back
    ∙ same_from_decides (same_position q p) (same_position p q) turned (same_position-Decides p q)
