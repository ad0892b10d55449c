-- What those know of true lines who do not look into them.
use Rattle.std.proofs.Common.{Some, ◌↔◌, ◌∙◌, ◌≡◌, ◌≤◌, List, get_or, sym, ap, subst, arith, refl, inl, inr}
use Rattle.std.proofs.lemmas.Option.{same_Some}
use Rattle.arimaa_board.specs.Words.{squares_of, words_of}
use Rattle.arimaa_board.specs.declared.piece.Color.{Color}
use Rattle.arimaa_board.specs.declared.position.Position.{Position}
use Rattle.arimaa_line.specs.declared.bounds.Bounds.{Bounds}
use Rattle.arimaa_line.specs.declared.line.Line.{Line}
use Rattle.arimaa_line.specs.Bounds.{AreTrueBounds}
use Rattle.arimaa_line.specs.Words.{bounds_of}
use Rattle.arimaa_line.specs.Lines.{empty_line, stamp_of, IsLineOf, Says, IsTrueLine, IsLine, LosesNoBound}
use Rattle.arimaa_line.proofs.Decoding.{board_words, bounds_say, says_once}
use Rattle.arimaa_line.proofs.Tightening.{keeps_all}

module _ (side : Color) (barred : List Position) where
  -- the empty line is true
  pub empty_is_true : IsTrueLine side barred empty_line
  unfolding IsTrueLine
  empty_is_true = inl refl

  -- a line of right bounds is true
  pub says_truth : (l : Line) (k : Bounds) → IsLineOf l k → AreTrueBounds side barred k → IsTrueLine side barred l
  unfolding IsTrueLine
  says_truth l k says right = inr (k, says, right)

  -- a true line without a stamp is the empty one
  pub stampless : (l : Line) → IsTrueLine side barred l → stamp_of l ≡ 0 → empty_line ≡ l
  unfolding IsTrueLine
  stampless l (inl blank) none = sym blank
  stampless l (inr t) none = let some : 1 ≤ stamp_of l = t.1.stamp in absurd (omega arith)

  -- a true line is a line
  pub true_is_line : (l : Line) → IsTrueLine side barred l → IsLine l
  unfolding IsTrueLine IsLine
  true_is_line l (inl blank) = inl blank
  true_is_line l (inr t) = inr (t.0, t.1)

  -- what a true line says is right
  pub truth_said : (l : Line) (k : Bounds) → IsTrueLine side barred l → IsLineOf l k → AreTrueBounds side barred k
  unfolding IsTrueLine
  truth_said l k (inl blank) says = let none : stamp_of l ≡ 0 = ap stamp_of blank in let some : 1 ≤ stamp_of l = says.stamp in absurd (omega arith)
  truth_said l k (inr t) says = subst (AreTrueBounds side barred) (says_once l t.0 k t.1 says) t.2

-- what a line says itself loses none of its bounds
pub loses_none-same : (l : Line) (k : Bounds) → IsLineOf l k → LosesNoBound l k
loses_none-same l k says j said same = keeps_all j k (says_once l j k said says)

-- what is said by a line of bounds that lose nothing loses nothing
pub loses_none-said : (old new : Line) (k : Bounds) → IsLineOf new k → LosesNoBound old k → (j : Bounds) → IsLineOf new j → LosesNoBound old j
loses_none-said old new k says keeps j said = subst (LosesNoBound old) (says_once new k j says said) keeps

-- what is read by the words of a position is what the line says, and is on that position
pub says_there : (l : Line) (p : Position) (b : Bounds) → IsLine l → 1 ≤ stamp_of l → board_words l ≡ words_of p.board → squares_of (words_of p.board) ≡ p.board
    → b ≡ bounds_of p.board (get_or l.words 4 0) → b.position.side ≡ p.side → Says l p b
unfolding IsLine
says_there l p b (inl blank) some same back is side = let none : stamp_of l ≡ 0 = ap stamp_of blank in absurd (omega arith)
says_there l p b (inr t) some same back is side =
    let board : squares_of (board_words l) ≡ p.board = ap squares_of same ∙ back in
    let read : b ≡ t.0 = is ∙ ((λ i. bounds_of (sym board i) (get_or l.words 4 0)) ∙ bounds_say l t.0 t.1) in
    let here : b.position.board ≡ p.board = ap (λ (k : Bounds). k.position.board) is in
    (subst (IsLineOf l) (sym read) t.1, λ i. record { board = here i; side = side i })

-- it says nothing else
pub says_only : (l : Line) (p : Position) (b : Bounds) → Says l p b → (k : Bounds) → (Some b ≡ Some k) ↔ Says l p k
says_only l p b says k = (λ e. subst (Says l p) (same_Some b k e) says, λ other. ap Some (says_once l b k says.0 other.0))
