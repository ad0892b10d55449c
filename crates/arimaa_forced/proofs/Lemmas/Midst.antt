-- A look through the next positions of p, in its midst: what a loop over them keeps.
use Rattle.std.proofs.Common.{◌≡◌, ℕ, suc, ◌+◌, ◌≤◌, List, [], ◌∷◌, length, None, Bool, true, false, cond, not, inl, inr, refl, sym, ◌∙◌, arith}
use Rattle.std.proofs.lemmas.Bool.{not-true}
use Rattle.arimaa_board.specs.declared.piece.Color.{Color}
use Rattle.arimaa_board.specs.Board.{same_color}
use Rattle.arimaa_board.specs.declared.position.Position.{Position}
use Rattle.arimaa_model.specs.DecidedPositions.{decided}
use Rattle.arimaa_model.specs.Results.{next}
use Rattle.arimaa_model.specs.Wins.{wins, wins_among}
use Rattle.arimaa_model.proofs.Lemmas.Members.{In}
use Rattle.arimaa_forced.specs.Search.{up_to, sum_to, largest, is_decisive, looked_at, cost, crowd}
use Rattle.arimaa_forced.proofs.Lemmas.Deeper.{among-none, wins-open, cost-deeper, crowd-deeper}

-- the end of a look, by whether the attacker is to move
among-end : (own : Bool) (won : Position → Bool) (q : Position) (qs : List Position) → cond own (won q) (not (won q)) ≡ true → wins_among own won (q ∷ qs) ≡ own
among-end true won q qs ends = rw ends refl
among-end false won q qs ends = rw (not-true (won q) ends) refl

among-more : (own : Bool) (won : Position → Bool) (q : Position) (qs : List Position) → cond own (won q) (not (won q)) ≡ false → wins_among own won (q ∷ qs) ≡ wins_among own won qs
among-more true won q qs goes = rw goes refl
among-more false won q qs goes = rw (won_here (won q) goes) refl where
  won_here : (v : Bool) → not v ≡ false → v ≡ true
  won_here true e = refl
  won_here false e = cc

module _ (a : Color) (barred : List Position) (n : ℕ) (p : Position) where
  abbrev own : Bool
  own = same_color p.side a

  abbrev ends : Position → Bool
  ends = is_decisive a barred n p

  -- these next positions are left, and of a budget this much: the rest decides as all do, and all need what was spent and what the rest needs
  pub record Midst (rest : List Position) (began left : ℕ) : Type 0 where
    pub falls : left ≤ began
    pub verdict : wins_among own (wins a barred n) rest ≡ wins_among own (wins a barred n) (next barred p)
    pub spent : began + sum_to ends (cost a barred n) rest ≤ left + sum_to ends (cost a barred n) (next barred p)
    pub wide : largest (crowd barred n) rest ≤ largest (crowd barred n) (next barred p)
    pub looked : (q : Position) → In q (up_to ends rest) → In q (looked_at a barred n p)

  pub midst-start : (began : ℕ) → Midst (next barred p) began began
  midst-start began = record { falls = omega arith; verdict = refl; spent = omega arith; wide = omega arith; looked = λ q i. i }

  -- the first of the rest is looked at
  pub midst-here : (q : Position) (rest : List Position) (began left : ℕ) → Midst (q ∷ rest) began left → In q (looked_at a barred n p)
  midst-here q rest began left m = m.looked q (inl refl)

  -- it is not decisive, and cost what it does at most
  pub midst-more : (q : Position) (rest : List Position) (began left after : ℕ) → Midst (q ∷ rest) began left → after ≤ left → left ≤ after + cost a barred n q → ends q ≡ false → Midst rest began after
  midst-more q rest began left after m falls paid goes =
      let sum : sum_to ends (cost a barred n) (q ∷ rest) ≡ cost a barred n q + sum_to ends (cost a barred n) rest = rw goes refl in
      let falls_before = m.falls in
      let spent = m.spent in
      let wide = m.wide in
      record {
        falls = omega arith;
        verdict = sym (among-more own (wins a barred n) q rest goes) ∙ m.verdict;
        spent = omega arith;
        wide = omega arith;
        looked = λ x i. m.looked x (inr (rw goes i));
      }

  -- it is decisive: the side to move decides
  pub midst-decisive : (q : Position) (rest : List Position) (began left : ℕ) → Midst (q ∷ rest) began left → decided p ≡ None → ends q ≡ true → wins a barred (suc n) p ≡ own
  midst-decisive q rest began left m undecided stops = wins-open a barred p n undecided ∙ (sym m.verdict ∙ among-end own (wins a barred n) q rest stops)

  -- none was decisive: the other side decides
  pub midst-end : (began left : ℕ) → Midst [] began left → decided p ≡ None → wins a barred (suc n) p ≡ not own
  midst-end began left m undecided = wins-open a barred p n undecided ∙ (sym m.verdict ∙ among-none own (wins a barred n))

  -- what was spent is within the cost of the question, itself counted
  pub midst-paid : (q : Position) (rest : List Position) (began left after : ℕ) → Midst (q ∷ rest) began left → decided p ≡ None → left ≤ after + cost a barred n q → began + 1 ≤ after + cost a barred (suc n) p
  midst-paid q rest began left after m undecided paid =
      let whole = cost-deeper a barred p n undecided in
      let spent = m.spent in
      omega arith

  pub midst-all_paid : (began left : ℕ) → Midst [] began left → decided p ≡ None → began + 1 ≤ left + cost a barred (suc n) p
  midst-all_paid began left m undecided = let whole = cost-deeper a barred p n undecided in let spent = m.spent in omega arith

  -- a question too dear or too wide for the rest is so for p
  pub midst-dear : (q : Position) (rest : List Position) (began left : ℕ) → Midst (q ∷ rest) began left → decided p ≡ None → suc left ≤ cost a barred n q → suc (began + 1) ≤ cost a barred (suc n) p
  midst-dear q rest began left m undecided dear = let whole = cost-deeper a barred p n undecided in let spent = m.spent in omega arith

  pub midst-wide : (q : Position) (rest : List Position) (began left : ℕ) → Midst (q ∷ rest) began left → decided p ≡ None → length (next barred p) + crowd barred n q ≤ crowd barred (suc n) p
  midst-wide q rest began left m undecided = let whole = crowd-deeper barred p n undecided in let wide = m.wide in omega arith
