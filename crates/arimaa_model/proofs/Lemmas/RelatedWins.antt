-- The tests on goals, lawful results and wins decide their relations.
use Rattle.std.proofs.Common.{◌≡◌, ℕ, zero, suc, ◌+◌, ◌≤◌, List, [], ◌∷◌, Bool, true, false, Option, None, Some, refl, sym, ◌∙◌, inl, inr, ⊎_elim, nat_le}
use Rattle.std.specs.Prelude.{◌≢◌}
use Rattle.std.specs.Bool.{Decides}
use Rattle.std.specs.List.{range_with_len}
use Rattle.std.proofs.lemmas.Bool.{true≢false, leb-true, le-leb}
use Rattle.std.proofs.lemmas.Bool.Decides.{Decides-not}
use Rattle.arimaa_board.specs.declared.piece.Color.{Color}
use Rattle.arimaa_board.specs.declared.piece.Kind.TheVariants.{Rabbit}
use Rattle.arimaa_board.specs.declared.board.Board.{Board}
use Rattle.arimaa_board.specs.declared.position.Position.{Position}
use Rattle.arimaa_board.specs.Piece.{piece_of}
use Rattle.arimaa_board.specs.Board.{at, holds, same_color}
use Rattle.arimaa_board.specs.declared.ending.Ending.{Ending}
use Rattle.arimaa_model.specs.DecidedPositions.{decided, is_home, goal_start}
use Rattle.arimaa_model.specs.Results.{results, next, stands_in}
use Rattle.arimaa_model.specs.Members.{Stands}
use Rattle.arimaa_model.specs.Game.{count_in, lawful_at}
use Rattle.arimaa_model.specs.Wins.{wins, wins_among, settled_for}
use Rattle.arimaa_model.specs.Winning.{Wins, WinsFrom, IsForced}
use Rattle.arimaa_model.specs.Relations.{IsHome}
use Rattle.arimaa_model.proofs.Lemmas.Members.{In-filter, filter-In, any-In, In-any, all-In, In-all}
use Rattle.arimaa_model.proofs.Lemmas.Positions.{stands-In, In-stands}
use Rattle.arimaa_board.specs.ColorLaws.{same_color-Decides}
use Rattle.arimaa_model.proofs.Lemmas.RelatedMoves.{holds-Decides}
use Rattle.arimaa_model.proofs.Home.{is_home-found}
use Rattle.arimaa_model.proofs.Lemmas.Listed.{range-In}

pub home-Decides : (b : Board) (c : Color) → Decides (is_home b c) (IsHome b c)
unfolding is_home
home-Decides b c = (
  λ h.
      let test : ℕ → Bool = λ k. holds (piece_of c Rabbit) (at b (goal_start c + k)) in
      let found = any-In test (range_with_len 0 8) h in
      (found.0, (range-In 0 8 found.0 found.1).1, (holds-Decides (piece_of c Rabbit) (at b (goal_start c + found.0))).0 found.2),
  λ h. is_home-found b c h.0 h.1 ((holds-Decides (piece_of c Rabbit) (at b (goal_start c + h.0))).1 h.2),
)

pub lawful-Decides : (h : List Position) (p q : Position) → Decides (stands_in (lawful_at h p) q) (Stands (results p) q × (count_in h q ≤ 1))
lawful-Decides h p q =
    let few : Position → Bool = λ x. nat_le (count_in h x) 1 in (
      λ stands. let parts = In-filter few q (results p) (stands-In (lawful_at h p) q stands) in (In-stands (results p) q parts.0, leb-true (count_in h q) 1 parts.1),
      λ both. In-stands (lawful_at h p) q (filter-In few q (results p) (stands-In (results p) q both.0) (le-leb (count_in h q) 1 both.1)),
    )

module _ (a : Color) where
  from-Decides : (p : Position) (o : Option Ending) (qs : List Position) (deeper : Bool) (Else : Type 0) → Decides deeper Else → Decides (settled_for a p o qs deeper) (WinsFrom a p o qs Else)
  from-Decides p (Some e) qs deeper Else d = same_color-Decides e.winner a
  from-Decides p None [] deeper Else d = Decides-not (same_color p.side a) (same_color-Decides p.side a)
  from-Decides p None (q ∷ qs) deeper Else d = d

  module _ (won : Position → Bool) (Won : Position → Type 0) (each : (q : Position) → Decides (won q) (Won q)) (p : Position) (qs : List Position) where
    by_side : (own : Bool) → same_color p.side a ≡ own → Decides (wins_among own won qs) (IsForced a p qs Won)
    by_side true e =
        let mine = (same_color-Decides p.side a).0 e in (
          λ h. let found = any-In won qs h in inl (mine, (found.0, In-stands qs found.0 found.1, (each found.0).0 found.2)),
          λ h. ⊎_elim
              (λ some. let s = some.1 in In-any won s.0 qs (stands-In qs s.0 s.1) ((each s.0).1 s.2))
              (λ all. absurd (all.0 mine))
              h,
        )
    by_side false e =
        let other : p.side ≢ a = λ same. true≢false (sym ((same_color-Decides p.side a).1 same) ∙ e) in (
          λ h. inr (other, λ q stands. (each q).0 (all-In won q qs h (stands-In qs q stands))),
          λ h. ⊎_elim
              (λ some. absurd (other some.0))
              (λ all. In-all won qs (λ q i. (each q).1 (all.1 q (In-stands qs q i))))
              h,
        )

  pub wins-Decides : (barred : List Position) (n : ℕ) (p : Position) → Decides (wins a barred n p) (Wins a barred n p)
  unfolding wins
  wins-Decides barred zero p = from-Decides p (decided p) (next barred p) false ⊥ (λ h. true≢false (sym h), λ n. absurd n)
  wins-Decides barred (suc n) p =
      from-Decides p (decided p) (next barred p) (wins_among (same_color p.side a) (wins a barred n) (next barred p)) (IsForced a p (next barred p) (Wins a barred n))
      (by_side (wins a barred n) (Wins a barred n) (wins-Decides barred n) p (next barred p) (same_color p.side a) refl)
