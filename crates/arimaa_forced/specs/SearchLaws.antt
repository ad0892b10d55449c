-- Laws on wins and on looks through the next positions, as facts for contracts.
use Rattle.std.specs.Prelude.{◌≡◌, ◌≢◌, ◌↔◌, ℕ, ◌+◌, ◌-◌, not, List, None, Some, IsTrue, is_some, if◌then◌else◌}
use Rattle.arimaa_board.specs.declared.piece.Color.{Color}
use Rattle.arimaa_board.specs.Board.{same_color}
use Rattle.arimaa_board.specs.declared.position.Position.{Position}
use Rattle.arimaa_model.specs.DecidedPositions.{decided}
use Rattle.arimaa_model.specs.Results.{next}
use Rattle.arimaa_model.specs.Members.{Stands, SomeOf, EachOf}
use Rattle.arimaa_model.specs.Wins.{wins, wins_among}
use Rattle.arimaa_model.specs.Ranks.{IsRank, rank_within}
use Rattle.arimaa_model.specs.Strategies.{IsOpen, result_at, entry_of}
use Rattle.arimaa_forced.specs.Search.{is_decisive, first_decisive, looked_at}

-- an undecided position is won one turn deeper where some next position is won, or each
abbrev pub WinsOneDeeper : Type 0
WinsOneDeeper =
    (a : Color) (barred : List Position) (n : ℕ) (p : Position) → decided p ≡ None
    → wins a barred (n + 1) p ≡ wins_among (same_color p.side a) (wins a barred n) (next barred p)

-- where the attacker is to move, he wins it where he wins some next position
abbrev pub OwnWinsSome : Type 0
OwnWinsSome =
    (a : Color) (barred : List Position) (n : ℕ) (p : Position) → decided p ≡ None → p.side ≡ a
    → IsTrue (wins a barred (n + 1) p) ↔ SomeOf (λ q. IsTrue (wins a barred n q)) (next barred p)

-- where the other side is to move, he wins it where he wins each
abbrev pub OtherWinsEach : Type 0
OtherWinsEach =
    (a : Color) (barred : List Position) (n : ℕ) (p : Position) → decided p ≡ None → p.side ≢ a
    → IsTrue (wins a barred (n + 1) p) ↔ EachOf (λ q. IsTrue (wins a barred n q)) (next barred p)

-- with a decisive next position it is won just where the attacker is to move, and with none just
-- where the other side is
abbrev pub DecisiveDecides : Type 0
DecisiveDecides =
    (a : Color) (barred : List Position) (n : ℕ) (p : Position) → decided p ≡ None
    → wins a barred (n + 1) p
    ≡ (if is_some (first_decisive a barred n p) then same_color p.side a else not
    (same_color p.side a))

-- the first decisive position is a next position, and decisive
abbrev pub FirstIsDecisive : Type 0
FirstIsDecisive =
    (a : Color) (barred : List Position) (n : ℕ) (p q : Position)
    → first_decisive a barred n p ≡ Some q
    → Stands (next barred p) q × IsTrue (is_decisive a barred n p q)
    × Stands (looked_at a barred n p) q

-- no other decisive position is looked at
abbrev pub LooksAtOne : Type 0
LooksAtOne =
    (a : Color) (barred : List Position) (n : ℕ) (p q : Position)
    → Stands (looked_at a barred n p) q → IsTrue (is_decisive a barred n p q)
    → first_decisive a barred n p ≡ Some q

-- where none is decisive, each next position is looked at
abbrev pub LooksAtAll : Type 0
LooksAtAll =
    (a : Color) (barred : List Position) (n : ℕ) (p : Position) → first_decisive a barred n p ≡ None
    → looked_at a barred n p ≡ next barred p

-- what is looked at is a next position
abbrev pub LooksAtNext : Type 0
LooksAtNext =
    (a : Color) (barred : List Position) (n : ℕ) (p q : Position)
    → Stands (looked_at a barred n p) q → Stands (next barred p) q

-- one turn below the rank the first decisive position is what the entry leads to
abbrev pub FirstDecisiveIsPlayed : Type 0
FirstDecisiveIsPlayed =
    (a : Color) (barred : List Position) (n : ℕ) (p : Position) → IsOpen a barred n p
    → first_decisive a barred (rank_within a barred n p - 1) p ≡ result_at (entry_of a barred n p)

-- and its rank is one lower
abbrev pub FirstDecisiveIsExact : Type 0
FirstDecisiveIsExact =
    (a : Color) (barred : List Position) (n : ℕ) (p q : Position) → decided p ≡ None → p.side ≡ a
    → IsRank a barred p (n + 1) → first_decisive a barred n p ≡ Some q → IsRank a barred q n
