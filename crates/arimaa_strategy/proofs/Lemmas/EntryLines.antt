-- A line of an entry has one reading.
use Rattle.std.proofs.Common.{◌≡◌, ℕ, List, [], ◌∷◌, ◌++◌, take, drop, get_or, sym, ◌∙◌, ap, subst, arith, inl, inr, refl, Option, None, Some, Ok, Result}
use Rattle.std.specs.Fmt.{decimal}
use Rattle.std.proofs.Math.Seq.{drop-append_seam, take-append_seam}
use Rattle.std.proofs.lemmas.List.{take-append-drop}
use Rattle.std.proofs.lemmas.Fmt.{decimal_injective, decimal_is_IsNumeral}
use Rattle.std.proofs.lemmas.Str.Parse.{digit_at}
use Rattle.arimaa_board.specs.declared.board.Board.{Board}
use Rattle.arimaa_board.specs.declared.fault.BoardFault.{BoardFault}
use Rattle.arimaa_board.specs.declared.piece.Color.{Color}
use Rattle.arimaa_board.specs.declared.turn.NotedStep.{NotedStep}
use Rattle.arimaa_board.specs.Text.{IsBoardText}
use Rattle.arimaa_board.proofs.Lemmas.ReadingLaws.{IsBoardText-read}
use Rattle.arimaa_notation.specs.declared.fault.NoteFault.{NoteFault}
use Rattle.arimaa_notation.specs.Items.{items_of, IsFirstItem}
use Rattle.arimaa_notation.specs.Grammar.{IsTurnText, IsTurnReading}
use Rattle.arimaa_notation.proofs.Lemmas.ItemLaws.{items-first}
use Rattle.arimaa_notation.proofs.Lemmas.TurnReading.{one_reading}
use Rattle.arimaa_notation.specs.Items.{without_first_blanks}
use Rattle.arimaa_record.specs.Grammar.{IsBlankLine}
use Rattle.arimaa_record.proofs.Lemmas.FormLaws.{head_same, same_first}
use Rattle.arimaa_forced.specs.declared.entry.Entry.{Entry}
use Rattle.arimaa_strategy.specs.Text.{IsBoardAndTurn, IsEntryText, IsLineOf}

-- the board's text is the first 66 bytes after the blanks, and the turn's text is what follows
pub front_of : (rest : List ℕ) (b : Board) (ns : List NotedStep) (h : IsBoardAndTurn rest b ns) → h.board ≡ take 66 (without_first_blanks rest)
front_of rest b ns h = sym (take-append_seam h.board h.turn) ∙ (ap (λ n. take n (h.board ++ h.turn)) h.shown.size ∙ ap (take 66) (sym h.cut))

pub back_of : (rest : List ℕ) (b : Board) (ns : List NotedStep) (h : IsBoardAndTurn rest b ns) → h.turn ≡ drop 66 (without_first_blanks rest)
back_of rest b ns h = sym (drop-append_seam h.board h.turn) ∙ (ap (λ n. drop n (h.board ++ h.turn)) h.shown.size ∙ ap (drop 66) (sym h.cut))

same_turn : (bytes : List ℕ) (ns ms : List NotedStep) → IsTurnText bytes ns → IsTurnText bytes ms → ns ≡ ms
same_turn bytes ns ms a b =
    let reads : (ks : List NotedStep) → IsTurnText bytes ks → IsTurnReading (items_of bytes) (Ok ks) = λ ks t. (t.steps, t.some, t.few) in
    let e : ◌≡◌ {A = Result (List NotedStep) NoteFault} (Ok ns) (Ok ms) = one_reading (items_of bytes) (Ok ns) (Ok ms) (reads ns a) (reads ms b) in
    cc

same_board : (bytes : List ℕ) (b c : Board) → IsBoardText bytes b → IsBoardText bytes c → b ≡ c
same_board bytes b c x y =
    let e : ◌≡◌ {A = Result Board BoardFault} (Ok b) (Ok c) = sym (IsBoardText-read bytes b x) ∙ IsBoardText-read bytes c y in
    cc

-- one board and one turn follow
same_play : (rest : List ℕ) (b c : Board) (ns ms : List NotedStep) → IsBoardAndTurn rest b ns → IsBoardAndTurn rest c ms → (b ≡ c) × (ns ≡ ms)
same_play rest b c ns ms x y = (
  same_board y.board b c (subst (λ z. IsBoardText z b) (front_of rest b ns x ∙ sym (front_of rest c ms y)) x.shown) y.shown,
  same_turn y.turn ns ms (subst (λ z. IsTurnText z ns) (back_of rest b ns x ∙ sym (back_of rest c ms y)) x.played) y.played,
)

-- two entries of one line are the same
pub same_entry : (bytes : List ℕ) (a : Color) (d e : Entry) → IsEntryText bytes a d → IsEntryText bytes a e → d ≡ e
same_entry bytes a d e x y =
    let first = same_first bytes (decimal d.rank) x.rest (decimal e.rank) y.rest x.rank y.rank in
    let rank : d.rank ≡ e.rank = decimal_injective d.rank e.rank (omega (arith, x.small)) (omega (arith, y.small)) first.0 in
    let side : d.position.side ≡ e.position.side = x.side ∙ sym y.side in
    let play = same_play y.rest d.position.board e.position.board d.turn e.turn (subst (λ z. IsBoardAndTurn z d.position.board d.turn) first.1 x.play) y.play in
    let board = play.0 in
    let turn = play.1 in
    λ i. record { position = record { board = board i; side = side i }; rank = rank i; turn = turn i }

-- a line that says nothing is no entry's
pub blank_apart : (bytes : List ℕ) (a : Color) (e : Entry) → IsBlankLine bytes → IsEntryText bytes a e → ⊥
blank_apart bytes a e (inl none) x = let both : decimal e.rank ∷ items_of x.rest ≡ [] = sym (items-first bytes (decimal e.rank) x.rest x.rank) ∙ none in cc
blank_apart bytes a e (inr comment) x =
    let begun : decimal e.rank ∷ items_of x.rest ≡ (35 ∷ comment.item) ∷ comment.items = sym (items-first bytes (decimal e.rank) x.rest x.rank) ∙ comment.begun in
    let byte : get_or (decimal e.rank) 0 0 ≡ 35 = ap (λ z. get_or z 0 0) (head_same begun) in
    let digit = digit_at (decimal e.rank) 0 (decimal_is_IsNumeral e.rank (omega (arith, x.small))).0.1 x.rank.filled in
    omega arith

-- what a line says is one thing
pub same_line : (a : Color) (line : List ℕ) (o p : Option Entry) → IsLineOf a line o → IsLineOf a line p → o ≡ p
same_line a line None None x y = refl
same_line a line None (Some e) x y = absurd (blank_apart line a e x y)
same_line a line (Some d) None x y = absurd (blank_apart line a d y x)
same_line a line (Some d) (Some e) x y = ap Some (same_entry line a d e x y)

-- what is cut at a place is joined again
pub joined_again : (w text front back : List ℕ) → text ≡ w → front ≡ take 66 text → back ≡ drop 66 text → w ≡ front ++ back
joined_again w text front back is first last = sym is ∙ (sym (take-append-drop 66 text) ∙ λ i. (sym first i) ++ (sym last i))

-- the first item of a line is the rank of what it says
pub rank_of : (bytes item rest : List ℕ) (a : Color) (e : Entry) → IsFirstItem bytes item rest → IsEntryText bytes a e → (item ≡ decimal e.rank) × IsBoardAndTurn rest e.position.board e.turn
rank_of bytes item rest a e first h =
    let same = same_first bytes (decimal e.rank) h.rest item rest h.rank first in
    (sym same.0, subst (λ z. IsBoardAndTurn z e.position.board e.turn) same.1 h.play)
