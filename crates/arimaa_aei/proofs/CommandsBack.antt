-- What a controller's line is written as is read back.
use Rattle.std.proofs.Common.{◌≡◌, ℕ, ◌<◌, ◌^◌, List, [], ◌∷◌, ◌++◌, length, refl, sym, ◌∙◌, ap, append_assoc, rules, arith, Ok, Some, Result}
use Rattle.std.specs.Prelude.{codes, All, IfOk}
use Rattle.std.specs.Fmt.{decimal}
use Rattle.std.specs.List.{AllByRecursion}
use Rattle.std.specs.Str.Parse.{AllDigits}
use Rattle.std.proofs.lemmas.Fmt.{decimal_is_IsNumeral}
use Rattle.std.proofs.lemmas.Result.{IfOk-weaker}
use Rattle.std.proofs.lemmas.Str.Parse.{digit_at}
use Rattle.std.proofs.lemmas.List.{append-nil}
use Rattle.std.proofs.lemmas.List.Elements.{All-from_recursion}
use Rattle.std.proofs.lemmas.List.Sorted.{IsPermutation-sym, All-permutation}
use Rattle.arimaa_board.specs.declared.board.Board.{Board}
use Rattle.arimaa_board.specs.declared.piece.Color.{Color}
use Rattle.arimaa_board.specs.declared.piece.Color.TheVariants.{Gold, Silver}
use Rattle.arimaa_board.specs.declared.piece.Piece.{Piece}
use Rattle.arimaa_board.specs.declared.position.Position.{Position}
use Rattle.arimaa_board.specs.declared.turn.NotedStep.{NotedStep}
use Rattle.arimaa_board.specs.Setup.{Lineup, IsLineup, army, pieces_in}
use Rattle.arimaa_board.specs.Text.{places_of, reading_of, text_of}
use Rattle.arimaa_board.proofs.Lemmas.TextLaws.{piece_of_letter-letter_of_content}
use Rattle.arimaa_notation.specs.Grammar.{IsSetupText, IsTurnText}
use Rattle.arimaa_notation.specs.Items.{items_of, without_outer_blanks, word_of}
use Rattle.arimaa_notation.specs.Readers.{setup_of_text}
use Rattle.arimaa_notation.specs.Written.{items_of_entries, items_text, text_of_entry, text_of_setup, text_of_step, text_of_turn}
use Rattle.arimaa_notation.proofs.Lemmas.ItemLaws.{items-blank}
use Rattle.arimaa_notation.proofs.Lemmas.Numbers.{number_back}
use Rattle.arimaa_notation.proofs.Lemmas.Reading.{turn_back}
use Rattle.arimaa_notation.proofs.Lemmas.ReadingBack.{IsWord, entry_words, items-joined}
use Rattle.arimaa_notation.proofs.Lemmas.SetupRule.{setup_back}
use Rattle.arimaa_notation.proofs.Lemmas.WrittenLaws.{size-lineup}
use Rattle.arimaa_notation.proofs.Lemmas.WordLaws.{blank_before_setup, blank_before_turn, first_word, trimmed-blank, trimmed-solid}
use Rattle.arimaa_aei.specs.declared.command.Command.{Command}
use Rattle.arimaa_aei.specs.declared.command.Command.TheVariants as command
use Rattle.arimaa_aei.specs.declared.command.OptionName.{OptionName}
use Rattle.arimaa_aei.specs.declared.command.OptionName.TheVariants as option
use Rattle.arimaa_aei.specs.Commands.{command_of, move_said, option_named, option_said, position_of_parts, setup_said, setup_told, turn_told, option_of_parts}
use Rattle.arimaa_aei.specs.Words.{command_word_of, name_of, option_of}
use Rattle.arimaa_aei.specs.Written.{IsSayable, text_of_command}

-- a turn is told, and read back
turn_told_back : (n : NotedStep) (ns : List NotedStep) → IsTurnText (text_of_turn (n ∷ ns)) (n ∷ ns) → command_of (text_of_command (command.MakeMove (n ∷ ns))) ≡ Ok (command.MakeMove (n ∷ ns))
unfolding command_of command_word_of
turn_told_back n ns h =
    let spaced = blank_before_turn (text_of_turn (n ∷ ns)) (n ∷ ns) h in
    let first : word_of (32 ∷ text_of_turn (n ∷ ns)) ≡ text_of_step n.step = (first_word (32 ∷ text_of_turn (n ∷ ns)) (text_of_step n.step) _ spaced.steps.spelled).0 in
    ap (λ word. move_said word (32 ∷ text_of_turn (n ∷ ns))) first ∙ ap turn_told (turn_back (32 ∷ text_of_turn (n ∷ ns)) (n ∷ ns) spaced)

own_army : (c : Color) → All (λ (p : Piece). p.color ≡ c) (army c)
unfolding army
own_army c = All-from_recursion (λ (p : Piece). p.color ≡ c) (army c) (refl, (refl, (refl, (refl, (refl, (refl, (refl, (refl, (refl, (refl, (refl, (refl, (refl, (refl, (refl, (refl, tt))))))))))))))))

-- the pieces of a setup are its side's
own_piece : (c : Color) (e : ℕ × Piece) (es : List (ℕ × Piece)) → IsLineup (record { color = c; pairs = e ∷ es }) → e.1.color ≡ c
own_piece c e es rule =
    All-permutation (λ (p : Piece). p.color ≡ c) (army c) (pieces_in (e ∷ es)) (IsPermutation-sym _ _ rule.pieces) (own_army c) 0 e.1 (omega arith)

-- a setup is told, and read back
setup_of_pairs : (c : Color) (pairs : List (ℕ × Piece)) → length pairs ≡ 16 → IsLineup (record { color = c; pairs = pairs })
    → IsSetupText (text_of_setup (record { color = c; pairs = pairs })) c (record { color = c; pairs = pairs })
    → command_of (text_of_command (command.MakeSetup (record { color = c; pairs = pairs }))) ≡ Ok (command.MakeSetup (record { color = c; pairs = pairs }))
unfolding command_of command_word_of
setup_of_pairs c [] size rule h = absurd (omega arith)
setup_of_pairs c (e ∷ es) size rule h =
    let lineup : Lineup = record { color = c; pairs = e ∷ es } in
    let text : List ℕ = 32 ∷ text_of_setup lineup in
    let items : items_of text ≡ items_of_entries (e ∷ es) = items-blank 32 (text_of_setup lineup) refl ∙ items-joined (items_of_entries (e ∷ es)) (entry_words (e ∷ es)) in
    let first : word_of text ≡ text_of_entry e = (first_word text (text_of_entry e) (items_of_entries es) items).0 in
    let read : setup_of_text c text ≡ Some lineup = setup_back text c lineup (blank_before_setup (text_of_setup lineup) c lineup h) in
    ap (λ word. move_said word text) first
    ∙ (ap (λ p. setup_said p text) (piece_of_letter-letter_of_content (Some e.1))
    ∙ (ap (λ side. setup_told (setup_of_text side text)) (own_piece c e es rule) ∙ ap setup_told read))

pub setup_told_back : (s : Lineup) → IsLineup s → IsSetupText (text_of_setup s) s.color s → command_of (text_of_command (command.MakeSetup s)) ≡ Ok (command.MakeSetup s)
setup_told_back s rule h = setup_of_pairs s.color s.pairs (size-lineup s rule) rule h

-- a position is set, and read back
board_trimmed : (b : Board) → without_outer_blanks (32 ∷ text_of b) ≡ text_of b
board_trimmed b = trimmed-blank 32 (text_of b) refl ∙ trimmed-solid 91 93 (places_of b) refl refl

position_of_side : (side : Color) (b : Board) → reading_of (text_of b) ≡ Ok b → command_of (text_of_command (command.SetPosition (record { board = b; side = side }))) ≡ Ok (command.SetPosition (record { board = b; side = side }))
unfolding command_of command_word_of
position_of_side Gold b read = ap (λ text. position_of_parts (Some Gold) (reading_of text)) (board_trimmed b) ∙ ap (position_of_parts (Some Gold)) read
position_of_side Silver b read = ap (λ text. position_of_parts (Some Silver) (reading_of text)) (board_trimmed b) ∙ ap (position_of_parts (Some Silver)) read

pub position_set_back : (p : Position) → reading_of (text_of p.board) ≡ Ok p.board → command_of (text_of_command (command.SetPosition p)) ≡ Ok (command.SetPosition p)
position_set_back p read = position_of_side p.side p.board read

-- an option's name is read as it
name_back : (o : OptionName) → option_of (name_of o) ≡ Some o
unfolding option_of
name_back option.TcMove = refl
name_back option.TcReserve = refl
name_back option.TcPercent = refl
name_back option.TcMax = refl
name_back option.TcTotal = refl
name_back option.TcTurnTime = refl
name_back option.GReserve = refl
name_back option.SReserve = refl

name_word : (o : OptionName) → IsWord (name_of o)
name_word option.TcMove = record { filled = omega arith; seen = search rules }
name_word option.TcReserve = record { filled = omega arith; seen = search rules }
name_word option.TcPercent = record { filled = omega arith; seen = search rules }
name_word option.TcMax = record { filled = omega arith; seen = search rules }
name_word option.TcTotal = record { filled = omega arith; seen = search rules }
name_word option.TcTurnTime = record { filled = omega arith; seen = search rules }
name_word option.GReserve = record { filled = omega arith; seen = search rules }
name_word option.SReserve = record { filled = omega arith; seen = search rules }

digits_seen : (ds : List ℕ) → AllDigits 10 ds → AllByRecursion (λ b. 32 < b) ds
digits_seen [] all = tt
digits_seen (d ∷ ds) all = (let digit = digit_at (d ∷ ds) 0 all (omega arith) in omega arith, digits_seen ds all.1)

number_word : (n : ℕ) → n < 2 ^ 64 → IsWord (decimal n)
number_word n small = let numeral = decimal_is_IsNumeral n small in record { filled = numeral.0.0; seen = digits_seen (decimal n) numeral.0.1 }

-- an option is set, and read back
pub option_set_back : (o : OptionName) (n : ℕ) → n < 2 ^ 64 → command_of (text_of_command (command.SetOption o n)) ≡ Ok (command.SetOption o n)
unfolding command_of command_word_of
option_set_back o n small =
    let name_item : IsWord (codes "name") = record { filled = omega arith; seen = search rules } in
    let value_item : IsWord (codes "value") = record { filled = omega arith; seen = search rules } in
    let items : List (List ℕ) = codes "name" ∷ name_of o ∷ codes "value" ∷ decimal n ∷ [] in
    let words : AllByRecursion IsWord items = (name_item, (name_word o, (value_item, (number_word n small, tt)))) in
    let tail : (name_of o ++ codes " value ") ++ decimal n ≡ name_of o ++ (codes " value " ++ (decimal n ++ [])) =
    append_assoc (name_of o) (codes " value ") (decimal n) ∙ ap (λ d. name_of o ++ (codes " value " ++ d)) (sym (append-nil (decimal n))) in
    let said : items_of (codes " name " ++ ((name_of o ++ codes " value ") ++ decimal n)) ≡ items =
    ap (λ x. items_of (codes " name " ++ x)) tail ∙ (items-blank 32 (items_text items) refl ∙ items-joined items words) in
    ap option_said said ∙ (ap (λ r. option_named r (codes "value" ∷ decimal n ∷ [])) (name_back o) ∙ ap (option_of_parts o) (number_back n small))

-- a line that a call wrote is read back where its text is
pub line_back : {X E : Type 0} (r : Result X E) (items : X → List ℕ) (text : List ℕ) (c : Command) (P : Type 0) → (P → command_of text ≡ Ok c) → IfOk r (λ l. items l ≡ text) → IfOk r (λ l. P → command_of (items l) ≡ Ok c)
line_back {X} r items text c P back = IfOk-weaker r (λ l. items l ≡ text) (λ l. P → command_of (items l) ≡ Ok c) (λ (l : X) e p. ap command_of e ∙ back p)

-- the same where it always is
pub line_back_always : {X E : Type 0} (r : Result X E) (items : X → List ℕ) (text : List ℕ) (c : Command) → command_of text ≡ Ok c → IfOk r (λ l. items l ≡ text) → IfOk r (λ l. command_of (items l) ≡ Ok c)
line_back_always {X} r items text c back = IfOk-weaker r (λ l. items l ≡ text) (λ l. command_of (items l) ≡ Ok c) (λ (l : X) e. ap command_of e ∙ back)

-- a turn of some steps is told, and read back
pub turn_back_some : (ns : List NotedStep) → IsTurnText (text_of_turn ns) ns → command_of (text_of_command (command.MakeMove ns)) ≡ Ok (command.MakeMove ns)
turn_back_some [] h = absurd (let some = h.some in omega arith)
turn_back_some (n ∷ ns) h = turn_told_back n ns h

-- the line of a command that stands alone is read back
pub alone_back : {X E : Type 0} (r : Result X E) (items : X → List ℕ) (text : List ℕ) (c d : Command) → c ≡ d → command_of text ≡ Ok d → IfOk r (λ l. items l ≡ text) → IfOk r (λ l. IsSayable c → command_of (items l) ≡ Ok c)
alone_back {X} r items text c d is back = IfOk-weaker r (λ l. items l ≡ text) (λ l. IsSayable c → command_of (items l) ≡ Ok c) (λ (l : X) e _. ap command_of e ∙ (back ∙ ap Ok (sym is)))

-- the line of an option is read back
pub option_arm_back : {X E : Type 0} (r : Result X E) (items : X → List ℕ) (c d : Command) → c ≡ d → IfOk r (λ l. command_of (items l) ≡ Ok d) → IfOk r (λ l. IsSayable c → command_of (items l) ≡ Ok c)
option_arm_back {X} r items c d is = IfOk-weaker r (λ l. command_of (items l) ≡ Ok d) (λ l. IsSayable c → command_of (items l) ≡ Ok c) (λ (l : X) back _. back ∙ ap Ok (sym is))
