-- What is written of a strategy is read as it.
use Rattle.std.proofs.Common.{◌≡◌, ℕ, ◌+◌, ◌<◌, ◌^◌, List, [], ◌∷◌, ◌++◌, length, take, get_or, map, refl, sym, ◌∙◌, ap, subst, arith, append_assoc, Some, true}
use Rattle.std.specs.List.{AllByRecursion, filter_map}
use Rattle.std.specs.Fmt.{decimal}
use Rattle.std.proofs.lemmas.Fmt.{decimal_nonempty}
use Rattle.std.proofs.lemmas.Grind.{flat_map-append}
use Rattle.std.proofs.lemmas.List.{append-nil, take_more}
use Rattle.std.proofs.lemmas.List.Elements.{All-nil}
use Rattle.arimaa_board.specs.declared.piece.Color.{Color}
use Rattle.arimaa_board.specs.Text.{text_of}
use Rattle.arimaa_board.proofs.Lemmas.ReadingLaws.{read_IsBoardText}
use Rattle.arimaa_board.proofs.Lemmas.TextLaws.{reading_of-text_of}
use Rattle.arimaa_notation.specs.Items.{is_blank}
use Rattle.arimaa_notation.specs.Written.{text_of_turn}
use Rattle.arimaa_notation.specs.Grammar.{AreSteps, IsTurnText}
use Rattle.arimaa_notation.proofs.Lemmas.ItemLaws.{items-blank}
use Rattle.arimaa_record.specs.Lines.{lines_of}
use Rattle.arimaa_record.proofs.Lemmas.LineLaws.{no_lines}
use Rattle.arimaa_record.proofs.Lemmas.PlainLaws.{solid_seen}
use Rattle.arimaa_forced.specs.declared.entry.Entry.{Entry}
use Rattle.arimaa_strategy.specs.Text.{IsEntryText, AreLinesOf, IsStrategyText}
use Rattle.arimaa_strategy.specs.WrittenForm.{text_of_entry, ended_entry, text_of_strategy, IsWritable}
use Rattle.arimaa_record.proofs.Lemmas.PlainLaws.{decimal_seen, first_plain}
use Rattle.arimaa_strategy.proofs.PlainText.{entry_plain}

-- the written form of an entry's turn is read as it
abbrev pub ReadsBack : Entry → Type 0
ReadsBack e = IsTurnText (text_of_turn e.turn) e.turn

module _ (a : Color) where
  entry_back : (e : Entry) → ReadsBack e → IsWritable a e → IsEntryText (text_of_entry e) a e
  entry_back e turn h =
      let small : e.rank < 2 ^ 64 = omega (arith, h.small) in
      record {
        rest = 32 ∷ text_of e.position.board ++ 32 ∷ text_of_turn e.turn;
        rank = record {
          blanks = [];
          cut = append_assoc (decimal e.rank) (32 ∷ text_of e.position.board) (32 ∷ text_of_turn e.turn);
          blank = All-nil (λ c. is_blank c ≡ true);
          filled = decimal_nonempty e.rank small;
          solid = solid_seen (decimal e.rank) (decimal_seen e.rank small);
          ended = refl;
        };
        small = h.small;
        side = h.side;
        play = record {
          board = text_of e.position.board;
          turn = 32 ∷ text_of_turn e.turn;
          cut = refl;
          shown = read_IsBoardText (text_of e.position.board) e.position.board (reading_of-text_of e.position.board h.fit);
          apart = refl;
          played = turn_spaced (text_of_turn e.turn) e turn;
        };
      }
    where
      turn_spaced : (bytes : List ℕ) (e : Entry) → IsTurnText bytes e.turn → IsTurnText (32 ∷ bytes) e.turn
      turn_spaced bytes e t = record { steps = subst (λ x. AreSteps x e.turn) (sym (items-blank 32 bytes refl)) t.steps; some = t.some; few = t.few }

  lines_written : (es : List Entry) → AllByRecursion (IsWritable a) es → lines_of (text_of_strategy es) ≡ map text_of_entry es
  lines_written [] all = no_lines
  lines_written (e ∷ es) all = first_plain (text_of_entry e) (text_of_strategy es) (entry_plain e (omega (arith, all.0.small))) ∙ ap (λ x. text_of_entry e ∷ x) (lines_written es all.1)

  said_written : (es : List Entry) → AllByRecursion (IsWritable a) es → AllByRecursion ReadsBack es → AreLinesOf a (map text_of_entry es) (map Some es)
  said_written [] all back = tt
  said_written (e ∷ es) all back = (entry_back e back.0 all.0, said_written es all.1 back.1)

  all_said : (es : List Entry) → es ≡ filter_map (λ o. o) (map Some es)
  all_said [] = refl
  all_said (e ∷ es) = ap (λ l. e ∷ l) (all_said es)

  -- what is written of a strategy is a text of it
  pub strategy_back : (bytes : List ℕ) (es : List Entry) → bytes ≡ text_of_strategy es → AllByRecursion ReadsBack es → AllByRecursion (IsWritable a) es → IsStrategyText bytes a es
  strategy_back bytes es is back all = record {
    said = map Some es;
    lines = subst (λ x. AreLinesOf a x (map Some es)) (sym (ap lines_of is ∙ lines_written es all)) (said_written es all back);
    entries = all_said es;
  }

-- one more entry is written
pub strategy_more : (es : List Entry) (i : ℕ) (e : Entry) (old new : List ℕ) → i < length es → e ≡ get_or es i e → old ≡ text_of_strategy (take i es) → new ≡ old ++ ended_entry e → new ≡ text_of_strategy (take (i + 1) es)
strategy_more es i e old new less is written pushed =
    let here : take (i + 1) es ≡ take i es ++ e ∷ [] = take_more es i e less ∙ ap (λ x. take i es ++ x ∷ []) (sym is) in
    pushed
    ∙ (ap (λ x. x ++ ended_entry e) written
    ∙ (ap (λ x. text_of_strategy (take i es) ++ x) (sym (append-nil (ended_entry e))) ∙ (sym (flat_map-append ended_entry (take i es) (e ∷ [])) ∙ ap text_of_strategy (sym here))))
