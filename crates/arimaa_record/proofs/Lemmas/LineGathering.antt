-- The bytes of a line are gathered from pieces of an input.
use Rattle.std.proofs.Common.{◌≡◌, ◌≤◌, ◌<◌, ◌+◌, ℕ, true, false, List, [], ◌∷◌, ◌++◌, Option, None, Some, length, take, drop, get_or, refl, sym, ap, ◌∙◌, arith, append_assoc, length-append, suc, add-one, take_all, length-take-le, take-append-drop}
use Rattle.std.specs.List.{position_or_len}
use Rattle.std.specs.Io.KnownBytes.{IsAtEnd, prepend_known}
use Rattle.std.specs.Str.Lines.{strip_carriage_return}
use borrow.Author.Tests.{eqb-true}
use Rattle.std.proofs.Math.ListN.{drop_of_length-le}
use Rattle.std.proofs.Math.Seq.{take-append_seam, get_or-append_seam, drop-cons}
use Rattle.std.proofs.lemmas.List.{append-nil, get_or_append_left, get_or-take}
use Rattle.std.proofs.lemmas.List.Elements.{All-append, All-get_or, All-from_get_or}
use Rattle.std.proofs.lemmas.List.Sums.{position_or_len_is, fails_before_first, passes_at_first}
use Rattle.arimaa_outside.proofs.Lemmas.Content.{gave_both}
use Rattle.arimaa_record.specs.declared.line_reader.LineReader.{LineReader}
use Rattle.arimaa_record.specs.Lines.{is_feed, lines_of}
use Rattle.arimaa_record.specs.LineReader.{Gathers, HasNoFeed, IsPiece, Takes}
use Rattle.arimaa_record.proofs.Lemmas.LineLaws.{lines-first}

-- the first line feed stands after the bytes that are none
first_feed : (line rest : List ℕ) → HasNoFeed line → position_or_len is_feed (line ++ 10 ∷ rest) ≡ length line
first_feed line rest none =
    position_or_len_is is_feed (line ++ 10 ∷ rest) (length line) 0
    (omega (arith, length-append line (10 ∷ rest)))
    (λ k less. rw (get_or_append_left line (10 ∷ rest) 0 k less) (All-get_or (λ b. is_feed b ≡ false) line k 0 less none))
    (λ _. ap is_feed (get_or-append_seam line 10 rest 0))

drop_seam : (xs ys : List ℕ) → drop (length xs) (xs ++ ys) ≡ ys
drop_seam [] ys = refl
drop_seam (x ∷ xs) ys = drop_seam xs ys

-- a line ends at a line feed
pub fed_line : (line rest : List ℕ) → HasNoFeed line → lines_of (line ++ 10 ∷ rest) ≡ strip_carriage_return line ∷ lines_of rest
fed_line line rest none =
    let bytes = line ++ 10 ∷ rest in
    lines-first bytes (length line) (omega (arith, length-append line (10 ∷ rest))) (sym (first_feed line rest none))
    ∙ (ap (λ x. strip_carriage_return x ∷ lines_of (drop 1 (drop (length line) bytes))) (take-append_seam line (10 ∷ rest))
    ∙ ap (λ x. strip_carriage_return line ∷ lines_of (drop 1 x)) (drop_seam line (10 ∷ rest)))

-- bytes came in a call, and the first of them are those of a line so far
pub record Midway (first : List ℕ) (before : ℕ) (held line : List ℕ) (taken : ℕ) (left now : Option (List ℕ)) : Type 0 where
  pub came : List ℕ
  pub told : left ≡ prepend_known came now
  pub kept : first ++ came ≡ line ++ held
  pub counted : taken ≡ before + length came
  pub no_feed : HasNoFeed line

-- nothing was taken
pub none_before : (left : Option (List ℕ)) → left ≡ prepend_known [] left
none_before None = refl
none_before (Some bytes) = refl

-- no byte came yet
pub midway-start : (first : List ℕ) (before : ℕ) (line : List ℕ) (left : Option (List ℕ)) → line ≡ [] → Midway first before first line before left left
midway-start first before line left none = record {
  came = [];
  told = none_before left;
  kept = append-nil first ∙ ap (λ x. x ++ first) (sym none);
  counted = omega arith;
  no_feed = rw none (λ k d less. absurd (omega arith));
}

-- a piece without a line feed went into the line, and more bytes came
pub midway-more : (first : List ℕ) (before : ℕ) (held none line longer more : List ℕ) (taken later : ℕ) (left mid now : Option (List ℕ))
    → Midway first before held line taken left mid → IsPiece held none line longer false → mid ≡ prepend_known more now → later ≡ taken + length more
    → Midway first before more longer later left now
midway-more first before held none line longer more taken later left mid now m piece told counted = record {
  came = m.came ++ more;
  told = gave_both left mid now m.came more m.told told;
  kept = sym (append_assoc first m.came more)
      ∙ ap (λ x. x ++ more) (m.kept ∙ ap (λ x. line ++ x) (piece.cut ∙ append-nil piece.piece) ∙ sym piece.moved);
  counted = omega (arith, m.counted, length-append m.came more);
  no_feed = rw piece.moved (All-append (λ b. is_feed b ≡ false) line piece.piece m.no_feed piece.no_feed);
}

-- a line feed ended the line
pub gathers-fed : (before after : LineReader) (held line : List ℕ) (left now : Option (List ℕ))
    → Midway before.held before.taken held line after.taken left now → IsPiece held after.held line after.line.items true → length after.held ≤ 4096
    → Gathers before after left now false
gathers-fed before after held line left now m piece room = record {
  came = m.came;
  told = m.told;
  kept = m.kept ∙ (ap (λ x. line ++ x) piece.cut ∙ (sym (append_assoc line piece.piece (10 ∷ after.held)) ∙ ap (λ x. x ++ 10 ∷ after.held) (sym piece.moved)));
  counted = m.counted;
  room = room;
  no_feed = rw piece.moved (All-append (λ b. is_feed b ≡ false) line piece.piece m.no_feed piece.no_feed);
  end = λ no. absurd (cc);
}

-- the input ended
pub gathers-ended : (before after : LineReader) (left now : Option (List ℕ))
    → Midway before.held before.taken after.held after.line.items after.taken left now → after.held ≡ [] → IsAtEnd now
    → Gathers before after left now true
gathers-ended before after left now m none end = record {
  came = m.came;
  told = m.told;
  kept = m.kept ∙ ap (λ x. after.line.items ++ x) none;
  counted = m.counted;
  room = rw none (omega arith);
  no_feed = m.no_feed;
  end = λ _. (none, end);
}

-- bytes are lost: those of the line so far, and some that were held
pub takes-midway : (before after : LineReader) (held line lost : List ℕ) (left now : Option (List ℕ))
    → Midway before.held before.taken held line after.taken left now → held ≡ lost ++ after.held → length after.held ≤ 4096
    → Takes before after left now
takes-midway before after held line lost left now m cut room = record {
  came = m.came;
  gone = line ++ lost;
  told = m.told;
  kept = m.kept ∙ (ap (λ x. line ++ x) cut ∙ sym (append_assoc line lost after.held));
  counted = m.counted;
  room = room;
}

-- no byte came and none is gone
pub takes-nothing : (reader : LineReader) (left : Option (List ℕ)) → length reader.held ≤ 4096 → Takes reader reader left left
takes-nothing reader left room = record {
  came = [];
  gone = [];
  told = none_before left;
  kept = append-nil reader.held;
  counted = omega arith;
  room = room;
}

-- the bytes before the first line feed are none
no_feed_before : (bytes : List ℕ) (n : ℕ) → n ≡ position_or_len is_feed bytes → n ≤ length bytes → HasNoFeed (take n bytes)
no_feed_before bytes n is within =
    All-from_get_or (λ b. is_feed b ≡ false) (take n bytes) 0
    (λ i less. let before : i < n = omega (arith, length-take-le n bytes within) in
    rw (get_or-take n bytes i 0 before) (fails_before_first is_feed bytes i 0 (omega arith)))

-- what stands at the first line feed
feed_at : (bytes : List ℕ) (n : ℕ) → n ≡ position_or_len is_feed bytes → n < length bytes → drop n bytes ≡ 10 ∷ drop (n + 1) bytes
feed_at bytes n is less =
    let passes : is_feed (get_or bytes n 0) ≡ true = rw is (passes_at_first is_feed bytes 0 (omega arith)) in
    let feed : get_or bytes n 0 ≡ 10 = eqb-true (get_or bytes n 0) 10 passes in
    rw add-one (drop-cons bytes n 0 less ∙ ap (λ b. b ∷ drop (suc n) bytes) feed)

-- the bytes before a line feed are moved
pub piece-fed : (held bytes line longer rest : List ℕ) (n : ℕ) → bytes ≡ held → n ≡ position_or_len is_feed bytes → n < length bytes
    → longer ≡ line ++ take n bytes → rest ≡ drop (n + 1) held → IsPiece held rest line longer true
piece-fed held bytes line longer rest n same is less moved left = record {
  piece = take n bytes;
  no_feed = no_feed_before bytes n is (omega arith);
  moved = moved;
  cut = sym same ∙ (sym (take-append-drop n bytes) ∙ ap (λ x. take n bytes ++ x) (feed_at bytes n is less ∙ ap (λ x. 10 ∷ x) (ap (drop (n + 1)) same ∙ sym left)));
  all = λ no. absurd (cc);
}

-- all bytes are moved
pub piece-whole : (held bytes line longer rest : List ℕ) (n : ℕ) → bytes ≡ held → n ≡ position_or_len is_feed bytes → n ≤ length bytes → length bytes ≤ n
    → longer ≡ line ++ take n bytes → rest ≡ drop n held → IsPiece held rest line longer false
piece-whole held bytes line longer rest n same is within past moved left = record {
  piece = take n bytes;
  no_feed = no_feed_before bytes n is within;
  moved = moved;
  cut = sym same ∙ (sym (take_all n bytes past) ∙ sym (append-nil (take n bytes)));
  all = λ _. left ∙ (ap (drop n) (sym same) ∙ drop_of_length-le bytes past);
}
