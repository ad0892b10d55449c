-- What an engine's line is written as is read back.
use Rattle.std.proofs.Common.{◌≡◌, ℕ, List, [], ◌∷◌, refl, ◌∙◌, ap, Result}
use Rattle.std.specs.Prelude.{IfOk}
use Rattle.std.proofs.lemmas.Result.{IfOk-weaker}
use Rattle.arimaa_notation.specs.Items.{without_outer_blanks}
use Rattle.arimaa_notation.proofs.Lemmas.WordLaws.{trimmed-blank}
use Rattle.arimaa_aei.specs.Answers.{Spoken, Version, Id, AeiOk, ReadyOk, BestMove, Info, Log, Other, speech_of_line}
use Rattle.arimaa_aei.specs.Words.{answer_word_of}
use Rattle.arimaa_aei.specs.Written.{IsTrimmed, text_of_spoken}

spaced : (b : ℕ) (bs : List ℕ) → without_outer_blanks (b ∷ bs) ≡ b ∷ bs → without_outer_blanks (32 ∷ b ∷ bs) ≡ b ∷ bs
spaced b bs same = trimmed-blank 32 (b ∷ bs) refl ∙ same

pub answer_back : (said : Spoken) → IsTrimmed said → speech_of_line (text_of_spoken said) ≡ said
unfolding speech_of_line answer_word_of
answer_back (Version []) same = refl
answer_back (Version (b ∷ bs)) same = ap Version (spaced b bs same)
answer_back (Id []) same = refl
answer_back (Id (b ∷ bs)) same = ap Id (spaced b bs same)
answer_back AeiOk same = refl
answer_back ReadyOk same = refl
answer_back (BestMove []) same = refl
answer_back (BestMove (b ∷ bs)) same = ap BestMove (spaced b bs same)
answer_back (Info []) same = refl
answer_back (Info (b ∷ bs)) same = ap Info (spaced b bs same)
answer_back (Log []) same = refl
answer_back (Log (b ∷ bs)) same = ap Log (spaced b bs same)
answer_back Other same = refl

-- a line that a call wrote is read back where its text is
pub line_said_back : {X E : Type 0} (r : Result X E) (items : X → List ℕ) (text : List ℕ) (said : Spoken) → text ≡ text_of_spoken said → IfOk r (λ l. items l ≡ text) → IfOk r (λ l. IsTrimmed said → speech_of_line (items l) ≡ said)
line_said_back {X} r items text said is = IfOk-weaker r (λ l. items l ≡ text) (λ l. IsTrimmed said → speech_of_line (items l) ≡ said) (λ (l : X) e same. ap speech_of_line (e ∙ is) ∙ answer_back said same)
