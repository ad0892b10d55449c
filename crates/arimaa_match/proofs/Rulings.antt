-- What is ruled on an answer once the account was spent.
use Rattle.std.proofs.Common.{◌≡◌, ◌∙◌, List, ℕ, Result, ap, subst, sym}
use Rattle.std.specs.declared.alloc.AllocError.{AllocError}
use Rattle.arimaa_clock.specs.Account.{answer_of}
use Rattle.arimaa_clock.specs.declared.account.Spend.{Spend}
use Rattle.arimaa_clock.specs.declared.account.Spend.TheVariants as spend
use Rattle.arimaa_board.specs.declared.ending.Word.TheVariants as word
use Rattle.arimaa_match.specs.declared.ending.MatchCause.TheVariants as cause
use Rattle.arimaa_match.specs.declared.ending.Verdict.{Verdict}
use Rattle.arimaa_match.specs.MatchState.{HasRuled, MatchState, Ruling, account_of, loss_by_word, in_time, lost_by, ruling, ruling_after, side_due, with_time_spent}

ruling_at : (s t : MatchState) (used : ℕ) (words : List ℕ) (answer other : Spend)
    → answer ≡ answer_of (account_of s (side_due s)) used → t ≡ with_time_spent s used → answer ≡ other
    → ruling_after t used words other ≡ ruling s used words
unfolding ruling
ruling_at s t used words answer other one two three =
    ap (λ (t : MatchState). ruling_after t used words other) two
    ∙ ap (ruling_after (with_time_spent s used) used words) (sym three ∙ one)

-- the time has run out
pub ruling_out : (s now : MatchState) (used : ℕ) (words : List ℕ)
    (r : Result Verdict AllocError) {t : MatchState} {answer : Spend}
    → answer ≡ answer_of (account_of s (side_due s)) used → t ≡ with_time_spent s used → answer ≡ spend.Out
    → HasRuled (lost_by t (loss_by_word t word.Time) cause.Time) now r
    → HasRuled (ruling s used words) now r
ruling_out s now used words r {t} {answer} one two three a =
    subst (λ (x : Ruling). HasRuled x now r)
    (ruling_at s t used words answer spend.Out one two three) a

-- the answer came in time
pub ruling_kept : (s now : MatchState) (used : ℕ) (words : List ℕ)
    (r : Result Verdict AllocError) {t : MatchState} {answer : Spend} {reserve : ℕ}
    → answer ≡ answer_of (account_of s (side_due s)) used → t ≡ with_time_spent s used
    → answer ≡ spend.Kept reserve
    → HasRuled (in_time t used words) now r → HasRuled (ruling s used words) now r
ruling_kept s now used words r {t} {answer} {reserve} one two three a =
    subst (λ (x : Ruling). HasRuled x now r)
    (ruling_at s t used words answer (spend.Kept reserve) one two three) a
