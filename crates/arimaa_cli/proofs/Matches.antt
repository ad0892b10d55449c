-- What comes of a match: its status, the cause of an engine's fault, and the one match that words ask for.
use Rattle.std.proofs.Common.{◌≡◌, ℕ, List, [], get_or, Option, inl, inr, refl, sym, ◌∙◌, ap, subst, ⊎_elim}
use Rattle.std.specs.Prelude.{◌⊎◌}
use Rattle.arimaa_outside.specs.Counts.{Counts}
use Rattle.arimaa_outside.specs.declared.status.Status.{Status}
use Rattle.arimaa_outside.specs.declared.status.Status.TheVariants.{Done, EngineFault, Memory, WriteFault}
use Rattle.arimaa_time.specs.Fields.{IsControl}
use Rattle.arimaa_time.proofs.Lemmas.Controls.{read_laws}
use Rattle.arimaa_match.specs.declared.ending.MatchEnd.{MatchEnd}
use Rattle.arimaa_match.specs.declared.ending.MatchEnd.TheVariants as end
use Rattle.arimaa_match.specs.Programs.{HasSpawnerCause}
use Rattle.arimaa_cli.specs.declared.play.Pairing.{Pairing}
use Rattle.arimaa_outside.specs.Writing.{EndsWith}
use Rattle.arimaa_cli.specs.Play.{AsksToPlay, HasEngineFault, status_at}

-- what was written ends with its status, or with that of a failed write
pub status_end : (result s : Status) (before after : Option (List ℕ)) (text : List ℕ) → EndsWith result before after s text → (result ≡ s) ⊎ (result ≡ WriteFault)
status_end result s before after text ends = ⊎_elim (λ p. inl p.0) (λ p. inr p.0) ends

-- the status of an engine's fault has its cause
pub cause_of : (how : MatchEnd) (result : Status) (before now : Counts) → HasSpawnerCause before now how → (result ≡ status_at how) ⊎ (result ≡ WriteFault) → result ≡ EngineFault → HasEngineFault before now
cause_of (end.Engine side why) result before now cause either fault = record { why = why; cause = cause.0; no_memory = cause.1 }
cause_of (end.Won winner why) result before now cause (inl e) fault = cc
cause_of (end.Won winner why) result before now cause (inr e) fault = cc
cause_of end.Limit result before now cause (inl e) fault = cc
cause_of end.Limit result before now cause (inr e) fault = cc

-- the statuses of a match that was told of
pub status_among : (how : MatchEnd) (result : Status) → (result ≡ status_at how) ⊎ (result ≡ WriteFault) → (result ≡ Done) ⊎ ((result ≡ EngineFault) ⊎ ((result ≡ WriteFault) ⊎ (result ≡ Memory)))
status_among how result (inr e) = inr (inr (inl e))
status_among (end.Engine side why) result (inl e) = inr (inl e)
status_among (end.Won winner why) result (inl e) = inl e
status_among end.Limit result (inl e) = inl e

-- the words ask for one match
pub one_match : (words : List (List ℕ)) (a b : Pairing) → AsksToPlay words a → AsksToPlay words b → a ≡ b
one_match words a b p q =
    let forms = sym p.form ∙ q.form in
    let gold : a.gold ≡ b.gold = ap (λ (l : List (List ℕ)). get_or l 1 []) forms in
    let silver : a.silver ≡ b.silver = ap (λ (l : List (List ℕ)). get_or l 2 []) forms in
    let texts : p.text ≡ q.text = ap (λ (l : List (List ℕ)). get_or l 3 []) forms in
    let laws = read_laws p.text _ refl in
    let both = sym (laws.only a.control p.control) ∙ laws.only b.control (subst (λ t. IsControl t b.control) (sym texts) q.control) in
    let control : a.control ≡ b.control = cc in
    λ i. record { gold = gold i; silver = silver i; control = control i }
