-- What a port counted, call after call.
use Rattle.std.proofs.Common.{◌≡◌, ◌+◌, ◌-◌, ◌^◌, ◌≤◌, ℕ, arith, subst}
use Rattle.std.specs.Prelude.{min}
use Rattle.arimaa_outside.specs.Counts.{Counts, NeverFall}
use Rattle.arimaa_outside.specs.Faults.{HasRisen}
use Rattle.arimaa_bot.specs.declared.bot_end.BotEnd.{BotEnd}
use Rattle.arimaa_bot.specs.declared.bot_end.BotEnd.TheVariants as end
use Rattle.arimaa_bot.specs.Calls.{IsCause}

later : (a b c top : ℕ) → a ≤ b → min (b + 1) top ≤ c → min (a + 1) top ≤ c
later a b c top first second = omega arith

pub later_faults : (a b c : ℕ) → b ≡ a → HasRisen b c → HasRisen a c
later_faults a b c same risen = subst (λ (n : ℕ). HasRisen n c) same risen

-- a cause that came later is one from the start
pub caused_later : (old mid new : Counts) (e : BotEnd) → NeverFall old mid → IsCause mid new e → IsCause old new e
caused_later old mid new end.Quit n cause = tt
caused_later old mid new end.Ended n cause = later _ _ _ (2 ^ 64 - 1) n.stops cause
caused_later old mid new end.Words n cause = tt
caused_later old mid new end.Fault n cause = later _ _ _ (2 ^ 64 - 1) n.faults cause
caused_later old mid new end.Long n cause = later _ _ _ (2 ^ 64 - 1) n.stops cause
caused_later old mid new end.Limit n cause = tt
caused_later old mid new end.Memory n cause = tt
