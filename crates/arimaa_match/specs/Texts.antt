-- The text of a match that has ended. Each line ends with a line feed.
use Rattle.std.specs.Prelude.{ℕ, List, [], ◌∷◌, ◌++◌, codes}
use Rattle.arimaa_engine.specs.declared.fault.EngineFault.{EngineFault}
use Rattle.arimaa_engine.specs.declared.fault.EngineFault.TheVariants as fault
use Rattle.arimaa_judge.specs.Texts.{cause_word, line, side_word}
use Rattle.arimaa_record.specs.Written.{text_of_record}
use Rattle.arimaa_match.specs.Parts.{IsNoMemory}
use Rattle.arimaa_match.specs.declared.ending.MatchCause.{MatchCause}
use Rattle.arimaa_match.specs.declared.ending.MatchCause.TheVariants as cause
use Rattle.arimaa_match.specs.declared.ending.MatchDone.{MatchDone}
use Rattle.arimaa_match.specs.declared.ending.MatchEnd.{MatchEnd}
use Rattle.arimaa_match.specs.declared.ending.MatchEnd.TheVariants as end

-- the word for why a side has won a match
abbrev pub match_cause_word : MatchCause → List ℕ
match_cause_word (cause.Rules why) = cause_word why
match_cause_word cause.Resign = codes "resign"
match_cause_word cause.Time = codes "time"
match_cause_word cause.Illegal = codes "illegal"

-- the word for an engine's fault; want of memory ends no match
abbrev pub fault_word : EngineFault → List ℕ
fault_word fault.Failed = codes "failed"
fault_word fault.Ended = codes "ended"
fault_word fault.Long = codes "long"
fault_word fault.Silent = codes "silent"
fault_word (fault.Version text) = codes "version"
fault_word fault.Memory = []

-- the last line of a match: its winner and the cause, that a limit was reached, or the engine's
-- fault
abbrev pub end_line : MatchEnd → List ℕ
end_line (end.Won winner why) =
    line (codes "# winner " ++ side_word winner ++ 32 ∷ match_cause_word why)
end_line end.Limit = line (codes "# limit")
end_line (end.Engine side why) = line (codes "# engine " ++ side_word side ++ 32 ∷ fault_word why)

-- a match that has ended: its record, and then how it has ended
abbrev pub text_of_match : MatchDone → List ℕ
text_of_match m = text_of_record m.written ++ end_line m.ending

-- a match did not end for want of memory
abbrev pub HasEnded : MatchEnd → Type 0
HasEnded (end.Won winner why) = Unit {0}
HasEnded end.Limit = Unit {0}
HasEnded (end.Engine side why) = IsNoMemory why
