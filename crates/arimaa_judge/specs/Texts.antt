-- The texts that tell a judgement. Each line ends with a line feed.
use Rattle.std.specs.Prelude.{ℕ, List, [], ◌∷◌, ◌++◌, Option, None, Some, codes}
use Rattle.std.specs.Fmt.{decimal}
use Rattle.arimaa_board.specs.declared.piece.Color.{Color}
use Rattle.arimaa_board.specs.declared.piece.Color.TheVariants.{Gold, Silver}
use Rattle.arimaa_board.specs.declared.ending.Cause.{Cause}
use Rattle.arimaa_board.specs.declared.ending.Cause.TheVariants as cause
use Rattle.arimaa_board.specs.declared.ending.Ending.{Ending}
use Rattle.arimaa_record.specs.Label.{text_of_label}
use Rattle.arimaa_record.specs.declared.label.Label.{Label}
use Rattle.arimaa_judge.specs.declared.judgement.Judged.{Judged}
use Rattle.arimaa_judge.specs.declared.judgement.Judged.TheVariants.{Lawful, Bad}
use Rattle.arimaa_judge.specs.declared.rule.Rule.{Rule}
use Rattle.arimaa_judge.specs.declared.rule.Rule.TheVariants as rule

-- the bytes as a line
abbrev pub line : List ℕ → List ℕ
line bytes = bytes ++ 10 ∷ []

-- the word for a side
abbrev pub side_word : Color → List ℕ
side_word Gold = codes "gold"
side_word Silver = codes "silver"

-- the word for the cause of an ending
abbrev pub cause_word : Cause → List ℕ
cause_word cause.Goal = codes "goal"
cause_word cause.Elimination = codes "elimination"
cause_word cause.Immobile = codes "immobile"
cause_word cause.Repetition = codes "repetition"
cause_word cause.Resign = codes "resign"
cause_word cause.Time = codes "time"

-- the word for a rule
abbrev pub rule_word : Rule → List ℕ
rule_word rule.After = codes "after"
rule_word rule.Text = codes "text"
rule_word rule.Steps = codes "steps"
rule_word rule.Form = codes "form"
rule_word rule.Start = codes "start"
rule_word rule.Number = codes "number"
rule_word rule.Over = codes "over"
rule_word rule.Takeback = codes "takeback"
rule_word rule.Setup = codes "setup"
rule_word rule.Piece = codes "piece"
rule_word rule.Target = codes "target"
rule_word rule.OpenPush = codes "openpush"
rule_word rule.Dislodge = codes "dislodge"
rule_word rule.Frozen = codes "frozen"
rule_word rule.Rabbit = codes "rabbit"
rule_word rule.Mark = codes "mark"
rule_word rule.Unfinished = codes "unfinished"
rule_word rule.Same = codes "same"
rule_word rule.Repeat = codes "repeat"

-- how a game stands: its winner and the cause, or the label that is due next
abbrev pub state_line : Option Ending → Label → List ℕ
state_line (Some e) next = line (codes "winner " ++ side_word e.winner ++ 32 ∷ cause_word e.cause)
state_line None next = line (codes "next " ++ text_of_label next)

-- a lawful record: the number of its turns that stand, and how the game stands
abbrev pub text_of_lawful : ℕ → Option Ending → Label → List ℕ
text_of_lawful turns ending next = line (codes "lawful " ++ decimal turns) ++ state_line ending next

-- a bad record: the number of its first bad line, the label that is due there, and the rule that it
-- breaks
abbrev pub text_of_bad : ℕ → Label → Rule → List ℕ
text_of_bad number label rule =
    line (codes "bad " ++ decimal number ++ 32 ∷ text_of_label label ++ 32 ∷ rule_word rule)

-- a judgement
abbrev pub text_of_judged : Judged → List ℕ
text_of_judged (Lawful history turns ending next) = text_of_lawful turns ending next
text_of_judged (Bad number label rule) = text_of_bad number label rule
