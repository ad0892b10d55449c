-- The lines of each reply.
use Rattle.std.specs.Prelude.{ℕ, List, [], ◌∷◌, codes}
use Rattle.arimaa_aei.specs.Written.{with_text}
use Rattle.arimaa_bot.specs.declared.reply.Reply.{Reply}
use Rattle.arimaa_bot.specs.declared.reply.Reply.TheVariants as reply

-- the lines that say who the bot is
abbrev pub greeting : List (List ℕ)
greeting =
    codes "protocol-version 1" ∷ codes "id name arimaa_bot" ∷ codes "id author arimaa"
    ∷ codes "aeiok" ∷ []

-- the lines that are sent for a reply
abbrev pub lines_of : Reply → List (List ℕ)
lines_of reply.Nothing = []
lines_of reply.Greeting = greeting
lines_of reply.Ready = codes "readyok" ∷ []
lines_of reply.Illegal = codes "log illegal" ∷ []
lines_of reply.Unknown = codes "log unknown" ∷ []
lines_of reply.Argument = codes "log argument" ∷ []
lines_of (reply.BestMove text) = with_text (codes "bestmove") text ∷ []
