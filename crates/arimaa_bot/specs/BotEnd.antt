-- The exit status of each end of a session.
use Rattle.std.specs.Prelude.{ℕ}
use Rattle.arimaa_bot.specs.declared.bot_end.BotEnd.{BotEnd}
use Rattle.arimaa_bot.specs.declared.bot_end.BotEnd.TheVariants.{Quit, Ended, Words, Fault, Long, Limit, Memory}

-- the exit status of the program
abbrev pub exit_code : BotEnd → ℕ
exit_code Quit = 0
exit_code Ended = 1
exit_code Words = 2
exit_code Fault = 3
exit_code Long = 5
exit_code Limit = 6
exit_code Memory = 8
