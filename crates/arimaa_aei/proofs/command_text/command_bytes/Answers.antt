use Rattle.std.proofs.Common.{refl, codes}
use Rattle.arimaa_aei.specs.declared.command.Command.TheVariants.{Aei, IsReady, NewGame, SetOption, Go, Stop, Quit}
use Rattle.arimaa_notation.specs.Items.{items_of}
use Rattle.arimaa_aei.specs.Commands.{command_of}
use Rattle.arimaa_aei.specs.Words.{command_word_of}
use Rattle.arimaa_aei.proofs.CommandsBack.{alone_back, option_arm_back}
use Rattle.arimaa_aei.proofs.command_text.command_bytes.Goals as goal

pub returns-in-Aei-clause-reads_back : goal.returns-in-Aei-clause-reads_back
unfolding command_of command_word_of items_of
returns-in-Aei-clause-reads_back c = alone_back c.word_bytes.result (λ line. line.items) (codes "aei") _ Aei c.in-Aei.is refl c.word_bytes.ensures

pub returns-in-IsReady-clause-reads_back : goal.returns-in-IsReady-clause-reads_back
unfolding command_of command_word_of items_of
returns-in-IsReady-clause-reads_back c = alone_back c.word_bytes-in-IsReady.result (λ line. line.items) (codes "isready") _ IsReady c.in-IsReady.is refl c.word_bytes-in-IsReady.ensures

pub returns-in-NewGame-clause-reads_back : goal.returns-in-NewGame-clause-reads_back
unfolding command_of command_word_of items_of
returns-in-NewGame-clause-reads_back c = alone_back c.word_bytes-in-NewGame.result (λ line. line.items) (codes "newgame") _ NewGame c.in-NewGame.is refl c.word_bytes-in-NewGame.ensures

pub returns-in-Go-clause-reads_back : goal.returns-in-Go-clause-reads_back
unfolding command_of command_word_of items_of
returns-in-Go-clause-reads_back c = alone_back c.word_bytes-in-Go.result (λ line. line.items) (codes "go") _ Go c.in-Go.is refl c.word_bytes-in-Go.ensures

pub returns-in-Stop-clause-reads_back : goal.returns-in-Stop-clause-reads_back
unfolding command_of command_word_of items_of
returns-in-Stop-clause-reads_back c = alone_back c.word_bytes-in-Stop.result (λ line. line.items) (codes "stop") _ Stop c.in-Stop.is refl c.word_bytes-in-Stop.ensures

pub returns-in-Quit-clause-reads_back : goal.returns-in-Quit-clause-reads_back
unfolding command_of command_word_of items_of
returns-in-Quit-clause-reads_back c = alone_back c.word_bytes-in-Quit.result (λ line. line.items) (codes "quit") _ Quit c.in-Quit.is refl c.word_bytes-in-Quit.ensures

pub returns-in-SetOption-clause-reads_back : goal.returns-in-SetOption-clause-reads_back
returns-in-SetOption-clause-reads_back c = option_arm_back c.option_bytes.result (λ line. line.items) _ (SetOption c.in-SetOption.name c.in-SetOption.value) c.in-SetOption.is c.option_bytes.ensures.reads_back
