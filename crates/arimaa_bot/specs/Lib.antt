pub mod BotEnd
pub mod Replies
pub mod Stages
pub mod Lookaheads
pub mod Choice
pub mod Talk
pub mod Calls
