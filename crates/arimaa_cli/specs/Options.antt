-- The options of prove and refute.
use Rattle.std.specs.Prelude.{◌≡◌, ℕ, List, Option, None}
use Rattle.arimaa_pool.specs.declared.settings.Settings.{Settings}
use Rattle.arimaa_options.specs.Options as options

-- the words are options other than a depth, that set this
pub record AreOptions (words : List (List ℕ)) (s : Settings) : Type 0 where
  pub workers : Option ℕ
  pub given : options.AreOptions words (record { depth = None; workers = workers; settings = s })

-- the words are options other than a depth and a number of workers, that set this for one worker
pub record AreOptionsOfOne (words : List (List ℕ)) (s : Settings) : Type 0 where
  pub usual : Settings
  pub given : options.AreOptions words (record { depth = None; workers = None; settings = usual })
  pub set : s ≡ record usual { workers = 1 }
