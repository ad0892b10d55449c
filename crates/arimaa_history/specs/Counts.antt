-- What is kept beside the positions of a history.
use Rattle.std.specs.Prelude.{◌≡◌, Bool, ℕ, ◌-◌, List, length, take, unwrap_or, true, false, ◌≤◌, if◌then◌else◌}
use Rattle.std.specs.declared.cmp.Ordering.{Ordering}
use Rattle.std.specs.Ordering.{is_eq}
use Rattle.std.specs.BTreeMap.{BTreeMap, get}
use Rattle.std.specs.BTreeSet.{BTreeSet, contains as has}
use Rattle.std.specs.HashSet.{HashSet, contains}
use Rattle.arimaa_board.specs.declared.position.Position.{Position}
use Rattle.arimaa_model.specs.Game.{barred_by, count_in}
use Rattle.arimaa_model.specs.Results.{stands_in}
use Rattle.arimaa_history.specs.declared.key.Key.{Key}
use Rattle.arimaa_history.specs.contracts.key.KeyOrd.TheImpl as key_order
use Rattle.arimaa_history.specs.contracts.key.KeyPartialEq.TheImpl as key_equality
use Rattle.arimaa_history.specs.Keys.{key_of, position_at}

-- a list of positions without its last one
abbrev pub without_last : List Position → List Position
without_last h = take (length h - 1) h

-- the order of keys
abbrev pub order_of : Key → Key → Ordering
order_of = (key_order.ghosts).cmp

-- whether two keys are the same
abbrev pub same_key : Key → Key → Bool
same_key = (key_equality.ghosts).eq

-- how often a key is counted, 0 where the map does not have it
abbrev pub count_of : BTreeMap Key ℕ → Key → ℕ
count_of counts k = unwrap_or (get order_of counts k) 0

-- a key is counted so often in the new map, and each other key as often as in the old one
abbrev pub IsCounted : BTreeMap Key ℕ → BTreeMap Key ℕ → Key → ℕ → Type 0
IsCounted old new key count = (k : Key)
    → count_of new k ≡ (if is_eq (order_of key k) then count else count_of old k)

-- whether a set has a key
abbrev pub has_key : BTreeSet Key → Key → Bool
has_key keys k = has order_of keys k

-- the set has the key of a position exactly where it stands in a list, for those that their keys
-- give back
abbrev pub HasKeys : List Position → BTreeSet Key → Type 0
HasKeys h keys = (q : Position) → position_at (key_of q) ≡ q
    → (has_key keys (key_of q) ≡ true → 1 ≤ count_in h q)
    × (has_key keys (key_of q) ≡ false → count_in h q ≡ 0)

-- the map has at its key how often again a position stands in a list, for each position that its
-- key gives back
abbrev pub AreCounts : List Position → BTreeMap Key ℕ → Type 0
AreCounts h again = (q : Position) → position_at (key_of q) ≡ q
    → count_of again (key_of q) ≡ count_in h q - 1

-- the set has the keys of the positions of a list, of those that their keys give back
abbrev pub AreKeys : {S : Type 0} → List Position → HashSet Key S → Type 0
AreKeys ps keys = (q : Position) → position_at (key_of q) ≡ q
    → contains same_key keys (key_of q) ≡ stands_in ps q

-- what is kept beside the positions of a history: the barred ones, the keys, and how often again
-- each stands there
pub record AreKept (h barred : List Position) (keys : BTreeSet Key)
    (again : BTreeMap Key ℕ) : Type 0 where
  pub barring : barred ≡ barred_by h
  pub standing : HasKeys h keys
  pub counting : AreCounts h again
