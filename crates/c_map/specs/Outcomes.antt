-- What an answer says of a command.
use Rattle.std.specs.Prelude.{◌≡◌, ℕ, Bool, true, false, List, Option, Some, None, cond, MatchBool, ◌==◌}
use Rattle.keys.specs.Order.{bytes_cmp}
use Rattle.versions.specs.Commands.{Command, Reply, old, done, count, cleared, after, reply, is_full}
use Rattle.c_map.specs.Stored.{Stored}

-- how a call ended: there is no value at the key, or was none, or a condition did not hold; there is a value, or was, of
-- which a number is shown, or the condition held; or why the call was refused
pub data Outcome : Type 0 where
  absent : Outcome
  found : ℕ → Outcome
  full : Outcome
  no_memory : Outcome
  no_outcome : Outcome

-- the outcome of a status with no value
abbrev pub of_status : ℕ → Outcome
of_status status = cond (status == 0) absent (cond (status == 2) full (cond (status == 3) no_memory no_outcome))

-- the outcome that an answer stands for
abbrev pub outcome : ℕ → ℕ → Outcome
outcome status value = cond (status == 1) (found value) (cond (value == 0) (of_status status) no_outcome)

-- the outcome of a value that is there, or not
abbrev pub of_found : Option ℕ → Outcome
of_found None = absent
of_found (Some n) = found n

-- the outcome of a condition
abbrev pub of_done : Bool → Outcome
of_done true = found 0
of_done false = absent

module _ {V : Type 0} (number : V → ℕ) where
  -- the outcome of a reply, where `number` is shown of a value
  abbrev pub of_reply : Reply V → Outcome
  of_reply (old None) = absent
  of_reply (old (Some v)) = found (number v)
  of_reply (done b) = of_done b
  of_reply (count n) = found n
  of_reply cleared = absent

module _ {V : Type 0} (number : V → ℕ) (E : V → V → Bool) where
  -- a call on the map m does the command and leaves n
  abbrev pub Done : Stored V → Command (List ℕ) V → Outcome → Stored V → Type 0
  Done m c o n = (o ≡ of_reply number (reply bytes_cmp E m.entries c)) × (n.entries ≡ after bytes_cmp E m.entries c) × (n.limit ≡ m.limit)

  -- it does so, or is refused and changes nothing: as full exactly where the map is, and else only if memory runs out
  abbrev pub Does : Stored V → Command (List ℕ) V → Outcome → Stored V → Type 0
  Does m c absent n = Done m c absent n × (is_full bytes_cmp m.limit m.entries c ≡ false)
  Does m c (found x) n = Done m c (found x) n × (is_full bytes_cmp m.limit m.entries c ≡ false)
  Does m c full n = (is_full bytes_cmp m.limit m.entries c ≡ true) × (n ≡ m)
  Does m c no_memory n = (is_full bytes_cmp m.limit m.entries c ≡ false) × (n ≡ m)
  Does m c no_outcome n = ⊥

-- a fork has the pairs and the limit of its source, which stays; where it is refused the target stays too
abbrev pub Forks : {V : Type 0} → Stored V → Stored V → ℕ → Stored V → Stored V → Type 0
Forks m t status n u = (n ≡ m) × MatchBool (status == 0) (u ≡ m) ((status ≡ 3) × (u ≡ t))
