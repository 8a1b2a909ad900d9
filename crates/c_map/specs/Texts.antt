-- What calls do on a map whose values are texts.
use Rattle.std.specs.Prelude.{◌≡◌, ℕ, List, Option, Some, None, length, drop, nat_le, if◌then◌else◌}
use Rattle.keys.specs.Order.{bytes_cmp, bytes_eq}
use Rattle.versions.specs.Commands as commands
use Rattle.versions.specs.Map.{value_at}
use Rattle.c_map.specs.Stored.{Stored}
use Rattle.c_map.specs.Outcomes as any
use Rattle.c_map.specs.Pages as pages
use Rattle.c_map.specs.declared.answer.Page.{Page}

-- a call does the command; of a value its length is shown
abbrev pub Done : Stored (List ℕ) → commands.Command (List ℕ) (List ℕ) → any.Outcome → Stored (List ℕ) → Type 0
Done = any.Done length bytes_eq

-- it does, or is refused and changes nothing
abbrev pub Does : Stored (List ℕ) → commands.Command (List ℕ) (List ℕ) → any.Outcome → Stored (List ℕ) → Type 0
Does = any.Does length bytes_eq

-- a value at the front of a buffer, where there is one and it has room there
abbrev pub copied : Option (List ℕ) → List ℕ → List ℕ
copied None buffer = buffer
copied (Some v) buffer = if nat_le (length v) (length buffer) then pages.written buffer 0 v else buffer

-- a call gets the key's value, and leaves it in the buffer
abbrev pub Gets : Stored (List ℕ) → List ℕ → any.Outcome → List ℕ → List ℕ → Stored (List ℕ) → Type 0
Gets m k o before now n = Done m (commands.get k) o n × (now ≡ copied (value_at bytes_cmp m.entries k) before)

-- a page of the map's pairs from one number on
abbrev pub IsPage : Stored (List ℕ) → ℕ → List ℕ → Page → List ℕ → Type 0
IsPage m from = pages.IsPage (pages.spelled length (λ v. v)) (drop from (pages.listed m))
