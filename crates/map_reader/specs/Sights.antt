-- What readers have seen of a history, and the views that they have of it.
use Rattle.std.specs.Prelude.{◌≡◌, ℕ, List, Option, Some}
use Rattle.std.specs.declared.cmp.Ordering.{Ordering}
use mathlib.Core.List.{IsPrefix}
use Rattle.logbook.specs.Pages.{Book}
use Rattle.stripe.specs.Rules.{AllKeep}
use Rattle.versions.specs.Map.{Map, value_at}
use Rattle.write_history.specs.declared.entry.Entry.{Entry}
use Rattle.write_history.specs.Histories.{value_in}
use Rattle.write_history.specs.Rules.{HasHistory}

-- a history was seen, which goes on from this one
abbrev pub HasSeen : {A : Type 0} → List A → Option (List A) → Type 0
HasSeen {A} since front = (h : List A) × (front ≡ Some h) × IsPrefix since h

-- a map, and a history in which each key has the value that it has in the map
pub record Based (K V : Type 0) : Type 0 where
  pub pairs : Map K V
  pub log : List (Entry K V)

module _ {K V : Type 0} (R : K → K → Ordering) (path : K → ℕ) where
  -- each key has in the map the value that the history leaves it
  abbrev pub AllTold : Map K V → List (Entry K V) → Type 0
  AllTold m log = (q : K) → value_at R m q ≡ value_in R path log q

  -- each pair keeps the rule, and where the map has a history, each key has the value that it leaves
  pub record IsBase (H : K → V → Type 0) (name : Option Book) (m : Map K V) (log : List (Entry K V)) : Type 0 where
    pub kept : AllKeep R H m
    pub told : HasHistory name → AllTold m log
