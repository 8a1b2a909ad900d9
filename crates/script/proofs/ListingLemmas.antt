-- A listing's insert puts a pair into a map.
use Rattle.std.proofs.Common.{◌≡◌, ◌∙◌, List, [], ◌∷◌, refl, ap}
use Rattle.std.specs.declared.cmp.Ordering.{Ordering}
use Rattle.std.specs.declared.cmp.Ordering.TheVariants.{Less, Equal, Greater}
use Rattle.std.specs.Ordering.{match_ordering}
use Rattle.std.specs.BTreeMap.{insert_entry}
use Rattle.std.specs.FinMap.Entries.{by_order}
use Rattle.versions.specs.Map.{with_pair}

same_choice : {X : Type 0} (o : Ordering) (a b c : X) → match_ordering o a b c ≡ by_order o a b c
same_choice Less a b c = refl
same_choice Equal a b c = refl
same_choice Greater a b c = refl

-- a tree map and a finite map have one place for a pair
pub inserted : {K V : Type 0} (R : K → K → Ordering) (es : List (K × V)) (k : K) (v : V) → insert_entry R es k v ≡ with_pair R es k v
inserted R [] k v = refl
inserted {K} {V} R (e ∷ es) k v =
    same_choice (R k e.0) ((k, v) ∷ e ∷ es) ((e.0, v) ∷ es) (e ∷ insert_entry R es k v) ∙ ap (λ (rest : List (K × V)). by_order (R k e.0) ((k, v) ∷ e ∷ es) ((e.0, v) ∷ es) (e ∷ rest)) (inserted R es k v)
