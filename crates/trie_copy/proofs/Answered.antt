-- What a write under a condition answers, from what it answers one level below.
use Rattle.std.proofs.Common.{◌≡◌, ℕ, Bool, Option, Some, None, is_some, option_map, refl, sym, ap, ◌∙◌, subst, IfSome}
use Rattle.std.specs.declared.cmp.Ordering.{Ordering}
use Rattle.std.specs.FinMap.{find}
use Rattle.trie_shape.specs.Tree.{Tree, entries}
use Rattle.trie_copy.specs.Writes.{Writes, WritesWhere}

module _ {K V : Type 0} (R : K → K → Ordering) (path : K → ℕ) (level stamp : ℕ) (k : K) (given : Option V) (holds : Option V → Bool) (old : Tree K V) where
  module _ (below : ℕ) (child : Tree K V) (same : find R k (entries old) ≡ find R k (entries child)) (previous : Option V) (new : Option (Tree K V)) (w : WritesWhere R path below stamp k given holds child previous new) where
    -- nothing was written below
    pub nothing_raised : new ≡ None → WritesWhere R path level stamp k given holds old previous None
    nothing_raised none = record { previous_is = w.previous_is ∙ sym same; written = ap is_some (sym none) ∙ w.written ∙ ap holds (sym same); writes = tt }

    -- the child was written
    pub written_below : (u : Tree K V) → new ≡ Some u → Writes R path below stamp k given child u
    written_below u some = subst (λ o. IfSome o (λ t. Writes R path below stamp k given child t)) some w.writes

    pub raised : (u : Tree K V) → new ≡ Some u → (t : Tree K V) → Writes R path level stamp k given old t → WritesWhere R path level stamp k given holds old previous (Some t)
    raised u some t writes = record { previous_is = w.previous_is ∙ sym same; written = ap is_some (sym some) ∙ w.written ∙ ap holds (sym same); writes = writes }

-- what holds of the value that an option has, after a function
pub is_some_mapped : {A B : Type 0} (f : A → B) (o : Option A) → is_some o ≡ is_some (option_map f o)
is_some_mapped f (Some x) = refl
is_some_mapped f None = refl

pub if_some_mapped : {A B : Type 0} (f : A → B) (o : Option A) (P : B → Type 0) (Q : A → Type 0) → ((x : A) → P (f x) → Q x) → IfSome (option_map f o) P → IfSome o Q
if_some_mapped f (Some x) P Q h p = h x p
if_some_mapped f None P Q h p = tt

pub some_mapped : {A B : Type 0} (f : A → B) (o : Option A) (P : A → Type 0) (Q : B → Type 0) → ((x : A) → P x → Q (f x)) → IfSome o P → IfSome (option_map f o) Q
some_mapped f (Some x) P Q h p = h x p
some_mapped f None P Q h p = tt
