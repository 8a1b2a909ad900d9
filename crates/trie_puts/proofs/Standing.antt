-- What a put makes of a node where it stands.
use Rattle.std.proofs.Common.{◌≡◌, ℕ, Bool, Option, sym, subst}
use Rattle.std.specs.declared.cmp.Ordering.{Ordering}
use Rattle.trie_shape.specs.Tree.{Tree}
use Rattle.trie_puts.specs.PutInPlace.{PutsIn}

-- a put of trees is a put of trees that are equal to them
pub puts_equal : {K V : Type 0} (R : K → K → Ordering) (path : K → ℕ) (level stamp : ℕ) (k : K) (v : V) (holds : Option V → Bool) (old old2 new new2 : Tree K V) (previous : Option V) (written : Bool) →
    old ≡ old2 → new2 ≡ new → PutsIn R path level stamp k v holds old previous written new → PutsIn R path level stamp k v holds old2 previous written new2
puts_equal R path level stamp k v holds old old2 new new2 previous written e f h =
    subst (λ x. PutsIn R path level stamp k v holds x previous written new2) e (subst (PutsIn R path level stamp k v holds old previous written) (sym f) h)
