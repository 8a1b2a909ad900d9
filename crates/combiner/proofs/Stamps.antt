-- Stamps of two maps together.
use Rattle.std.proofs.Common.{◌≡◌, ℕ, ◌≤◌, arith, subst, sym}
use Rattle.trie_shape.specs.Shape.{Nodes, NoneAbove}

-- where no stamp is above one, none is above a greater one
pub none_above : (a b : ℕ) (ms ns : Nodes) → a ≤ b → ns ≡ ms → NoneAbove a ms → NoneAbove b ns
none_above a b ms ns le e none = subst (λ ns. NoneAbove b ns) (sym e) (λ k d lt. omega (arith, none k d lt))
