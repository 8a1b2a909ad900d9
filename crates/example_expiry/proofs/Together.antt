-- The initials of one more name, and of two registries together.
use Rattle.std.proofs.Common.{◌≡◌, ℕ, ◌+◌, ◌≤◌, true, false, cond, List, length, [], ◌∷◌, refl, sym, ◌∙◌, arith}
use Rattle.std.proofs.Math.Bridge.{le_prop}
use Rattle.std.proofs.Math.Logic.{∥∥₁_elim}
use Rattle.std.specs.Cmp.{IsTotalOrder}
use Rattle.std.specs.declared.cmp.Ordering.{Ordering}
use Rattle.versions.specs.Map.{Map}
use Rattle.versions.specs.declared.version.TheConstants.{MOST_PAIRS}
use Rattle.combiner.specs.Bulks.{CanAdd, CanJoin, IsAdded, IsJoined}
use Rattle.bulk_work.proofs.Unions.{passing_le}
use Rattle.bulk_ops.proofs.Totals.{count_union}
use Rattle.bulk_work.proofs.Unions.{truth_of}
use Rattle.example_expiry.specs.Initials.{AreInitials, Counts, begins_with, count_at, how_many_begin}

-- c is a with a name counted
abbrev pub HasCounted : Counts → List ℕ → Counts → Type 0
HasCounted a name c = (byte : ℕ) → count_at c byte ≡ cond (begins_with byte name) 1 0 + count_at a byte

module _ {V : Type 0} where
  abbrev Are : Map (List ℕ) V → Counts → Type 0
  Are m counts = AreInitials m counts

  -- a name begins with a byte once or not at all
  once : (name : List ℕ) (value : V) (byte : ℕ) → cond (begins_with byte name) 1 0 ≡ how_many_begin byte ((name, value) ∷ [])
  once name value byte =
      elim (begins_with byte name) as (λ b. cond b 1 0 ≡ length {A = List ℕ × V} (cond b ((name, value) ∷ []) [])) [ true ↦ refl | false ↦ refl ]

  -- no more names begin with a byte than there are
  few_begin : (byte : ℕ) (m : Map (List ℕ) V) → how_many_begin byte m ≤ length m
  few_begin byte m = passing_le (λ (name : List ℕ) (value : V). begins_with byte name) m

  module _ (R : List ℕ → List ℕ → Ordering) where
    -- the counts of parts that can be joined are at most what a map may have
    pub both_few : (a b : Counts) → CanJoin R Are a b → (byte : ℕ) → count_at a byte + count_at b byte ≤ MOST_PAIRS
    both_few a b can byte =
        ∥∥₁_elim can le_prop (λ x. omega (arith, x.first_is byte, x.second_is byte, few_begin byte x.first, few_begin byte x.second, x.apart.few))

    -- where a name can be added, there is room for one more at each byte
    pub room : (a : Counts) (name : List ℕ) (value : V) → CanAdd R Are a name value → (byte : ℕ) → count_at a byte + 1 ≤ MOST_PAIRS
    room a name value can byte = ∥∥₁_elim can le_prop (λ x. omega (arith, x.1 byte, few_begin byte x.0, x.2.few))

    module _ (o : IsTotalOrder R) where
      -- the initials of two registries together
      pub both : (a b c : Counts) → ((byte : ℕ) → count_at c byte ≡ count_at a byte + count_at b byte) → IsJoined R Are a b c
      both a b c sum m n x y apart byte =
          sum byte ∙ (λ i. x byte i + y byte i)
          ∙ sym (count_union R o (λ (name : List ℕ) (value : V). begins_with byte name) m n (truth_of _ apart.left) apart.apart)

      -- the initials of a registry and one more name
      pub one_more : (a c : Counts) (name : List ℕ) (value : V) → HasCounted a name c → IsAdded R Are a name value c
      one_more a c name value added m is apart byte =
          added byte ∙ (λ i. once name value byte i + is byte i)
          ∙ sym (count_union R o (λ (name : List ℕ) (value : V). begins_with byte name) ((name, value) ∷ []) m (truth_of _ apart.left) apart.apart)
