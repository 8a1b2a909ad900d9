-- Maps that are made of two maps together, and of one pair.
use Rattle.std.proofs.Common.{◌≡◌, ℕ, ◌+◌, ◌≤◌, Bool, true, false, cond, T, [], ◌∷◌, ◌++◌, length, inl, inr, refl, sym, ap, subst, ◌∙◌, arith}
use Rattle.std.proofs.Math.Bridge.{le_prop}
use Rattle.std.proofs.Math.Logic.{∥∥₁_elim}
use Rattle.std.proofs.Math.Nat.{ℕ_set}
use Rattle.std.specs.Cmp.{IsTotalOrder}
use Rattle.std.specs.FinMap.{is_sorted}
use Rattle.std.specs.declared.cmp.Ordering.{Ordering}
use Rattle.trie_shape.specs.Roots.{listed}
use Rattle.trie_filter.specs.Passing.{AreChosen}
use Rattle.trie_filter.proofs.Chosen.{chosen_append, length_chosen, listed_chosen, sorted_chosen}
use Rattle.trie_values.specs.Values.{AreGiven, IsGiven}
use Rattle.trie_values.proofs.Given.{appended, listed_given, sorted_given}
use Rattle.versions.specs.Contents.{Contents}
use Rattle.versions.specs.Map.{Map, IsAntisymmetric, union}
use Rattle.versions.specs.declared.version.TheConstants.{MOST_PAIRS}
use Rattle.combiner.specs.Bulks.{CanJoin, IsJoined}
use Rattle.combiner.specs.Unions.{AreApart}
use Rattle.bulk_work.proofs.Unions.{truth_of}
use Rattle.closure_ops.specs.Parts.{IsFiltered, IsMapped}
use Rattle.closure_ops.proofs.Listing.{apart_append, union_listed}

module _ {K V : Type 0} (gives : K → V → Bool → Type 0) where
  abbrev Filtered : Map K V → Contents K V → Type 0
  Filtered m made = IsFiltered gives m made

  one_chosen : (k : K) (v : V) (b : Bool) → gives k v b → AreChosen gives ((k, v) ∷ []) (cond b ((k, v) ∷ []) [])
  one_chosen k v true may = inr ([], (refl, may, refl))
  one_chosen k v false may = inl (may, refl)

  -- of one pair, what the closure answers there
  pub one_filtered : (k : K) (v : V) (b : Bool) (made : Contents K V) → gives k v b → made.entries ≡ cond b ((k, v) ∷ []) [] → made.limit ≡ MOST_PAIRS → Filtered ((k, v) ∷ []) made
  one_filtered k v b made may is limit = record { limit = limit; chosen = subst (AreChosen gives ((k, v) ∷ [])) (sym is) (one_chosen k v b may) }

  module _ (R : K → K → Ordering) where
    -- maps that can be joined have one limit, and room for each other
    pub filtered_limits : (a b : Contents K V) → CanJoin R Filtered a b → a.limit ≡ b.limit
    filtered_limits a b can = ∥∥₁_elim can (λ x y. ℕ_set _ _ x y) (λ x. x.first_is.limit ∙ sym x.second_is.limit)

    pub filtered_room : (a b : Contents K V) → CanJoin R Filtered a b → length a.entries + length b.entries ≤ a.limit
    filtered_room a b can = ∥∥₁_elim can le_prop (λ x. omega (arith, length_chosen gives x.first a.entries x.first_is.chosen, length_chosen gives x.second b.entries x.second_is.chosen, x.apart.few, x.first_is.limit))

    module _ (o : IsTotalOrder R) (exact : IsAntisymmetric R) where
      union_chosen : (m n a b : Map K V) → AreApart R m n → AreChosen gives m a → AreChosen gives n b → AreChosen gives (union R m n) (union R a b)
      union_chosen m n a b apart x y =
          let left : T (is_sorted R m) = truth_of _ apart.left in
          let right : T (is_sorted R n) = truth_of _ apart.right in
          subst (λ l. AreChosen gives l (union R a b)) (union_listed R o exact m n right)
          (subst (AreChosen gives (listed R (m ++ n))) (union_listed R o exact a b (sorted_chosen gives R n b y right))
          (listed_chosen gives R o exact (m ++ n) (a ++ b) (apart_append R o m n left right apart.apart) (chosen_append gives m a n b x y)))

      -- what is joined
      pub both_filtered : (a b c : Contents K V) → c.entries ≡ union R a.entries b.entries → c.limit ≡ a.limit → IsJoined R Filtered a b c
      both_filtered a b c is limit m n x y apart = record {
        limit = limit ∙ x.limit;
        chosen = subst (AreChosen gives (union R m n)) (sym is) (union_chosen m n a.entries b.entries apart x.chosen y.chosen);
      }

module _ {K V W : Type 0} (gives : K → V → W → Type 0) where
  abbrev Mapped : Map K V → Contents K W → Type 0
  Mapped m made = IsMapped gives m made

  -- of one pair, what the closure makes of it
  pub one_mapped : (k : K) (v : V) (w : W) (made : Contents K W) → gives k v w → made.entries ≡ (k, w) ∷ [] → made.limit ≡ MOST_PAIRS → Mapped ((k, v) ∷ []) made
  one_mapped k v w made may is limit = record { limit = limit; given = subst (AreGiven gives ((k, v) ∷ [])) (sym is) ((refl, may), tt) }

  length_given : (es : Map K V) (fs : Map K W) → AreGiven gives es fs → length fs ≤ length es
  length_given [] [] h = omega arith
  length_given [] (y ∷ fs) h = absurd h
  length_given (x ∷ es) [] h = absurd h
  length_given (x ∷ es) (y ∷ fs) h = omega (arith, length_given es fs h.1)

  module _ (R : K → K → Ordering) where
    pub mapped_limits : (a b : Contents K W) → CanJoin R Mapped a b → a.limit ≡ b.limit
    mapped_limits a b can = ∥∥₁_elim can (λ x y. ℕ_set _ _ x y) (λ x. x.first_is.limit ∙ sym x.second_is.limit)

    pub mapped_room : (a b : Contents K W) → CanJoin R Mapped a b → length a.entries + length b.entries ≤ a.limit
    mapped_room a b can = ∥∥₁_elim can le_prop (λ x. omega (arith, length_given x.first a.entries x.first_is.given, length_given x.second b.entries x.second_is.given, x.apart.few, x.first_is.limit))

    module _ (o : IsTotalOrder R) (exact : IsAntisymmetric R) where
      union_given : (m n : Map K V) (a b : Map K W) → AreApart R m n → AreGiven gives m a → AreGiven gives n b → AreGiven gives (union R m n) (union R a b)
      union_given m n a b apart x y =
          let right : T (is_sorted R n) = truth_of _ apart.right in
          let sorted : T (is_sorted R b) = subst T (sym (sorted_given gives R n b y)) right in
          subst (λ l. AreGiven gives l (union R a b)) (union_listed R o exact m n right)
          (subst (AreGiven gives (listed R (m ++ n))) (union_listed R o exact a b sorted)
          (listed_given gives R o exact (m ++ n) (a ++ b) (appended (IsGiven gives) m a n b x y)))

      -- what is joined
      pub both_mapped : (a b c : Contents K W) → c.entries ≡ union R a.entries b.entries → c.limit ≡ a.limit → IsJoined R Mapped a b c
      both_mapped a b c is limit m n x y apart = record {
        limit = limit ∙ x.limit;
        given = subst (AreGiven gives (union R m n)) (sym is) (union_given m n a.entries b.entries apart x.given y.given);
      }
