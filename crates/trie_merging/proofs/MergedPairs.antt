-- A leaf or bucket together with another subtrie: each of its pairs put there.
use Rattle.std.proofs.Common.{◌≡◌, ℕ, true, List, map, length, Option, Some, None, is_some, is_none, refl, sym, ap, ◌∙◌, subst, arith}
use Rattle.std.specs.Option.{option_or}
use Rattle.std.specs.declared.cmp.Ordering.{Ordering}
use Rattle.std.specs.FinMap.{find}
use Rattle.trie_shape.specs.Looks.{ShowsPairs}
use Rattle.trie_shape.specs.Tree.{Tree, branch, bucket, entries, IsTrie}
use Rattle.trie_shape.specs.View.{pair_values}
use Rattle.trie_merging.specs.Merges.{CanMerge, Merges, PutsEach, written_over}

over_absent : {V : Type 0} (a found : Option V) → written_over is_none a found ≡ option_or found a
over_absent None None = refl
over_absent None (Some v) = refl
over_absent (Some v) None = refl
over_absent (Some v) (Some w) = refl

over_always : {V : Type 0} (a found : Option V) → written_over (λ x. true) a found ≡ option_or a found
over_always None found = refl
over_always (Some v) found = refl

module _ {K V : Type 0} (R : K → K → Ordering) (path : K → ℕ) (level stamp : ℕ) (ps : List (K × V)) where
  abbrev these : Tree K V
  these = bucket stamp (map pair_values ps)

  -- the pairs of the right side can be put on the left one
  pub can_put_right : (left right : Tree K V) → ShowsPairs ps right → CanMerge R path level (Some left) (Some right) → CanMerge R path level (Some these) (Some left)
  can_put_right left (branch s size bitmap ts) shows h = absurd shows
  can_put_right left (bucket s es) shows h = record {
    depth = h.depth;
    left_trie = subst (λ xs. IsTrie R path level (bucket stamp xs)) (sym shows) h.right_trie;
    right_trie = h.left_trie;
    agree = λ q r found other. sym (h.agree r q other (subst (λ xs. is_some (find R q xs) ≡ true) shows found));
    room = omega (arith, h.room, ap length shows);
  }

  -- and those of the left side on the right one
  pub can_put_left : (left right : Tree K V) → ShowsPairs ps left → CanMerge R path level (Some left) (Some right) → CanMerge R path level (Some these) (Some right)
  can_put_left (branch s size bitmap ts) right shows h = absurd shows
  can_put_left (bucket s es) right shows h = record {
    depth = h.depth;
    left_trie = subst (λ xs. IsTrie R path level (bucket stamp xs)) (sym shows) h.left_trie;
    right_trie = h.right_trie;
    agree = λ q r found other. h.agree q r (subst (λ xs. is_some (find R q xs) ≡ true) shows found) other;
    room = omega (arith, h.room, ap length shows);
  }

  -- pairs of the right side are put where the left one has none of their keys
  pub merges_right : (left right new : Tree K V) → ShowsPairs ps right → PutsEach R path level stamp is_none (map pair_values ps) left new → Merges R path level stamp (Some left) (Some right) (Some new)
  merges_right left (branch s size bitmap ts) new shows h = absurd shows
  merges_right left (bucket s es) new shows h = record {
    there = refl;
    trie = h.trie;
    finds = λ q. h.finds q ∙ over_absent (find R q (map pair_values ps)) (find R q (entries left)) ∙ ap (λ xs. option_or (find R q (entries left)) (find R q xs)) shows;
    most = omega (arith, h.most, ap length shows);
    stamps = λ test here l r. h.stamps test here l;
  }

  -- pairs of the left side are put in any case
  pub merges_left : (left right new : Tree K V) → ShowsPairs ps left → PutsEach R path level stamp (λ found. true) (map pair_values ps) right new → Merges R path level stamp (Some left) (Some right) (Some new)
  merges_left (branch s size bitmap ts) right new shows h = absurd shows
  merges_left (bucket s es) right new shows h = record {
    there = refl;
    trie = h.trie;
    finds = λ q. h.finds q ∙ over_always (find R q (map pair_values ps)) (find R q (entries right)) ∙ ap (λ xs. option_or (find R q xs) (find R q (entries right))) shows;
    most = omega (arith, h.most, ap length shows);
    stamps = λ test here l r. h.stamps test here r;
  }
