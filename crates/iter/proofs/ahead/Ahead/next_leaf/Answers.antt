use Rattle.std.proofs.Common.{◌+◌, ◌-◌, [], ◌∷◌, length, refl, sym, ap, ◌∙◌, subst, arith, length-append}
use Rattle.std.proofs.lemmas.List.{length-map, take_all}
use Rattle.std.specs.Int.RustNames.{count_ones}
use Rattle.trie_shape.specs.Outline.{children}
use Rattle.trie_shape.specs.View.{pair_values, tree}
use Rattle.iter.specs.Subtries.{AllStand, nodes_of_all, pairs_of_all}
use Rattle.iter.specs.Stacks.{IsWithin, trees_of}
use Rattle.iter.specs.declared.ahead.Ahead.{Ahead}
use Rattle.iter.proofs.Subtries.{children_stand, stands_first, stand_later}
use Rattle.iter.proofs.Stacks.{entered_sound, entered_pairs, entered_nodes, left_sound, left_same, stepped_sound}
use Rattle.iter.proofs.ahead.Ahead.next_leaf.Goals as goal

pub loop-node-smaller-in_default : goal.loop-node-smaller-in_default
loop-node-smaller-in_default g c =
    let a = c.loop-node.self in
    let b : Ahead _ _ _ _ _ = record { here = c.in_ok-self.field-0; above = c.pop.new.self; level = a.level - 1; entered = a.entered } in
    let same = left_same a b c.in_default.ensures.first.0 c.in_ok-self.ensures.items in
    let long = ap length c.in_ok-self.ensures.items ∙ length-append b.above.items (b.here ∷ []) in
    omega (arith, ap nodes_of_all same, long)

pub loop-node-preserved-in_default : goal.loop-node-preserved-in_default
loop-node-preserved-in_default g c =
    let a = c.loop-node.self in
    let b : Ahead _ _ _ _ _ = record { here = c.in_ok-self.field-0; above = c.pop.new.self; level = a.level - 1; entered = a.entered } in
    let old = c.loop-node.invariant in
    let same = left_same a b c.in_default.ensures.first.0 c.in_ok-self.ensures.items in
    record {
      sound = left_sound g.K.Ord.cmp g.K.PathKey.path_of a b old.sound c.in_ok-self.ensures.items c.in_ok-self.ensures.capacity refl;
      pairs = old.pairs ∙ ap pairs_of_all (sym same);
      nodes = λ few. ap (λ ts. a.entered + nodes_of_all ts) same ∙ old.nodes few;
    }

pub returns-in-Pairs-clause-sound : goal.returns-in-Pairs-clause-sound
returns-in-Pairs-clause-sound g c =
    let R = g.K.Ord.cmp in
    let path = g.K.PathKey.path_of in
    let a = c.loop-node.self in
    let b : Ahead _ _ _ _ _ = record { here = c.take_first.new.self; above = a.above; level = a.level; entered = c.saturating_add-self.result } in
    let s = c.loop-node.invariant.sound in
    let stand = subst (AllStand R path a.level) c.in-Some.ensures.first s.here in
    stepped_sound R path a b s refl refl refl c.in-Some.ensures.within (stand_later R path a.level (tree c.in-Some.node.now) (trees_of b.here) stand)

pub returns-in-Pairs-clause-pairs : goal.returns-in-Pairs-clause-pairs
returns-in-Pairs-clause-pairs g c =
    let a = c.loop-node.self in
    let t = tree c.in-Some.node.now in
    let stand = subst (AllStand g.K.Ord.cmp g.K.PathKey.path_of a.level) c.in-Some.ensures.first c.loop-node.invariant.sound.here in
    let some = (stands_first g.K.Ord.cmp g.K.PathKey.path_of a.level t (trees_of c.take_first.new.self) stand).1 in
    let shown = c.leaf_is_its_pairs.ensures.pairs t c.in-Pairs.pairs c.in-Pairs.ensures in
    omega (arith, some, ap length shown, length-map c.in-Pairs.pairs.now pair_values)

pub between-below-requires-clause-within : goal.between-below-requires-clause-within
between-below-requires-clause-within g c =
    let a = c.loop-node.self in
    let t = tree c.in-Some.node.now in
    let stand = subst (AllStand g.K.Ord.cmp g.K.PathKey.path_of a.level) c.in-Some.ensures.first c.loop-node.invariant.sound.here in
    let trie = (stands_first g.K.Ord.cmp g.K.PathKey.path_of a.level t (trees_of c.take_first.new.self) stand).0 in
    let long = c.bitmap_counts_children.ensures.count t c.in-Branch.bitmap (c.trie_follows_digits.ensures.fits t a.level trie) c.in-Branch.ensures in
    omega (arith, long)

pub loop-node-smaller : goal.loop-node-smaller
loop-node-smaller g c =
    let a = c.loop-node.self in
    let t = tree c.in-Some.node.now in
    let b : Ahead _ _ _ _ _ = record { here = c.replace.new.dest; above = c.push_reserved.new.self; level = a.level + 1; entered = c.saturating_add-self.result } in
    let kept = c.replace.result in
    let first = c.in-Some.ensures.first ∙ ap (λ x. t ∷ trees_of x) (sym c.replace.ensures.value) in
    let stand = subst (AllStand g.K.Ord.cmp g.K.PathKey.path_of a.level) c.in-Some.ensures.first c.loop-node.invariant.sound.here in
    let trie = (stands_first g.K.Ord.cmp g.K.PathKey.path_of a.level t (trees_of c.take_first.new.self) stand).0 in
    let long = c.bitmap_counts_children.ensures.count t c.in-Branch.bitmap (c.trie_follows_digits.ensures.fits t a.level trie) c.in-Branch.ensures in
    let below = ap trees_of c.replace.ensures.after ∙ c.between-below.ensures.trees ∙ take_all (count_ones c.in-Branch.bitmap) (children t) (omega (arith, long)) in
    let fewer = entered_nodes a b kept t first c.push_reserved.ensures.items below (c.branch_is_its_children.ensures.nodes t c.in-Branch.bitmap c.in-Branch.ensures) in
    let more = ap length c.push_reserved.ensures.items ∙ length-append a.above.items (kept ∷ []) in
    omega (arith, fewer, more)

pub loop-node-preserved : goal.loop-node-preserved
loop-node-preserved g c =
    let R = g.K.Ord.cmp in
    let path = g.K.PathKey.path_of in
    let a = c.loop-node.self in
    let t = tree c.in-Some.node.now in
    let b : Ahead _ _ _ _ _ = record { here = c.replace.new.dest; above = c.push_reserved.new.self; level = a.level + 1; entered = c.saturating_add-self.result } in
    let kept = c.replace.result in
    let old = c.loop-node.invariant in
    let shown = c.in-Branch.ensures in
    let first = c.in-Some.ensures.first ∙ ap (λ x. t ∷ trees_of x) (sym c.replace.ensures.value) in
    let stand = subst (AllStand R path a.level) first old.sound.here in
    let trie = (stands_first R path a.level t (trees_of kept) stand).0 in
    let laws = c.trie_follows_digits.ensures in
    let long = c.bitmap_counts_children.ensures.count t c.in-Branch.bitmap (laws.fits t a.level trie) shown in
    let below = ap trees_of c.replace.ensures.after ∙ c.between-below.ensures.trees ∙ take_all (count_ones c.in-Branch.bitmap) (children t) (omega (arith, long)) in
    let stands = subst (AllStand R path (a.level + 1)) (sym (ap trees_of c.replace.ensures.after ∙ c.between-below.ensures.trees)) (children_stand R path a.level 0 (count_ones c.in-Branch.bitmap) t (λ u n lt e. laws.below t u a.level n trie lt e)) in
    let items = c.push_reserved.ensures.items in
    let fewer = entered_nodes a b kept t first items below (c.branch_is_its_children.ensures.nodes t c.in-Branch.bitmap shown) in
    record {
      sound = entered_sound R path a b kept old.sound (laws.branch t a.level c.in-Branch.bitmap trie shown) (subst IsWithin (sym c.replace.ensures.value) c.in-Some.ensures.within) (stand_later R path a.level t (trees_of kept) stand) items c.push_reserved.ensures.capacity refl (subst IsWithin (sym c.replace.ensures.after) c.between-below.ensures.within) stands;
      pairs = old.pairs ∙ entered_pairs a b kept t first items below (c.branch_is_its_children.ensures.pairs t c.in-Branch.bitmap shown);
      nodes = λ few. omega (arith, old.nodes few, few, fewer, c.saturating_add-self.ensures);
    }
