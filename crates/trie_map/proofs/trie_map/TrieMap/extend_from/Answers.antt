use Rattle.std.proofs.Common.{[], ◌∷◌, refl}
use Rattle.trie_map.proofs.trie_map.TrieMap.extend_from.Goals as goal

pub loop-key-init : goal.loop-key-init
loop-key-init g c =
    let goes = c.requires.ends _ c.into_iter-key-iterator.ensures.into_iter_gives in
    record { next = goes.0; finite = goes.1; kept = c.requires.rule _ c.into_iter-key-iterator.ensures.into_iter_gives }

pub put-requires : goal.put-requires
put-requires g c =
    c.loop-key.invariant.kept [] (c.in-Some.key, c.in-Some.value) c.next.new.self (c.loop-key.key-iterator, refl, c.in-Some.ensures.steps)

pub loop-key-preserved-in_ok-put : goal.loop-key-preserved-in_ok-put
loop-key-preserved-in_ok-put g c =
    let goes = c.in-Some.ensures.goes.on c.loop-key.invariant.finite in
    record {
      next = goes.0;
      finite = goes.1;
      kept = λ before pair behind more. c.loop-key.invariant.kept ((c.in-Some.key, c.in-Some.value) ∷ before) pair behind (more.0, (c.next.new.self, c.in-Some.ensures.steps, more.1), more.2);
    }

pub loop-key-preserved : goal.loop-key-preserved
loop-key-preserved g c =
    let goes = c.in-Some.ensures.goes.on c.loop-key.invariant.finite in
    record {
      next = goes.0;
      finite = goes.1;
      kept = λ before pair behind more. c.loop-key.invariant.kept ((c.in-Some.key, c.in-Some.value) ∷ before) pair behind (more.0, (c.next.new.self, c.in-Some.ensures.steps, more.1), more.2);
    }
