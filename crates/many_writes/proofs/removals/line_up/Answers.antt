use Rattle.std.proofs.Common.{◌+◌, ◌∷◌, ◌++◌, [], refl, ap, sym, ◌∙◌, subst, arith, take}
use Rattle.std.proofs.lemmas.List.{take_more}
use Rattle.std.specs.List.{AllZip}
use Rattle.many_writes.specs.Turns.{Stands}
use Rattle.many_writes.specs.declared.turn.Turn.TheVariants.{Waits}
use Rattle.std.proofs.lemmas.Slice.Zip.{all_zipped_more}
use Rattle.many_writes.proofs.removals.line_up.Goals as goal

pub loop-key-preserved : goal.loop-key-preserved
loop-key-preserved g c =
    let path = λ (key : g.row.Q.Denot). g.K.PathKey.path_of (g.Q.Sought.key_of key) in
    let keys = c.args.keys.now in
    let i = c.loop-key.key-index in
    let more = take_more keys i c.key-item.result c.loop-key-test.true ∙ ap (λ key. take i keys ++ key ∷ []) (sym c.key-item.is) in
    let turn = Waits c.path_sought-path.result c.key-item.result in
    record {
      turns = subst (λ ts. AllZip (Stands path) (take (i + 1) keys) ts) (sym c.push_reserved.ensures.items)
          (subst (λ xs. AllZip (Stands path) xs (c.loop-key.turns.items ++ turn ∷ [])) (sym more) (all_zipped_more (Stands path) (take i keys) c.loop-key.turns.items c.key-item.result turn c.loop-key.invariant.turns (refl, c.path_sought-path.ensures)));
      count = omega (arith, c.loop-key.invariant.count, c.push_reserved.ensures.len);
      room = omega (arith, c.loop-key.invariant.room, c.push_reserved.ensures.capacity);
    }
