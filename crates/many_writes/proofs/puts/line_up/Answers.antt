use Rattle.std.proofs.Common.{◌∷◌, ◌++◌, [], List, length, rules, refl, ap, sym, ◌∙◌, subst, arith, append_assoc}
use Rattle.std.specs.List.{AllZip}
use Rattle.std.specs.Vec.Iter.{into_iter_items}
use Rattle.many_writes.specs.Turns.{Stands}
use Rattle.std.proofs.lemmas.Slice.Zip.{all_zipped_more}
use Rattle.many_writes.proofs.puts.line_up.Goals as goal

pub loop-key-init : goal.loop-key-init
loop-key-init g c =
    let path = λ (pair : g.row.K.Denot × g.row.V.Denot). g.K.PathKey.path_of pair.0 in
    record {
      turns = ([], search rules, subst (λ ts. AllZip (Stands path) [] ts) (sym c.requires.empty) tt);
      room = search rules;
    }

pub loop-key-preserved : goal.loop-key-preserved
loop-key-preserved g c =
    let path = λ (pair : g.row.K.Denot × g.row.V.Denot). g.K.PathKey.path_of pair.0 in
    let pair : g.row.K.Denot × g.row.V.Denot = (c.in-Some.key, c.in-Some.value) in
    let before = c.loop-key.invariant.turns in
    let step = c.in-Some.ensures.steps.0 in
    record {
      turns = (
        before.0 ++ pair ∷ [],
        before.1 ∙ (ap (λ (rest : List _). before.0 ++ rest) step ∙ sym (append_assoc before.0 (pair ∷ []) (into_iter_items c.next.new.self))),
        subst (λ ts. AllZip (Stands path) (before.0 ++ pair ∷ []) ts) (sym c.push_reserved.ensures.items) (all_zipped_more (Stands path) before.0 c.loop-key.turns.items pair _ before.2 (refl, c.path-path.ensures)),
      );
      room = omega (arith, c.loop-key.invariant.room, ap length step, c.push_reserved.ensures.len, c.push_reserved.ensures.capacity);
    }
