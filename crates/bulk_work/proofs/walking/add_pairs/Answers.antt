use Rattle.std.proofs.Common.{◌≡◌, [], ◌∷◌, sym, subst, ◌∙◌}
use Rattle.std.proofs.Math.Logic.{∥∥₁_map}
use Rattle.trie_shape.specs.Order.{walked}
use Rattle.iter.specs.Intervals.{part}
use Rattle.combiner.specs.Unions.{AreApart}
use Rattle.versions.specs.Map.{Map, union}
use Rattle.bulk_work.proofs.Works.{Working, begun, can_add, ended, worked, worked_within}
use Rattle.bulk_work.proofs.walking.add_pairs.Goals as goal

-- the walk lists the map of the piece
pub loop-key-init : goal.loop-key-init
loop-key-init g c =
    let R = g.K.Ord.cmp in
    let path = g.K.PathKey.path_of in
    let answers = g.B.BulkIn.answers c.args.bulk.now in
    let all = part path c.args.piece.now.map c.args.piece.now.interval in
    let laws = c.walk_lists_map.ensures in
    let walk : c.into_iter-key-iterator.result ≡ walked R path all = c.into_iter-key-iterator.ensures.into_iter_gives ∙ c.bunched_pairs-key-items.ensures.walk in
    record {
      next = tt;
      finite = tt;
      working = λ m is apart. subst (λ rest. Working R answers rest (union R m all) c.args.begun) (sym walk)
          (begun R g.met.K.Ord.total answers g.met.K.PathKey.exact m all (walked R path all) c.args.begun is apart (laws.once all) (laws.finds all) (laws.count all apart.right));
    }

pub add-requires-clause-apart : goal.add-requires-clause-apart
add-requires-clause-apart g c =
    let R = g.K.Ord.cmp in
    let answers = g.B.BulkIn.answers c.args.bulk.now in
    let pair : g.row.K.Denot × g.row.V.Denot = (g.S.KeySlots.key_of c.in-Some.key.now, g.S.ValueSlots.value_of c.in-Some.value.now) in
    let all = part g.K.PathKey.path_of c.args.piece.now.map c.args.piece.now.interval in
    let next : ((m : Map g.row.K.Denot g.row.V.Denot) × answers m c.args.begun × AreApart R m all) → (m : Map g.row.K.Denot g.row.V.Denot) × answers m c.loop-key.made × AreApart R (pair ∷ []) m = λ x.
    let work = subst (λ rest. Working R answers rest (union R x.0 all) c.loop-key.made) c.in-Some.ensures.steps (c.loop-key.invariant.working x.0 x.1 x.2) in
    can_add R g.met.K.Ord.total answers pair c.next.new.self (union R x.0 all) c.loop-key.made work in
    ∥∥₁_map c.requires.apart next

-- what is settled for the pairs so far is so for all
pub returns-then-settled : goal.returns-then-settled
returns-then-settled g c = λ m is apart.
    let R = g.K.Ord.cmp in
    let answers = g.B.BulkIn.answers c.args.bulk.now in
    let pair : g.row.K.Denot × g.row.V.Denot = (g.S.KeySlots.key_of c.in-Some.key.now, g.S.ValueSlots.value_of c.in-Some.value.now) in
    let both = union R m (part g.K.PathKey.path_of c.args.piece.now.map c.args.piece.now.interval) in
    let work = subst (λ rest. Working R answers rest both c.loop-key.made) c.in-Some.ensures.steps (c.loop-key.invariant.working m is apart) in
    let next = worked R g.met.K.Ord.total answers pair c.next.new.self both c.loop-key.made c.add.new.part work c.in-Ok.ensures.added in
    c.settled.ensures.lasting c.if-settled.true next.so_far both next.answer (worked_within R g.met.K.Ord.total answers c.next.new.self both c.add.new.part next)

pub loop-key-preserved : goal.loop-key-preserved
loop-key-preserved g c =
    let R = g.K.Ord.cmp in
    let answers = g.B.BulkIn.answers c.args.bulk.now in
    let pair : g.row.K.Denot × g.row.V.Denot = (g.S.KeySlots.key_of c.in-Some.key.now, g.S.ValueSlots.value_of c.in-Some.value.now) in
    let all = part g.K.PathKey.path_of c.args.piece.now.map c.args.piece.now.interval in
    record {
      next = tt;
      finite = tt;
      working = λ m is apart.
          let work = subst (λ rest. Working R answers rest (union R m all) c.loop-key.made) c.in-Some.ensures.steps (c.loop-key.invariant.working m is apart) in
          worked R g.met.K.Ord.total answers pair c.next.new.self (union R m all) c.loop-key.made c.add.new.part work c.in-Ok.ensures.added;
    }

-- all pairs are worked
pub returns : goal.returns
returns g c = λ m is apart.
    let R = g.K.Ord.cmp in
    let both = union R m (part g.K.PathKey.path_of c.args.piece.now.map c.args.piece.now.interval) in
    ended R g.met.K.Ord.total (g.B.BulkIn.answers c.args.bulk.now) both c.loop-key.made c.loop-key.key-iterator c.in-None.ensures.steps.0 (c.loop-key.invariant.working m is apart)
