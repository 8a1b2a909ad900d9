use Rattle.std.proofs.Common.{[], ◌∷◌, ◌++◌, length, rules, ap, sym, ◌∙◌, subst, append_assoc}
use Rattle.std.proofs.lemmas.List.Elements.{All-head, All-tail}
use Rattle.std.specs.Prelude.{All}
use Rattle.std.specs.Vec.Iter.{into_iter_items}
use Rattle.map_session.specs.Sessions.{InTurn, Puts}
use Rattle.map_session.proofs.Turns.{goes_on_self, puts_behind, turns_more}
use Rattle.map_session.proofs.session.Session.extend.Goals as goal

pub loop-key-init : goal.loop-key-init
loop-key-init g c = record {
  kept = subst (All (λ (pair : g.row.K.Denot × g.row.V.Denot). g.P.Keeps.holds pair.0 pair.1)) (sym c.into_iter-key-iterator.ensures.into_iter_gives.0) c.requires;
  put = ([], sym c.into_iter-key-iterator.ensures.into_iter_gives.0, goes_on_self c.args.self.now);
}

pub put-requires : goal.put-requires
put-requires g c =
    All-head (λ (pair : g.row.K.Denot × g.row.V.Denot). g.P.Keeps.holds pair.0 pair.1) (c.in-Some.key, c.in-Some.value) (into_iter_items c.next.new.self)
    (subst (All (λ (pair : g.row.K.Denot × g.row.V.Denot). g.P.Keeps.holds pair.0 pair.1)) c.in-Some.ensures.steps.0 c.loop-key.invariant.kept)

pub loop-key-preserved-in_ok-put : goal.loop-key-preserved-in_ok-put
loop-key-preserved-in_ok-put g c =
    let R = g.K.Ord.cmp in
    let path = g.K.PathKey.path_of in
    let pair : g.row.K.Denot × g.row.V.Denot = (c.in-Some.key, c.in-Some.value) in
    let before = c.loop-key.invariant.put in
    record {
      kept =
          All-tail (λ (pair : g.row.K.Denot × g.row.V.Denot). g.P.Keeps.holds pair.0 pair.1) pair (into_iter_items c.next.new.self)
          (subst (All (λ (pair : g.row.K.Denot × g.row.V.Denot). g.P.Keeps.holds pair.0 pair.1)) c.in-Some.ensures.steps.0 c.loop-key.invariant.kept);
      put = (
        before.0 ++ pair ∷ [],
        before.1 ∙ (ap (λ (rest : Rattle.std.proofs.Common.List _). before.0 ++ rest) c.in-Some.ensures.steps.0 ∙ sym (append_assoc before.0 (pair ∷ []) (into_iter_items c.next.new.self))),
        turns_more (Puts R path) (puts_behind R path) before.0 pair c.args.self.now c.loop-key.self c.put.new.self before.2 (_, c.in_ok-put.ensures.wrote, c.in_ok-put.ensures.signer),
      );
    }

pub loop-key-preserved : goal.loop-key-preserved
loop-key-preserved g c =
    let R = g.K.Ord.cmp in
    let path = g.K.PathKey.path_of in
    let pair : g.row.K.Denot × g.row.V.Denot = (c.in-Some.key, c.in-Some.value) in
    let before = c.loop-key.invariant.put in
    record {
      kept =
          All-tail (λ (pair : g.row.K.Denot × g.row.V.Denot). g.P.Keeps.holds pair.0 pair.1) pair (into_iter_items c.next.new.self)
          (subst (All (λ (pair : g.row.K.Denot × g.row.V.Denot). g.P.Keeps.holds pair.0 pair.1)) c.in-Some.ensures.steps.0 c.loop-key.invariant.kept);
      put = (
        before.0 ++ pair ∷ [],
        before.1 ∙ (ap (λ (rest : Rattle.std.proofs.Common.List _). before.0 ++ rest) c.in-Some.ensures.steps.0 ∙ sym (append_assoc before.0 (pair ∷ []) (into_iter_items c.next.new.self))),
        turns_more (Puts R path) (puts_behind R path) before.0 pair c.args.self.now c.loop-key.self c.put.new.self before.2 (_, c.in_ok-put.ensures.wrote, c.in_ok-put.ensures.signer),
      );
    }

pub returns-in_err-put : goal.returns-in_err-put
returns-in_err-put g c =
    let before = c.loop-key.invariant.put in
    record {
      wrote = (before.0, into_iter_items c.loop-key.key-iterator, before.1, subst (InTurn (Puts g.K.Ord.cmp g.K.PathKey.path_of) before.0 c.args.self.now) (sym c.in_err-put.ensures.refused) before.2, search rules);
    }

pub returns : goal.returns
returns g c =
    let before = c.loop-key.invariant.put in
    record { wrote = (before.0, into_iter_items c.loop-key.key-iterator, before.1, before.2, search (c.in-None.ensures.steps.0, rules)) }
