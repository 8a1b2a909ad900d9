use Rattle.std.proofs.Common.{[], ◌∷◌, ◌++◌, refl, rules, sym, subst}
use Rattle.map_session.specs.Sessions.{InTurn, Puts}
use Rattle.map_session.proofs.Turns.{goes_on_self, puts_behind, turns_more}
use Rattle.map_session.proofs.Yielding.{yields_more}
use Rattle.map_session.proofs.session.Session.extend_from.Goals as goal

pub loop-key-init : goal.loop-key-init
loop-key-init g c =
    let gives = c.into_iter-key-iterator.ensures.into_iter_gives in
    let goes = c.requires.ends _ gives in
    record { next = goes.0; finite = goes.1; kept = c.requires.rule _ gives; put = ([], (_, gives, refl), goes_on_self c.args.self.now) }

pub put-requires : goal.put-requires
put-requires g c =
    c.loop-key.invariant.kept [] (c.in-Some.key, c.in-Some.value) c.next.new.self (c.loop-key.key-iterator, refl, c.in-Some.ensures.steps)

pub loop-key-preserved-in_ok-put : goal.loop-key-preserved-in_ok-put
loop-key-preserved-in_ok-put g c =
    let goes = c.in-Some.ensures.goes.on c.loop-key.invariant.finite in
    let pair : g.row.K.Denot × g.row.V.Denot = (c.in-Some.key, c.in-Some.value) in
    let before = c.loop-key.invariant.put in
    record {
      next = goes.0;
      finite = goes.1;
      kept = λ came pair behind more. c.loop-key.invariant.kept ((c.in-Some.key, c.in-Some.value) ∷ came) pair behind (more.0, (c.next.new.self, c.in-Some.ensures.steps, more.1), more.2);
      put = (
        before.0 ++ pair ∷ [],
        (before.1.0, before.1.1, yields_more g.I.IntoIter.Iterator.next_gives before.0 pair before.1.0 c.loop-key.key-iterator c.next.new.self before.1.2 c.in-Some.ensures.steps),
        turns_more (Puts g.K.Ord.cmp g.K.PathKey.path_of) (puts_behind g.K.Ord.cmp g.K.PathKey.path_of) before.0 pair c.args.self.now c.loop-key.self c.put.new.self before.2 (_, c.in_ok-put.ensures.wrote, c.in_ok-put.ensures.signer),
      );
    }

pub loop-key-preserved : goal.loop-key-preserved
loop-key-preserved g c =
    let goes = c.in-Some.ensures.goes.on c.loop-key.invariant.finite in
    let pair : g.row.K.Denot × g.row.V.Denot = (c.in-Some.key, c.in-Some.value) in
    let before = c.loop-key.invariant.put in
    record {
      next = goes.0;
      finite = goes.1;
      kept = λ came pair behind more. c.loop-key.invariant.kept ((c.in-Some.key, c.in-Some.value) ∷ came) pair behind (more.0, (c.next.new.self, c.in-Some.ensures.steps, more.1), more.2);
      put = (
        before.0 ++ pair ∷ [],
        (before.1.0, before.1.1, yields_more g.I.IntoIter.Iterator.next_gives before.0 pair before.1.0 c.loop-key.key-iterator c.next.new.self before.1.2 c.in-Some.ensures.steps),
        turns_more (Puts g.K.Ord.cmp g.K.PathKey.path_of) (puts_behind g.K.Ord.cmp g.K.PathKey.path_of) before.0 pair c.args.self.now c.loop-key.self c.put.new.self before.2 (_, c.in_ok-put.ensures.wrote, c.in_ok-put.ensures.signer),
      );
    }

pub returns-in_err-put : goal.returns-in_err-put
returns-in_err-put g c =
    let before = c.loop-key.invariant.put in
    record {
      wrote = (
        before.0,
        (before.1.0, c.loop-key.key-iterator, before.1.1, before.1.2, search rules),
        subst (InTurn (Puts g.K.Ord.cmp g.K.PathKey.path_of) before.0 c.args.self.now) (sym c.in_err-put.ensures.refused) before.2,
      );
    }

pub returns : goal.returns
returns g c =
    let before = c.loop-key.invariant.put in
    record { wrote = (before.0, (before.1.0, c.loop-key.key-iterator, before.1.1, before.1.2, (c.next.new.self, c.in-None.ensures.steps)), before.2) }
