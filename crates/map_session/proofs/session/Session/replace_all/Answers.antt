use Rattle.std.proofs.Common.{[], rules}
use Rattle.bulk_ops.specs.Meanings.{MayAnswer}
use Rattle.map_session.specs.Sessions.{Replaces}
use Rattle.map_session.proofs.Turns.{replaces_behind, turns_behind}
use Rattle.map_session.proofs.session.Session.replace_all.Goals as goal

pub returns : goal.returns
returns g c =
    let may = λ (k : g.row.K.Denot) (old made : g.row.V.Denot). MayAnswer g.F.Fn c.args.change k old made in
    let told = c.replace_each-given.ensures.wrote in
    record {
      wrote = (
        told.0,
        turns_behind (Replaces g.K.Ord.cmp g.K.PathKey.path_of may) (replaces_behind g.K.Ord.cmp g.K.PathKey.path_of may) told.0 c.args.self.now c.view.new.self c.replace_each-given.new.self (c.view.ensures.seen, c.view.ensures.signer) told.1,
        told.2,
      );
    }

pub returns-in_err-view : goal.returns-in_err-view
returns-in_err-view g c = record { wrote = ([], (c.view.ensures.seen, c.view.ensures.signer), search rules) }
