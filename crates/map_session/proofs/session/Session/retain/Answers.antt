use Rattle.std.proofs.Common.{[], rules}
use Rattle.std.proofs.lemmas.List.Elements.{All-nil}
use Rattle.map_session.specs.Sessions.{Removes}
use Rattle.map_session.proofs.Turns.{removes_behind, turns_behind}
use Rattle.map_session.proofs.session.Session.retain.Goals as goal

pub returns : goal.returns
returns g c =
    let told = c.remove_all_failing-removed.ensures.wrote in
    record {
      wrote = (
        told.0,
        turns_behind (Removes g.K.Ord.cmp g.K.PathKey.path_of) (removes_behind g.K.Ord.cmp g.K.PathKey.path_of) told.0 c.args.self.now c.view.new.self c.remove_all_failing-removed.new.self (c.view.ensures.seen, c.view.ensures.signer) told.1,
        told.2,
        told.3,
      );
    }

pub returns-in_err-view : goal.returns-in_err-view
returns-in_err-view g c = record { wrote = ([], (c.view.ensures.seen, c.view.ensures.signer), All-nil _, search rules) }
