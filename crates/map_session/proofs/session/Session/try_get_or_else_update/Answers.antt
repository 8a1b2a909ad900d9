use Rattle.std.proofs.Common.{◌≡◌, Err, rules}
use Rattle.map_session.specs.declared.put_error.PutError.TheVariants.{Full}
use Rattle.map_session.proofs.Refusals.{found_behind}
use Rattle.map_session.proofs.session.Session.try_get_or_else_update.Goals as goal

pub returns-in_err-put_made-in-Ok-clause-full : goal.returns-in_err-put_made-in-Ok-clause-full
returns-in_err-put_made-in-Ok-clause-full g c =
    λ is.
    let full : c.put_made.result ≡ Err Full = search rules in
    found_behind g.K.Ord.cmp g.K.PathKey.path_of _ c.args.self.now.log c.found.new.self.log _ c.found.ensures.seen (c.put_made.ensures.full full)
