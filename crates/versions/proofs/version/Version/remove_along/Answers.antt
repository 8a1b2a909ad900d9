use Rattle.versions.proofs.Maps.{without_if_there}
use Rattle.versions.proofs.version.Version.remove_along.Goals as goal

pub returns-clause-entries : goal.returns-clause-entries
returns-clause-entries g c =
    let ensured = c.in_ok-remove_where_along.ensures in
    without_if_there g.K.Ord.cmp c.args.self.now.entries c.remove_where_along.new.self.entries (g.Q.Sought.key_of c.args.key) c.in_ok-remove_where_along.field-0.written ensured.written ensured.entries
