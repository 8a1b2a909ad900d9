use Rattle.std.proofs.Common.{option_map, subst}
use Rattle.write_history.specs.declared.entry.Write.TheVariants.{Put}
use Rattle.write_history.specs.Signers.{WroteIf}
use Rattle.map_session.proofs.session.Session.replace_if.Goals as goal

pub returns-clause-wrote : goal.returns-clause-wrote
returns-clause-wrote g c =
    let write = c.in_ok-replace_where in
    let before = option_map g.S.ValueSlots.value_of write.field-0.previous in
    let s = c.args.self.now in
    (before, subst (λ (v : g.row.V.Denot). WroteIf g.K.Ord.cmp g.K.PathKey.path_of write.field-0.written (Put c.args.key v) c.args.key before s.signer s.log c.replace_where.new.self.log) c.in_ok-value.ensures.ok write.ensures.wrote, write.ensures.written)
