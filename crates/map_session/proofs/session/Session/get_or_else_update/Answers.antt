use Rattle.std.proofs.Common.{None, Some, cond, sym, ap, ◌∙◌, subst}
use Rattle.std.proofs.lemmas.Result.{IfOk-weaker}
use Rattle.stripe.proofs.Seeing.{wrote_behind}
use Rattle.write_history.specs.declared.entry.Write.TheVariants.{Put}
use Rattle.write_history.specs.Signers.{Signer, WroteIf, signed_if}
use Rattle.map_session.proofs.Refusals.{found_behind}
use Rattle.map_session.proofs.session.Session.get_or_else_update.Goals as goal

pub returns-in-None-clause-wrote : goal.returns-in-None-clause-wrote
returns-in-None-clause-wrote g c =
    let R = g.K.Ord.cmp in
    let path = g.K.PathKey.path_of in
    let k = c.args.key in
    let s = c.args.self.now in
    let t = c.found.new.self in
    let u = c.put_made.new.self in
    IfOk-weaker c.put_made.result _ _
    (λ value told.
    let before = cond told.0 None (Some (g.S.ValueSlots.value_of value)) in (
      told.0,
      wrote_behind R path told.0 (Put k (g.S.ValueSlots.value_of value)) k before s.signer s.log t.log u.log c.found.ensures.seen
          (subst (λ (signer : Signer). WroteIf R path told.0 (Put k (g.S.ValueSlots.value_of value)) k before signer t.log u.log) c.found.ensures.signer told.1),
      told.2 ∙ ap (λ (signer : Signer). signed_if told.0 signer) c.found.ensures.signer,
      (λ put. subst (λ (v : g.row.V.Denot). g.F.FnOnce.post c.args.make tt v) (sym (told.3 put)) c.make.ensures),
    ))
    c.put_made.ensures.wrote

pub returns-in-None-clause-full : goal.returns-in-None-clause-full
returns-in-None-clause-full g c =
    λ is. found_behind g.K.Ord.cmp g.K.PathKey.path_of _ c.args.self.now.log c.found.new.self.log _ c.found.ensures.seen (c.put_made.ensures.full is)
