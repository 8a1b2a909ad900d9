use Rattle.std.proofs.Common.{◌≡◌, List, [], ◌∷◌, ◌++◌, ap, ◌∙◌, subst}
use mathlib.Core.List.{IsPrefix}
use Rattle.write_history.specs.declared.entry.Entry.{Entry}
use Rattle.write_history.specs.declared.entry.Write.TheVariants.{Clear}
use Rattle.write_history.specs.Signers.{Made, Signer}
use Rattle.map_session.specs.Sessions.{Seen}
use Rattle.map_session.proofs.session.Session.clear.Goals as goal

pub returns-clause-wrote : goal.returns-clause-wrote
returns-clause-wrote g c =
    let told = c.clear_all-cleared.ensures.wrote c.law.ensures in
    let log : c.after-all.result.log ≡ c.args.self.now.log = c.after-all.ensures.log ∙ ap (λ (s : Seen _ _). s.log) c.self.view_is in
    let signer : c.self.inside.author ≡ c.args.self.now.signer = ap (λ (s : Seen _ _). s.signer) c.self.view_is in (
      told.0,
      subst (λ (l : List (Entry _ _)). IsPrefix l told.0) log told.1,
      subst (λ (s : Signer). Made g.K.PathKey.path_of s told.0) signer told.2,
      subst (λ (s : Signer). c.tell.new.front ≡ told.0 ++ record { by = s.by; write = Clear } ∷ []) signer (c.tell.ensures ∙ told.3),
    )
