use Rattle.std.proofs.Common.{◌∙◌, ◌≤◌, length, subst, sym, true}
use Rattle.view_sets.proofs.Kept.{kept_all}
use Rattle.view_sets.proofs.sets.copied.Goals as goal

-- the closure means that all pass
pub returns-clause-map : goal.returns-clause-map
returns-clause-map g c = c.in_ok-made.ensures.map (λ k v. true) (λ k v b called. called.4) ∙ kept_all _ ∙ c.root.ensures.entries

pub returns-clause-few : goal.returns-clause-few
returns-clause-few g c =
    subst (λ m. length m ≤ 16777216) (sym (c.in_ok-made.ensures.map (λ k v. true) (λ k v b called. called.4) ∙ kept_all _ ∙ c.root.ensures.entries)) c.len.ensures.few
