use Rattle.std.proofs.Common.{◌≡◌, ℕ, Some, None, sym, ap, ◌∙◌}
use Rattle.trie_shape.specs.Map.{Map}
use Rattle.iter.specs.declared.interval.Interval.{Interval}
use Rattle.splitter.specs.Portion.{Portion}
use Rattle.splitter.specs.Cuts.{cut_point}
use Rattle.splitter.specs.Laws.{below, from}
use Rattle.partial_results.specs.Halves.{IsHalved}
use Rattle.partial_results.proofs.task.Task.halves.Goals as goal

module _ {K V : Type 0} (path : K → ℕ) (p : Portion K V) (m : Map K V) (grain n : ℕ) (i : Interval) (em : p.map ≡ m) (ei : p.interval ≡ i) (en : n ≡ grain) where
  point : cut_point path p.map p.interval n ≡ cut_point path m i grain
  point k = cut_point path (em k) (ei k) (en k)

  two : (lower upper : Portion K V) (a b : Interval)
      → (cut_point path p.map p.interval n ≡ Some lower.interval.hi) × (lower ≡ record p { interval = below p.interval lower.interval.hi }) × (upper ≡ record p { interval = from p.interval lower.interval.hi })
      → a ≡ lower.interval → b ≡ upper.interval → IsHalved path m grain i a (Some b)
  two lower upper a b h ea eb = (
    sym point ∙ h.0 ∙ ap (λ (x : Interval). Some x.hi) (sym ea),
    ea ∙ ap (λ (q : Portion K V). q.interval) h.1 ∙ (λ k. below (ei k) (sym ea k).hi),
    eb ∙ ap (λ (q : Portion K V). q.interval) h.2 ∙ (λ k. from (ei k) (sym ea k).hi),
  )

  one : (same : Portion K V) (a : Interval) → (cut_point path p.map p.interval n ≡ None) × (same ≡ p) → a ≡ same.interval → IsHalved path m grain i a None
  one same a h ea = (sym point ∙ h.0, ea ∙ ap (λ (q : Portion K V). q.interval) h.1 ∙ ei)

pub returns-in-Ok-Two : goal.returns-in-Ok-Two
returns-in-Ok-Two g c =
    two g.K.PathKey.path_of c.self.inside.piece g.C.OfView.map g.C.OfView.grain c.args.grain c.args.self c.self.invariant c.self.view_is c.requires c.in-Ok-Two.lower c.in-Ok-Two.upper _ _ (rw c.in-Ok-Two.field-0-is at c.in-Ok-Two.ensures) c.new.ensures c.new-in-Ok-Two.ensures

pub returns-in-Ok-One : goal.returns-in-Ok-One
returns-in-Ok-One g c =
    one g.K.PathKey.path_of c.self.inside.piece g.C.OfView.map g.C.OfView.grain c.args.grain c.args.self c.self.invariant c.self.view_is c.requires c.in-Ok-One.piece _ (rw c.in-Ok-One.field-0-is at c.in-Ok-One.ensures) c.new-in-Ok-One.ensures
