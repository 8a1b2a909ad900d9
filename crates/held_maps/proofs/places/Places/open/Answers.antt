use Rattle.std.proofs.Common.{◌≡◌, ◌+◌, ap, ◌∙◌, arith}
use Rattle.std.specs.Ordering.{nat_cmp}
use Rattle.versions.specs.Map.{with_pair}
use Rattle.held_maps.specs.HeldMaps.{HeldMaps}
use Rattle.held_maps.proofs.Live.{with_stamp, with_version}
use Rattle.held_maps.proofs.Kept.{set_fresh}
use Rattle.held_maps.proofs.places.Places.open.Goals as goal

pub invariant_of-self : goal.invariant_of-self
invariant_of-self g c =
    let v = c.in_ok-version.version in (
      set_fresh c.self.inside.limit c.self.inside.source c.next.new.self c.args.handle v c.self.inside.versions.items c.self.invariant.0 c.in_ok-version.ensures.limit (omega (arith, c.in_ok-version.ensures.stamp)) (omega (arith, c.in_ok-version.ensures.stamp)),
      c.self.invariant.1,
      c.self.invariant.2,
    )

pub returns-clause-live : goal.returns-clause-live
returns-clause-live g c =
    with_version c.args.handle c.in_ok-version.version c.self.inside.versions.items (omega (arith, c.self.invariant.0.count, c.requires.place))
    ∙ (λ i. with_pair nat_cmp (c.self.view_is i).live c.args.handle (c.in_ok-version.ensures.entries i))

pub returns-clause-fresh : goal.returns-clause-fresh
returns-clause-fresh g c =
    let v = c.in_ok-version.version in
    let first : v.stamp ≡ c.self.inside.source + 1 = omega (arith, c.in_ok-version.ensures.stamp) in
    let next = first ∙ ap (λ (p : HeldMaps g.row.K.Denot g.row.V.Denot). p.issued + 1) c.self.view_is in
    with_stamp c.args.handle v c.self.inside.versions.items (omega (arith, c.self.invariant.0.count, c.requires.place))
    ∙ (λ i. with_pair nat_cmp (c.self.view_is i).stamps c.args.handle (next i))
