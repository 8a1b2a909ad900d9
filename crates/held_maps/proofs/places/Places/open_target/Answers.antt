use Rattle.std.proofs.Common.{◌+◌, ap, subst, sym, ◌∙◌, arith}
use Rattle.std.specs.Ordering.{nat_cmp}
use Rattle.versions.specs.Map.{with_pair}
use Rattle.held_maps.specs.HeldMaps.{HeldMaps}
use Rattle.held_maps.specs.Targets.{IsPlace, issued_with_made, live_with_made, stamps_with_made}
use Rattle.held_maps.proofs.Live.{with_stamp, with_version}
use Rattle.held_maps.proofs.Kept.{set_fresh}
use Rattle.held_maps.proofs.places.Places.open_target.Goals as goal

pub invariant_of-self : goal.invariant_of-self
invariant_of-self g c =
    let limit = c.restamp.ensures.limit ∙ c.relimit.ensures.limit in (
      set_fresh c.self.inside.limit c.self.inside.source c.restamp.new.source c.in-Some-Some.to c.restamp.new.self c.self.inside.versions.items c.self.invariant.0 limit (omega (arith, c.restamp.ensures.stamp)) (omega (arith, c.restamp.ensures.stamp, c.restamp.ensures.issued)),
      c.self.invariant.1,
      c.self.invariant.2,
    )

pub returns-in-Some-Some-clause-live : goal.returns-in-Some-Some-clause-live
returns-in-Some-Some-clause-live g c =
    let place = subst IsPlace c.in-Some-Some.is-0 c.requires.place in
    let same = c.restamp.ensures.entries ∙ c.relimit.ensures.entries in
    with_version c.in-Some-Some.to c.restamp.new.self c.self.inside.versions.items (omega (arith, c.self.invariant.0.count, place))
    ∙ (λ i. with_pair nat_cmp (c.self.view_is i).live c.in-Some-Some.to (same i))
    ∙ (λ i. live_with_made c.args.self.now.live (sym c.in-Some-Some.is-0 i) (sym c.in-Some-Some.is-1 i))

pub returns-in-Some-Some-clause-fresh : goal.returns-in-Some-Some-clause-fresh
returns-in-Some-Some-clause-fresh g c =
    let place = subst IsPlace c.in-Some-Some.is-0 c.requires.place in
    let next = c.restamp.ensures.stamp ∙ ap (λ (p : HeldMaps g.row.K.Denot g.row.V.Denot). p.issued + 1) c.self.view_is in
    with_stamp c.in-Some-Some.to c.restamp.new.self c.self.inside.versions.items (omega (arith, c.self.invariant.0.count, place))
    ∙ (λ i. with_pair nat_cmp (c.self.view_is i).stamps c.in-Some-Some.to (next i))
    ∙ (λ i. stamps_with_made c.args.self.now.stamps (c.args.self.now.issued + 1) (sym c.in-Some-Some.is-0 i) (sym c.in-Some-Some.is-1 i))

pub returns-in-Some-Some-clause-next : goal.returns-in-Some-Some-clause-next
returns-in-Some-Some-clause-next g c =
    c.restamp.ensures.issued
    ∙ ap (λ (p : HeldMaps g.row.K.Denot g.row.V.Denot). p.issued + 1) c.self.view_is
    ∙ (λ i. issued_with_made c.args.self.now.issued (sym c.in-Some-Some.is-0 i) (sym c.in-Some-Some.is-1 i))
