use Rattle.std.proofs.Common.{ap, ◌∙◌, arith}
use Rattle.std.specs.Ordering.{nat_cmp}
use Rattle.versions.specs.Map.{without}
use Rattle.held_maps.proofs.Live.{without_stamp, without_version}
use Rattle.held_maps.proofs.Kept.{unset_kept}
use Rattle.held_maps.proofs.places.Places.close.Goals as goal

pub invariant_of-self : goal.invariant_of-self
invariant_of-self g c =
    (unset_kept c.self.inside.limit c.self.inside.source c.args.handle c.self.inside.versions.items c.self.invariant.0, c.self.invariant.1, c.self.invariant.2)

pub returns : goal.returns
returns g c = λ i. record {
  live = (without_version c.args.handle c.self.inside.versions.items (omega (arith, c.self.invariant.0.count, c.requires)) ∙ ap (λ p. without nat_cmp p.live c.args.handle) c.self.view_is) i;
  limit = (c.self.view_is i).limit;
  issued = (c.self.view_is i).issued;
  stamps = (without_stamp c.args.handle c.self.inside.versions.items (omega (arith, c.self.invariant.0.count, c.requires)) ∙ ap (λ p. without nat_cmp p.stamps c.args.handle) c.self.view_is) i;
}
