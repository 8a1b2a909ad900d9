use Rattle.std.proofs.Common.{◌≡◌, [], subst}
use Rattle.std.specs.Prelude.{IsSome, unwrap_or}
use Rattle.std.specs.Ordering.{nat_cmp}
use Rattle.versions.specs.Map.{value_at, with_pair}
use Rattle.held_maps.specs.HeldMaps.{HeldMaps}
use Rattle.held_maps.proofs.Live.{put_same}
use Rattle.held_maps.proofs.places.Places.law_of_same_map.Goals as goal

pub returns : goal.returns
returns g c =
    subst (λ (p : HeldMaps g.row.K.Denot g.row.V.Denot). IsSome (value_at nat_cmp p.live c.args.handle) → with_pair nat_cmp p.live c.args.handle (unwrap_or (value_at nat_cmp p.live c.args.handle) []) ≡ p.live)
    c.self.view_is (put_same c.args.handle c.self.inside.versions.items)
