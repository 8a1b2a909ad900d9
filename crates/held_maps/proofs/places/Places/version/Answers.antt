use Rattle.std.proofs.Common.{ap, sym, ◌∙◌, arith}
use Rattle.std.specs.Ordering.{nat_cmp}
use Rattle.versions.specs.Map.{value_at}
use Rattle.held_maps.specs.HeldMaps.{HeldMaps, map_in}
use Rattle.held_maps.proofs.Live.{map_here, none_past}
use Rattle.held_maps.proofs.Kept.{read_here}
use Rattle.held_maps.proofs.places.Places.version.Goals as goal

pub returns-in-Some-clause-map : goal.returns-in-Some-clause-map
returns-in-Some-clause-map g c =
    let places = c.self.inside.versions.items in
    let here = read_here c.args.handle places c.index.result.now (omega (arith, c.self.invariant.0.count)) c.index.ensures in
    ap map_in (sym c.in-Some.is ∙ sym here) ∙ sym (map_here c.args.handle places) ∙ ap (λ (p : HeldMaps g.row.K.Denot g.row.V.Denot). value_at nat_cmp p.live c.args.handle) c.self.view_is

pub returns-in-Some-clause-limit : goal.returns-in-Some-clause-limit
returns-in-Some-clause-limit g c =
    let here = read_here c.args.handle c.self.inside.versions.items c.index.result.now (omega (arith, c.self.invariant.0.count)) c.index.ensures in
    (c.self.invariant.0.each c.args.handle c.in-Some.version (here ∙ c.in-Some.is)).same_limit ∙ ap (λ (p : HeldMaps g.row.K.Denot g.row.V.Denot). p.limit) c.self.view_is

pub returns-in-None-clause-map : goal.returns-in-None-clause-map
returns-in-None-clause-map g c =
    let places = c.self.inside.versions.items in
    let here = read_here c.args.handle places c.index.result.now (omega (arith, c.self.invariant.0.count)) c.index.ensures in
    ap map_in (sym c.in-None.is ∙ sym here) ∙ sym (map_here c.args.handle places) ∙ ap (λ (p : HeldMaps g.row.K.Denot g.row.V.Denot). value_at nat_cmp p.live c.args.handle) c.self.view_is

pub returns-then-handle-len-clause-map : goal.returns-then-handle-len-clause-map
returns-then-handle-len-clause-map g c =
    sym (none_past c.args.handle c.self.inside.versions.items (omega (arith, c.len.ensures))) ∙ ap (λ (p : HeldMaps g.row.K.Denot g.row.V.Denot). value_at nat_cmp p.live c.args.handle) c.self.view_is
