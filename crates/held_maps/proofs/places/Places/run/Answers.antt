use Rattle.std.proofs.Common.{◌≡◌, [], ap, subst, sym, ◌∙◌, arith}
use Rattle.std.specs.Prelude.{IsSome, unwrap_or}
use Rattle.std.specs.Ordering.{nat_cmp}
use Rattle.versions.specs.Commands.{after, is_full, reply}
use Rattle.versions.specs.Map.{Map, value_at, with_pair}
use Rattle.versions.specs.Puts.{FullExactly}
use Rattle.held_maps.specs.HeldMaps.{HeldMaps, live_from, maps_in}
use Rattle.held_maps.specs.Commands.{command_of}
use Rattle.held_maps.proofs.Live.{held_here, live_here, not_live_here, same_stamps, with_version}
use Rattle.held_maps.proofs.Kept.{read_here, set_again}
use Rattle.held_maps.proofs.Results.{if_ok, on_ok}
use Rattle.held_maps.proofs.places.Places.run.Goals as goal

pub returns-clause-none : goal.returns-clause-none
returns-clause-none g c none =
    let places = c.self.inside.versions.items in
    let here = read_here c.args.handle places c.index_mut.result.now (omega (arith, c.self.invariant.0.count, c.requires.place)) c.index_mut.ensures.value in
    absurd (live_here c.args.handle places c.in-Some.version (here ∙ c.in-Some.is) (ap (λ (p : HeldMaps g.row.K.Denot g.row.V.Denot). value_at nat_cmp p.live c.args.handle) c.self.view_is ∙ none))

pub returns-in-None-clause-full : goal.returns-in-None-clause-full
returns-in-None-clause-full g c live =
    let places = c.self.inside.versions.items in
    let here = read_here c.args.handle places c.index_mut.result.now (omega (arith, c.self.invariant.0.count, c.requires.place)) c.index_mut.ensures.value in
    absurd (not_live_here c.args.handle places (here ∙ c.in-None.is) (subst (λ (p : HeldMaps g.row.K.Denot g.row.V.Denot). IsSome (value_at nat_cmp p.live c.args.handle)) (sym c.self.view_is) live))

pub invariant_of-self-2 : goal.invariant_of-self-2
invariant_of-self-2 g c =
    let places = c.self.inside.versions.items in
    let here = read_here c.args.handle places c.index_mut.result.now (omega (arith, c.self.invariant.0.count, c.requires.place)) c.index_mut.ensures.value ∙ c.in-Some.is in (
      set_again c.self.inside.limit c.self.inside.source c.args.handle c.in-Some.version c.run_on.new.version places c.self.invariant.0 here c.run_on.ensures.limit c.run_on.ensures.stamp,
      c.self.invariant.1,
      c.self.invariant.2,
    )

pub returns-clause-live : goal.returns-clause-live
returns-clause-live g c =
    let places = c.self.inside.versions.items in
    let here = read_here c.args.handle places c.index_mut.result.now (omega (arith, c.self.invariant.0.count, c.requires.place)) c.index_mut.ensures.value ∙ c.in-Some.is in
    let held = held_here c.args.handle places c.in-Some.version here in
    on_ok _ _ (λ m.
    with_version c.args.handle c.run_on.new.version places (omega (arith, c.self.invariant.0.count, c.requires.place))
    ∙ ap (λ (es : Map g.row.K.Denot g.row.V.Denot). with_pair nat_cmp (live_from 0 (maps_in places)) c.args.handle es) (m ∙ ap (λ (es : Map g.row.K.Denot g.row.V.Denot). after g.K.Ord.cmp g.V.PartialEq.eq es (command_of c.args.command)) (sym held))
    ∙ ap (λ (p : HeldMaps g.row.K.Denot g.row.V.Denot). with_pair nat_cmp p.live c.args.handle (after g.K.Ord.cmp g.V.PartialEq.eq (unwrap_or (value_at nat_cmp p.live c.args.handle) []) (command_of c.args.command))) c.self.view_is) c.run_on.result c.run_on.ensures.map

pub returns-clause-reply : goal.returns-clause-reply
returns-clause-reply g c =
    let places = c.self.inside.versions.items in
    let here = read_here c.args.handle places c.index_mut.result.now (omega (arith, c.self.invariant.0.count, c.requires.place)) c.index_mut.ensures.value ∙ c.in-Some.is in
    let held = sym (held_here c.args.handle places c.in-Some.version here) ∙ ap (λ (p : HeldMaps g.row.K.Denot g.row.V.Denot). unwrap_or (value_at nat_cmp p.live c.args.handle) []) c.self.view_is in
    if_ok _ _ (λ y e. e ∙ ap (λ (es : Map g.row.K.Denot g.row.V.Denot). reply g.K.Ord.cmp g.V.PartialEq.eq es (command_of c.args.command)) held) c.run_on.result c.run_on.ensures.reply

pub returns-clause-full : goal.returns-clause-full
returns-clause-full g c live =
    let places = c.self.inside.versions.items in
    let version = c.in-Some.version in
    let here = read_here c.args.handle places c.index_mut.result.now (omega (arith, c.self.invariant.0.count, c.requires.place)) c.index_mut.ensures.value ∙ c.in-Some.is in
    let held = sym (held_here c.args.handle places version here) ∙ ap (λ (p : HeldMaps g.row.K.Denot g.row.V.Denot). unwrap_or (value_at nat_cmp p.live c.args.handle) []) c.self.view_is in
    let limit = (c.self.invariant.0.each c.args.handle version here).same_limit ∙ ap (λ (p : HeldMaps g.row.K.Denot g.row.V.Denot). p.limit) c.self.view_is in
    let command = command_of c.args.command in
    let same : is_full g.K.Ord.cmp version.limit version.entries command ≡ is_full g.K.Ord.cmp c.args.self.now.limit (unwrap_or (value_at nat_cmp c.args.self.now.live c.args.handle) []) command = λ i. is_full g.K.Ord.cmp (limit i) (held i) command in
    subst (FullExactly c.run_on.result) same c.run_on.ensures.full

pub returns-clause-stamps : goal.returns-clause-stamps
returns-clause-stamps g c =
    let places = c.self.inside.versions.items in
    let here = read_here c.args.handle places c.index_mut.result.now (omega (arith, c.self.invariant.0.count, c.requires.place)) c.index_mut.ensures.value ∙ c.in-Some.is in
    ap (live_from 0) (same_stamps c.args.handle places c.in-Some.version c.run_on.new.version here c.run_on.ensures.stamp)
    ∙ ap (λ (p : HeldMaps g.row.K.Denot g.row.V.Denot). p.stamps) c.self.view_is
