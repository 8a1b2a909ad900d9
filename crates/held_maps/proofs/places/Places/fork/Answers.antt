use Rattle.std.proofs.Common.{[], ◌+◌, ap, subst, sym, ◌∙◌, arith}
use Rattle.std.specs.Prelude.{IsSome, Some, slice_set, unwrap_or}
use Rattle.std.specs.Ordering.{nat_cmp}
use Rattle.versions.specs.Map.{value_at, with_pair}
use Rattle.held_maps.specs.HeldMaps.{HeldMaps, live_from}
use Rattle.held_maps.proofs.Live.{held_here, live_here, not_live_here, same_maps, with_stamp, with_version}
use Rattle.held_maps.proofs.Kept.{length-slice_set, read_here, set_fresh}
use Rattle.held_maps.proofs.places.Places.fork.Goals as goal

pub fork-requires-clause-issued : goal.fork-requires-clause-issued
fork-requires-clause-issued g c =
    let here = read_here c.args.handle c.self.inside.versions.items c.index_mut.result.now (omega (arith, c.self.invariant.0.count, c.requires.place)) c.index_mut.ensures.value in
    (c.self.invariant.0.each c.args.handle c.in-Some.version (here ∙ c.in-Some.is)).old_stamp

pub returns-in-None-clause-memory : goal.returns-in-None-clause-memory
returns-in-None-clause-memory g c live =
    let places = c.self.inside.versions.items in
    let here = read_here c.args.handle places c.index_mut.result.now (omega (arith, c.self.invariant.0.count, c.requires.place)) c.index_mut.ensures.value in
    absurd (not_live_here c.args.handle places (here ∙ c.in-None.is) (subst (λ (p : HeldMaps g.row.K.Denot g.row.V.Denot). IsSome (value_at nat_cmp p.live c.args.handle)) (sym c.self.view_is) live))

pub returns-in_err-version-in-Some-clause-none : goal.returns-in_err-version-in-Some-clause-none
returns-in_err-version-in-Some-clause-none g c none =
    let places = c.self.inside.versions.items in
    let here = read_here c.args.handle places c.index_mut.result.now (omega (arith, c.self.invariant.0.count, c.requires.place)) c.index_mut.ensures.value in
    absurd (live_here c.args.handle places c.in-Some.version (here ∙ c.in-Some.is) (ap (λ (p : HeldMaps g.row.K.Denot g.row.V.Denot). value_at nat_cmp p.live c.args.handle) c.self.view_is ∙ none))

pub returns-clause-none : goal.returns-clause-none
returns-clause-none g c none =
    let places = c.self.inside.versions.items in
    let here = read_here c.args.handle places c.index_mut.result.now (omega (arith, c.self.invariant.0.count, c.requires.place)) c.index_mut.ensures.value in
    absurd (live_here c.args.handle places c.in-Some.version (here ∙ c.in-Some.is) (ap (λ (p : HeldMaps g.row.K.Denot g.row.V.Denot). value_at nat_cmp p.live c.args.handle) c.self.view_is ∙ none))

pub invariant_of-self-2 : goal.invariant_of-self-2
invariant_of-self-2 g c =
    let limit = c.self.inside.limit in
    let issued = c.self.inside.source in
    let places = c.self.inside.versions.items in
    let here = read_here c.args.handle places c.index_mut.result.now (omega (arith, c.self.invariant.0.count, c.requires.place)) c.index_mut.ensures.value ∙ c.in-Some.is in
    let same = (c.self.invariant.0.each c.args.handle c.in-Some.version here).same_limit in
    let made = c.in_ok-version-in-Some.ensures in
    let first = set_fresh limit issued (issued + 1) c.args.handle c.fork.new.self places c.self.invariant.0 (c.fork.ensures.kept_limit ∙ same) (omega (arith, made.fresh)) (omega (arith, made.fresh)) in (
      set_fresh limit (issued + 1) c.fork.new.source c.args.to c.in_ok-version-in-Some.version (slice_set places c.args.handle (Some c.fork.new.self)) first (made.limit ∙ same) (omega (arith, made.stamp)) (omega (arith, made.stamp, made.issued)),
      c.self.invariant.1,
      c.self.invariant.2,
    )

pub returns-clause-live : goal.returns-clause-live
returns-clause-live g c =
    let places = c.self.inside.versions.items in
    let here = read_here c.args.handle places c.index_mut.result.now (omega (arith, c.self.invariant.0.count, c.requires.place)) c.index_mut.ensures.value ∙ c.in-Some.is in
    let left = ap (live_from 0) (same_maps c.args.handle places c.in-Some.version c.fork.new.self here c.fork.ensures.kept_entries) in
    let held = held_here c.args.handle places c.in-Some.version here in
    with_version c.args.to c.in_ok-version-in-Some.version (slice_set places c.args.handle (Some c.fork.new.self)) (omega (arith, length-slice_set places c.args.handle (Some c.fork.new.self), c.self.invariant.0.count, c.requires.target))
    ∙ (λ i. with_pair nat_cmp (left i) c.args.to ((c.in_ok-version-in-Some.ensures.entries ∙ sym held) i))
    ∙ ap (λ (p : HeldMaps g.row.K.Denot g.row.V.Denot). with_pair nat_cmp p.live c.args.to (unwrap_or (value_at nat_cmp p.live c.args.handle) [])) c.self.view_is

pub returns-clause-fresh : goal.returns-clause-fresh
returns-clause-fresh g c =
    let places = c.self.inside.versions.items in
    let first = c.in_ok-version-in-Some.ensures.fresh ∙ ap (λ (p : HeldMaps g.row.K.Denot g.row.V.Denot). p.issued + 1) c.self.view_is in
    let second = c.in_ok-version-in-Some.ensures.stamp ∙ ap (λ (p : HeldMaps g.row.K.Denot g.row.V.Denot). p.issued + 2) c.self.view_is in
    let here = with_stamp c.args.handle c.fork.new.self places (omega (arith, c.self.invariant.0.count, c.requires.place)) in
    with_stamp c.args.to c.in_ok-version-in-Some.version (slice_set places c.args.handle (Some c.fork.new.self)) (omega (arith, length-slice_set places c.args.handle (Some c.fork.new.self), c.self.invariant.0.count, c.requires.target))
    ∙ (λ i. with_pair nat_cmp (here i) c.args.to c.in_ok-version-in-Some.version.stamp)
    ∙ (λ i. with_pair nat_cmp (with_pair nat_cmp (c.self.view_is i).stamps c.args.handle (first i)) c.args.to (second i))
