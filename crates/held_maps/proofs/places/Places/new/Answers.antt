use Rattle.std.proofs.Common.{rules, ◌≡◌, ◌++◌, ◌∷◌, [], None, ◌∙◌, ap}
use Rattle.held_maps.specs.HeldMaps.{entries_of, live_from, maps_in, stamp_of, stamps_in, version_in}
use Rattle.held_maps.proofs.Live.{none_more}
use Rattle.held_maps.proofs.Kept.{none_added}
use Rattle.held_maps.proofs.places.Places.new.Goals as goal

pub places-preserved : goal.places-preserved
places-preserved g c =
    let longer : c.push.new.self.items ≡ c.places.versions.items ++ None ∷ [] = search rules in
    record {
      live = ap (λ vs. live_from 0 (maps_in vs)) longer ∙ none_more entries_of 0 c.places.versions.items ∙ c.places.invariant.live;
      stamps = ap (λ vs. live_from 0 (stamps_in vs)) longer ∙ none_more stamp_of 0 c.places.versions.items ∙ c.places.invariant.stamps;
      count = search rules;
      none = λ h. ap (λ vs. version_in vs h) longer ∙ none_added c.places.versions.items c.places.invariant.none h;
    }
