-- Queries whose closures may be called on every pair.
use Rattle.std.proofs.Common.{Bool}
use Rattle.bulk_ops.specs.Queries.{IsReady}
use Rattle.bulk_ops.specs.declared.closure.PairFn.{Ghosts}
use Rattle.bulk_ops.specs.declared.closure.ImageFn.{Ghosts as ImageGhosts}
use Rattle.bulk_ops.specs.declared.query.Query.{Query}
use Rattle.bulk_ops.specs.declared.query.Query.TheVariants.{Count, Exists, ForAll, Find, Filter, MapValues, MapPairs, Fold}

-- a query is ready whose closures can all be called
pub always_ready : {K V T F M G P I : Type 0} {t : Ghosts T K V Bool} {f : Ghosts F K V V} {g : Ghosts G K V I} {h : ImageGhosts P K V}
    → ((x : T) → t.can x) → ((x : F) → f.can x) → ((x : G) → g.can x) → ((x : P) → h.can x) → (q : Query K V T F M G P I t f g h) → IsReady q
always_ready test value item image (Count s) = test s.call
always_ready test value item image (Exists s) = test s.call
always_ready test value item image (ForAll s) = test s.call
always_ready test value item image (Find s) = test s.call
always_ready test value item image (Filter s to) = test s.call
always_ready test value item image (MapValues s to) = value s.call
always_ready test value item image (MapPairs s to) = image s.call
always_ready test value item image (Fold m s) = item s.call
