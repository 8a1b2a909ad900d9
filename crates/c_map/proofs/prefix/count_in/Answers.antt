use Rattle.std.proofs.Common.{rules, ◌≡◌, ◌==◌, true, arith}
use Rattle.std.specs.List.{starts_with}
use Rattle.c_map.proofs.Prefixes.{one_more}
use Rattle.c_map.proofs.prefix.count_in.Goals as goal

-- one more key has the prefix, and no more keys have it than there are
pub overflow_add-count : goal.overflow_add-count
overflow_add-count g c =
    let passes : starts_with ◌==◌ c.in-Some.key.now.value c.args.prefix.now ≡ true = search rules in
    omega (arith, one_more (λ key. starts_with ◌==◌ key c.args.prefix.now) c.loop-key.count _ c.next.new.self c.loop-key.walk c.args.walk c.in-Some.ensures.steps passes c.loop-key.invariant, c.requires)
