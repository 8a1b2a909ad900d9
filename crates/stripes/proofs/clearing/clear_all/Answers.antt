use Rattle.std.proofs.Common.{ℕ, drop, arith, ap, sym, ◌∙◌}
use Rattle.std.specs.Sync.Mutex.{mutex_guard_value}
use Rattle.hash_path.specs.Digits.{fan_out}
use Rattle.stripes.specs.Stripes.{up_to}
use Rattle.stripes.proofs.Lending.{held_count}
use Rattle.stripes.proofs.clearing.clear_all.Goals as goal

pub clear_from-requires-clause-digits : goal.clear_from-requires-clause-digits
clear_from-requires-clause-digits g c = c.requires.digits ∙ ap up_to (sym (held_count mutex_guard_value c.args.held.items fan_out c.requires.digits))

pub clear_from-requires-clause-few : goal.clear_from-requires-clause-few
clear_from-requires-clause-few g c = let count = held_count mutex_guard_value c.args.held.items fan_out c.requires.digits in omega (arith, count)

pub clear_from-requires-clause-maps : goal.clear_from-requires-clause-maps
clear_from-requires-clause-maps g c = c.requires.maps ∙ sym (held_count mutex_guard_value c.args.held.items fan_out c.requires.digits)

pub clear_from-requires-clause-behind : goal.clear_from-requires-clause-behind
clear_from-requires-clause-behind g c = λ named. c.requires.none ∙ ap (λ (k : ℕ). drop k (up_to fan_out)) (sym (held_count mutex_guard_value c.args.held.items fan_out c.requires.digits))
