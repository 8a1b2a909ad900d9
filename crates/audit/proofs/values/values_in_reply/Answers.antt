use Rattle.std.proofs.Common.{◌≡◌, [], rules}
use Rattle.audit.specs.Images.{IsReadInto}
use Rattle.audit.proofs.ValueLemmas.{all_read, no_pairs, none_left, reading_begun, spelled_read}
use Rattle.audit.proofs.values.values_in_reply.Goals as goal

pub returns-in_default : goal.returns-in_default
returns-in_default c = no_pairs c.args.map.now.entries _ c.args.reply.now c.in_default.ensures.cases

pub loop-key-init : goal.loop-key-init
loop-key-init c =
    let rest : c.into_iter-key-iterator.result ≡ c.args.map.now.entries = search rules in
    let none : c.new-values.result.entries ≡ [] = search rules in
    rw (none, rest) (reading_begun c.args.map.now.entries c.args.reply.now c.in-Some.left.now c.in-Some.ensures.cases.1)

pub returns-in_default-value_behind : goal.returns-in_default-value_behind
returns-in_default-value_behind c = none_left c.in-Some-2.key _ c.args.map.now.entries _ c.loop-key.values.entries c.args.reply.now c.loop-key.left.now (rw c.in-Some-2.ensures.steps at c.loop-key.invariant) (rw c.as_slice.ensures at c.in_default-value_behind.ensures)

pub loop-key-preserved : goal.loop-key-preserved
loop-key-preserved c =
    let read : IsReadInto c.loop-key.values.entries c.in-Some-2.key c.in-Some-value_behind.spelled.now c.put_spelled.new.values.entries = search rules in
    spelled_read c.in-Some-2.key _ c.args.map.now.entries _ c.loop-key.values.entries c.put_spelled.new.values.entries c.args.reply.now c.loop-key.left.now c.in-Some-value_behind.spelled.now c.in-Some-value_behind.behind.now (rw c.in-Some-2.ensures.steps at c.loop-key.invariant) (rw c.as_slice.ensures at c.in-Some-value_behind.ensures) read

pub returns : goal.returns
returns c = all_read c.args.map.now.entries c.loop-key.values.entries c.args.reply.now c.loop-key.left.now (rw c.in-None.ensures.steps.0 at c.loop-key.invariant)
