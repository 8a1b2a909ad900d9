use Rattle.std.proofs.Common.{arith, ◌≡◌, ◌∷◌, length, ap}
use Rattle.std.proofs.Common.{rules}
use Rattle.std.proofs.lemmas.Bool.Decides.{nat_tests}
use Rattle.script.specs.Lines.{fields_of}
use Rattle.script.proofs.FieldLemmas.{next_field, no_field}
use Rattle.script.proofs.fields.FieldsIterator.next.Goals as goal

pub returns-then-is_empty-clause-steps : goal.returns-then-is_empty-clause-steps
returns-then-is_empty-clause-steps c =
    no_field _ _ _ _ _ _ c.spaces_at_front.ensures.within c.spaces_at_front.ensures.spaces c.spaces_at_front.ensures.end c.split_at.ensures.back
    c.bytes_before_space.ensures.within c.bytes_before_space.ensures.end c.split_at-2.ensures.front c.split_at-2.ensures.back (grind (arith, nat_tests))

pub returns-else-is_empty-clause-steps : goal.returns-else-is_empty-clause-steps
returns-else-is_empty-clause-steps c =
    next_field _ _ _ _ _ _ c.spaces_at_front.ensures.within c.spaces_at_front.ensures.spaces c.split_at.ensures.back
    c.bytes_before_space.ensures.within c.bytes_before_space.ensures.bytes c.bytes_before_space.ensures.end c.split_at-2.ensures.front c.split_at-2.ensures.back (grind (arith, nat_tests))

pub returns-else-is_empty-clause-goes : goal.returns-else-is_empty-clause-goes
returns-else-is_empty-clause-goes c =
    let steps : fields_of c.args.self.now.0.now ≡ c.split_at-2.result.0.now ∷ fields_of c.split_at-2.result.1.now = next_field _ _ _ _ _ _ c.spaces_at_front.ensures.within c.spaces_at_front.ensures.spaces c.split_at.ensures.back
    c.bytes_before_space.ensures.within c.bytes_before_space.ensures.bytes c.bytes_before_space.ensures.end c.split_at-2.ensures.front c.split_at-2.ensures.back (grind (arith, nat_tests)) in
    let fewer : length (fields_of c.args.self.now.0.now) ≡ length (c.split_at-2.result.0.now ∷ fields_of c.split_at-2.result.1.now) = ap length steps in
    search (rules, fewer)
