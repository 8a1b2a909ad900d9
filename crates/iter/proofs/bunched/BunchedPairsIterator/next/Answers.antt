use Rattle.std.proofs.Common.{rules, ◌≡◌, ◌<◌, ◌≤◌, All, IsSome, None, length, slice_index_or, is_some, true, false, ap, subst, sym, ◌∙◌, arith}
use Rattle.iter.specs.Stacks.{IsSound}
use Rattle.iter.proofs.bunched.BunchedPairsIterator.next.Goals as goal
use Rattle.iter.proofs.bunched.BunchedPairsIterator.next.Goals.{then-self-len, else-self-len}

-- a bunch that was filled holds a pair at each place, as the one before did
pub invariant_of-self-in_err-pair : goal.invariant_of-self-in_err-pair
invariant_of-self-in_err-pair g c =
    let R = g.K.Ord.cmp in
    let path = g.K.PathKey.path_of in
    elim c.if-self-len.branch [
      | then-self-len w ↦ subst (λ a. IsSound R path a.after.ahead × All IsSome a.bunch.items × (a.next ≤ length a.bunch.items)) (sym w.self-inside-is) (w.next_bunch.ensures.sound, w.next_bunch.ensures.held, omega arith)
      | else-self-len w ↦ subst (λ a. IsSound R path a.after.ahead × All IsSome a.bunch.items × (a.next ≤ length a.bunch.items)) (sym w.self-inside-is) c.self.invariant
    ]

-- so no place has none
pub returns-in_err-pair-clause-steps : goal.returns-in_err-pair-clause-steps
returns-in_err-pair-clause-steps g c =
    let a = c.if-self-len.self-inside in
    let place = c.in_ok-get.field-0.now in
    let held : All IsSome a.bunch.items = elim c.if-self-len.branch [
      | then-self-len w ↦ subst (λ a. All IsSome a.bunch.items) (sym w.self-inside-is) w.next_bunch.ensures.held
      | else-self-len w ↦ subst (λ a. All IsSome a.bunch.items) (sym w.self-inside-is) c.self.invariant.1
    ] in
    let lt : a.next < length a.bunch.items = search rules in
    let at : place ≡ slice_index_or a.bunch.items a.next place = search rules in
    let none : place ≡ None = search rules in
    let some : is_some place ≡ true = ap is_some at ∙ held a.next place lt in
    let no : is_some place ≡ false = ap is_some none in
    absurd (cc)

pub invariant_of-self-2 : goal.invariant_of-self-2
invariant_of-self-2 g c =
    let R = g.K.Ord.cmp in
    let path = g.K.PathKey.path_of in
    let a = c.if-self-len.self-inside in
    let before : IsSound R path a.after.ahead × All IsSome a.bunch.items = elim c.if-self-len.branch [
      | then-self-len w ↦ subst (λ a. IsSound R path a.after.ahead × All IsSome a.bunch.items) (sym w.self-inside-is) (w.next_bunch.ensures.sound, w.next_bunch.ensures.held)
      | else-self-len w ↦ subst (λ a. IsSound R path a.after.ahead × All IsSome a.bunch.items) (sym w.self-inside-is) (c.self.invariant.0, c.self.invariant.1)
    ] in
    let lt : a.next < length a.bunch.items = search rules in
    (before.0, before.1, omega (arith, lt))
