-- What is seen later goes on from where the readers began.
use Rattle.std.proofs.Common.{◌≡◌, List, [], Option, Some, ap, sym, ◌∙◌, subst}
use Rattle.std.specs.Option.{unwrap_or}
use mathlib.Core.List.{IsPrefix}
use Rattle.map_reader.specs.Sights.{HasSeen}
use Rattle.write_history.proofs.Prefixes.{prefix_trans}

-- what was seen is what the front has seen
is_front : {A : Type 0} (h log : List A) (front : Option (List A)) → front ≡ Some h → front ≡ Some log → h ≡ log
is_front {A} h log front is same = sym (ap (λ (o : Option (List A)). unwrap_or o []) is) ∙ ap (λ (o : Option (List A)). unwrap_or o []) same

-- where the front has seen more, it still goes on from there
pub sees_more : {A P : Type 0} (since old new : List A) (front after : Option (List A)) → (P → HasSeen since front) → front ≡ Some old → IsPrefix old new → after ≡ Some new → P → HasSeen since after
sees_more {A} {P} since old new front after seen is more then has =
    let s = seen has in
    (new, then, prefix_trans since old new (subst (λ (xs : List A). IsPrefix since xs) (is_front s.0 old front s.1 is) s.2) more)

pub sees_same : {A P : Type 0} (since : List A) (front after : Option (List A)) → (P → HasSeen since front) → after ≡ front → P → HasSeen since after
sees_same {A} {P} since front after seen same has = subst (λ (o : Option (List A)). HasSeen since o) (sym same) (seen has)
