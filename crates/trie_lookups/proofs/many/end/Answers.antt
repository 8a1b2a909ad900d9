use Rattle.std.proofs.Common.{◌<◌, ◌∷◌, ◌++◌, [], length, map, option_map, take, flat_map, sym, ap, ◌∙◌, arith}
use Rattle.std.specs.Option.{option_to_list}
use Rattle.std.proofs.lemmas.List.{append_assoc, append-nil, map-append}
use Rattle.trie_lookups.proofs.Answered.{held_more}
use Rattle.trie_lookups.proofs.many.end.Goals as goal
use Rattle.trie_lookups.proofs.many.end.Goals.{in-Some+in_ok-push, in_default}

pub loop-place-preserved : goal.loop-place-preserved
loop-place-preserved g c =
    let places = c.as_slice-place-items.result.now in
    let i = c.loop-place.place-index in
    let place = c.place-item.result in
    let within : i < length places = omega (arith, c.loop-place-test.true) in
    let before = map (option_map (λ v. g.S.ValueSlots.value_of v.now)) c.args.answers.now.items in
    let so_far = flat_map option_to_list (take i places) in
    let more = held_more places i place within c.place-item.is in
    elim c.match-place.branch [
      | in-Some+in_ok-push w ↦
          ap (λ a. map (option_map (λ v. g.S.ValueSlots.value_of v.now)) a.items) w.answers-is
          ∙ ap (map (option_map (λ v. g.S.ValueSlots.value_of v.now))) w.in_ok-push.ensures.items
          ∙ map-append (option_map (λ v. g.S.ValueSlots.value_of v.now)) c.loop-place.answers.items (w.answer.result ∷ [])
          ∙ ap (λ xs. xs ++ option_map (λ v. g.S.ValueSlots.value_of v.now) w.answer.result ∷ []) c.loop-place.invariant
          ∙ append_assoc before so_far (option_map (λ v. g.S.ValueSlots.value_of v.now) w.answer.result ∷ [])
          ∙ ap (λ xs. before ++ (so_far ++ xs)) (ap (λ x. x ∷ []) w.answer.ensures ∙ sym (ap option_to_list w.in-Some.is))
          ∙ ap (λ xs. before ++ xs) (sym more)
      | in_default w ↦
          ap (λ a. map (option_map (λ v. g.S.ValueSlots.value_of v.now)) a.items) w.answers-is
          ∙ c.loop-place.invariant
          ∙ ap (λ xs. before ++ xs) (sym (append-nil so_far) ∙ ap (λ p. so_far ++ option_to_list p) (sym w.in_default.is) ∙ sym more)
    ]
