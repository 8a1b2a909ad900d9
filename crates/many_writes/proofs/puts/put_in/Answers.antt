use Rattle.std.proofs.Common.{◌≡◌, Option, IfSome, length, drop, take_at, ap, sym, ◌∙◌, subst, arith, All}
use Rattle.std.specs.List.{AllZip}
use Rattle.many_writes.specs.Parts.{IsParted}
use Rattle.many_writes.specs.Turns.{Goes, IsDone, IsSound, Stands, answers_in, done_from, left_in}
use Rattle.many_writes.proofs.Moves.{all_stand_sound, answers_stand, turns_part}
use Rattle.std.proofs.lemmas.Slice.Zip.{AllZip-long}
use Rattle.many_writes.proofs.puts.put_in.Goals as goal

pub put_turns-requires : goal.put_turns-requires
put_turns-requires g c =
    let R = λ (item : g.row.K.Denot × g.row.V.Denot) (found : Option g.row.S-Value.Denot). IfSome found (λ value. g.P.Keeps.holds item.0 (g.S.ValueSlots.value_of value)) in
    let path = λ (item : g.row.K.Denot × g.row.V.Denot). g.K.PathKey.path_of item.0 in
    let G = λ (item : g.row.K.Denot × g.row.V.Denot). g.P.Keeps.holds item.0 item.1 in
    record { sound = subst (All (IsSound path G)) (sym c.deref_mut.ensures.value) (all_stand_sound path G c.args.pairs.items c.line_up.new.turns.items c.line_up.ensures.turns c.requires.rule) }

pub answers_of-requires-clause-room : goal.answers_of-requires-clause-room
answers_of-requires-clause-room g c =
    let R = λ (item : g.row.K.Denot × g.row.V.Denot) (found : Option g.row.S-Value.Denot). IfSome found (λ value. g.P.Keeps.holds item.0 (g.S.ValueSlots.value_of value)) in
    let path = λ (item : g.row.K.Denot × g.row.V.Denot). g.K.PathKey.path_of item.0 in
    let long : length c.put_turns.new.turns ≡ c.line_up.new.turns.len = omega (arith, AllZip-long (Goes R) c.deref_mut.result.now c.put_turns.new.turns c.put_turns.ensures.goes, c.deref_mut.ensures.len) in
    let same = take_at c.put_turns.new.turns (drop (length c.put_turns.new.turns) c.line_up.new.turns.items) c.line_up.new.turns.len long in
    let count : length c.put_turns.new.turns ≡ length c.args.pairs.items = AllZip-long (Goes R) c.deref_mut.result.now c.put_turns.new.turns c.put_turns.ensures.goes ∙ (ap length c.deref_mut.ensures.value ∙ AllZip-long (Stands path) c.args.pairs.items c.line_up.new.turns.items c.line_up.ensures.turns) in
    omega (arith, ap length same, count, c.requires.room.answers.1)

pub returns-in-Ok-clause-done : goal.returns-in-Ok-clause-done
returns-in-Ok-clause-done g c =
    let R = λ (item : g.row.K.Denot × g.row.V.Denot) (found : Option g.row.S-Value.Denot). IfSome found (λ value. g.P.Keeps.holds item.0 (g.S.ValueSlots.value_of value)) in
    let path = λ (item : g.row.K.Denot × g.row.V.Denot). g.K.PathKey.path_of item.0 in
    let long : length c.put_turns.new.turns ≡ c.line_up.new.turns.len = omega (arith, AllZip-long (Goes R) c.deref_mut.result.now c.put_turns.new.turns c.put_turns.ensures.goes, c.deref_mut.ensures.len) in
    let same = take_at c.put_turns.new.turns (drop (length c.put_turns.new.turns) c.line_up.new.turns.items) c.line_up.new.turns.len long in
    subst (AllZip R c.args.pairs.items) (sym (c.answers_of.ensures ∙ ap answers_in same)) (answers_stand R path c.args.pairs.items c.line_up.new.turns.items c.put_turns.new.turns c.line_up.ensures.turns (subst (λ ts. AllZip (Goes R) ts c.put_turns.new.turns) c.deref_mut.ensures.value c.put_turns.ensures.goes) c.in-Ok.ensures.done)

pub answers_of-requires-clause-done : goal.answers_of-requires-clause-done
answers_of-requires-clause-done g c =
    let R = λ (item : g.row.K.Denot × g.row.V.Denot) (found : Option g.row.S-Value.Denot). IfSome found (λ value. g.P.Keeps.holds item.0 (g.S.ValueSlots.value_of value)) in
    let path = λ (item : g.row.K.Denot × g.row.V.Denot). g.K.PathKey.path_of item.0 in
    let long : length c.put_turns.new.turns ≡ c.line_up.new.turns.len = omega (arith, AllZip-long (Goes R) c.deref_mut.result.now c.put_turns.new.turns c.put_turns.ensures.goes, c.deref_mut.ensures.len) in
    let same = take_at c.put_turns.new.turns (drop (length c.put_turns.new.turns) c.line_up.new.turns.items) c.line_up.new.turns.len long in
    subst (All IsDone) (sym same) c.in-Ok.ensures.done

pub parted-put-requires-clause-room : goal.parted-put-requires-clause-room
parted-put-requires-clause-room g c =
    let R = λ (item : g.row.K.Denot × g.row.V.Denot) (found : Option g.row.S-Value.Denot). IfSome found (λ value. g.P.Keeps.holds item.0 (g.S.ValueSlots.value_of value)) in
    let path = λ (item : g.row.K.Denot × g.row.V.Denot). g.K.PathKey.path_of item.0 in
    let long : length c.put_turns.new.turns ≡ c.line_up.new.turns.len = omega (arith, AllZip-long (Goes R) c.deref_mut.result.now c.put_turns.new.turns c.put_turns.ensures.goes, c.deref_mut.ensures.len) in
    let same = take_at c.put_turns.new.turns (drop (length c.put_turns.new.turns) c.line_up.new.turns.items) c.line_up.new.turns.len long in
    let count : length c.put_turns.new.turns ≡ length c.args.pairs.items = AllZip-long (Goes R) c.deref_mut.result.now c.put_turns.new.turns c.put_turns.ensures.goes ∙ (ap length c.deref_mut.ensures.value ∙ AllZip-long (Stands path) c.args.pairs.items c.line_up.new.turns.items c.line_up.ensures.turns) in
    omega (arith, ap length same, count, c.requires.room.done.1)

pub parted-put-requires-clause-room_of_rest : goal.parted-put-requires-clause-room_of_rest
parted-put-requires-clause-room_of_rest g c =
    let R = λ (item : g.row.K.Denot × g.row.V.Denot) (found : Option g.row.S-Value.Denot). IfSome found (λ value. g.P.Keeps.holds item.0 (g.S.ValueSlots.value_of value)) in
    let path = λ (item : g.row.K.Denot × g.row.V.Denot). g.K.PathKey.path_of item.0 in
    let long : length c.put_turns.new.turns ≡ c.line_up.new.turns.len = omega (arith, AllZip-long (Goes R) c.deref_mut.result.now c.put_turns.new.turns c.put_turns.ensures.goes, c.deref_mut.ensures.len) in
    let same = take_at c.put_turns.new.turns (drop (length c.put_turns.new.turns) c.line_up.new.turns.items) c.line_up.new.turns.len long in
    let count : length c.put_turns.new.turns ≡ length c.args.pairs.items = AllZip-long (Goes R) c.deref_mut.result.now c.put_turns.new.turns c.put_turns.ensures.goes ∙ (ap length c.deref_mut.ensures.value ∙ AllZip-long (Stands path) c.args.pairs.items c.line_up.new.turns.items c.line_up.ensures.turns) in
    omega (arith, ap length same, count, c.requires.room.rest.1)

pub returns-clause-parted : goal.returns-clause-parted
returns-clause-parted g c =
    let R = λ (item : g.row.K.Denot × g.row.V.Denot) (found : Option g.row.S-Value.Denot). IfSome found (λ value. g.P.Keeps.holds item.0 (g.S.ValueSlots.value_of value)) in
    let path = λ (item : g.row.K.Denot × g.row.V.Denot). g.K.PathKey.path_of item.0 in
    let long : length c.put_turns.new.turns ≡ c.line_up.new.turns.len = omega (arith, AllZip-long (Goes R) c.deref_mut.result.now c.put_turns.new.turns c.put_turns.ensures.goes, c.deref_mut.ensures.len) in
    let same = take_at c.put_turns.new.turns (drop (length c.put_turns.new.turns) c.line_up.new.turns.items) c.line_up.new.turns.len long in
    let parts = turns_part R path 0 c.args.pairs.items c.line_up.new.turns.items c.put_turns.new.turns c.line_up.ensures.turns (subst (λ ts. AllZip (Goes R) ts c.put_turns.new.turns) c.deref_mut.ensures.value c.put_turns.ensures.goes) in
    subst (λ done. IsParted R 0 c.args.pairs.items done c.parted-put.result.1.items) (sym (c.parted-put.ensures.done ∙ ap (done_from 0) same)) (subst (λ rest. IsParted R 0 c.args.pairs.items (done_from 0 c.put_turns.new.turns) rest) (sym (c.parted-put.ensures.rest ∙ ap left_in same)) parts)
