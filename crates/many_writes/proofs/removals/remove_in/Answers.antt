use Rattle.std.proofs.Common.{◌≡◌, Option, IfSome, length, drop, take_at, ap, sym, ◌∙◌, subst, arith, All}
use Rattle.std.specs.Prelude.{⊤}
use Rattle.std.specs.List.{AllZip}
use Rattle.many_writes.specs.Parts.{IsParted}
use Rattle.many_writes.specs.Turns.{Goes, IsSound, Stands, answers_in, done_from, left_in}
use Rattle.many_writes.proofs.Moves.{all_stand_sound, answers_stand, turns_part}
use Rattle.std.proofs.lemmas.Slice.Zip.{AllZip-long}
use Rattle.many_writes.proofs.removals.remove_in.Goals as goal

pub remove_turns-requires : goal.remove_turns-requires
remove_turns-requires g c =
    let R = λ (item : g.row.Q.Denot) (found : Option g.row.S-Value.Denot). IfSome found (λ value. g.P.Keeps.holds (g.Q.Sought.key_of item) (g.S.ValueSlots.value_of value)) in
    let path = λ (item : g.row.Q.Denot). g.K.PathKey.path_of (g.Q.Sought.key_of item) in
    let G = λ (item : g.row.Q.Denot). ⊤ in
    record { sound = subst (All (IsSound path G)) (sym c.deref_mut.ensures.value) (all_stand_sound path G c.args.keys.now c.line_up.new.turns.items c.line_up.ensures.turns (λ k d h. tt)) }

pub answers_of-requires-clause-room : goal.answers_of-requires-clause-room
answers_of-requires-clause-room g c =
    let R = λ (item : g.row.Q.Denot) (found : Option g.row.S-Value.Denot). IfSome found (λ value. g.P.Keeps.holds (g.Q.Sought.key_of item) (g.S.ValueSlots.value_of value)) in
    let path = λ (item : g.row.Q.Denot). g.K.PathKey.path_of (g.Q.Sought.key_of item) in
    let long : length c.remove_turns.new.turns ≡ c.line_up.new.turns.len = omega (arith, AllZip-long (Goes R) c.deref_mut.result.now c.remove_turns.new.turns c.remove_turns.ensures.goes, c.deref_mut.ensures.len) in
    let same = take_at c.remove_turns.new.turns (drop (length c.remove_turns.new.turns) c.line_up.new.turns.items) c.line_up.new.turns.len long in
    let count : length c.remove_turns.new.turns ≡ length c.args.keys.now = AllZip-long (Goes R) c.deref_mut.result.now c.remove_turns.new.turns c.remove_turns.ensures.goes ∙ (ap length c.deref_mut.ensures.value ∙ AllZip-long (Stands path) c.args.keys.now c.line_up.new.turns.items c.line_up.ensures.turns) in
    omega (arith, ap length same, count, c.requires.answers.1)

pub returns-in-Ok-clause-done : goal.returns-in-Ok-clause-done
returns-in-Ok-clause-done g c =
    let R = λ (item : g.row.Q.Denot) (found : Option g.row.S-Value.Denot). IfSome found (λ value. g.P.Keeps.holds (g.Q.Sought.key_of item) (g.S.ValueSlots.value_of value)) in
    let path = λ (item : g.row.Q.Denot). g.K.PathKey.path_of (g.Q.Sought.key_of item) in
    let long : length c.remove_turns.new.turns ≡ c.line_up.new.turns.len = omega (arith, AllZip-long (Goes R) c.deref_mut.result.now c.remove_turns.new.turns c.remove_turns.ensures.goes, c.deref_mut.ensures.len) in
    let same = take_at c.remove_turns.new.turns (drop (length c.remove_turns.new.turns) c.line_up.new.turns.items) c.line_up.new.turns.len long in
    subst (AllZip R c.args.keys.now) (sym (c.answers_of.ensures ∙ ap answers_in same)) (answers_stand R path c.args.keys.now c.line_up.new.turns.items c.remove_turns.new.turns c.line_up.ensures.turns (subst (λ ts. AllZip (Goes R) ts c.remove_turns.new.turns) c.deref_mut.ensures.value c.remove_turns.ensures.goes) c.in-Ok.ensures.done)

pub done_of-requires-clause-room : goal.done_of-requires-clause-room
done_of-requires-clause-room g c =
    let R = λ (item : g.row.Q.Denot) (found : Option g.row.S-Value.Denot). IfSome found (λ value. g.P.Keeps.holds (g.Q.Sought.key_of item) (g.S.ValueSlots.value_of value)) in
    let path = λ (item : g.row.Q.Denot). g.K.PathKey.path_of (g.Q.Sought.key_of item) in
    let long : length c.remove_turns.new.turns ≡ c.line_up.new.turns.len = omega (arith, AllZip-long (Goes R) c.deref_mut.result.now c.remove_turns.new.turns c.remove_turns.ensures.goes, c.deref_mut.ensures.len) in
    let same = take_at c.remove_turns.new.turns (drop (length c.remove_turns.new.turns) c.line_up.new.turns.items) c.line_up.new.turns.len long in
    let count : length c.remove_turns.new.turns ≡ length c.args.keys.now = AllZip-long (Goes R) c.deref_mut.result.now c.remove_turns.new.turns c.remove_turns.ensures.goes ∙ (ap length c.deref_mut.ensures.value ∙ AllZip-long (Stands path) c.args.keys.now c.line_up.new.turns.items c.line_up.ensures.turns) in
    omega (arith, ap length same, count, c.requires.done.1)

pub returns-clause-parted : goal.returns-clause-parted
returns-clause-parted g c =
    let R = λ (item : g.row.Q.Denot) (found : Option g.row.S-Value.Denot). IfSome found (λ value. g.P.Keeps.holds (g.Q.Sought.key_of item) (g.S.ValueSlots.value_of value)) in
    let path = λ (item : g.row.Q.Denot). g.K.PathKey.path_of (g.Q.Sought.key_of item) in
    let long : length c.remove_turns.new.turns ≡ c.line_up.new.turns.len = omega (arith, AllZip-long (Goes R) c.deref_mut.result.now c.remove_turns.new.turns c.remove_turns.ensures.goes, c.deref_mut.ensures.len) in
    let same = take_at c.remove_turns.new.turns (drop (length c.remove_turns.new.turns) c.line_up.new.turns.items) c.line_up.new.turns.len long in
    let parts = turns_part R path 0 c.args.keys.now c.line_up.new.turns.items c.remove_turns.new.turns c.line_up.ensures.turns (subst (λ ts. AllZip (Goes R) ts c.remove_turns.new.turns) c.deref_mut.ensures.value c.remove_turns.ensures.goes) in
    (left_in c.remove_turns.new.turns, subst (λ done. IsParted R 0 c.args.keys.now done (left_in c.remove_turns.new.turns)) (sym (c.done_of.ensures ∙ ap (done_from 0) same)) parts)
