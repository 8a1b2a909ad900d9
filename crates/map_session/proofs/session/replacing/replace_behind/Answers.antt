use Rattle.std.proofs.Common.{◌≡◌, ◌∙◌, is_some, option_map, rules, sym, subst}
use Rattle.bulk_ops.specs.Meanings.{MayAnswer}
use Rattle.stripe.proofs.Seeing.{wrote_behind}
use Rattle.versions.specs.Map.{value_at}
use Rattle.write_history.specs.declared.entry.Write.TheVariants.{Put}
use Rattle.write_history.specs.Signers.{WroteIf}
use Rattle.map_session.proofs.Turns.{replaces_if}
use Rattle.map_session.proofs.session.replacing.replace_behind.Goals as goal

pub returns-clause-wrote : goal.returns-clause-wrote
returns-clause-wrote g c =
    let R = g.K.Ord.cmp in
    let path = g.K.PathKey.path_of in
    let k = (g.S.KeySlots.key_of c.args.key.now) in
    let may = λ (key : g.row.K.Denot) (old made : g.row.V.Denot). MayAnswer g.F.Fn c.args.change.now key old made in
    let found = c.in_ok-before.before in
    let before = option_map g.S.ValueSlots.value_of found in
    let done = is_some found in
    let author = c.args.author.now in
    let met = c.meet.new.self in
    let after = c.put_present.new.stripe.log in
    let told = c.in-Some.ensures.made in
    let key : (g.S.KeySlots.key_of c.in_ok-another_key.field-0) ≡ k = search rules in
    let there : before ≡ value_at R met.entries k = subst (λ (j : g.row.K.Denot). before ≡ value_at R met.entries j) key c.in_ok-before.ensures.before in
    let of_value = subst (λ (v : g.row.V.Denot). WroteIf R path done (Put (g.S.KeySlots.key_of c.in_ok-another_key.field-0) v) (g.S.KeySlots.key_of c.in_ok-another_key.field-0) before author met.log after) c.in_ok-made.ensures.ok (c.in_ok-before.ensures.wrote c.law.ensures) in
    let of_key = subst (λ (j : g.row.K.Denot). WroteIf R path done (Put j c.in-Some.made) j before author met.log after) key of_value in
    replaces_if R path may g.S.ValueSlots.value_of k found told.0 c.in-Some.made
    (record { log = c.args.front.now; signer = author }) (record { log = c.tell.new.front; signer = c.put_present.new.author })
    (there ∙ told.1) told.2
    (subst (WroteIf R path done (Put k c.in-Some.made) k before author c.args.front.now) (sym c.tell.ensures)
    (wrote_behind R path done (Put k c.in-Some.made) k before author c.args.front.now met.log after c.meet.ensures.seen of_key))
    c.in_ok-before.ensures.author
