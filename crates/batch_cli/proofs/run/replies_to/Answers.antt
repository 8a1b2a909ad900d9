use Rattle.std.proofs.Common.{rules, ◌≡◌, ◌<◌, ◌∙◌, length, map, ap, Ok, subst, sym, vec_len}
use Rattle.std.specs.Prelude.{All}
use Rattle.std.proofs.lemmas.List.{length-map}
use Rattle.task_pool.specs.declared.crew.Crew.{Crew}
use Rattle.batch_cli.specs.CommandLine.{AreInRange}
use Rattle.script_runs.specs.Runs.{AreMerged, AreRepliesTo}
use Rattle.batch_cli.proofs.RunOf.{each_made, replied, run_of}
use Rattle.batch_cli.proofs.run.replies_to.Goals as goal

pub with_clients-requires-clause-needs : goal.with_clients-requires-clause-needs
with_clients-requires-clause-needs g c = λ lifetimes lives k client lt.
    let begun : length c.in_ok-clients.clients.items ≡ vec_len c.in_ok-clients.clients = search rules in
    subst (λ (crew : Crew). AreInRange crew.workers crew.grain) (sym (c.in_ok-clients.ensures.crews k client (subst (λ n. k < n) begun lt))) c.requires.crew

pub replies_in_order-requires : goal.replies_in_order-requires
replies_in_order-requires g c =
    let lines = c.args.lines.now in
    let all = c.in_ok-replies.replies.items in
    let journal = c.in_ok-outs.closed.journal in
    let begun : length c.in_ok-clients.clients.items ≡ vec_len c.in_ok-clients.clients = search rules in
    let told : length c.in_ok-outs.outs.items ≡ vec_len c.in_ok-outs.outs = search rules in
    let ended : length all ≡ vec_len c.in_ok-clients.clients = sym (length-map all (λ replies. Ok replies)) ∙ ap length c.in_ok-replies.ensures ∙ told ∙ c.in_ok-outs.ensures.len in
    let count : vec_len c.in_ok-clients.clients ≡ length (map (λ replies. replies.items) all) = sym ended ∙ sym (length-map all (λ replies. replies.items)) in
    let known = subst (λ n. All (λ line. line.client < n) lines) count c.in_ok-clients.ensures.all in
    let made = each_made (λ client. client.number) (λ client. client.lines.now) lines journal c.in_ok-outs.closed.table (vec_len c.in_ok-clients.clients) c.in_ok-clients.clients.items all c.in_ok-outs.outs.items begun ended c.in_ok-replies.ensures c.in_ok-clients.ensures.each c.in_ok-outs.ensures.each in
    subst (λ xs. AreRepliesTo lines (map (λ replies. replies.items) xs)) (sym c.as_slice.ensures.value) (replied lines journal (map (λ replies. replies.items) all) known made)

pub returns : goal.returns
returns g c =
    let lines = c.args.lines.now in
    let all = c.in_ok-replies.replies.items in
    let journal = c.in_ok-outs.closed.journal in
    let begun : length c.in_ok-clients.clients.items ≡ vec_len c.in_ok-clients.clients = search rules in
    let told : length c.in_ok-outs.outs.items ≡ vec_len c.in_ok-outs.outs = search rules in
    let ended : length all ≡ vec_len c.in_ok-clients.clients = sym (length-map all (λ replies. Ok replies)) ∙ ap length c.in_ok-replies.ensures ∙ told ∙ c.in_ok-outs.ensures.len in
    let count : vec_len c.in_ok-clients.clients ≡ length (map (λ replies. replies.items) all) = sym ended ∙ sym (length-map all (λ replies. replies.items)) in
    let known = subst (λ n. All (λ line. line.client < n) lines) count c.in_ok-clients.ensures.all in
    let seats = subst (λ n. All (λ e. e.seat < n) journal) count c.in_ok-outs.ensures.seats in
    let made = each_made (λ client. client.number) (λ client. client.lines.now) lines journal c.in_ok-outs.closed.table (vec_len c.in_ok-clients.clients) c.in_ok-clients.clients.items all c.in_ok-outs.outs.items begun ended c.in_ok-replies.ensures c.in_ok-clients.ensures.each c.in_ok-outs.ensures.each in
    let merged = subst (λ xs. AreMerged lines (map (λ replies. replies.items) xs) c.in_ok-text.text.items) c.as_slice.ensures.value c.in_ok-text.ensures in
    run_of lines journal (map (λ replies. replies.items) all) known made c.in_ok-outs.closed.table c.in_ok-text.text.items c.in_ok-outs.ensures.legal seats merged
