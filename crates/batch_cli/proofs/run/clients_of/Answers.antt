use Rattle.std.proofs.Common.{rules, ◌≡◌, ◌+◌, ◌<◌, ◌≤◌, ◌∙◌, arith, length, List, refl, subst, sym, ap, vec_len}
use Rattle.std.specs.Prelude.{All}
use Rattle.std.proofs.lemmas.List.{length_push}
use Rattle.script.specs.declared.statement.CommandLine.{CommandLine}
use Rattle.task_pool.specs.declared.crew.Crew.{Crew}
use Rattle.batch_cli.proofs.RunOf.{no_clients, one_client_more}
use Rattle.batch_cli.proofs.run.clients_of.Goals as goal

pub loop-number-init : goal.loop-number-init
loop-number-init g c = (ap length c.in_ok-clients.ensures.items, omega arith, no_clients {A = List CommandLine × Crew} (λ client. client.number) (λ client. (client.lines.now, client.crew)) (c.args.lines.now, c.args.crew) c.in_ok-clients.clients.items c.in_ok-clients.ensures.items)

pub loop-number-preserved : goal.loop-number-preserved
loop-number-preserved g c =
    let had = c.loop-number.invariant in
    let is = c.in_ok-push.ensures.items in
    let long : length c.push.new.self.items ≡ c.loop-number.number + 1 = ap length is ∙ length_push c.loop-number.clients.items _ ∙ ap (λ n. n + 1) had.0 in
    let below : c.loop-number.number + 1 ≤ c.count_of-count.result = omega (arith, c.loop-number-test.true) in
    (long, below, one_client_more {A = List CommandLine × Crew} (λ client. client.number) (λ client. (client.lines.now, client.crew)) (c.args.lines.now, c.args.crew) c.loop-number.clients.items c.push.new.self.items _ is (sym had.0) refl had.2)

pub returns-clause-each : goal.returns-clause-each
returns-clause-each g c = λ k client h.
    let below : k < length c.loop-number.clients.items = search rules in
    let does = c.loop-number.invariant.2 k client below in
    (does.0, ap (λ x. x.0) does.1)

pub returns-clause-crews : goal.returns-clause-crews
returns-clause-crews g c = λ k client h.
    let below : k < length c.loop-number.clients.items = search rules in
    ap (λ x. x.1) (c.loop-number.invariant.2 k client below).1

pub returns-clause-all : goal.returns-clause-all
returns-clause-all g c =
    let counted : c.count_of-count.result ≡ vec_len c.loop-number.clients = search rules in
    subst (λ n. All (λ line. line.client < n) c.args.lines.now) counted c.count_of-count.ensures.all

pub returns-clause-most : goal.returns-clause-most
returns-clause-most g c =
    let counted : c.count_of-count.result ≡ vec_len c.loop-number.clients = search rules in
    subst (λ n. n ≤ 64) counted c.count_of-count.ensures.most
