use Rattle.std.proofs.Common.{rules, ◌≡◌, ◌++◌, ◌∷◌, [], List, false, true, subst, sym, ap, ◌∙◌}
use Rattle.std.specs.Prelude.{Result, Ok, Err, OnErr}
use Rattle.versions.specs.declared.refusal.Refusal.{Refusal}
use Rattle.handles.specs.declared.call_reply.CallReply.{CallReply}
use Rattle.handles.specs.Machine.{Run}
use Rattle.handles.specs.Views.{request_of, requests_of, outcomes_of, lacks_memory, machine}
use Rattle.handles.proofs.Runs.{run_more, unchanged}
use Rattle.std.proofs.lemmas.List.{append_assoc, map-append}
use Rattle.handles.proofs.table.Table.run.Goals as goal

pub loop-call-preserved : goal.loop-call-preserved
loop-call-preserved g c =
    let kind = machine g.K.Ord.cmp g.V.PartialEq.eq g.Q.Asks.target_of g.Q.Asks.answered in
    let answer = c.serve-answer.result in
    let longer : c.push_reserved.new.self.items ≡ c.loop-call.answers.items ++ answer ∷ [] = search rules in
    let made : lacks_memory answer ≡ false = search rules in
    let more = run_more kind c.args.self.now c.loop-call.self c.serve-answer.new.self c.loop-call.yielded c.loop-call.answers.items c.in-Some.call answer c.loop-call.invariant.run made c.serve-answer.ensures.step in
    let rest : c.loop-call.call-iterator.rest.items ≡ c.in-Some.call ∷ c.next.new.self.rest.items = search rules in
    let split = c.loop-call.invariant.split ∙ ap (λ later. c.loop-call.yielded ++ later) rest ∙ sym (append_assoc c.loop-call.yielded (c.in-Some.call ∷ []) c.next.new.self.rest.items) in
    record {
      run = subst (λ (told : List (Result (CallReply g.row.V.Denot) Refusal)). Run kind c.args.self.now (requests_of (c.loop-call.yielded ++ c.in-Some.call ∷ [])) (outcomes_of told) c.serve-answer.new.self) (sym longer) more;
      split = split;
    }

on_err_of : {T E : Type 0} (P : Type 0) → P → (r : Result T E) → OnErr r P
on_err_of P p (Ok x) = tt
on_err_of P p (Err e) = p

pub returns-in_err-reserve-clause-err : goal.returns-in_err-reserve-clause-err
returns-in_err-reserve-clause-err g c =
    let split = c.loop-call.invariant.split in
    on_err_of _ (record {
      done = requests_of c.loop-call.yielded;
      left = requests_of c.loop-call.call-iterator.rest.items;
      outcomes = outcomes_of c.loop-call.answers.items;
      all = ap requests_of split ∙ map-append request_of c.loop-call.yielded c.loop-call.call-iterator.rest.items;
      run = c.loop-call.invariant.run;
    }) c.from_residual.result

pub returns-then-lacks_memory-clause-err : goal.returns-then-lacks_memory-clause-err
returns-then-lacks_memory-clause-err g c =
    let kind = machine g.K.Ord.cmp g.V.PartialEq.eq g.Q.Asks.target_of g.Q.Asks.answered in
    let split = c.loop-call.invariant.split in
    let lacking : lacks_memory c.serve-answer.result ≡ true = search rules in
    let same = unchanged kind c.loop-call.self (request_of c.in-Some.call) c.serve-answer.result c.serve-answer.new.self lacking c.serve-answer.ensures.step in
    record {
      done = requests_of c.loop-call.yielded;
      left = requests_of c.loop-call.call-iterator.rest.items;
      outcomes = outcomes_of c.loop-call.answers.items;
      all = ap requests_of split ∙ map-append request_of c.loop-call.yielded c.loop-call.call-iterator.rest.items;
      run = subst (λ t. Run kind c.args.self.now (requests_of c.loop-call.yielded) (outcomes_of c.loop-call.answers.items) t) (sym same) c.loop-call.invariant.run;
    }
