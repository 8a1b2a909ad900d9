use Rattle.std.proofs.Common.{sym, ◌∙◌}
use Rattle.handles.specs.Machine.{nothing}
use Rattle.questions.specs.Program.{largest}
use Rattle.script_runs.proofs.OneRun.{one_text}
use Rattle.script_runs.proofs.OneClient.{one_client_run}
use Rattle.script_runs.proofs.laws.script_has_one_output.Goals as goal

pub returns : goal.returns
returns c = λ script one other (client, alone) findless (journal, answers) (diary, does).
    answers.written
    ∙ one_text c.law_of_freezes.ensures c.requests_have_one_outcome.ensures c.finishes_tell_one_answer.ensures script answers.answers does.answers (nothing largest) answers.end does.end findless answers.made does.made (one_client_run client script journal one answers alone) (one_client_run client script diary other does alone)
    ∙ sym does.written
