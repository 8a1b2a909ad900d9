-- The machine of a program of scripts, and the replies that show its outcomes.
use Rattle.std.specs.Prelude.{◌≡◌, refl, ℕ, ℤ, Bool, true, false, List, length, Option, Some, None}
use Rattle.std.specs.Ordering.{int_eq}
use Rattle.versions.specs.Commands.{Command, get, put, put_if_absent, replace, replace_if, remove, remove_if, size, clear, old, done, cleared}
use Rattle.versions.specs.Commands as commands
use Rattle.versions.specs.declared.version.TheConstants.{MOST_PAIRS}
use Rattle.handles.specs.declared.limits.Limits.{Limits}
use Rattle.handles.specs.declared.limits.TheConstants.{MOST_ENTRIES}
use Rattle.handles.specs.Machine.{Kind, State, Request, open_handle, snapshot, drop_handle, on, view, freeze, Outcome, made, replied, viewed, finished, refused}
use Rattle.handles.specs.Views.{machine}
use Rattle.bulk_work.specs.Answers as plain
use Rattle.keys.specs.Order.{bytes_cmp}
use Rattle.script.specs.declared.statement.Statement.{Statement}
use Rattle.script.specs.declared.statement.Statement.TheVariants.{Open, Snap, Drop, Get, Put, PutIfAbsent, Replace, ReplaceIf, Remove, RemoveIf, GetOrElse, Size, Clear, Pairs, Count, Exists, ForAll, Find, Filter, MapValues, MapPairs, Fold}
use Rattle.script.specs.declared.reply.LineReply.{LineReply}
use Rattle.script.specs.declared.reply.LineReply.TheVariants as replies
use Rattle.questions.specs.Folds.{Item}
use Rattle.questions.specs.Queries.{ScriptQuestion, count, exists, for_all, find, filtered, mapped, paired, fold, answers, target_of}

-- what a question is answered
abbrev pub ProgramAnswer : Type 0
ProgramAnswer = plain.Answer (List ℕ) ℤ Item

-- what is returned of that
abbrev pub ProgramSummary : Type 0
ProgramSummary = plain.Summary (List ℕ) ℤ Item

-- the machine of the program: its keys are in the order of their bytes, its values are numbers, and a question has its answers
abbrev pub program : Kind (List ℕ) ℤ ScriptQuestion ProgramAnswer ProgramSummary
program = machine bytes_cmp int_eq target_of answers

-- a state of that machine
abbrev pub ProgramState : Type 0
ProgramState = State (List ℕ) ℤ ScriptQuestion

-- what that machine is asked
abbrev pub ProgramRequest : Type 0
ProgramRequest = Request (List ℕ) ℤ ScriptQuestion

-- what it is answered
abbrev pub ProgramOutcome : Type 0
ProgramOutcome = Outcome (List ℕ) ℤ ProgramSummary

-- how much the maps and the journal of a program may hold
abbrev pub largest : Limits
largest = record { pairs = MOST_PAIRS; entries = MOST_ENTRIES }

-- the reply that shows an answer: of a map that was made, its number of pairs
abbrev pub summary_reply : ProgramSummary → LineReply
summary_reply (plain.Summary.number n) = replies.Count n
summary_reply (plain.Summary.truth b) = replies.Truth b
summary_reply (plain.Summary.found None) = replies.Absent
summary_reply (plain.Summary.found (Some pair)) = replies.Pair pair.0 pair.1
summary_reply (plain.Summary.made pairs) = replies.Count pairs
summary_reply (plain.Summary.images m) = replies.Count (length m)
summary_reply (plain.Summary.item None) = replies.Absent
summary_reply (plain.Summary.item (Some n)) = replies.Item n

-- the reply that shows the outcome of a request
abbrev pub reply_to : ProgramOutcome → Option LineReply
reply_to made = Some replies.Done
reply_to (replied (old None)) = Some replies.Absent
reply_to (replied (old (Some value))) = Some (replies.Found value)
reply_to (replied (done b)) = Some (replies.Truth b)
reply_to (replied (commands.count number)) = Some (replies.Count number)
reply_to (replied cleared) = Some replies.Done
reply_to (viewed pairs) = Some (replies.Pairs pairs)
reply_to (finished told) = Some (summary_reply told)
reply_to (refused refusal) = Some (replies.Refused refusal)
reply_to _ = None

-- the request of a statement; of `getorelse`, which may make two, and of a bulk verb, which makes a freeze and a finish, the first
abbrev pub request_for : Statement → ProgramRequest
request_for (Open handle) = open_handle handle
request_for (Snap handle target) = snapshot handle target
request_for (Drop handle) = drop_handle handle
request_for (Get handle key) = on handle (get key)
request_for (Put handle key value) = on handle (put key value)
request_for (PutIfAbsent handle key value) = on handle (put_if_absent key value)
request_for (Replace handle key value) = on handle (replace key value)
request_for (ReplaceIf handle key was value) = on handle (replace_if key was value)
request_for (Remove handle key) = on handle (remove key)
request_for (RemoveIf handle key value) = on handle (remove_if key value)
request_for (GetOrElse handle key value) = on handle (get key)
request_for (Size handle) = on handle size
request_for (Clear handle) = on handle clear
request_for (Pairs handle) = view handle
request_for (Count handle test) = freeze handle (count test)
request_for (Exists handle test) = freeze handle (exists test)
request_for (ForAll handle test) = freeze handle (for_all test)
request_for (Find handle test) = freeze handle (find test)
request_for (Filter handle test target) = freeze handle (filtered test target)
request_for (MapValues handle mapping target) = freeze handle (mapped mapping target)
request_for (MapPairs handle mapping target) = freeze handle (paired mapping target)
request_for (Fold handle folding) = freeze handle (fold folding)

-- the statement of a script that makes the command
abbrev pub command_statement : ℕ → Command (List ℕ) ℤ → Statement
command_statement h (get k) = Get h k
command_statement h (put k v) = Put h k v
command_statement h (put_if_absent k v) = PutIfAbsent h k v
command_statement h (replace k v) = Replace h k v
command_statement h (replace_if k was v) = ReplaceIf h k was v
command_statement h (remove k) = Remove h k
command_statement h (remove_if k v) = RemoveIf h k v
command_statement h size = Size h
command_statement h clear = Clear h

-- its request is the command
pub request_of_command : (h : ℕ) (c : Command (List ℕ) ℤ) → request_for (command_statement h c) ≡ on h c
request_of_command h (get k) = refl
request_of_command h (put k v) = refl
request_of_command h (put_if_absent k v) = refl
request_of_command h (replace k v) = refl
request_of_command h (replace_if k was v) = refl
request_of_command h (remove k) = refl
request_of_command h (remove_if k v) = refl
request_of_command h size = refl
request_of_command h clear = refl

-- the statement of a script that asks the question
abbrev pub question_statement : ℕ → ScriptQuestion → Statement
question_statement h (count test) = Count h test
question_statement h (exists test) = Exists h test
question_statement h (for_all test) = ForAll h test
question_statement h (find test) = Find h test
question_statement h (filtered test to) = Filter h test to
question_statement h (mapped mapping to) = MapValues h mapping to
question_statement h (paired mapping to) = MapPairs h mapping to
question_statement h (fold folding) = Fold h folding

-- its request is a freeze with the question
pub request_of_question : (h : ℕ) (q : ScriptQuestion) → request_for (question_statement h q) ≡ freeze h q
request_of_question h (count test) = refl
request_of_question h (exists test) = refl
request_of_question h (for_all test) = refl
request_of_question h (find test) = refl
request_of_question h (filtered test to) = refl
request_of_question h (mapped mapping to) = refl
request_of_question h (paired mapping to) = refl
request_of_question h (fold folding) = refl

-- the handle, the key and the value of a getorelse
abbrev pub or_else_in : Statement → Option (ℕ × List ℕ × ℤ)
or_else_in (GetOrElse handle key value) = Some (handle, key, value)
or_else_in statement = None

-- whether the question asks for some pair, of which there may be several
abbrev pub asks_pair : ScriptQuestion → Bool
asks_pair (find test) = true
asks_pair q = false

-- whether the question asks for the map of images, of which there may be several
abbrev pub asks_images : ScriptQuestion → Bool
asks_images (paired mapping to) = true
asks_images q = false

-- whether the question may have several answers
abbrev pub asks_choice : ScriptQuestion → Bool
asks_choice (find test) = true
asks_choice (paired mapping to) = true
asks_choice q = false
