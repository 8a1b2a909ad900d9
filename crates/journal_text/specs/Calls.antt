-- How what is asked, and what is answered, are written.
use Rattle.std.specs.Prelude.{ℕ, ◌<◌, ◌^◌, ◌++◌, List, [], ◌∷◌, Option, Some, None, codes}
use Rattle.std.specs.List.{join_with_byte}
use Rattle.std.specs.Fmt.{decimal}
use Rattle.handles.specs.Machine.{open_handle, snapshot, drop_handle, on, view, freeze, finish, abandon, worker_step, finished, frozen}
use Rattle.bulk_work.specs.Answers as plain
use Rattle.script.specs.declared.reply.LineReply.{LineReply}
use Rattle.script.specs.declared.reply.LineReply.TheVariants as replies
use Rattle.script.specs.declared.statement.Statement.TheVariants.{Open, Snap, Drop}
use Rattle.script.specs.Statements.{words_of, IsLawful}
use Rattle.script.specs.Replies.{text_of}
use Rattle.questions.specs.Program.{ProgramRequest, ProgramOutcome, command_statement, question_statement, reply_to}

-- the words of what is asked: those of a script's statement, behind `freeze` where a job is opened; or `view`, `finish` or `abandon` and a number
abbrev pub call_words : ProgramRequest → List (List ℕ)
call_words (open_handle h) = words_of (Open h)
call_words (snapshot h to) = words_of (Snap h to)
call_words (drop_handle h) = words_of (Drop h)
call_words (on h c) = words_of (command_statement h c)
call_words (view h) = codes "view" ∷ decimal h ∷ []
call_words (freeze h q) = codes "freeze" ∷ words_of (question_statement h q)
call_words (finish j) = codes "finish" ∷ decimal j ∷ []
call_words (abandon j) = codes "abandon" ∷ decimal j ∷ []
call_words worker_step = []

-- the text of what is asked: its words, with one space between
abbrev pub call_text : ProgramRequest → List ℕ
call_text r = join_with_byte 32 (call_words r)

-- the parts of what is asked are in their ranges: those of a statement in its own, and handles and the numbers of jobs, of which no journal has as many, in that of u32
abbrev pub IsLawfulRequest : ProgramRequest → Type 0
IsLawfulRequest (open_handle h) = IsLawful (Open h)
IsLawfulRequest (snapshot h to) = IsLawful (Snap h to)
IsLawfulRequest (drop_handle h) = IsLawful (Drop h)
IsLawfulRequest (on h c) = IsLawful (command_statement h c)
IsLawfulRequest (view h) = h < 2 ^ 32
IsLawfulRequest (freeze h q) = IsLawful (question_statement h q)
IsLawfulRequest (finish j) = j < 2 ^ 32
IsLawfulRequest (abandon j) = j < 2 ^ 32
IsLawfulRequest worker_step = ⊥

-- the text of a reply, if there is one
abbrev pub reply_text : Option LineReply → List ℕ
reply_text None = []
reply_text (Some reply) = text_of reply

-- the text of what is answered: of a job that was opened its number, of one that made a map of images that map, and else that of a script's reply
abbrev pub outcome_text : ProgramOutcome → List ℕ
outcome_text (frozen j m) = codes "job " ++ decimal j
outcome_text (finished (plain.Summary.images m)) = text_of (replies.Pairs m)
outcome_text o = reply_text (reply_to o)
