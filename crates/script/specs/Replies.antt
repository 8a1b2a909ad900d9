-- The text of replies.
use Rattle.std.specs.Prelude.{ℕ, ℤ, List, [], ◌∷◌, ◌++◌, codes, flat_map, true, false}
use Rattle.std.specs.Fmt.{decimal, signed_decimal}
use Rattle.versions.specs.declared.refusal.Refusal.{Refusal}
use Rattle.versions.specs.declared.refusal.Refusal.TheVariants as refusals
use Rattle.script.specs.declared.reply.LineReply.{LineReply}
use Rattle.script.specs.declared.reply.LineReply.TheVariants as replies

-- the name of a refusal
abbrev pub refusal_name : Refusal → List ℕ
refusal_name refusals.NoHandle = codes "NoHandle"
refusal_name refusals.Taken = codes "Taken"
refusal_name refusals.Full = codes "Full"
refusal_name refusals.NoJob = codes "NoJob"
refusal_name refusals.Unfinished = codes "Unfinished"
refusal_name refusals.NoWorker = codes "NoWorker"
refusal_name refusals.TooManyJobs = codes "TooManyJobs"
refusal_name refusals.JournalFull = codes "JournalFull"
refusal_name refusals.NoMemory = codes "NoMemory"
refusal_name refusals.BadNumber = codes "BadNumber"

-- how a pair of a listing is written: a space, its key, an equals sign and its value
abbrev pub pair_text : List ℕ × ℤ → List ℕ
pair_text pair = 32 ∷ pair.0 ++ 61 ∷ signed_decimal pair.1

-- how a reply is written
abbrev pub text_of : LineReply → List ℕ
text_of replies.Done = codes "ok"
text_of replies.Absent = codes "none"
text_of (replies.Found value) = codes "some " ++ signed_decimal value
text_of (replies.Truth true) = codes "true"
text_of (replies.Truth false) = codes "false"
text_of (replies.Count number) = codes "count " ++ decimal number
text_of (replies.Pair key value) = codes "pair " ++ key ++ 32 ∷ signed_decimal value
text_of (replies.Pairs pairs) = codes "pairs" ++ flat_map pair_text pairs
text_of (replies.Item number) = codes "item " ++ signed_decimal number
text_of (replies.Refused refusal) = codes "refused " ++ refusal_name refusal

-- the line's number, a space, its reply and a newline
abbrev pub line_text : ℕ → LineReply → List ℕ
line_text number reply = decimal number ++ (32 ∷ text_of reply) ++ (10 ∷ [])
