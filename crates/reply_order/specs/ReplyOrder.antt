-- Replies in the order of their lines, from those of each client.
use Rattle.std.specs.Prelude.{◌≡◌, ◌<◌, ◌==◌, ℕ, Bool, All, List, [], ◌∷◌, ◌++◌, cond, filter, length, set, slice_index_or}
use Rattle.script.specs.Replies.{line_text}
use Rattle.script.specs.declared.statement.CommandLine.{CommandLine}
use Rattle.script.specs.declared.reply.LineReply.{LineReply}

-- the replies, each behind its line's number
abbrev pub text_for : List CommandLine → List LineReply → List ℕ
text_for (line ∷ lines) (reply ∷ replies) = line_text line.number reply ++ text_for lines replies
text_for _ _ = []

-- whether the line is the client's
abbrev pub is_line_of : ℕ → CommandLine → Bool
is_line_of client line = line.client == client

-- the lines of the client, in order
abbrev pub lines_by : ℕ → List CommandLine → List CommandLine
lines_by client lines = filter (is_line_of client) lines

-- of what stands beside lines, in order, that beside the lines of the client
abbrev pub beside : {A : Type 0} → ℕ → List CommandLine → List A → List A
beside client (line ∷ lines) (x ∷ xs) = cond (line.client == client) (x ∷ beside client lines xs) (beside client lines xs)
beside client _ _ = []

-- there are as many replies for each of these clients as it has lines, and no line is another's
pub record AreRepliesTo (lines : List CommandLine) (clients : List (List LineReply)) : Type 0 where
  pub known : All (λ line. line.client < length clients) lines
  pub counts : (client : ℕ) → client < length clients → length (slice_index_or clients client []) ≡ length (lines_by client lines)

-- the text has a reply for each line, and those of each of these clients are its own, in order
pub record AreMerged (lines : List CommandLine) (clients : List (List LineReply)) (text : List ℕ) : Type 0 where
  pub replies : List LineReply
  pub count : length replies ≡ length lines
  pub each : (client : ℕ) → client < length clients → beside client lines replies ≡ slice_index_or clients client []
  pub written : text ≡ text_for lines replies

-- the first of what is left of the client's, and what is left then of each client's
abbrev pub IsNext : List (List LineReply) → ℕ → LineReply → List (List LineReply) → Type 0
IsNext old client reply new = (rest : List LineReply) × (slice_index_or old client [] ≡ reply ∷ rest) × (new ≡ set old client rest)
