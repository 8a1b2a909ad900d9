-- What a text may show of a job.
use Rattle.std.specs.Prelude.{◌≡◌, ◌≢◌, ℕ, ℤ, true, false, List, [], ◌∷◌, ◌++◌, Some, codes}
use Rattle.versions.specs.Map.{Map, IsMap, value_at}
use Rattle.keys.specs.Order.{bytes_cmp}
use Rattle.bulk_work.specs.Answers as plain
use Rattle.bulk_ops.specs.Queries.{answer_of}
use Rattle.bulk_ops.specs.declared.part.Part.{Part}
use Rattle.arguments.specs.Questions.{passes}
use Rattle.handles.specs.Machine.{finished}
use Rattle.script.specs.Replies.{text_of}
use Rattle.arguments.specs.declared.passing.Test.{Test}
use Rattle.script.specs.declared.reply.LineReply.TheVariants as replies
use Rattle.questions.specs.Folds.{Item}
use Rattle.questions.specs.Program.{ProgramAnswer}
use Rattle.questions.specs.Queries.{ScriptQuestion, IsLoose, answers}
use Rattle.journal_text.specs.Calls.{outcome_text}

-- each answer of the question for the map that has this text has the summary of the part's answer
abbrev pub IsOnlyInReply : ScriptQuestion → Map (List ℕ) ℤ → List ℕ → Part (List ℕ) ℤ Item → Type 0
IsOnlyInReply q m reply part = (a : ProgramAnswer) → answers q m a → reply ≡ outcome_text (finished (plain.summary a)) → plain.summary a ≡ plain.summary (answer_of part)

-- no byte is a space
abbrev pub IsSpaceless : List ℕ → Type 0
IsSpaceless [] = Unit {0}
IsSpaceless (b ∷ bs) = (b ≢ 32) × IsSpaceless bs

-- this is what stands before the last space
abbrev pub IsFront : List ℕ → List ℕ → Type 0
IsFront bytes front = (before behind : List ℕ) → IsSpaceless behind → bytes ≡ before ++ 32 ∷ behind → before ≡ front

-- there is no space
abbrev pub HasNoFront : List ℕ → Type 0
HasNoFront bytes = (before behind : List ℕ) → IsSpaceless behind → bytes ≡ before ++ 32 ∷ behind → ⊥

-- the text is that of no pair
abbrev pub TellsNoPair : List ℕ → Type 0
TellsNoPair reply = (key : List ℕ) (value : ℤ) → reply ≡ text_of (replies.Pair key value) → ⊥

-- the text is not `none`, and if it is that of a pair, the pair has this key
pub record IsKeyInReply (reply key : List ℕ) : Type 0 where
  pub other : reply ≢ codes "none"
  pub keyed : (k : List ℕ) (value : ℤ) → reply ≡ text_of (replies.Pair k value) → k ≡ key

-- the part is the pair of the key in the map, and it passes the test
pub record IsPairAt (test : Test) (m : Map (List ℕ) ℤ) (key : List ℕ) (part : Part (List ℕ) ℤ Item) : Type 0 where
  pub is_map : IsMap bytes_cmp m
  pub value : ℤ
  pub there : value_at bytes_cmp m key ≡ Some value
  pub passing : passes test key value ≡ true
  pub loose : IsLoose part
  pub found : answer_of part ≡ plain.Answer.found (Some (key, value))

-- the map has no pair of the key that passes the test
pub record NonePairAt (test : Test) (m : Map (List ℕ) ℤ) (key : List ℕ) : Type 0 where
  pub is_map : IsMap bytes_cmp m
  pub none : (value : ℤ) → value_at bytes_cmp m key ≡ Some value → passes test key value ≡ false
