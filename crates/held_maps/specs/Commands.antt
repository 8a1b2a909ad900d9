-- Commands on one map and their replies, wherever keys and values lie.
use Rattle.std.specs.Prelude.{◌≡◌, ℕ, ⊤, Bool, Some, None, option_map, Result, Err, true, false}
use Rattle.std.specs.Arc.{arc_value}
use Rattle.versions.specs.Commands as commands
use Rattle.versions.specs.declared.refusal.Refusal.{Refusal}
use Rattle.versions.specs.declared.refusal.Refusal.TheVariants.{NoMemory}
use Rattle.held_maps.specs.declared.command.Command.{Command}
use Rattle.held_maps.specs.declared.command.Command.TheVariants.{Get, Put, PutIfAbsent, Replace, ReplaceIf, Remove, RemoveIf, Size, Clear}
use Rattle.held_maps.specs.declared.reply.Reply.{Reply}
use Rattle.held_maps.specs.declared.reply.Reply.TheVariants as replies

-- a command, wherever its key and values lie
abbrev pub command_of : {K V : Type 0} → Command K V → commands.Command K V
command_of (Get k) = commands.get (arc_value k)
command_of (Put k v) = commands.put (arc_value k) (arc_value v)
command_of (PutIfAbsent k v) = commands.put_if_absent (arc_value k) (arc_value v)
command_of (Replace k v) = commands.replace (arc_value k) (arc_value v)
command_of (ReplaceIf k was v) = commands.replace_if (arc_value k) (arc_value was) (arc_value v)
command_of (Remove k) = commands.remove (arc_value k)
command_of (RemoveIf k v) = commands.remove_if (arc_value k) (arc_value v)
command_of Size = commands.size
command_of Clear = commands.clear

-- the word is the path word of the key that a command names; where it names none, any word is
abbrev pub IsPathFor : {K V : Type 0} → (K → ℕ) → commands.Command K V → ℕ → Type 0
IsPathFor path_of (commands.get k) w = w ≡ path_of k
IsPathFor path_of (commands.put k v) w = w ≡ path_of k
IsPathFor path_of (commands.put_if_absent k v) w = w ≡ path_of k
IsPathFor path_of (commands.replace k v) w = w ≡ path_of k
IsPathFor path_of (commands.replace_if k was v) w = w ≡ path_of k
IsPathFor path_of (commands.remove k) w = w ≡ path_of k
IsPathFor path_of (commands.remove_if k v) w = w ≡ path_of k
IsPathFor path_of commands.size w = ⊤
IsPathFor path_of commands.clear w = ⊤

-- a reply, wherever its value lies
abbrev pub reply_of : {V : Type 0} → Reply V → commands.Reply V
reply_of (replies.Old o) = commands.old (option_map arc_value o)
reply_of (replies.Done b) = commands.done b
reply_of (replies.Size n) = commands.count n
reply_of replies.Cleared = commands.cleared

-- whether a command that is answered so leaves every map: it reads alone, its condition did not hold, or the key that it was to remove was absent
abbrev pub leaves_map : {K V : Type 0} → commands.Command K V → commands.Reply V → Bool
leaves_map (commands.get k) y = true
leaves_map commands.size y = true
leaves_map (commands.put_if_absent k v) (commands.old (Some w)) = true
leaves_map (commands.replace k v) (commands.old None) = true
leaves_map (commands.remove k) (commands.old None) = true
leaves_map (commands.replace_if k was v) (commands.done false) = true
leaves_map (commands.remove_if k v) (commands.done false) = true
leaves_map c y = false

-- whether a call failed because memory ran out
abbrev pub lacks_memory : {T : Type 0} → Result T Refusal → Bool
lacks_memory (Err NoMemory) = true
lacks_memory _ = false
