use Rattle.std.proofs.Common.{◌≡◌, drop}
use Rattle.hash_path.specs.Fnv.{fnv1a, fnv1a_from}
use Rattle.hash_path.proofs.word.Path.fnv1a.Given as goal

-- the hash of the bytes that are left, from the hash so far, is that of all the bytes
abbrev pub invariant-loop-byte : goal.invariant-loop-byte
invariant-loop-byte l = fnv1a_from l.hash (drop l.byte-index l.bytes) ≡ fnv1a l.bytes
