use Rattle.std.proofs.Common.{◌≡◌, ◌++◌, ℕ, List, [], Option, Some, None, IfSome, take, option_map}
use Rattle.program_io.proofs.reading.read_script.Goals as goal

-- what is read behind nothing of the first bytes is these bytes
taken : {R : Type 0} (remaining : R → Option (List ℕ)) (reader inner : R) (most limit : ℕ) (bytes before : List ℕ) → limit ≡ most → inner ≡ reader → before ≡ [] → IfSome (option_map (take limit) (remaining inner)) (λ xs. bytes ≡ before ++ xs) → IfSome (remaining reader) (λ all. bytes ≡ take most all)
taken remaining reader inner most limit bytes before l i b h = known (remaining reader) (rw (l, i, b) at h)
  where
    known : (o : Option (List ℕ)) → IfSome (option_map (take most) o) (λ xs. bytes ≡ [] ++ xs) → IfSome o (λ all. bytes ≡ take most all)
    known None h = tt
    known (Some all) h = h

pub returns : goal.returns
returns g c = taken g.R.Read.remaining c.args.reader c.take.result.inner 16842753 c.take.result.limit c.read_to_end.new.buf.items c.new-bytes.result.items c.take.ensures.limit c.take.ensures.inner c.new-bytes.ensures.items c.in_ok-read_to_end.ensures.bytes
