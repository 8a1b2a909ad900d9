-- Room for the items of a list.
use Rattle.std.specs.Prelude.{◌≡◌, ◌≤◌, ℕ, [], vec_capacity}
use Rattle.many_writes.specs.declared.room.Room.{Room}

-- the lists are empty, with room for n items, and for m that are given back
pub record HasRoom {T B : Type 0} (n m : ℕ) (room : Room T B) : Type 0 where
  pub turns : (room.turns.items ≡ []) × (n ≤ vec_capacity room.turns)
  pub answers : (room.answers.items ≡ []) × (n ≤ vec_capacity room.answers)
  pub done : (room.done.items ≡ []) × (n ≤ vec_capacity room.done)
  pub rest : (room.rest.items ≡ []) × (m ≤ vec_capacity room.rest)
