-- A put of one seat and a get of another, between which the two meet.
use Rattle.std.specs.Prelude.{◌≡◌, ◌<◌, ℕ, List, length, slice_index_or}
use Rattle.std.specs.List.{Contains}
use Rattle.tambyulo_clients.specs.Commands.{get, put}
use Rattle.tambyulo_clients.specs.Machine.{Outcome, Request, on}
use Rattle.tambyulo_clients.specs.Journals.{Entered, own}
use Rattle.tambyulo_clients.specs.Seats.{Seated, pairs}

module _ {K V Q B : Type 0} where
  -- an entry of the seat of the number
  abbrev pub entry_of : ℕ → Request K V Q → Outcome K V B → Entered K V Q B
  entry_of seat request outcome = record { seat = seat; request = request; outcome = outcome }

  -- the first seat, which is seat 0, has filed a put, and the second, seat 1, a get with a floor behind that put
  pub record PutThenGot (key : K) (value : V) (first second : Seated K V Q B) : Type 0 where
    pub place : ℕ
    pub later : ℕ
    pub floor : ℕ
    pub stored : Outcome K V B
    pub told : Outcome K V B
    pub is_put : Contains (pairs first.list) (place, entry_of 0 (on 1 (put key value)) stored)
    pub is_got : Contains second.list (record { place = later; floor = floor; entry = entry_of 1 (on 1 (get key)) told })
    pub behind : place < floor

  -- these are two such seats
  abbrev pub AreMet : K → V → List (Seated K V Q B) → Type 0
  AreMet key value seats = (length seats ≡ 2) × ((s : Seated K V Q B) → PutThenGot key value (slice_index_or seats 0 s) (slice_index_or seats 1 s))

  -- the journal has seat 0's put, and behind it seat 1's get
  pub record PutBeforeGet (key : K) (value : V) (journal : List (Entered K V Q B)) : Type 0 where
    pub place : ℕ
    pub later : ℕ
    pub stored : Outcome K V B
    pub told : Outcome K V B
    pub is_put : Contains (own 0 0 journal) (place, entry_of 0 (on 1 (put key value)) stored)
    pub is_got : Contains (own 1 0 journal) (later, entry_of 1 (on 1 (get key)) told)
    pub order : place < later
