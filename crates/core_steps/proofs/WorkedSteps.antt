-- Worked runs of the core, computed.
use Rattle.std.proofs.Common.{◌≡◌, ℕ, ◌==◌, List, [], ◌∷◌, Option, None, Bool, true, false, length, refl, arith}
use Rattle.std.specs.Prelude.{nat_eq, IsTrue}
use Rattle.std.specs.List.{list_any}
use Rattle.std.specs.Ordering.{nat_cmp}
use Rattle.hash_path.specs.Digits.{position, fnv1a}
use Rattle.versions.specs.Map.{Map}
use Rattle.versions.specs.Commands.{put, size, old, count}
use Rattle.versions.specs.declared.refusal.Refusal.TheVariants.{NoJob, NoWorker}
use Rattle.handles.specs.Machine.{Kind, open_handle, on, freeze, finish, made, replied, frozen, finished, unfinished}
use Rattle.iter.specs.declared.interval.Interval.{Interval}
use Rattle.iter.specs.Intervals.{whole, Tile}
use Rattle.worker_states.proofs.Covers.{cut_tiles, cuts_tile}
use Rattle.worker_states.specs.Boards.{taking, stealing, splitting, working, took, cut, uncut, done, idle}
use Rattle.core_steps.specs.Cores.{CoreState, new_core, Asked, of_client, of_worker, CoreOutcome, to_client, to_worker, no_move, Division}
use Rattle.core_steps.specs.Traces.{CoreRun}

-- count all pairs, or tell whether some pair has a value
data Query : Type 0 where
  count_all : Query
  exists_value : ℕ → Query

data Answer : Type 0 where
  counted : ℕ → Answer
  truth : Bool → Answer

abbrev some_has : ℕ → Map ℕ ℕ → Bool
some_has v m = list_any (λ e. e.1 == v) m

abbrev answers : Query → Map ℕ ℕ → Answer → Type 0
answers count_all m a = a ≡ counted (length m)
answers (exists_value v) m a = a ≡ truth (some_has v m)

abbrev decides : Query → Map ℕ ℕ → Type 0
decides count_all m = ⊥
decides (exists_value v) m = IsTrue (some_has v m)

abbrev no_target : Query → Option ℕ
no_target q = None

abbrev no_map : Answer → Map ℕ ℕ
no_map a = []

abbrev itself : Answer → Answer
itself a = a

abbrev kind : Kind ℕ ℕ Query Answer Answer
kind = record { order = nat_cmp; equal = nat_eq; target = no_target; answers = answers; map_of = no_map; told = itself }

-- keys that are their own path words
abbrev own_word : ℕ → ℕ
own_word w = w

abbrev by_words : Division ℕ ℕ Query
by_words = record { path = own_word; Decides = decides }

-- keys of one byte
abbrev of_byte : ℕ → ℕ
of_byte b = fnv1a (b ∷ [])

abbrev by_bytes : Division ℕ ℕ Query
by_bytes = record { path = of_byte; Decides = decides }

-- from a new core with two workers and grain 1, the steps get the answers
abbrev IsWorkedRun : Division ℕ ℕ Query → List (Asked ℕ ℕ Query) → List (CoreOutcome ℕ ℕ Answer) → Type 0
IsWorkedRun division xs ys = (t : CoreState ℕ ℕ Query) × CoreRun kind division (new_core (record { pairs = 16777216; entries = 1048576 }) 2 1) xs ys t

-- the first steps of the runs: two pairs, a job on them, and a later pair
abbrev start : Query → List (Asked ℕ ℕ Query) → List (Asked ℕ ℕ Query)
start q xs =
    of_client (open_handle 1) ∷ of_client (on 1 (put 0 1)) ∷ of_client (on 1 (put 13835058055282163712 2)) ∷ of_client (freeze 1 q) ∷ of_client (on 1 (put 5 3))
    ∷ of_worker 0 (taking 0) ∷ of_worker 0 (splitting 0) ∷ xs

abbrev started : List (CoreOutcome ℕ ℕ Answer) → List (CoreOutcome ℕ ℕ Answer)
started ys =
    to_client made ∷ to_client (replied (old None)) ∷ to_client (replied (old None)) ∷ to_client (frozen 0 ((0, 1) ∷ (13835058055282163712, 2) ∷ [])) ∷ to_client (replied (old None))
    ∷ to_worker (took 0 18446744073709551616) ∷ to_worker (cut 0 12 18446744073709551616) ∷ ys

-- other answers of workers
other_answers : IsWorkedRun by_words
    (start count_all (of_worker 0 (taking 1) ∷ of_worker 0 (stealing 1 2) ∷ of_worker 0 (splitting 0) ∷ []))
    (started (to_worker idle ∷ no_move NoWorker ∷ to_worker uncut ∷ []))
unfolding position
other_answers = (
  _,
  (
    _,
    (_, (refl, refl), tt, refl),
    (
      _,
      (_, (refl, (refl, refl)), tt, refl),
      (
        _,
        (_, (refl, (refl, refl)), tt, refl),
        (
          _,
          (_, (refl, (refl, refl, refl)), tt, refl),
          (
            _,
            (_, (refl, (refl, refl)), tt, refl),
            (
              _,
              (refl, record { told = refl; left = refl; truly = tt }),
              (
                _,
                (refl, record { told = refl; left = refl; truly = tt }),
                (
                  _,
                  (refl, record { told = refl; left = refl; truly = tt }),
                  (
                    _,
                    (refl, refl),
                    (
                      _,
                      (refl, record { told = refl; left = refl; truly = tt }),
                      refl,
                    ),
                  ),
                ),
              ),
            ),
          ),
        ),
      ),
    ),
  ),
)

-- two pairs, two workers: the second steals the upper side; a finish before all is worked is refused
stolen_and_counted : IsWorkedRun by_words
    (start count_all (of_worker 0 (stealing 1 0) ∷ of_worker 0 (working 1) ∷ of_client (finish 0) ∷ of_worker 0 (working 0) ∷ of_client (finish 0) ∷ of_worker 0 (taking 0) ∷ of_client (on 1 size) ∷ []))
    (started (to_worker (took 12 18446744073709551616) ∷ to_worker (done 12 18446744073709551616 1 false) ∷ to_client unfinished ∷ to_worker (done 0 12 1 false) ∷ to_client (finished (counted 2)) ∷ no_move NoJob ∷ to_client (replied (count 3)) ∷ []))
unfolding position
stolen_and_counted = (
  _,
  (
    _,
    (_, (refl, refl), tt, refl),
    (
      _,
      (_, (refl, (refl, refl)), tt, refl),
      (
        _,
        (_, (refl, (refl, refl)), tt, refl),
        (
          _,
          (_, (refl, (refl, refl, refl)), tt, refl),
          (
            _,
            (_, (refl, (refl, refl)), tt, refl),
            (
              _,
              (refl, record { told = refl; left = refl; truly = tt }),
              (
                _,
                (refl, record { told = refl; left = refl; truly = tt }),
                (
                  _,
                  (refl, record { told = refl; left = refl; truly = tt }),
                  (
                    _,
                    (refl, record { told = refl; left = refl; truly = λ d. d }),
                    (
                      _,
                      (_, (refl, refl), record { untiled = λ tile. omega (arith, tile 0); unsettled = λ w lt d. d }, refl),
                      (
                        _,
                        (refl, record { told = refl; left = refl; truly = λ d. d }),
                        (
                          _,
                          (_, (refl, record { job = _; answer = counted 2; named = refl; is_answer = refl; told = refl; left = refl }), (λ u. u.untiled (cut_tiles whole 12 (omega arith) (omega arith))), refl),
                          (
                            _,
                            (refl, refl),
                            (
                              _,
                              (_, (refl, (refl, refl)), tt, refl),
                              refl,
                            ),
                          ),
                        ),
                      ),
                    ),
                  ),
                ),
              ),
            ),
          ),
        ),
      ),
    ),
  ),
)

-- a worker's part that decides the query is enough
settled_is_enough : IsWorkedRun by_words
    (start (exists_value 2) (of_worker 0 (stealing 1 0) ∷ of_worker 0 (working 1) ∷ of_client (finish 0) ∷ []))
    (started (to_worker (took 12 18446744073709551616) ∷ to_worker (done 12 18446744073709551616 1 true) ∷ to_client (finished (truth true)) ∷ []))
unfolding position
settled_is_enough = (
  _,
  (
    _,
    (_, (refl, refl), tt, refl),
    (
      _,
      (_, (refl, (refl, refl)), tt, refl),
      (
        _,
        (_, (refl, (refl, refl)), tt, refl),
        (
          _,
          (_, (refl, (refl, refl, refl)), tt, refl),
          (
            _,
            (_, (refl, (refl, refl)), tt, refl),
            (
              _,
              (refl, record { told = refl; left = refl; truly = tt }),
              (
                _,
                (refl, record { told = refl; left = refl; truly = tt }),
                (
                  _,
                  (refl, record { told = refl; left = refl; truly = tt }),
                  (
                    _,
                    (refl, record { told = refl; left = refl; truly = refl }),
                    (
                      _,
                      (_, (refl, record { job = _; answer = truth true; named = refl; is_answer = refl; told = refl; left = refl }), (λ u. u.unsettled 1 (omega arith) refl), refl),
                      refl,
                    ),
                  ),
                ),
              ),
            ),
          ),
        ),
      ),
    ),
  ),
)

abbrev between : ℕ → ℕ → Interval
between lo hi = record { lo = lo; hi = hi }

one_waits : Tile (between 0 6917529027641081856 ∷ []) whole → ⊥
one_waits tile = omega (arith, tile 18446744073709551615)

all_three : Tile (between 0 6917529027641081856 ∷ between 6917529027641081856 10376293541461622784 ∷ between 10376293541461622784 18446744073709551616 ∷ []) whole
all_three = cuts_tile whole 6917529027641081856 10376293541461622784 (omega arith) (omega arith) (omega arith)

-- three pairs, two workers
three_pieces : IsWorkedRun by_bytes
    (of_client (open_handle 1) ∷ of_client (on 1 (put 97 1)) ∷ of_client (on 1 (put 98 2)) ∷ of_client (on 1 (put 99 3)) ∷ of_client (freeze 1 count_all)
    ∷ of_worker 0 (taking 0) ∷ of_worker 0 (splitting 0) ∷ of_worker 0 (splitting 0) ∷ of_worker 0 (working 0) ∷ of_worker 0 (taking 0) ∷ of_worker 0 (splitting 0) ∷ of_worker 0 (stealing 1 0)
    ∷ of_client (finish 0) ∷ of_worker 0 (working 1) ∷ of_worker 0 (working 0) ∷ of_client (finish 0) ∷ [])
    (to_client made ∷ to_client (replied (old None)) ∷ to_client (replied (old None)) ∷ to_client (replied (old None)) ∷ to_client (frozen 0 ((97, 1) ∷ (98, 2) ∷ (99, 3) ∷ []))
    ∷ to_worker (took 0 18446744073709551616) ∷ to_worker (cut 0 6917529027641081856 18446744073709551616) ∷ to_worker uncut ∷ to_worker (done 0 6917529027641081856 1 false) ∷ to_worker (took 6917529027641081856 18446744073709551616) ∷ to_worker (cut 6917529027641081856 10376293541461622784 18446744073709551616) ∷ to_worker (took 10376293541461622784 18446744073709551616)
    ∷ to_client unfinished ∷ to_worker (done 10376293541461622784 18446744073709551616 1 false) ∷ to_worker (done 6917529027641081856 10376293541461622784 1 false) ∷ to_client (finished (counted 3)) ∷ [])
unfolding position
three_pieces = (
  _,
  (
    _,
    (_, (refl, refl), tt, refl),
    (
      _,
      (_, (refl, (refl, refl)), tt, refl),
      (
        _,
        (_, (refl, (refl, refl)), tt, refl),
        (
          _,
          (_, (refl, (refl, refl)), tt, refl),
          (
            _,
            (_, (refl, (refl, refl, refl)), tt, refl),
            (
              _,
              (refl, record { told = refl; left = refl; truly = tt }),
              (
                _,
                (refl, record { told = refl; left = refl; truly = tt }),
                (
                  _,
                  (refl, record { told = refl; left = refl; truly = tt }),
                  (
                    _,
                    (refl, record { told = refl; left = refl; truly = λ d. d }),
                    (
                      _,
                      (refl, record { told = refl; left = refl; truly = tt }),
                      (
                        _,
                        (refl, record { told = refl; left = refl; truly = tt }),
                        (
                          _,
                          (refl, record { told = refl; left = refl; truly = tt }),
                          (
                            _,
                            (_, (refl, refl), record { untiled = one_waits; unsettled = λ w lt d. d }, refl),
                            (
                              _,
                              (refl, record { told = refl; left = refl; truly = λ d. d }),
                              (
                                _,
                                (refl, record { told = refl; left = refl; truly = λ d. d }),
                                (
                                  _,
                                  (_, (refl, record { job = _; answer = counted 3; named = refl; is_answer = refl; told = refl; left = refl }), (λ u. u.untiled all_three), refl),
                                  refl,
                                ),
                              ),
                            ),
                          ),
                        ),
                      ),
                    ),
                  ),
                ),
              ),
            ),
          ),
        ),
      ),
    ),
  ),
)
