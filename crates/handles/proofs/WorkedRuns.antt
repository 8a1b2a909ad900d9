-- Worked runs of the machine, computed.
use Rattle.std.proofs.Common.{◌≡◌, ℕ, ◌+◌, ◌%◌, ◌==◌, filter, List, [], ◌∷◌, Option, Some, None, Bool, true, false, length, refl, zero, suc}
use Rattle.std.specs.Prelude.{nat_eq}
use Rattle.std.specs.Ordering.{nat_cmp}
use Rattle.versions.specs.Map.{Map}
use Rattle.versions.specs.Commands.{get, put, put_if_absent, replace, replace_if, remove, remove_if, size, clear, old, done, count, cleared}
use Rattle.versions.specs.declared.refusal.Refusal.TheVariants.{NoHandle, Taken, Full, NoJob, TooManyJobs, JournalFull, BadNumber}
use Rattle.handles.specs.Machine.{State, Job, Kind, Request, open_handle, snapshot, drop_handle, on, view, freeze, finish, abandon, worker_step, Outcome, made, replied, viewed, frozen, finished, unfinished, worked, refused, Run, nothing}

-- a query is the number that it reserves, if any
abbrev reserved : Option ℕ → Option ℕ
reserved q = q

-- an answer is the number of pairs
abbrev counts : Option ℕ → Map ℕ ℕ → ℕ → Type 0
counts q m a = a ≡ length m

-- a count makes no map
abbrev no_map : ℕ → Map ℕ ℕ
no_map a = []

-- a count is returned
abbrev itself : ℕ → ℕ
itself a = a

-- maps of numbers, and queries that count the pairs
abbrev counting : Kind ℕ ℕ (Option ℕ) ℕ ℕ
counting = record { order = nat_cmp; equal = nat_eq; target = reserved; answers = counts; map_of = no_map; told = itself }

-- whether the value is even
abbrev is_even : ℕ × ℕ → Bool
is_even e = e.1 % 2 == 0

-- an answer is the map of the even values
abbrev filters : Option ℕ → Map ℕ ℕ → Map ℕ ℕ → Type 0
filters q m a = a ≡ filter is_even m

-- the map that is made is the answer
abbrev map_itself : Map ℕ ℕ → Map ℕ ℕ
map_itself a = a

-- the number of its pairs is returned
abbrev its_length : Map ℕ ℕ → ℕ
its_length a = length a

-- maps of numbers, and queries that make the map of the even values
abbrev filtering : Kind ℕ ℕ (Option ℕ) (Map ℕ ℕ) ℕ
filtering = record { order = nat_cmp; equal = nat_eq; target = reserved; answers = filters; map_of = map_itself; told = its_length }

-- from no handles, jobs and entries, the requests get the outcomes, with limits on the pairs and on the entries
abbrev IsRunFromNothing : {A : Type 0} → Kind ℕ ℕ (Option ℕ) A ℕ → ℕ → ℕ → List (Request ℕ ℕ (Option ℕ)) → List (Outcome ℕ ℕ ℕ) → Type 0
IsRunFromNothing kind p e rs os = (t : State ℕ ℕ (Option ℕ)) × Run kind (nothing (record { pairs = p; entries = e })) rs os t

-- a put answers the value before
a_put_answers_the_value_before : IsRunFromNothing counting 16777216 1048576
    (open_handle 1 ∷ on 1 (put 97 5) ∷ on 1 (put 97 7) ∷ on 1 (get 97) ∷ [])
    (made ∷ replied (old None) ∷ replied (old (Some 5)) ∷ replied (old (Some 7)) ∷ [])
a_put_answers_the_value_before = (_, (_, (refl, refl), (_, (refl, (refl, refl)), (_, (refl, (refl, refl)), (_, (refl, (refl, refl)), refl)))))

-- a later write shows in no snapshot, nor in a snapshot of one
a_snapshot_keeps_its_pairs : IsRunFromNothing counting 16777216 1048576
    (open_handle 1 ∷ on 1 (put 97 1) ∷ snapshot 1 2 ∷ on 1 (put 97 9) ∷ on 2 (get 97) ∷ snapshot 2 3 ∷ on 2 (remove 97) ∷ on 3 (get 97) ∷ on 2 (get 97) ∷ view 3 ∷ [])
    (made ∷ replied (old None) ∷ made ∷ replied (old (Some 1)) ∷ replied (old (Some 1)) ∷ made ∷ replied (old (Some 1)) ∷ replied (old (Some 1)) ∷ replied (old None) ∷ viewed ((97, 1) ∷ []) ∷ [])
a_snapshot_keeps_its_pairs = (_, (_, (refl, refl), (_, (refl, (refl, refl)), (_, (refl, refl), (_, (refl, (refl, refl)), (_, (refl, (refl, refl)), (_, (refl, refl), (_, (refl, (refl, refl)), (_, (refl, (refl, refl)), (_, (refl, (refl, refl)), (_, (refl, (refl, refl)), refl)))))))))))

-- a handle has to be live to be read, and not to be opened, and its number is at most 1023
handles_that_are_refused : IsRunFromNothing counting 16777216 1048576
    (on 7 (get 97) ∷ open_handle 1024 ∷ open_handle 1023 ∷ open_handle 1 ∷ open_handle 1 ∷ snapshot 7 1 ∷ snapshot 7 1024 ∷ drop_handle 1 ∷ drop_handle 1 ∷ open_handle 1 ∷ [])
    (refused NoHandle ∷ refused BadNumber ∷ made ∷ made ∷ refused Taken ∷ refused NoHandle ∷ refused BadNumber ∷ made ∷ refused NoHandle ∷ made ∷ [])
handles_that_are_refused = (_, (_, (refl, refl), (_, (refl, refl), (_, (refl, refl), (_, (refl, refl), (_, (refl, refl), (_, (refl, refl), (_, (refl, refl), (_, (refl, refl), (_, (refl, refl), (_, (refl, refl), refl)))))))))))

-- the commands that look at the value before
a_condition_on_the_value : IsRunFromNothing counting 16777216 1048576
    (open_handle 1 ∷ on 1 (put 97 5) ∷ on 1 (put_if_absent 97 6) ∷ on 1 (replace_if 97 6 8) ∷ on 1 (replace_if 97 5 8) ∷ on 1 (remove_if 97 5) ∷ on 1 (remove_if 97 8) ∷ on 1 (replace 97 1) ∷ on 1 (get 97) ∷ on 1 (put_if_absent 97 4) ∷ on 1 (get 97) ∷ on 1 clear ∷ on 1 size ∷ [])
    (made ∷ replied (old None) ∷ replied (old (Some 5)) ∷ replied (done false) ∷ replied (done true) ∷ replied (done false) ∷ replied (done true) ∷ replied (old None) ∷ replied (old None) ∷ replied (old None) ∷ replied (old (Some 4)) ∷ replied cleared ∷ replied (count 0) ∷ [])
a_condition_on_the_value = (_, (_, (refl, refl), (_, (refl, (refl, refl)), (_, (refl, (refl, refl)), (_, (refl, (refl, refl)), (_, (refl, (refl, refl)), (_, (refl, (refl, refl)), (_, (refl, (refl, refl)), (_, (refl, (refl, refl)), (_, (refl, (refl, refl)), (_, (refl, (refl, refl)), (_, (refl, (refl, refl)), (_, (refl, (refl, refl)), (_, (refl, (refl, refl)), refl))))))))))))))

-- a third key is refused where two pairs may be held, and a key that is there never is
two_pairs_are_full : IsRunFromNothing counting 2 1048576
    (open_handle 1 ∷ on 1 (put 97 1) ∷ on 1 (put 98 2) ∷ on 1 (put 99 3) ∷ on 1 (put_if_absent 99 3) ∷ on 1 (put 97 4) ∷ on 1 (remove 98) ∷ on 1 (put 99 3) ∷ on 1 size ∷ [])
    (made ∷ replied (old None) ∷ replied (old None) ∷ refused Full ∷ refused Full ∷ replied (old (Some 1)) ∷ replied (old (Some 2)) ∷ replied (old None) ∷ replied (count 2) ∷ [])
two_pairs_are_full = (_, (_, (refl, refl), (_, (refl, (refl, refl)), (_, (refl, (refl, refl)), (_, (refl, refl), (_, (refl, refl), (_, (refl, (refl, refl)), (_, (refl, (refl, refl)), (_, (refl, (refl, refl)), (_, (refl, (refl, refl)), refl))))))))))

-- an open job keeps a place for its end, and a full journal comes before every other refusal
a_full_journal : IsRunFromNothing counting 16777216 4
    (open_handle 1 ∷ freeze 1 None ∷ on 1 (put 97 1) ∷ open_handle 1024 ∷ finish 0 ∷ on 7 (get 97) ∷ [])
    (made ∷ frozen 0 [] ∷ refused JournalFull ∷ refused JournalFull ∷ finished 0 ∷ refused JournalFull ∷ [])
a_full_journal = (_, (_, (refl, refl), (_, (refl, (refl, refl, refl)), (_, (refl, refl), (_, (refl, refl), (_, (refl, record { job = _; answer = _; named = refl; is_answer = refl; told = refl; left = refl }), (_, (refl, refl), refl)))))))

-- a query may reserve a number, which is live only once the job is finished, and the job keeps its map
a_target_is_reserved : IsRunFromNothing filtering 16777216 1048576
    (open_handle 1 ∷ on 1 (put 97 4) ∷ on 1 (put 98 5) ∷ freeze 1 (Some 5) ∷ open_handle 5 ∷ on 5 (get 97) ∷ drop_handle 1 ∷ open_handle 1 ∷ finish 0 ∷ on 5 (get 97) ∷ on 5 size ∷ on 1 size ∷ [])
    (made ∷ replied (old None) ∷ replied (old None) ∷ frozen 0 ((97, 4) ∷ (98, 5) ∷ []) ∷ refused Taken ∷ refused NoHandle ∷ made ∷ made ∷ finished 1 ∷ replied (old (Some 4)) ∷ replied (count 1) ∷ replied (count 0) ∷ [])
a_target_is_reserved = (_, (_, (refl, refl), (_, (refl, (refl, refl)), (_, (refl, (refl, refl)), (_, (refl, (refl, refl, refl)), (_, (refl, refl), (_, (refl, refl), (_, (refl, refl), (_, (refl, refl), (_, (refl, record { job = _; answer = (97, 4) ∷ []; named = refl; is_answer = refl; told = refl; left = refl }), (_, (refl, (refl, refl)), (_, (refl, (refl, refl)), (_, (refl, (refl, refl)), refl)))))))))))))

-- an abandoned job is no longer open, and its number is not given again
an_abandoned_job : IsRunFromNothing counting 16777216 1048576
    (open_handle 1 ∷ freeze 1 (Some 5) ∷ finish 0 ∷ worker_step ∷ abandon 0 ∷ abandon 0 ∷ finish 0 ∷ open_handle 5 ∷ freeze 1 None ∷ [])
    (made ∷ frozen 0 [] ∷ unfinished ∷ worked ∷ made ∷ refused NoJob ∷ refused NoJob ∷ made ∷ frozen 1 [] ∷ [])
an_abandoned_job = (_, (_, (refl, refl), (_, (refl, (refl, refl, refl)), (_, (refl, refl), (_, (refl, refl), (_, (refl, refl), (_, (refl, refl), (_, (refl, refl), (_, (refl, refl), (_, (refl, (refl, refl, refl)), refl))))))))))

-- open jobs with these many numbers from this one on
abbrev jobs_from : ℕ → ℕ → Map ℕ (Job ℕ ℕ (Option ℕ))
jobs_from n zero = []
jobs_from n (suc more) = (n, record { query = None; frozen = [] }) ∷ jobs_from (n + 1) more

-- 64 open jobs, and handle 1
abbrev busy : State ℕ ℕ (Option ℕ)
busy = record { limits = record { pairs = 16777216; entries = 1048576 }; live = (1, []) ∷ []; jobs = jobs_from 0 64; next = 64; entries = 65 }

-- 64 jobs may be open
sixty_four_jobs : (t : State ℕ ℕ (Option ℕ)) × Run counting busy
    (freeze 1 None ∷ abandon 0 ∷ freeze 1 None ∷ freeze 1 (Some 1) ∷ [])
    (refused TooManyJobs ∷ made ∷ frozen 64 [] ∷ refused Taken ∷ []) t
sixty_four_jobs = (_, (_, (refl, refl), (_, (refl, refl), (_, (refl, (refl, refl, refl)), (_, (refl, refl), refl)))))
