-- A run keeps the keys of all maps ASCII, and their values in the range of i64.
use Prim.Native.Nat.{zero, suc}
use Rattle.std.proofs.Common.{◌≡◌, Bool, true, false, cond, ℕ, ◌+◌, ◌<◌, ◌≤◌, inl, inr, List, [], ◌∷◌, length, take, Some, None, refl, sym, subst, arith}
use Rattle.std.specs.Fmt.{signed_decimal}
use Rattle.std.specs.Int.{w64}
use Rattle.std.proofs.lemmas.Fmt.{length_signed_le}
use Rattle.std.proofs.lemmas.Int.{SFits-int_wrap}
use Rattle.std.specs.Prelude.{ℤ, pos, ◌+ℤ◌, Contains, FitsSigned, Option, filter, is_some, slice_index_or, if◌then◌else◌}
use Rattle.std.specs.Ordering.{nat_cmp}
use Rattle.versions.specs.Map.{Map, value_at, with_pair, without}
use Rattle.versions.specs.Commands.{Command, get, put, put_if_absent, replace, replace_if, remove, remove_if, size, clear, after, is_equal}
use Rattle.keys.specs.Order.{bytes_cmp}
use Rattle.bulk_work.specs.Answers as plain
use Rattle.bulk_work.specs.Answers.{IsImage, with_values}
use Rattle.handles.specs.Machine.{Step, Granted, held_by, live_after, open_handle, snapshot, drop_handle}
use Rattle.handles.specs.Machine.{on, view, freeze, finish, abandon, worker_step, finished, refused}
use Rattle.journal.specs.Journals.{is_filed}
use Rattle.arguments.specs.Keys.{IsKey}
use Rattle.arguments.specs.Questions.{IsMapping, IsPairMapping, image_of, new_value, passes}
use Rattle.arguments.specs.declared.mapping.Mapping.{Mapping}
use Rattle.arguments.specs.declared.mapping.Mapping.TheVariants.{Set, Add, KeyLength}
use Rattle.arguments.specs.declared.pair_mapping.PairMapping.{PairMapping}
use Rattle.arguments.specs.declared.pair_mapping.PairMapping.TheVariants.{To, Initial, ByValue}
use Rattle.script.specs.Statements.{IsLawful}
use Rattle.questions.specs.Program.{program, ProgramAnswer, ProgramState, ProgramRequest, ProgramOutcome, command_statement, question_statement}
use Rattle.questions.specs.Queries.{ScriptQuestion, answers, count, exists, for_all, find, filtered, mapped, paired, fold}
use Rattle.questions.proofs.OneStep.{Settled, settled, refused_in, one_open, one_snapshot, one_reply, one_drop, one_abandon, one_freeze, one_view}
use Rattle.audit.specs.Runs.{MayBeAsked}
use Rattle.audit.proofs.MapLemmas.{Each, each_put, each_without, each_at, each_value_or}
use Rattle.audit.proofs.OneState.{finish_outcome}
use Rattle.audit.proofs.Room.{Any, ProgramJob}
use Rattle.audit.proofs.ByteLemmas.{ascii_signed}
use Rattle.audit.proofs.AsciiLemmas.{IsPlainKey, IsPlainMap, IsPlainValue, IsAsciiShown, ShowsAscii, ascii_key}

-- ---- one map

plain_key : (k : List ℕ) → IsKey k → IsPlainKey k
plain_key k is = (ascii_key k is, is.1)

with_key : (m : Map (List ℕ) ℤ) (k : List ℕ) (v : ℤ) → IsKey k → FitsSigned w64 v → IsPlainMap m → IsPlainMap (with_pair program.order m k v)
with_key m k v is fits all = each_put program.order IsPlainKey IsPlainValue m k v all (plain_key k is) fits

by_test : (b : Bool) (m n : Map (List ℕ) ℤ) → IsPlainMap m → IsPlainMap n → IsPlainMap (if b then m else n)
by_test true m n hm hn = hm
by_test false m n hm hn = hn

-- a command leaves keys that are ASCII
ascii_after : (h : ℕ) (c : Command (List ℕ) ℤ) (m : Map (List ℕ) ℤ) → IsLawful (command_statement h c) → IsPlainMap m
    → IsPlainMap (after program.order program.equal m c)
ascii_after h (get k) m l all = all
ascii_after h (put k v) m l all = with_key m k v l.1.0 l.1.1.0 all
ascii_after h (put_if_absent k v) m l all = by_test (is_some (value_at program.order m k)) m (with_pair program.order m k v) all (with_key m k v l.1.0 l.1.1.0 all)
ascii_after h (replace k v) m l all = by_test (is_some (value_at program.order m k)) (with_pair program.order m k v) m (with_key m k v l.1.0 l.1.1.0 all) all
ascii_after h (replace_if k was v) m l all =
    by_test (is_equal program.equal (value_at program.order m k) was) (with_pair program.order m k v) m (with_key m k v l.1.0 l.1.1.1.0 all) all
ascii_after h (remove k) m l all = each_without program.order IsPlainKey IsPlainValue m k all
ascii_after h (remove_if k v) m l all =
    by_test (is_equal program.equal (value_at program.order m k) v) (without program.order m k) m (each_without program.order IsPlainKey IsPlainValue m k all) all
ascii_after h size m l all = all
ascii_after h clear m l all = tt

-- ---- answers

contained : (m : Map (List ℕ) ℤ) (x : List ℕ × ℤ) (k : ℕ) → k < length m → slice_index_or m k x ≡ x → IsPlainMap m → IsPlainKey x.0 × IsPlainValue x.1
contained [] x k below is all = absurd (omega arith)
contained (y ∷ m) x zero below is all = let same : y ≡ x = is in subst (λ (p : List ℕ × ℤ). IsPlainKey p.0 × IsPlainValue p.1) same (all.0, all.1)
contained (y ∷ m) x (suc k) below is all = contained m x k (omega arith) is all.2

filtered_keys : (p : List ℕ × ℤ → Bool) (m : Map (List ℕ) ℤ) → IsPlainMap m → IsPlainMap (filter p m)
filtered_keys p [] all = tt
filtered_keys p (x ∷ m) all =
    elim (p x) as (λ b. IsPlainMap (cond b (x ∷ filter p m) (filter p m))) [
      | true ↦ (all.0, all.1, filtered_keys p m all.2)
      | false ↦ filtered_keys p m all.2
    ]

-- a length that is small is a value
small : (n : ℕ) → n ≤ 64 → FitsSigned w64 (pos n)
small n few = record { sfits = omega arith }

plain_new : (f : Mapping) (k : List ℕ) (v : ℤ) → IsMapping f → IsPlainKey k → IsPlainValue (new_value f k v)
plain_new (Set z) k v is key = is
plain_new (Add z) k v is key = SFits-int_wrap w64 (v +ℤ z)
plain_new KeyLength k v is key = small (length k) key.1

mapped_keys : (f : Mapping) (m : Map (List ℕ) ℤ) → IsMapping f → IsPlainMap m → IsPlainMap (with_values (new_value f) m)
mapped_keys f [] is all = tt
mapped_keys f (x ∷ m) is all = (all.0, plain_new f x.0 x.1 is all.0, mapped_keys f m is all.2)

first_byte : (k : List ℕ) → IsPlainKey k → IsPlainKey (take 1 k)
first_byte [] key = (tt, omega arith)
first_byte (b ∷ k) key = ((key.0.0, tt), omega arith)

spelled_key : (v : ℤ) → IsPlainValue v → IsPlainKey (signed_decimal v)
spelled_key v fits = (ascii_signed v, omega (arith, length_signed_le 19 v (omega (arith, fits.sfits)) fits.sfits))

-- the image of a pair
plain_image : (f : PairMapping) (k : List ℕ) (v : ℤ) → IsPairMapping f → IsPlainKey k → IsPlainValue v → IsPlainKey (image_of f k v).0 × IsPlainValue (image_of f k v).1
plain_image (To target) k v is key value = (plain_key target is, value)
plain_image Initial k v is key value = (first_byte k key, value)
plain_image ByValue k v is key value = (spelled_key v value, small (length k) key.1)

each_pair : (n : Map (List ℕ) ℤ) → ((y : List ℕ × ℤ) → Contains n y → IsPlainKey y.0 × IsPlainValue y.1) → IsPlainMap n
each_pair [] so = tt
each_pair (y ∷ n) so = let p = so y (0, omega arith, refl) in (p.0, p.1, each_pair n (λ z c. so z (suc c.0, omega (arith, c.1), c.2)))

image_keys : (f : PairMapping) (m n : Map (List ℕ) ℤ) → IsPairMapping f → IsPlainMap m → IsImage bytes_cmp (image_of f) m n → IsPlainMap n
image_keys f m n is all image = each_pair n (λ y c.
    let x = image.from y c in
    let p = contained m x.0 x.1.0 x.1.1 x.1.2 all in
    subst (λ (z : List ℕ × ℤ). IsPlainKey z.0 × IsPlainValue z.1) x.2 (plain_image f x.0.0 x.0.1 is p.0 p.1))

-- the parts of the question are in their ranges
abbrev pub IsAsked : ScriptQuestion → Type 0
IsAsked (mapped f to) = IsMapping f
IsAsked (paired f to) = IsPairMapping f
IsAsked q = Unit {0}

asked_so : (h : ℕ) (q : ScriptQuestion) → IsLawful (question_statement h q) → IsAsked q
asked_so h (mapped f to) l = l.1.0
asked_so h (paired f to) l = l.1.0
asked_so h (count t) l = tt
asked_so h (exists t) l = tt
asked_so h (for_all t) l = tt
asked_so h (find t) l = tt
asked_so h (filtered t to) l = tt
asked_so h (fold f) l = tt

pub map_keys : (q : ScriptQuestion) (m : Map (List ℕ) ℤ) (a : ProgramAnswer) → IsAsked q → answers q m a → IsPlainMap m → IsPlainMap (plain.map_of a)
map_keys (filtered t to) m (plain.Answer.made n) asked a all = subst IsPlainMap (sym a) (filtered_keys (plain.passes (passes t)) m all)
map_keys (mapped f to) m (plain.Answer.made n) asked a all = subst IsPlainMap (sym a) (mapped_keys f m asked all)
map_keys (paired f to) m (plain.Answer.images n) asked a all = image_keys f m n asked all a
map_keys q m (plain.Answer.number n) asked a all = tt
map_keys q m (plain.Answer.truth b) asked a all = tt
map_keys q m (plain.Answer.found x) asked a all = tt
map_keys q m (plain.Answer.item i) asked a all = tt
map_keys q m a asked is all = absurd is

told_key : (q : ScriptQuestion) (m : Map (List ℕ) ℤ) (a : ProgramAnswer) → IsAsked q → answers q m a → IsPlainMap m → IsAsciiShown (plain.summary a)
told_key (find t) m (plain.Answer.found (Some x)) asked a all = (contained m x a.0.0 a.0.1 a.0.2 all).0.0
told_key (paired f to) m (plain.Answer.images n) asked a all = image_keys f m n asked all a
told_key q m (plain.Answer.found None) asked a all = tt
told_key q m (plain.Answer.made n) asked a all = tt
told_key q m (plain.Answer.number n) asked a all = tt
told_key q m (plain.Answer.truth b) asked a all = tt
told_key q m (plain.Answer.item i) asked a all = tt
told_key q m a asked is all = absurd is

-- ---- all maps

abbrev pub HasPlainMap : ProgramJob → Type 0
HasPlainMap job = IsPlainMap job.frozen × IsAsked job.query

-- the keys and values of each live map and of each frozen one are such, and what is asked of that
pub record HasPlainMaps (s : ProgramState) : Type 0 where
  pub live : Each Any IsPlainMap s.live
  pub jobs : Each Any HasPlainMap s.jobs

-- a step keeps this, and its outcome shows only such keys
abbrev KeepsKeys : ProgramOutcome → ProgramState → Type 0
KeepsKeys o t = HasPlainMaps t × ShowsAscii o

held_keys : (s : ProgramState) (h : ℕ) → HasPlainMaps s → IsPlainMap (held_by s h)
held_keys s h k = each_value_or nat_cmp Any IsPlainMap s.live h [] k.live tt

live_keys : (s : ProgramState) (h : ℕ) (m : Map (List ℕ) ℤ) → HasPlainMaps s → IsPlainMap m → Each Any IsPlainMap (with_pair nat_cmp s.live h m)
live_keys s h m k is = each_put nat_cmp Any IsPlainMap s.live h m k.live tt is

after_keys : (s : ProgramState) (target : Option ℕ) (a : ProgramAnswer) → HasPlainMaps s → IsPlainMap (plain.map_of a)
    → Each Any IsPlainMap (live_after program s target a)
after_keys s None a k is = k.live
after_keys s (Some to) a k is = live_keys s to (plain.map_of a) k is

with_live : (s : ProgramState) (live : Map ℕ (Map (List ℕ) ℤ)) → HasPlainMaps s → Each Any IsPlainMap live
    → HasPlainMaps (record s { live = live; entries = s.entries + 1 })
with_live s live k is = record { live = is; jobs = k.jobs }

keeps : (o p : ProgramOutcome) (t u : ProgramState) → o ≡ p → t ≡ u → ShowsAscii p → HasPlainMaps u → KeepsKeys o t
keeps o p t u told left shows keys = (subst HasPlainMaps (sym left) keys, subst ShowsAscii (sym told) shows)

finish_keys : (s : ProgramState) (j : ℕ) (o : ProgramOutcome) (t : ProgramState) → is_filed o ≡ true → HasPlainMaps s
    → Granted program s (finish j) o t → KeepsKeys o t
finish_keys s j o t filed k g =
    let f = finish_outcome s j o t filed g in
    let job = f.2.job in
    let answer = f.2.answer in
    let frozen = (each_at nat_cmp Any HasPlainMap s.jobs j job k.jobs f.2.named).3 in
    let shows : IsAsciiShown f.0 = subst IsAsciiShown (sym f.2.told) (told_key job.query job.frozen answer frozen.1 f.2.is_answer frozen.0) in
    keeps o (finished f.0) t _ f.1 f.2.left shows (record {
      live = after_keys s (program.target job.query) answer k (map_keys job.query job.frozen answer frozen.1 f.2.is_answer frozen.0);
      jobs = each_without nat_cmp Any HasPlainMap s.jobs j k.jobs;
    })

granted_keys : (s : ProgramState) (r : ProgramRequest) (o : ProgramOutcome) (t : ProgramState) → MayBeAsked r → is_filed o ≡ true → HasPlainMaps s
    → Granted program s r o t → KeepsKeys o t
granted_keys s (open_handle h) o t may filed k g = let p = one_open s h o t g in keeps o _ t _ p.0 p.1 tt (with_live s _ k (live_keys s h [] k tt))
granted_keys s (snapshot h to) o t may filed k g =
    let p = one_snapshot s h to o t g in
    keeps o _ t _ p.0 p.1 tt (with_live s _ k (live_keys s to (held_by s h) k (held_keys s h k)))
granted_keys s (drop_handle h) o t may filed k g =
    let p = one_drop s h o t g in
    keeps o _ t _ p.0 p.1 tt (with_live s _ k (each_without nat_cmp Any IsPlainMap s.live h k.live))
granted_keys s (on h c) o t may filed k g =
    let p = one_reply s h c o t g in
    keeps o _ t _ p.0 p.1 tt (with_live s _ k (live_keys s h _ k (ascii_after h c (held_by s h) may (held_keys s h k))))
granted_keys s (view h) o t may filed k g = let p = one_view s h o t g in keeps o _ t _ p.0 p.1 (held_keys s h k) (with_live s s.live k k.live)
granted_keys s (freeze h q) o t may filed k g =
    let p = one_freeze s h q o t g in
    keeps o _ t _ p.0 p.1 tt (record { live = k.live; jobs = each_put nat_cmp Any HasPlainMap s.jobs s.next _ k.jobs tt (held_keys s h k, asked_so h q may) })
granted_keys s (finish j) o t may filed k g = finish_keys s j o t filed k g
granted_keys s (abandon j) o t may filed k g =
    let p = one_abandon s j o t g in
    keeps o _ t _ p.0 p.1 tt (record { live = k.live; jobs = each_without nat_cmp Any HasPlainMap s.jobs j k.jobs })
granted_keys s worker_step o t may filed k g = absurd may

settled_keys : (s : ProgramState) (r : ProgramRequest) (o : ProgramOutcome) (t : ProgramState) → MayBeAsked r → is_filed o ≡ true → HasPlainMaps s
    → Settled s r o t → KeepsKeys o t
settled_keys s r o t may filed k (inl (e, is, why, left)) = keeps o (refused e) t (refused_in s e) is left tt (record { live = k.live; jobs = k.jobs })
settled_keys s r o t may filed k (inr (none, g)) = granted_keys s r o t may filed k g

-- an entry keeps keys ASCII, and shows only such
pub step_keys : (s : ProgramState) (r : ProgramRequest) (o : ProgramOutcome) (t : ProgramState) → MayBeAsked r → is_filed o ≡ true → HasPlainMaps s
    → Step program s r o t → KeepsKeys o t
step_keys s r o t may filed k step = settled_keys s r o t may filed k (settled s r o t step)
