-- What a step leaves, whatever it is answered.
use Rattle.std.proofs.Common.{◌≡◌, ◌+◌, Bool, true, false, [], Option, Some, None, refl, ap, subst, sym, ◌∙◌}
use Rattle.std.specs.Prelude.{if◌then◌else◌, is_some}
use Rattle.std.specs.declared.cmp.Ordering.{Ordering}
use Rattle.std.specs.Ordering.{nat_cmp}
use Rattle.versions.specs.Map.{Map, value_at, with_pair, without}
use Rattle.versions.specs.Commands.{Command, get, put, put_if_absent, replace, replace_if, remove, remove_if, size, clear, old, done, is_equal, after, reply}
use Rattle.versions.proofs.Maps.{without_absent}
use Rattle.versions.specs.declared.refusal.Refusal.{Refusal}
use Rattle.handles.specs.Machine.{Kind, State, Request, open_handle, snapshot, drop_handle, on, view, freeze, finish, abandon, worker_step, Outcome, made, replied, viewed, frozen, refused, worked, Granted, Step, refusal, live_with, held_by, is_entry}
use Rattle.handles.specs.Laws.{ForeseenIsStep, is_settled_by_state}
use Rattle.handles.specs.Views.{leaves_map}

module _ {K V Q A B : Type 0} (kind : Kind K V Q A B) where
  -- what is left where this refusal, or none, is due
  abbrev leaves : State K V Q → Request K V Q → Option Refusal → State K V Q
  leaves s r (Some e) = record s { entries = if is_entry e then s.entries + 1 else s.entries }
  leaves s (open_handle h) None = record s { live = live_with s h []; entries = s.entries + 1 }
  leaves s (snapshot h to) None = record s { live = live_with s to (held_by s h); entries = s.entries + 1 }
  leaves s (drop_handle h) None = record s { live = without nat_cmp s.live h; entries = s.entries + 1 }
  leaves s (on h c) None = record s { live = live_with s h (after kind.order kind.equal (held_by s h) c); entries = s.entries + 1 }
  leaves s (view h) None = record s { entries = s.entries + 1 }
  leaves s (freeze h q) None = record s { jobs = with_pair nat_cmp s.jobs s.next (record { query = q; frozen = held_by s h }); next = s.next + 1; entries = s.entries + 1 }
  leaves s (finish j) None = s
  leaves s (abandon j) None = record s { jobs = without nat_cmp s.jobs j; entries = s.entries + 1 }
  leaves s worker_step None = s

  granted_leaves : (s t : State K V Q) (r : Request K V Q) (o : Outcome K V B) → is_settled_by_state r ≡ true → Granted kind s r o t → t ≡ leaves s r None
  granted_leaves s t (open_handle h) made k g = g
  granted_leaves s t (snapshot h to) made k g = g
  granted_leaves s t (drop_handle h) made k g = g
  granted_leaves s t (on h c) (replied y) k g = g.1
  granted_leaves s t (view h) (viewed m) k g = g.1
  granted_leaves s t (freeze h q) (frozen j m) k g =
      g.2 ∙ (λ i. record s { jobs = with_pair nat_cmp s.jobs (g.0 i) (record { query = q; frozen = g.1 i }); next = s.next + 1; entries = s.entries + 1 })
  granted_leaves s t (abandon j) made k g = g
  granted_leaves s t worker_step worked k g = g
  granted_leaves s t (finish j) o k g = absurd (cc)
  granted_leaves s t r o k g = absurd g

  step_leaves : (s t : State K V Q) (r : Request K V Q) (o : Outcome K V B) → is_settled_by_state r ≡ true → Step kind s r o t → t ≡ leaves s r (refusal kind s r)
  step_leaves s t r (refused e) k step = step.1 ∙ ap (leaves s r) (sym step.0)
  step_leaves s t r o k step = granted_leaves s t r o k step.1 ∙ ap (leaves s r) (sym step.0)

  -- what was foreseen is an outcome of the step that is made
  pub foreseen_is_step : ForeseenIsStep kind
  foreseen_is_step s t u r o other k could did = subst (Step kind s r o) (step_leaves s u r o k could ∙ sym (step_leaves s t r other k did)) could

module _ {K V : Type 0} (R : K → K → Ordering) (E : V → V → Bool) where
  -- a command that is answered so leaves its map
  pub leaves_same : (m : Map K V) (c : Command K V) → leaves_map c (reply R E m c) ≡ true → after R E m c ≡ m
  leaves_same m (get k) leaves = refl
  leaves_same m size leaves = refl
  leaves_same m (put_if_absent k v) leaves = by (value_at R m k) leaves
    where
      by : (o : Option V) → leaves_map {K = K} (put_if_absent k v) (old o) ≡ true → (if is_some o then m else with_pair R m k v) ≡ m
      by (Some w) is = refl
      by None is = cc
  leaves_same m (replace k v) leaves = by (value_at R m k) leaves
    where
      by : (o : Option V) → leaves_map {K = K} (replace k v) (old o) ≡ true → (if is_some o then with_pair R m k v else m) ≡ m
      by (Some w) is = cc
      by None is = refl
  leaves_same m (replace_if k was v) leaves = by (is_equal E (value_at R m k) was) leaves
    where
      by : (b : Bool) → leaves_map {K = K} (replace_if k was v) (done b) ≡ true → (if b then with_pair R m k v else m) ≡ m
      by true is = cc
      by false is = refl
  leaves_same m (remove_if k v) leaves = by (is_equal E (value_at R m k) v) leaves
    where
      by : (b : Bool) → leaves_map {K = K} (remove_if k v) (done b) ≡ true → (if b then without R m k else m) ≡ m
      by true is = cc
      by false is = refl
  leaves_same m (remove k) leaves = by (value_at R m k) refl leaves
    where
      by : (o : Option V) → value_at R m k ≡ o → leaves_map {K = K} (remove k) (old o) ≡ true → without R m k ≡ m
      by (Some w) at is = cc
      by None at is = without_absent R m k at
  leaves_same m (put k v) leaves = cc
  leaves_same m clear leaves = cc
