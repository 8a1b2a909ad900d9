-- Why a get that follows a meeting stands behind the put before it.
use Rattle.std.proofs.Common.{◌≡◌, ◌<◌, ◌≤◌, ◌+◌, ℕ, List, [], ◌∷◌, ◌++◌, length, max, ap, sym, subst, ◌∙◌, arith}
use Rattle.std.specs.Prelude.{IfOk, Ok, Result, map, slice_index_or}
use Rattle.std.specs.List.{Contains}
use Rattle.std.proofs.Math.Nat.{le-max_right}
use Rattle.std.proofs.lemmas.List.{get_or-map, length-map}
use Rattle.std.proofs.lemmas.List.Elements.{All-contains, Contains-push}
use Rattle.tambyulo_clients.specs.Commands.{get, put}
use Rattle.tambyulo_clients.specs.CallReply.{CallReply}
use Rattle.tambyulo_clients.specs.CallReply.TheVariants as call_replies
use Rattle.tambyulo_clients.specs.Limits.{Limits}
use Rattle.tambyulo_clients.specs.Machine.{Kind, Outcome, Request, State, on}
use Rattle.tambyulo_clients.specs.Views.{call_outcome}
use Rattle.tambyulo_clients.specs.Journals.{Entered}
use Rattle.tambyulo_clients.specs.Closings.{IsClosedWith}
use Rattle.tambyulo_clients.specs.Seats.{Adds, Placed, Seated, met, pair, pairs, with_entry}
use Rattle.example_meeting.specs.Meetings.{AreMet, PutBeforeGet, PutThenGot, entry_of}

-- what is in a list is in its image
contains_map : {X Y : Type 0} (f : X → Y) (xs : List X) (x : X) → Contains xs x → Contains (map f xs) (f x)
contains_map f xs x (k, within, is) = (k, subst (λ n. k < n) (sym (length-map xs f)) within, get_or-map f xs k x (f x) within ∙ ap f is)

module _ {K V Q B : Type 0} where
  -- a call that is answered by a reply adds its entry
  pub answered_adds : (s t : Seated K V Q B) (r : Request K V Q) (y : CallReply V) → Adds s r (call_outcome y) t → (place : ℕ) × (t ≡ with_entry s r (call_outcome y) place)
  answered_adds s t r call_replies.Unit adds = adds
  answered_adds s t r (call_replies.Reply y) adds = adds

  -- a seat's last entry
  filed_last : (n : ℕ) (s t : Seated K V Q B) (r : Request K V Q) (o : Outcome K V B) (place : ℕ) → s.number ≡ n → t ≡ with_entry s r o place → Contains t.list (record { place = place; floor = s.floor; entry = entry_of n r o })
  filed_last n s t r o place number is =
      let at : ℕ → Placed K V Q B = λ k. record { place = place; floor = s.floor; entry = entry_of k r o } in
      let list : t.list ≡ s.list ++ at n ∷ [] = ap (λ (x : Seated K V Q B). x.list) is ∙ ap (λ k. s.list ++ at k ∷ []) number in
      subst (λ xs. Contains xs (at n)) (sym list) (Contains-push s.list (at n))

  -- a call of the first seat and its put, a meeting, and a get of the second one
  pub put_then_got : (key : K) (value : V) (old first put_by met_by second met_with got_by : Seated K V Q B) (r : Request K V Q) (z x y : CallReply V) (again : K)
      → old.number ≡ 0 → second.number ≡ 1 → again ≡ key → Adds old r (call_outcome z) first → Adds first (on 1 (put key value)) (call_outcome x) put_by
      → met_by ≡ met put_by second → met_with ≡ met second put_by → Adds met_with (on 1 (get again)) (call_outcome y) got_by → PutThenGot key value met_by got_by
  put_then_got key value old first put_by met_by second met_with got_by r z x y again begun next same_key calls puts mine theirs gets =
      let c = answered_adds old first r z calls in
      let zeroth : first.number ≡ 0 = ap (λ (s : Seated K V Q B). s.number) c.1 ∙ begun in
      let p = answered_adds first put_by (on 1 (put key value)) x puts in
      let g = answered_adds met_with got_by (on 1 (get key)) y (subst (λ k. Adds met_with (on 1 (get k)) (call_outcome y) got_by) same_key gets) in
      let same : met_by.list ≡ put_by.list = ap (λ (s : Seated K V Q B). s.list) mine in
      let number : met_with.number ≡ 1 = ap (λ (s : Seated K V Q B). s.number) theirs ∙ next in
      let floor : met_with.floor ≡ max second.floor put_by.floor = ap (λ (s : Seated K V Q B). s.floor) theirs in
      let after : put_by.floor ≡ p.0 + 1 = ap (λ (s : Seated K V Q B). s.floor) p.1 in
      let above : put_by.floor ≤ max second.floor put_by.floor = le-max_right second.floor put_by.floor in
      record {
        place = p.0;
        later = g.0;
        floor = met_with.floor;
        stored = call_outcome x;
        told = call_outcome y;
        is_put = subst (λ xs. Contains (pairs xs) (p.0, entry_of 0 (on 1 (put key value)) (call_outcome x))) (sym same) (contains_map pair put_by.list _ (filed_last 0 first put_by (on 1 (put key value)) (call_outcome x) p.0 zeroth p.1));
        is_got = filed_last 1 met_with got_by (on 1 (get key)) (call_outcome y) g.0 number g.1;
        behind = omega (arith, floor, after, above);
      }

-- where a map is closed with two such seats, the get stands behind the put
pub put_before_get : {K V Q A B : Type 0} (kind : Kind K V Q A B) (limits : Limits) (key : K) (value : V) (seats : List (Seated K V Q B)) (journal : List (Entered K V Q B)) (t : State K V Q) (s : Seated K V Q B)
    → AreMet key value seats → IsClosedWith kind limits seats journal t → PutBeforeGet key value journal
put_before_get kind limits key value seats journal t s (two, met) closed =
    let is = met s in
    let first : 0 < length seats = omega (arith, two) in
    let second : 1 < length seats = omega (arith, two) in
    let least : is.floor ≤ is.later = All-contains (λ (p : Placed _ _ _ _). p.floor ≤ p.place) (slice_index_or seats 1 s).list _ (closed.floors 1 s second) is.is_got in
    record {
      place = is.place;
      later = is.later;
      stored = is.stored;
      told = is.told;
      is_put = subst (λ xs. Contains xs (is.place, entry_of 0 (on 1 (put key value)) is.stored)) (sym (closed.each 0 s first)) is.is_put;
      is_got = subst (λ xs. Contains xs (is.later, entry_of 1 (on 1 (get key)) is.told)) (sym (closed.each 1 s second)) (contains_map pair (slice_index_or seats 1 s).list _ is.is_got);
      order = omega (arith, is.behind, least);
    }

-- what holds of what is at Ok
pub if_ok : {X E : Type 0} (P : X → Type 0) (r : Result X E) (x : X) → r ≡ Ok x → IfOk r P → P x
if_ok P r x is holds = subst (λ o. IfOk o P) is holds
