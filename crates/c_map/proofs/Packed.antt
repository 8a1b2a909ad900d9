-- What the pairs of a page are: as many as there is room for.
use Rattle.std.proofs.Common.{◌≡◌, ℕ, zero, suc, ◌+◌, ◌-◌, ◌^◌, ◌<◌, ◌≤◌, Bool, true, false, cond, List, [], ◌∷◌, ◌++◌, length, take, drop, min, nat_lt, nat_le, refl, sym, ap, ◌∙◌, subst, add-zero, zero-add, arith, length-append}
use Rattle.std.proofs.lemmas.Bool.{leb-true, lt-ltb}
use Rattle.std.proofs.lemmas.List.{length-take, length-take-le, take-append-drop, drop_all}
use Rattle.c_map.specs.Pages.{all_spelled, first_size, written, HasNoRoom, IsPage}
use Rattle.c_map.specs.Fillings.{filled}
use Rattle.c_map.specs.declared.answer.Page.{Page}
use Rattle.c_map.specs.declared.page.Filling.{Filling}
use Rattle.c_map.proofs.Written.{written-nil, length-written, written-more}
use Rattle.c_map.proofs.Fillings.{filled-append, filled-full, filled-skipped}

-- a page and its buffer, part by part
abbrev pub at : ℕ → ℕ → ℕ → ℕ → List ℕ → Filling × List ℕ
at skip used pairs next b = (record { skip = skip; used = used; pairs = pairs; next = next }, b)

-- nothing more is written
none : (b : List ℕ) (used pairs next : ℕ) → at 0 used pairs next b ≡ at 0 (used + 0) (pairs + 0) next (written b used [])
none b used pairs next =
    ap (λ k. at 0 k pairs next b) (sym (add-zero used))
    ∙ ap (λ k. at 0 (used + 0) k next b) (sym (add-zero pairs))
    ∙ ap (at 0 (used + 0) (pairs + 0) next) (sym (written-nil b used))

-- what is written behind a pair is written behind all before it
more : (b xs ys : List ℕ) (used pairs n next : ℕ) → used + length xs + length ys ≤ length b
    → at 0 (used + length xs + length ys) (pairs + 1 + n) next (written (written b used xs) (used + length xs) ys) ≡ at 0 (used + length (xs ++ ys)) (pairs + suc n) next (written b used (xs ++ ys))
more b xs ys used pairs n next fits =
    let both = written (written b used xs) (used + length xs) ys in
    ap (λ k. at 0 k (pairs + 1 + n) next both) (omega (arith, length-append xs ys))
    ∙ ap (λ k. at 0 (used + length (xs ++ ys)) k next both) (omega arith)
    ∙ ap (at 0 (used + length (xs ++ ys)) (pairs + suc n) next) (written-more b used xs ys fits)

module _ {X : Type 0} (spell : X → List ℕ) where
  -- the first n pairs are written, and the next one has no room
  pub record Packs (xs : List X) (b : List ℕ) (used pairs : ℕ) (now : Filling × List ℕ) : Type 0 where
    pub n : ℕ
    pub within : n ≤ length xs
    pub room : used + length (all_spelled spell (take n xs)) ≤ length b
    pub is : now ≡ at 0 (used + length (all_spelled spell (take n xs))) (pairs + n) (first_size spell (drop n xs)) (written b used (all_spelled spell (take n xs)))
    pub most : HasNoRoom spell (drop n xs) (length b - (used + length (all_spelled spell (take n xs))))

  pub packs : ((x : X) → 0 < length (spell x)) → (xs : List X) (b : List ℕ) (used pairs : ℕ) → used ≤ length b → Packs xs b used pairs (filled spell (at 0 used pairs 0 b) xs)
  packs long [] b used pairs fits = record {
    n = 0;
    within = omega arith;
    room = omega arith;
    is = none b used pairs 0;
    most = tt;
  }
  packs long (x ∷ xs) b used pairs fits = by (packs long xs) (nat_le (length (spell x)) (length b - used)) refl
    where
      by : ((b : List ℕ) (used pairs : ℕ) → used ≤ length b → Packs xs b used pairs (filled spell (at 0 used pairs 0 b) xs)) → (room : Bool) → nat_le (length (spell x)) (length b - used) ≡ room → Packs (x ∷ xs) b used pairs (filled spell (at 0 used pairs 0 b) (x ∷ xs))
      by others true room =
          let few = leb-true (length (spell x)) (length b - used) room in
          let same = length-written b used (spell x) (omega (arith, few)) in
          let rest = others (written b used (spell x)) (used + length (spell x)) (pairs + 1) (omega (arith, few, same)) in
          let size = length-append (spell x) (all_spelled spell (take rest.n xs)) in
          rw room (record {
            n = suc rest.n;
            within = omega (arith, rest.within);
            room = omega (arith, rest.room, same, size);
            is = rest.is ∙ more b (spell x) (all_spelled spell (take rest.n xs)) used pairs rest.n (first_size spell (drop rest.n xs)) (omega (arith, rest.room, same));
            most = subst (HasNoRoom spell (drop rest.n xs)) (omega (arith, same, size)) rest.most;
          })
      by others false room = rw room (record {
        n = 0;
        within = omega arith;
        room = omega arith;
        is = filled-full spell (at 0 used pairs (min (length (spell x)) (2 ^ 64 - 1)) b) xs (lt-ltb 0 (min (length (spell x)) (2 ^ 64 - 1)) (omega (arith, long x))) ∙ none b used pairs (min (length (spell x)) (2 ^ 64 - 1));
        most = grind (arith, room);
      })

  -- pairs that come before the page are passed over
  passed : (xs : List X) (b : List ℕ) (from : ℕ) → filled spell (at from 0 0 0 b) xs ≡ filled spell (at (from - length (take from xs)) 0 0 0 b) (drop from xs)
  passed xs b from =
      ap (filled spell (at from 0 0 0 b)) (sym (take-append-drop from xs))
      ∙ filled-append spell (at from 0 0 0 b) (take from xs) (drop from xs)
      ∙ ap (λ f. filled spell f (drop from xs)) (filled-skipped spell (at from 0 0 0 b).0 b (take from xs) refl (omega (arith, length-take from xs)))

  -- what a page says of the bytes, from how many pairs it has
  size_at : (xs : List X) (n : ℕ) → cond (nat_lt 0 (0 + n)) (0 + length (all_spelled spell (take n xs))) (first_size spell (drop n xs)) ≡ cond (nat_lt 0 n) (length (all_spelled spell (take n xs))) (first_size spell xs)
  size_at xs zero = refl
  size_at xs (suc n) =
      let size = length (all_spelled spell (take (suc n) xs)) in
      let some = lt-ltb 0 (suc n) (omega arith) in
      ap (λ k. cond (nat_lt 0 k) (0 + size) (first_size spell (drop (suc n) xs))) (zero-add (suc n))
      ∙ ap (λ b. cond b (0 + size) (first_size spell (drop (suc n) xs))) some
      ∙ zero-add size
      ∙ sym (ap (λ b. cond b size (first_size spell xs)) some)

  is_page : (xs : List X) (b now : List ℕ) (page : Page) (n : ℕ) → page.pairs ≡ n → n ≤ length xs → now ≡ written b 0 (all_spelled spell (take n xs))
      → HasNoRoom spell (drop n xs) (length b - length (all_spelled spell (take n xs))) → page.bytes ≡ cond (nat_lt 0 n) (length (all_spelled spell (take n xs))) (first_size spell xs)
      → IsPage spell xs b page now
  is_page xs b now page n pairs within text most size = record {
    within = omega (arith, pairs, within);
    text = text ∙ ap (λ k. written b 0 (all_spelled spell (take k xs))) (sym pairs);
    most = subst (λ k. HasNoRoom spell (drop k xs) (length b - length (all_spelled spell (take k xs)))) (sym pairs) most;
    size = size ∙ ap (λ k. cond (nat_lt 0 k) (length (all_spelled spell (take k xs))) (first_size spell xs)) (sym pairs);
  }

  -- what is filled in the end is a page of the pairs from that number on
  pub page_of : ((x : X) → 0 < length (spell x)) → (xs : List X) (b : List ℕ) (from : ℕ) (page : Page) (now : Filling × List ℕ) → now ≡ filled spell (at from 0 0 0 b) xs
      → page.pairs ≡ now.0.pairs → page.bytes ≡ cond (nat_lt 0 now.0.pairs) now.0.used now.0.next → IsPage spell (drop from xs) b page now.1
  page_of long xs b from page now filled_ pairs size = by (nat_le from (length xs)) refl
    where
      by : (within : Bool) → nat_le from (length xs) ≡ within → IsPage spell (drop from xs) b page now.1
      by true within =
          let some = length-take-le from xs (leb-true from (length xs) within) in
          let p = packs long (drop from xs) b 0 0 (omega arith) in
          let all = filled_ ∙ passed xs b from ∙ ap (λ k. filled spell (at k 0 0 0 b) (drop from xs)) (omega (arith, some)) ∙ p.is in
          is_page (drop from xs) b now.1 page p.n (pairs ∙ ap (λ (f : Filling × List ℕ). f.0.pairs) all ∙ zero-add p.n) p.within (ap (λ (f : Filling × List ℕ). f.1) all)
          (subst (λ k. HasNoRoom spell (drop p.n (drop from xs)) (length b - k)) (zero-add _) p.most)
          (size ∙ ap (λ (f : Filling × List ℕ). cond (nat_lt 0 f.0.pairs) f.0.used f.0.next) all ∙ size_at (drop from xs) p.n)
      by false within =
          let rest : drop from xs ≡ [] = drop_all from xs (grind (arith, within)) in
          let all = filled_ ∙ passed xs b from ∙ ap (filled spell (at (from - length (take from xs)) 0 0 0 b)) rest in
          subst (λ ys. IsPage spell ys b page now.1) (sym rest) (is_page [] b now.1 page 0 (pairs ∙ ap (λ (f : Filling × List ℕ). f.0.pairs) all) (omega arith) (ap (λ (f : Filling × List ℕ). f.1) all ∙ sym (written-nil b 0)) tt
          (size ∙ ap (λ (f : Filling × List ℕ). cond (nat_lt 0 f.0.pairs) f.0.used f.0.next) all))
