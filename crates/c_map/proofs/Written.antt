-- Bytes that are written over others.
use Rattle.std.proofs.Common.{◌≡◌, ℕ, ◌+◌, ◌≤◌, List, [], ◌++◌, length, take, drop, sym, ap, add-zero, ◌∙◌, arith, append_assoc, length-append}
use Rattle.std.proofs.lemmas.List.{length-take-le, length-drop, take-append-drop, take_at, drop-drop}
use Rattle.std.proofs.Math.Seq.{drop-append-add}
use Rattle.c_map.specs.Pages.{written}

-- no bytes change nothing
pub written-nil : (b : List ℕ) (at : ℕ) → written b at [] ≡ b
written-nil b at = ap (λ n. take at b ++ drop n b) (add-zero at) ∙ take-append-drop at b

-- what is written does not change how many bytes there are
pub length-written : (b : List ℕ) (at : ℕ) (xs : List ℕ) → at + length xs ≤ length b → length (written b at xs) ≡ length b
length-written b at xs fits =
    omega (arith, length-append (take at b) (xs ++ drop (at + length xs) b), length-append xs (drop (at + length xs) b), length-take-le at b (omega arith), length-drop (at + length xs) b)

-- bytes that are written behind others
pub written-more : (b : List ℕ) (at : ℕ) (xs ys : List ℕ) → at + length xs + length ys ≤ length b → written (written b at xs) (at + length xs) ys ≡ written b at (xs ++ ys)
written-more b at xs ys fits =
    let p = take at b in
    let d = drop (at + length xs) b in
    let all = written b at xs in
    let rest = drop (at + length (xs ++ ys)) b in
    let long : length (p ++ xs) ≡ at + length xs = omega (arith, length-append p xs, length-take-le at b (omega arith)) in
    let whole : all ≡ (p ++ xs) ++ d = sym (append_assoc p xs d) in
    let front : take (at + length xs) all ≡ p ++ xs = ap (take (at + length xs)) whole ∙ take_at (p ++ xs) d (at + length xs) long in
    let back : drop (at + length xs + length ys) all ≡ rest =
    ap (drop (at + length xs + length ys)) whole
    ∙ ap (λ n. drop (n + length ys) ((p ++ xs) ++ d)) (sym long)
    ∙ drop-append-add (p ++ xs) d (length ys)
    ∙ drop-drop (length ys) (at + length xs) b
    ∙ ap (λ n. drop n b) (omega (arith, length-append xs ys)) in
    ap (λ zs. zs ++ (ys ++ drop (at + length xs + length ys) all)) front
    ∙ ap (λ zs. (p ++ xs) ++ (ys ++ zs)) back
    ∙ append_assoc p xs (ys ++ rest)
    ∙ ap (λ zs. p ++ zs) (sym (append_assoc xs ys rest))
