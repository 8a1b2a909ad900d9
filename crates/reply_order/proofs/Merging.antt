-- The replies of all lines from those of each client, line by line.
use Rattle.std.proofs.Common.{◌≡◌, ◌≢◌, ◌==◌, ℕ, suc, ◌+◌, ◌<◌, ◌≤◌, Bool, true, false, cond, length, arith, List, [], ◌∷◌, ◌++◌, refl, sym, ap, subst, ◌∙◌, set, get_or, append_assoc, append-nil, drop, inl, inr}
use Rattle.std.specs.Prelude.{All}
use Rattle.std.proofs.lemmas.Bool.{cases_eq, cond-true, cond-false, eq-eqb, ne_eqb}
use Rattle.std.proofs.lemmas.List.{drop_more, drop_all, get_or-set_same, get_or-set_other, length-set, nil_from_length}
use Rattle.std.proofs.lemmas.List.Elements.{All-head, All-tail}
use Rattle.script.specs.Replies.{line_text}
use Rattle.script.specs.declared.statement.CommandLine.{CommandLine}
use Rattle.script.specs.declared.reply.LineReply.{LineReply}
use Rattle.reply_order.specs.ReplyOrder.{AreMerged, AreRepliesTo, IsNext, beside, lines_by}

-- what was left of each client's is what is left once the first of one's was taken, with that before it if it is the client's
left_before : (left : List (List LineReply)) (c k : ℕ) (reply : LineReply) (rest : List LineReply) → c < length left → get_or left c [] ≡ reply ∷ rest
    → get_or left k [] ≡ cond (c == k) (reply ∷ get_or (set left c rest) k []) (get_or (set left c rest) k [])
left_before left c k reply rest inside first = elim (cases_eq c k) [
  | inl same ↦ let taken : get_or (set left c rest) c [] ≡ rest = get_or-set_same left c rest [] inside in
      cc (cond-true (c == k) (reply ∷ get_or (set left c rest) k []) (get_or (set left c rest) k []) (eq-eqb c k same))
  | inr other ↦ let kept : get_or (set left c rest) k [] ≡ get_or left k [] = get_or-set_other left c k rest [] (λ e. other (sym e)) in
      cc (cond-false (c == k) (reply ∷ get_or (set left c rest) k []) (get_or (set left c rest) k []) (ne_eqb c k other))
]

-- two lists are as long as one another if they are so with one element more each, or none
as_long : {A B : Type 0} (b : Bool) (x : A) (xs : List A) (y : B) (ys : List B) → length (cond b (x ∷ xs) xs) ≡ length (cond b (y ∷ ys) ys) → length xs ≡ length ys
as_long true x xs y ys h = omega arith
as_long false x xs y ys h = h

-- once the first of the first line's client was taken, what is left are replies to the other lines
answers_rest : (line : CommandLine) (lines : List CommandLine) (reply : LineReply) (left new : List (List LineReply)) → AreRepliesTo (line ∷ lines) left → IsNext left line.client reply new → AreRepliesTo lines new
answers_rest line lines reply left new h (rest, first, is) =
    let c = line.client in
    let inside : c < length left = All-head (λ l. l.client < length left) line lines h.known in
    let after = set left c rest in
    let long : length after ≡ length left = length-set left c rest in
    rw is (record {
      known = subst (λ n. All (λ l. l.client < n) lines) (sym long) (All-tail (λ l. l.client < length left) line lines h.known);
      counts = λ k below. as_long (c == k) reply (get_or after k []) line (lines_by k lines) (ap length (sym (left_before left c k reply rest inside first)) ∙ h.counts k (omega arith));
    })

-- with the text of that reply before it, what is merged of the other lines is so of all
merged_before : (line : CommandLine) (lines : List CommandLine) (reply : LineReply) (left new : List (List LineReply)) (text : List ℕ) → line.client < length left → IsNext left line.client reply new → AreMerged lines new text → AreMerged (line ∷ lines) left (line_text line.number reply ++ text)
merged_before line lines reply left new text inside (rest, first, is) m =
    let c = line.client in
    let long : length new ≡ length left = ap length is ∙ length-set left c rest in
    record {
      replies = reply ∷ m.replies;
      count = ap suc m.count;
      each = λ k below.
          let others : beside k lines m.replies ≡ get_or (set left c rest) k [] = m.each k (omega arith) ∙ ap (λ xs. get_or xs k []) is in
          ap (λ xs. cond (c == k) (reply ∷ xs) xs) others ∙ sym (left_before left c k reply rest inside first);
      written = ap (λ t. line_text line.number reply ++ t) m.written;
    }

-- the text has the replies to the first lines: what is left are replies to the others, and with these behind it the text is merged
pub record MergedTo (lines : List CommandLine) (clients : List (List LineReply)) (i : ℕ) (left : List (List LineReply)) (text : List ℕ) : Type 0 where
  pub known : AreRepliesTo (drop i lines) left
  pub with_rest : (rest : List ℕ) → AreMerged (drop i lines) left rest → AreMerged lines clients (text ++ rest)

-- there is some reply to the first line
some_first : (line : CommandLine) (lines : List CommandLine) (left : List (List LineReply)) → AreRepliesTo (line ∷ lines) left → line.client < length left → get_or left line.client [] ≢ []
some_first line lines left h inside none =
    let counted : length (get_or left line.client []) ≡ length (lines_by line.client (line ∷ lines)) = h.counts line.client inside in
    let own : lines_by line.client (line ∷ lines) ≡ line ∷ lines_by line.client lines = cond-true (line.client == line.client) (line ∷ lines_by line.client lines) (lines_by line.client lines) (eq-eqb line.client line.client refl) in
    absurd (omega (arith, ap length none, ap length own))

-- before the first line
pub merged_none : (lines : List CommandLine) (clients : List (List LineReply)) → AreRepliesTo lines clients → MergedTo lines clients 0 clients []
merged_none lines clients h = record { known = h; with_rest = λ rest m. m }

-- there is a reply to the next line
pub next_left : (lines : List CommandLine) (clients : List (List LineReply)) (i : ℕ) (left : List (List LineReply)) (text : List ℕ) (line : CommandLine) → i < length lines → line ≡ get_or lines i line → MergedTo lines clients i left text
    → get_or left line.client [] ≢ []
next_left lines clients i left text line inside is h =
    let here : drop i lines ≡ line ∷ drop (i + 1) lines = drop_more lines i line inside ∙ ap (λ l. l ∷ drop (i + 1) lines) (sym is) in
    let known : AreRepliesTo (line ∷ drop (i + 1) lines) left = subst (λ ls. AreRepliesTo ls left) here h.known in
    let within : line.client < length left = All-head (λ l. l.client < length left) line (drop (i + 1) lines) known.known in
    some_first line (drop (i + 1) lines) left known within

-- one line more
pub merged_more : (lines : List CommandLine) (clients : List (List LineReply)) (i : ℕ) (left new : List (List LineReply)) (text : List ℕ) (line : CommandLine) (reply : LineReply) → i < length lines → line ≡ get_or lines i line → MergedTo lines clients i left text
    → IsNext left line.client reply new → MergedTo lines clients (i + 1) new (text ++ line_text line.number reply)
merged_more lines clients i left new text line reply inside is h next =
    let more = drop (i + 1) lines in
    let here : drop i lines ≡ line ∷ more = drop_more lines i line inside ∙ ap (λ l. l ∷ more) (sym is) in
    let known : AreRepliesTo (line ∷ more) left = subst (λ ls. AreRepliesTo ls left) here h.known in
    record {
      known = answers_rest line more reply left new known next;
      with_rest = λ rest m.
          let all = line_text line.number reply ++ rest in
          let merged : AreMerged (line ∷ more) left all = merged_before line more reply left new rest (All-head (λ l. l.client < length left) line more known.known) next m in
          subst (λ t. AreMerged lines clients t) (sym (append_assoc text (line_text line.number reply) rest)) (h.with_rest all (subst (λ ls. AreMerged ls left all) (sym here) merged));
    }

-- after the last line
pub merged_all : (lines : List CommandLine) (clients : List (List LineReply)) (i : ℕ) (left : List (List LineReply)) (text : List ℕ) → length lines ≤ i → MergedTo lines clients i left text → AreMerged lines clients text
merged_all lines clients i left text past h =
    let none : drop i lines ≡ [] = drop_all i lines past in
    let known : AreRepliesTo [] left = subst (λ ls. AreRepliesTo ls left) none h.known in
    let m : AreMerged [] left [] = record { replies = []; count = refl; each = λ k below. sym (nil_from_length (get_or left k []) (known.counts k below)); written = refl } in
    subst (λ t. AreMerged lines clients t) (append-nil text) (h.with_rest [] (subst (λ ls. AreMerged ls left []) (sym none) m))
