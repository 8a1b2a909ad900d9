-- What the reply of a job may be.
use Prim.Native.Nat.{zero, suc}
use Rattle.std.proofs.Common.{◌≡◌, Bool, true, false, ◌||◌, ℕ, ◌∙◌, List, [], ◌∷◌, drop, take, Option, Some, None, Result, Ok, Err, IfOk, refl, sym, ap, subst, arith}
use Rattle.std.specs.Prelude.{ℤ, Contains, IsTrue, MatchOption, ◌==◌, codes}
use Rattle.std.specs.List.{list_any}
use Rattle.std.specs.Fmt.{signed_decimal}
use Rattle.std.specs.Cmp.Lexicographic.{pointwise}
use Rattle.versions.specs.Contents.{Contents}
use Rattle.versions.specs.declared.version.TheConstants.{MOST_PAIRS}
use Rattle.bulk_work.specs.Summaries.{MakesFor}
use Rattle.versions.specs.Map.{IsMap, value_at}
use Rattle.keys.specs.Order.{bytes_cmp}
use Rattle.bulk_work.specs.Answers as plain
use Rattle.bulk_work.specs.Answers.{IsImage}
use Rattle.bulk_ops.specs.declared.part.Part.TheVariants as parts
use Rattle.handles.specs.Machine.{finished}
use Rattle.bulk_ops.specs.Queries.{answer_of}
use Rattle.bulk_ops.specs.declared.part.Part.{Part}
use Rattle.arguments.specs.Questions.{image_of, passes}
use Rattle.script.specs.Replies.{text_of}
use Rattle.arguments.specs.declared.passing.Test.{Test}
use Rattle.arguments.specs.declared.pair_mapping.PairMapping.{PairMapping}
use Rattle.script.specs.declared.reply.LineReply.TheVariants as replies
use Rattle.questions.specs.Folds.{Item}
use Rattle.questions.specs.Queries.{ScriptQuestion, IsPartFor, answers, find, paired, target_of}
use Rattle.questions.specs.Program.{asks_choice, asks_images, asks_pair, ProgramAnswer, ProgramSummary, summary_reply}
use Rattle.questions.proofs.OneStep.{is_the_answer}
use Rattle.journal_text.specs.Calls.{outcome_text}
use Rattle.audit.specs.Answers.{NoneInReply}
use Rattle.audit.specs.Images.{AreValuesInReply, HasAllRead}
use Rattle.audit.proofs.ImageLemmas.{only_images}
use Rattle.audit.specs.ReplyParts.{IsOnlyInReply, IsFront, HasNoFront, TellsNoPair, IsKeyInReply, IsPairAt, NonePairAt}
use Rattle.audit.proofs.SpaceLemmas.{signed_spaceless}
use Rattle.audit.proofs.PairLemmas.{ScriptMap, contained, value_found}

abbrev ScriptPart : Type 0
ScriptPart = Part (List ℕ) ℤ Item

-- ---- the pair of a key

member_any : (p : List ℕ × ℤ → Bool) (m : ScriptMap) (x : List ℕ × ℤ) → Contains m x → p x ≡ true → list_any p m ≡ true
member_any p [] x (i, lt, e) is = absurd (omega arith)
member_any p (y ∷ m) x (zero, lt, e) is = ap (λ (b : Bool). b || list_any p m) (ap p e ∙ is)
member_any p (y ∷ m) x (suc i, lt, e) is = ap (λ (b : Bool). p y || b) (member_any p m x (i, omega arith, e) is) ∙ or_true (p y)
  where
    or_true : (b : Bool) → (b || true) ≡ true
    or_true true = refl
    or_true false = refl

-- ---- the key of a reply

pub no_prefix : (reply : List ℕ) → pointwise ◌==◌ (take 5 reply) (codes "pair ") ≡ false → TellsNoPair reply
no_prefix reply h key value e = let bad : true ≡ false = ap (λ (r : List ℕ). pointwise ◌==◌ (take 5 r) (codes "pair ")) (sym e) ∙ h in cc

pub key_parted : {A : Type 0} (now : A → List ℕ) (reply rest : List ℕ) (found : Option A) → pointwise ◌==◌ (take 5 reply) (codes "pair ") ≡ true → rest ≡ drop 5 reply → MatchOption found (HasNoFront rest) (λ f. IsFront rest (now f))
    → MatchOption found (TellsNoPair reply) (λ f. IsKeyInReply reply (now f))
key_parted now reply rest None starts is h = λ key value e. h key (signed_decimal value) (signed_spaceless value) (is ∙ ap (λ (r : List ℕ). drop 5 r) e)
key_parted now reply rest (Some f) starts is h = record {
  other = λ e. let bad : false ≡ true = ap (λ (r : List ℕ). pointwise ◌==◌ (take 5 r) (codes "pair ")) (sym e) ∙ starts in cc;
  keyed = λ k value e. h k (signed_decimal value) (signed_spaceless value) (is ∙ ap (λ (r : List ℕ). drop 5 r) e);
}

-- ---- the reply to a query for some pair

-- no pair of the reply's key passes
pub none_at : (test : Test) (m : ScriptMap) (key reply : List ℕ) → IsKeyInReply reply key → NonePairAt test m key → NoneInReply (find test) m reply
none_at test m key reply k h (plain.Answer.found None) is e = k.other e
none_at test m key reply k h (plain.Answer.found (Some x)) is e =
    let same : x.0 ≡ key = k.keyed x.0 x.1 e in
    let there : value_at bytes_cmp m key ≡ Some x.1 = ap (λ (n : List ℕ). value_at bytes_cmp m n) (sym same) ∙ value_found m x h.is_map is.0 in
    let fails : passes test x.0 x.1 ≡ false = ap (λ (n : List ℕ). passes test n x.1) same ∙ h.none x.1 there in
    let bad : true ≡ false = sym is.1 ∙ fails in
    cc
none_at test m key reply k h (plain.Answer.number n) is e = absurd is
none_at test m key reply k h (plain.Answer.truth b) is e = absurd is
none_at test m key reply k h (plain.Answer.made n) is e = absurd is
none_at test m key reply k h (plain.Answer.images n) is e = absurd is
none_at test m key reply k h (plain.Answer.item n) is e = absurd is

only_pair : (test : Test) (m : ScriptMap) (key reply : List ℕ) (part : ScriptPart) → IsKeyInReply reply key → IsPairAt test m key part → IsOnlyInReply (find test) m reply part
only_pair test m key reply part k h (plain.Answer.found None) is e = absurd (k.other e)
only_pair test m key reply part k h (plain.Answer.found (Some x)) is e =
    let same : x.0 ≡ key = k.keyed x.0 x.1 e in
    let there : Some x.1 ≡ Some h.value = sym (value_found m x h.is_map is.0) ∙ ap (λ (n : List ℕ). value_at bytes_cmp m n) same ∙ h.there in
    let value : x.1 ≡ h.value = cc in
    let one : ◌≡◌ {A = ProgramAnswer} (plain.Answer.found (Some x)) (plain.Answer.found (Some (key, h.value))) = λ i. plain.Answer.found (Some (same i, value i)) in
    ap (λ (b : ProgramAnswer). plain.summary b) (one ∙ sym h.found)
only_pair test m key reply part k h (plain.Answer.number n) is e = absurd is
only_pair test m key reply part k h (plain.Answer.truth b) is e = absurd is
only_pair test m key reply part k h (plain.Answer.made n) is e = absurd is
only_pair test m key reply part k h (plain.Answer.images n) is e = absurd is
only_pair test m key reply part k h (plain.Answer.item n) is e = absurd is

-- the pair of the reply's key passes
pub pair_for : (test : Test) (m : ScriptMap) (key reply : List ℕ) (part : ScriptPart) → IsKeyInReply reply key → IsPairAt test m key part → IsPartFor (find test) m part × IsOnlyInReply (find test) m reply part
pair_for test m key reply part k h = (
  record { loose = h.loose; answer = subst (λ (a : ProgramAnswer). answers (find test) m a) (sym h.found) (contained m key h.value h.there, h.passing) },
  only_pair test m key reply part k h,
)

-- what is found by the reply's key, if memory was there
pub pair_read : {E : Type 0} (q : ScriptQuestion) (test : Test) (m : ScriptMap) (key reply : List ℕ) (read : Result (Option ScriptPart) E) → q ≡ find test → IsKeyInReply reply key → IfOk read (λ found. MatchOption found (NonePairAt test m key) (λ part. IsPairAt test m key part))
    → IfOk read (λ found. MatchOption found (NoneInReply q m reply) (λ part. IsPartFor q m part × IsOnlyInReply q m reply part))
pair_read q test m key reply (Ok None) same k h = subst (λ (x : ScriptQuestion). NoneInReply x m reply) (sym same) (none_at test m key reply k h)
pair_read q test m key reply (Ok (Some part)) same k h = subst (λ (x : ScriptQuestion). IsPartFor x m part × IsOnlyInReply x m reply part) (sym same) (pair_for test m key reply part k h)
pair_read q test m key reply (Err e) same k h = h

none_alike : (test : Test) (m : ScriptMap) (b : ProgramAnswer) → list_any (plain.passes (passes test)) m ≡ false → answers (find test) m b → plain.Answer.found None ≡ b
none_alike test m (plain.Answer.found None) none is = refl
none_alike test m (plain.Answer.found (Some x)) none is = let bad : true ≡ false = sym (member_any (plain.passes (passes test)) m x is.0 is.1) ∙ none in cc
none_alike test m (plain.Answer.number n) none is = absurd is
none_alike test m (plain.Answer.truth b) none is = absurd is
none_alike test m (plain.Answer.made n) none is = absurd is
none_alike test m (plain.Answer.images n) none is = absurd is
none_alike test m (plain.Answer.item n) none is = absurd is

-- the reply has no pair
pub other_for : (test : Test) (m : ScriptMap) (reply : List ℕ) (part : ScriptPart) → TellsNoPair reply → IsPartFor (find test) m part → IsOnlyInReply (find test) m reply part
other_for test m reply part none p (plain.Answer.found None) is e = ap (λ (b : ProgramAnswer). plain.summary b) (none_alike test m (answer_of part) is p.answer)
other_for test m reply part none p (plain.Answer.found (Some x)) is e = absurd (none x.0 x.1 e)
other_for test m reply part none p (plain.Answer.number n) is e = absurd is
other_for test m reply part none p (plain.Answer.truth b) is e = absurd is
other_for test m reply part none p (plain.Answer.made n) is e = absurd is
other_for test m reply part none p (plain.Answer.images n) is e = absurd is
other_for test m reply part none p (plain.Answer.item n) is e = absurd is

-- ---- the reply to any query

no_choice : (q : ScriptQuestion) → asks_pair q ≡ false → asks_images q ≡ false → asks_choice q ≡ false
no_choice (find test) found made = cc
no_choice (paired mapping to) found made = cc
no_choice q found made = refl

-- a question that asks for no pair and no images has one answer
pub one_for : (q : ScriptQuestion) (m : ScriptMap) (reply : List ℕ) (part : ScriptPart) → asks_pair q ≡ false → asks_images q ≡ false → IsPartFor q m part → IsOnlyInReply q m reply part
one_for q m reply part found made p a is e =
    let never = no_choice q found made in
    ap (λ (b : ProgramAnswer). plain.summary b) (is_the_answer q m a never is ∙ sym (is_the_answer q m (answer_of part) never p.answer))

-- the reply to a script is what the journal shows, but of images
shown_as : (q : ScriptQuestion) (m : ScriptMap) (a : ProgramAnswer) → asks_images q ≡ false → answers q m a → text_of (summary_reply (plain.summary a)) ≡ outcome_text (finished (plain.summary a))
shown_as (paired mapping to) m (plain.Answer.images n) never is = cc
shown_as q m (plain.Answer.images n) never is = absurd is
shown_as q m (plain.Answer.number n) never is = refl
shown_as q m (plain.Answer.truth b) never is = refl
shown_as q m (plain.Answer.found x) never is = refl
shown_as q m (plain.Answer.made n) never is = refl
shown_as q m (plain.Answer.item i) never is = refl

-- the only answer that may have this reply has another
pub shown_otherwise : (q : ScriptQuestion) (m : ScriptMap) (reply : List ℕ) (part : ScriptPart) (b : ProgramSummary) → asks_images q ≡ false → IsPartFor q m part → IsOnlyInReply q m reply part → b ≡ plain.summary (answer_of part)
    → (reply ≡ text_of (summary_reply b) → ⊥) → NoneInReply q m reply
shown_otherwise q m reply part b never p only same other a is e = other (e ∙ ap (λ (c : ProgramSummary). outcome_text (finished c)) (only a is e) ∙ sym (ap (λ (c : ProgramSummary). text_of (summary_reply c)) same ∙ shown_as q m (answer_of part) never p.answer))

-- it has this reply
pub told_so : (q : ScriptQuestion) (m : ScriptMap) (reply : List ℕ) (part : ScriptPart) (b : ProgramSummary) → asks_images q ≡ false → IsPartFor q m part → b ≡ plain.summary (answer_of part) → reply ≡ text_of (summary_reply b)
    → reply ≡ outcome_text (finished (plain.summary (answer_of part)))
told_so q m reply part b never p same is = is ∙ ap (λ (c : ProgramSummary). text_of (summary_reply c)) same ∙ shown_as q m (answer_of part) never p.answer

-- the text that tells the part
pub told_part : (q : ScriptQuestion) (m : ScriptMap) (reply : List ℕ) (found : Option ScriptPart) (part : ScriptPart) → found ≡ Some part
    → MatchOption found (NoneInReply q m reply) (λ x. IsPartFor q m x × (reply ≡ outcome_text (finished (plain.summary (answer_of x))))) → reply ≡ outcome_text (finished (plain.summary (answer_of part)))
told_part q m reply None part e h = cc
told_part q m reply (Some x) part e h = let same : x ≡ part = cc in subst (λ (y : ScriptPart). reply ≡ outcome_text (finished (plain.summary (answer_of y)))) same h.1

-- ---- the reply to a query for images

-- the map that was read answers, and the text shows it
pub images_for : (q : ScriptQuestion) (mapping : PairMapping) (to : ℕ) (m told : ScriptMap) (v : Contents (List ℕ) ℤ) (w : ScriptMap) (reply : List ℕ) → q ≡ paired mapping to → v.limit ≡ MOST_PAIRS → v.stamp ≡ 0 → w ≡ v.entries → HasAllRead (image_of mapping) m told v.entries → reply ≡ text_of (replies.Pairs w)
    → IsPartFor q m (parts.Images v w) × (reply ≡ outcome_text (finished (plain.summary (answer_of {K = List ℕ} {V = ℤ} {I = Item} (parts.Images v w)))))
images_for q mapping to m told v w reply same limit stamp seen all is =
    (subst (λ (x : ScriptQuestion). IsPartFor x m (parts.Images v w)) (sym same) (record { loose = (limit, stamp, sym seen); answer = subst (λ (n : ScriptMap). IsImage bytes_cmp (image_of mapping) m n) (sym seen) all.image }), is)

-- what is not shown so is not
pub never_shown : (b : Bool) → b ≡ false → IsTrue b → ⊥
never_shown b none shown = let bad : true ≡ false = sym shown ∙ none in cc

-- the text shows no map but the one that was read, and that has another text
pub images_none : (q : ScriptQuestion) (mapping : PairMapping) (to : ℕ) (m some told w : ScriptMap) (reply : List ℕ) → q ≡ paired mapping to → IsImage bytes_cmp (image_of mapping) m some → IsMap bytes_cmp some → AreValuesInReply some reply told
    → HasAllRead (image_of mapping) m told w → (reply ≡ text_of (replies.Pairs w) → ⊥) → NoneInReply q m reply
images_none q mapping to m some told w reply same is sorted values all other = subst (λ (x : ScriptQuestion). NoneInReply x m reply) (sym same) none
  where
    none : NoneInReply (paired mapping to) m reply
    none (plain.Answer.images n) image e = other (e ∙ ap (λ (x : ScriptMap). text_of (replies.Pairs x)) (only_images (image_of mapping) m some told w n reply is sorted values all image image.is_map e))
    none (plain.Answer.number n) image e = absurd image
    none (plain.Answer.truth b) image e = absurd image
    none (plain.Answer.found x) image e = absurd image
    none (plain.Answer.made n) image e = absurd image
    none (plain.Answer.item i) image e = absurd image

-- the map that a part of images makes
pub made_images : (mapping : PairMapping) (to : ℕ) (q : ScriptQuestion) (m : ScriptMap) (part : ScriptPart) (n : ScriptMap) → q ≡ paired mapping to → IsPartFor q m part → n ≡ plain.map_of (answer_of part) → IsImage bytes_cmp (image_of mapping) m n
made_images mapping to q m part n same p is = by (answer_of part) (subst (λ (x : ScriptQuestion). answers x m (answer_of part)) same p.answer) is
  where
    by : (a : ProgramAnswer) → answers (paired mapping to) m a → n ≡ plain.map_of a → IsImage bytes_cmp (image_of mapping) m n
    by (plain.Answer.images k) image e = subst (IsImage bytes_cmp (image_of mapping) m) (sym e) image
    by (plain.Answer.number k) image e = absurd image
    by (plain.Answer.truth b) image e = absurd image
    by (plain.Answer.found x) image e = absurd image
    by (plain.Answer.made k) image e = absurd image
    by (plain.Answer.item i) image e = absurd image

-- the version that is made of it has that map
pub made_of : (mapping : PairMapping) (to : ℕ) (q : ScriptQuestion) (m : ScriptMap) (part : ScriptPart) (made : Option (Contents (List ℕ) ℤ)) (v : Contents (List ℕ) ℤ) → q ≡ paired mapping to → IsPartFor q m part
    → MakesFor (target_of q) (answer_of part) made → made ≡ Some v → IsImage bytes_cmp (image_of mapping) m v.entries
made_of mapping to q m part made v same p makes is =
    let there = subst (λ (x : ScriptQuestion). MakesFor (target_of x) (answer_of part) made) same makes in
    let here = subst (λ (x : Option (Contents (List ℕ) ℤ)). MakesFor (Some to) (answer_of part) x) is there in
    made_images mapping to q m part v.entries same p here.0
