-- What clap's matches have for an option that takes a number.
use Rattle.std.proofs.Common.{◌≡◌, ◌≢◌, ◌∙◌, ◌<◌, ◌≤◌, ◌==◌, ◌^◌, ◌∷◌, ℕ, Bool, true, false, List, [], length, map, Option, Some, None, codes, slice_index_or, arith, refl, sym, ap, subst, inl, inr, eqb-true, zero-add}
use Rattle.std.specs.Prelude.{All, option_map, pos, slice_get}
use Rattle.std.specs.List.{range_with_len}
use Rattle.std.specs.Borrow.{Bor}
use Rattle.std.specs.Option.{option_map_or}
use Rattle.std.specs.Str.{bytes_eq}
use Rattle.std.proofs.lemmas.List.{get_or-map, length-map}
use Rattle.std.proofs.lemmas.List.Elements.{All-get_or}
use Rattle.std.proofs.lemmas.List.FromFn.{get_or-map-range_with_len}
use Rattle.std.proofs.lemmas.Slice.Eq.{bytes_eq-Decides}
use Rattle.clap.specs.Words.{App, IsParsedFrom, IsSignedIn, Rule, Text, app_of, args_of, found_of, groups_of, matched_of, one_text, parser_of, read_as, reading_of, rule_of, without_minus, Accepts}
use Rattle.clap.specs.Facts.{Entry, EntryPasses, HasReading, PassesArg, parser_of_value}
use Rattle.clap.specs.declared.builder.arg.Arg.{Arg}
use Rattle.clap.specs.declared.builder.command.Command.{Command}
use Rattle.clap.specs.declared.builder.command.Command.TheViews.{out-Command}
use Rattle.clap.specs.declared.builder.value_parser.Reading.{Reading}
use Rattle.clap.specs.declared.builder.value_parser.ValueParser.{ValueParser}
use Rattle.clap.specs.declared.builder.value_parser.ValueParser.TheVariants.{Signed}
use Rattle.clap.specs.declared.parser.matches.ArgMatches.{ArgMatches}
use Rattle.clap.specs.declared.parser.matches.MatchedArg.{MatchedArg}
use Rattle.clap.proofs.CallerLemmas.{entry_by_id, same_rules_by_id}
use Rattle.clap.proofs.SimpleLemmas.{all_simple, plain_fields, simple_groups}
use Rattle.program_io.specs.CommandLine.{command_line, number_of, number_rule}

-- the rules of the program's options and of its file
abbrev rules : List Rule
rules = command_line.top.rules

-- the option at this place has a name that no other has, nor one of clap's own
abbrev pub StandsAlone : ℕ → Text → Type 0
StandsAlone k name = ((j : ℕ) (r : Rule) → j < 5 → bytes_eq (slice_index_or rules j r).id name ≡ true → j ≡ k)
    × (name ≢ []) × (name ≢ codes "help") × (name ≢ codes "version")

module _ (c : Command) (m : ArgMatches) (grammar : app_of c ≡ command_line) (p : IsParsedFrom c m) where
  rules_are : map rule_of (args_of c) ≡ rules
  rules_are = ap (λ (a : App). a.top.rules) grammar

  long : length (args_of c) ≡ 5
  long = sym (length-map (args_of c) rule_of) ∙ ap length rules_are

  rule_at : (j : ℕ) (d : Arg) → j < 5 → rule_of (slice_index_or (args_of c) j d) ≡ slice_index_or rules j (rule_of d)
  rule_at j d below = sym (get_or-map rule_of (args_of c) j d (rule_of d) (omega (arith, long, below))) ∙ ap (λ rs. slice_index_or rs j (rule_of d)) rules_are

  globals : (out-Command c).has_globals ≡ false
  globals = (plain_fields c (ap (λ (a : App). a.top.is_plain) grammar)).globals

  no_groups : groups_of p.built ≡ []
  no_groups = (p.from.same_groups (simple_groups c (ap (λ (a : App). all_simple a.top.rules) grammar))).1 ∙ (plain_fields c (ap (λ (a : App). a.top.is_plain) grammar)).groups

  module _ (k most : ℕ) (name usual : Text) (below : k < 5) (rule_is : (r : Rule) → slice_index_or rules k r ≡ number_rule name most usual) (alone : StandsAlone k name) where
    -- the parser of any argument of the name, as the command is built
    parser_is : (j : ℕ) (x : Arg) → j < length (args_of p.built) → slice_index_or (args_of p.built) j x ≡ x → bytes_eq x.id.now name ≡ true → parser_of x ≡ Signed (pos 1) (pos most)
    parser_is j x within at named =
        let mine = slice_index_or (args_of c) k x in
        let ruled : rule_of mine ≡ number_rule name most usual = rule_at k x below ∙ rule_is (rule_of x) in
        let called : mine.id.now ≡ name = ap (λ (r : Rule). r.id) ruled in
        let same = same_rules_by_id c m p k x (omega (arith, long, below))
        (λ i e lt is. alone.0 i (rule_of e) (omega (arith, long, lt)) (
        subst (λ (t : Text). bytes_eq t name ≡ true) (ap (λ (r : Rule). r.id) (rule_at i e (omega (arith, long, lt)))) (subst (λ (t : Text). bytes_eq (slice_index_or (args_of c) i e).id.now t ≡ true) called is)
        ))
        (λ auto. elim auto [
          | inl help ↦ alone.2 (sym called ∙ help)
          | inr version ↦ alone.3 (sym called ∙ version)
        ])
        j x within at (subst (λ (t : Text). bytes_eq x.id.now t ≡ true) (sym called) named) in
        ap parser_of_value (same.parser (Signed (pos 1) (pos most)) (ap (λ (r : Rule). r.parser) ruled))

    passed : (v : Bor Text) → PassesArg p.built name v.now → IsSignedIn (pos 1) (pos most) v.now
    passed v (j, x, within, at, (named, accepted)) = subst (λ (q : ValueParser). Accepts x.ignore_case q v.now) (parser_is j x within at named) accepted

    read : (how : Reading) → HasReading p.built name how → how ≡ reading_of (Signed (pos 1) (pos most))
    read how (j, x, within, at, (named, is)) = sym is ∙ ap reading_of (parser_is j x within at named)

    -- an entry of the name has passed, and is read without a minus
    entry_is : (x : MatchedArg) (e : Entry) → e.1 ≡ x → e.0.now ≡ name → EntryPasses p.built e → All (λ v. IsSignedIn (pos 1) (pos most) v.now) x.vals.items × (x.reading ≡ reading_of (Signed (pos 1) (pos most)))
    entry_is x e is called passes =
        let own : e.1.is_group ≡ true → ⊥ = λ group. elim (passes.3 group) [
          | inl empty ↦ alone.1 (sym called ∙ empty)
          | inr groups ↦ let none : 0 < 0 = rw no_groups at groups in absurd (omega arith)
        ] in
        let values : All (λ v. PassesArg p.built name v.now) x.vals.items = elim passes.0 [
          | inl group ↦ absurd (own group)
          | inr all ↦ subst (λ (t : Text). All (λ v. PassesArg p.built t v.now) x.vals.items) called (subst (λ (y : MatchedArg). All (λ v. PassesArg p.built e.0.now v.now) y.vals.items) is all)
        ] in
        let how : e.1.reading ≡ reading_of (Signed (pos 1) (pos most)) = elim passes.4 [
          | inl group ↦ absurd (own group)
          | inr has ↦ read e.1.reading (subst (λ (t : Text). HasReading p.built t e.1.reading) called has)
        ] in
        (λ i d lt. passed (slice_index_or x.vals.items i d) (values i d lt), ap (λ (y : MatchedArg). y.reading) (sym is) ∙ how)

    first_read : (vs : List (Bor Text)) (how : Reading) (t : Text) → All (λ v. IsSignedIn (pos 1) (pos most) v.now) vs → how ≡ reading_of (Signed (pos 1) (pos most))
        → option_map (λ s. read_as how s.now) (slice_get vs 0) ≡ Some t → (v : Text) × (t ≡ without_minus v) × IsSignedIn (pos 1) (pos most) v
    first_read [] how t all is given = cc
    first_read (v ∷ vs) how t all is given =
        let minus : Some (without_minus v.now) ≡ Some t = rw is at given in
        (v.now, cc, All-get_or (λ (v : Bor Text). IsSignedIn (pos 1) (pos most) v.now) (v ∷ vs) 0 v (omega arith) all)

    -- the text that is read for the option is that of a number in its range
    pub number_read : (t : Text) → one_text (found_of m) name ≡ Some t → (v : Text) × (t ≡ without_minus v) × IsSignedIn (pos 1) (pos most) v
    number_read t given = go (matched_of (found_of m) name) refl given
      where
        go : (o : Option MatchedArg) → matched_of (found_of m) name ≡ o → one_text (found_of m) name ≡ Some t → (v : Text) × (t ≡ without_minus v) × IsSignedIn (pos 1) (pos most) v
        go None is has = let none : None ≡ Some t = rw is at has in cc
        go (Some x) is has =
            let found = entry_by_id (EntryPasses p.built) (found_of m).entries.items name x (p.parsed (p.from.globals ∙ globals)).values is in
            let entry = entry_is x found.0 found.1 ((bytes_eq-Decides found.0.0.now name).0 found.2) found.3 in
            first_read x.vals.items x.reading t entry.0 entry.1 (rw is at has)

-- a text that the test tells from the name is another
told_apart : (text name : Text) → bytes_eq text name ≡ false → name ≢ text
told_apart text name h is = let same : bytes_eq text name ≡ true = (bytes_eq-Decides text name).1 (sym is) in cc

-- a name that the rule at this place has alone, and that is none of clap's own, stands alone
stands_alone : (k : ℕ) (name : Text) → map (λ (r : Rule). bytes_eq r.id name) rules ≡ map (λ (j : ℕ). j == k) (range_with_len 0 5) → bytes_eq [] name ≡ false → bytes_eq (codes "help") name ≡ false → bytes_eq (codes "version") name ≡ false → StandsAlone k name
stands_alone k name only some no_help no_version = (at, told_apart [] name some, told_apart (codes "help") name no_help, told_apart (codes "version") name no_version)
  where
    at : (j : ℕ) (r : Rule) → j < 5 → bytes_eq (slice_index_or rules j r).id name ≡ true → j ≡ k
    at j r below is =
        let test : (j == k) ≡ true = sym (get_or-map-range_with_len (λ (i : ℕ). i == k) 0 5 j j true below (zero-add j)) ∙ ap (λ (tests : List Bool). slice_index_or tests j true) (sym only) ∙ get_or-map (λ (x : Rule). bytes_eq x.id name) rules j r true below ∙ is in
        eqb-true j k test

-- the text that is read for an option is that of a number in its range
abbrev pub ReadsTo : ArgMatches → Text → ℕ → Type 0
ReadsTo m name most = (t : Text) → one_text (found_of m) name ≡ Some t → (v : Text) × (t ≡ without_minus v) × IsSignedIn (pos 1) (pos most) v

pub workers_read : (c : Command) (m : ArgMatches) → app_of c ≡ command_line → IsParsedFrom c m → ReadsTo m (codes "workers") 16
workers_read c m grammar p = number_read c m grammar p 0 16 (codes "workers") (codes "4") (omega arith) (λ r. refl) (stands_alone 0 (codes "workers") refl refl refl refl)

pub grain_read : (c : Command) (m : ArgMatches) → app_of c ≡ command_line → IsParsedFrom c m → ReadsTo m (codes "grain") 65536
grain_read c m grammar p = number_read c m grammar p 1 65536 (codes "grain") (codes "1024") (omega arith) (λ r. refl) (stands_alone 1 (codes "grain") refl refl refl refl)

-- the number that is given for an option is that of its text, or the usual one, and in the option's range
pub number_given : (given : Option Text) (most usual n : ℕ) → 1 ≤ usual → usual ≤ most → most < 2 ^ 32
    → ((t : Text) → given ≡ Some t → (v : Text) × (t ≡ without_minus v) × IsSignedIn (pos 1) (pos most) v)
    → (given ≡ None → n ≡ usual)
    → ((v : Text) (low high : ℕ) → given ≡ Some (without_minus v) → IsSignedIn (pos low) (pos high) v → high < 2 ^ 32 → (n ≡ number_of (without_minus v)) × (low ≤ n) × (n ≤ high))
    → (n ≡ option_map_or number_of given usual) × (1 ≤ n) × (n ≤ most)
number_given None most usual n least within fits reads none some = let is = none refl in (is, omega (arith, is, least), omega (arith, is, within))
number_given (Some t) most usual n least within fits reads none some =
    let v = reads t refl in
    let is = some v.0 1 most (ap (λ (x : Text). Some x) v.1) v.2 fits in
    (is.0 ∙ ap number_of (sym v.1), is.1, is.2)
