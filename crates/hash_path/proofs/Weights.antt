-- Lists of digits, weighed with the first as the most significant, at any number of bits.
use Rattle.std.proofs.Common.{◌≡◌, ℕ, zero, suc, ◌+◌, ◌-◌, ◌*◌, ◌/◌, ◌%◌, ◌^◌, ◌<◌, ◌≤◌, List, [], ◌∷◌, ◌++◌, length, take, refl, sym, ◌∙◌, ap, arith, inl, inr}
use Rattle.std.proofs.lemmas.Nat.{pow_pos, pow-add, same_from_place, mul-le, mod_below, div_below, div-add-mod'}
use Rattle.std.proofs.lemmas.Bool.{cases_lt}
use Rattle.std.proofs.Math.Nat.{pow-le-pow_right}
use Rattle.std.specs.declared.cmp.Ordering.{Ordering}
use Rattle.std.specs.declared.cmp.Ordering.TheVariants.{Less, Equal, Greater}
use Rattle.std.specs.Ordering.{MatchOrdering, nat_cmp, ordering_then}
use Rattle.std.specs.Cmp.{nat_cmp_is, ranks}
use Rattle.std.specs.Cmp.Lexicographic.{slice_cmp}
use Rattle.hash_path.specs.Digits.{digit_bits, fan_out, breadth, weighed}

-- how many digits there are at a level: fewer at the last, which has the bits that are left
abbrev pub kinds : ℕ → ℕ → ℕ
kinds bits level = 2 ^ (bits - digit_bits * level - (bits - digit_bits * (level + 1)))

-- each digit leaves room for the digits after it
abbrev pub Fits : ℕ → ℕ → List ℕ → Type 0
Fits bits level [] = Unit {0}
Fits bits level (d ∷ ds) =
    (d * breadth bits (level + 1) + breadth bits (level + 1) ≤ breadth bits level) × Fits bits (level + 1) ds

pub breadth-positive : (bits level : ℕ) → 0 < breadth bits level
breadth-positive bits level = pow_pos (bits - digit_bits * level)

-- the positions that begin with these digits end where those that share the level's digits end, or before
pub weighed-within : (bits level end : ℕ) (ds : List ℕ) → level + length ds ≡ end → Fits bits level ds →
    weighed bits level ds + breadth bits end ≤ breadth bits level
weighed-within bits level end [] e f = let same : breadth bits level ≡ breadth bits end = ap (breadth bits) (omega (arith, e)) in omega (arith, same)
weighed-within bits level end (d ∷ ds) e f =
    let below = weighed-within bits (level + 1) end ds (omega (arith, e)) f.1 in
    omega (arith, below, f.0)

pub weighed-below : (bits level : ℕ) (ds : List ℕ) → Fits bits level ds → weighed bits level ds < breadth bits level
weighed-below bits level ds f =
    omega (arith, weighed-within bits level (level + length ds) ds refl f, breadth-positive bits (level + length ds))

pub weighed-append : (bits level end : ℕ) (ds es : List ℕ) → level + length ds ≡ end →
    weighed bits level (ds ++ es) ≡ weighed bits level ds + weighed bits end es
weighed-append bits level end [] es e =
    let same : weighed bits level es ≡ weighed bits end es = ap (λ n. weighed bits n es) (omega (arith, e)) in omega (arith, same)
weighed-append bits level end (d ∷ ds) es e =
    let rest = weighed-append bits (level + 1) end ds es (omega (arith, e)) in
    omega (arith, rest)

-- a position in the interval of a prefix begins with that prefix
pub take-within : (bits level end : ℕ) (ds es : List ℕ) → level + length ds ≡ end → length ds ≤ length es →
    Fits bits level ds → Fits bits level es →
    weighed bits level ds ≤ weighed bits level es → weighed bits level es < weighed bits level ds + breadth bits end →
    take (length ds) es ≡ ds
take-within bits level end [] es e short f g low high = refl
take-within bits level end (d ∷ ds) [] e short f g low high = absurd (omega (arith, short))
take-within bits level end (d ∷ ds) (x ∷ xs) e short f g low high =
    let unit : ℕ = breadth bits (level + 1) in
    let left : ℕ = x * unit + weighed bits (level + 1) xs - d * unit in
    let within = weighed-within bits (level + 1) end ds (omega (arith, e)) f.1 in
    let below = weighed-below bits (level + 1) xs g.1 in
    let is_left : d * unit + left ≡ x * unit + weighed bits (level + 1) xs = omega (arith, low) in
    let same = same_from_place d left x (weighed bits (level + 1) xs) unit (omega (arith, is_left, within, high)) below is_left in
    let rest = take-within bits (level + 1) end ds xs (omega (arith, e)) (omega (arith, short)) f.1 g.1
    (omega (arith, is_left, same.1, low)) (omega (arith, is_left, same.1, high)) in
    ap (λ n. n ∷ take (length ds) xs) (sym same.0) ∙ ap (λ ys. d ∷ ys) rest

-- the digits of a level come in as many kinds as they leave room for
pub breadth-splits : (bits level : ℕ) →
    breadth bits level ≡ kinds bits level * breadth bits (level + 1)
breadth-splits bits level =
    let here : ℕ = bits - digit_bits * level in
    let next : ℕ = bits - digit_bits * (level + 1) in
    let whole : here ≡ here - next + next = omega arith in
    ap (λ n. 2 ^ n) whole ∙ pow-add 2 (here - next) next

pub fits-below : (bits level d : ℕ) → d < kinds bits level →
    d * breadth bits (level + 1) + breadth bits (level + 1) ≤ breadth bits level
fits-below bits level d small =
    let more = mul-le (d + 1) (breadth bits (level + 1)) (kinds bits level) (breadth bits (level + 1)) (omega (arith, small)) (omega arith) in
    omega (arith, more, breadth-splits bits level)

pub breadth-none : (bits level : ℕ) → bits ≤ digit_bits * level → breadth bits level ≡ 1
breadth-none bits level end = let none : bits - digit_bits * level ≡ 0 = omega (arith, end) in ap (λ n. 2 ^ n) none

-- digits of this weight
pub record Weighs (bits level count p : ℕ) : Type 0 where
  pub digits : List ℕ
  pub many : length digits ≡ count
  pub fits : Fits bits level digits
  pub weight : weighed bits level digits ≡ p

pub weighs : (bits level count p : ℕ) → bits ≤ digit_bits * (level + count) → p < breadth bits level → Weighs bits level count p
weighs bits level zero p end small =
    let none = breadth-none bits level (omega (arith, end)) in
    record { digits = []; many = refl; fits = tt; weight = omega (arith, none, small) }
weighs bits level (suc count) p end small =
    let unit : ℕ = breadth bits (level + 1) in
    let rest = weighs bits (level + 1) count (p % unit) (omega (arith, end)) (mod_below p unit (breadth-positive bits (level + 1))) in
    let first : p / unit < kinds bits level = div_below p unit (kinds bits level) (breadth-positive bits (level + 1)) (omega (arith, breadth-splits bits level, small)) in
    record {
      digits = p / unit ∷ rest.digits;
      many = ap (λ n. suc n) rest.many;
      fits = (fits-below bits level (p / unit) first, rest.fits);
      weight = omega (arith, rest.weight, div-add-mod' p unit);
    }

-- a digit that fits is below the fan-out
pub fits-small : (bits level d : ℕ) → d * breadth bits (level + 1) + breadth bits (level + 1) ≤ breadth bits level → d < fan_out
fits-small bits level d fits =
    let unit : ℕ = breadth bits (level + 1) in
    let whole : bits - digit_bits * level - (bits - digit_bits * (level + 1)) ≤ digit_bits = omega arith in
    let few : kinds bits level ≤ fan_out = pow-le-pow_right (omega arith) whole in
    let most = mul-le (kinds bits level) unit fan_out unit few (omega arith) in
    elim (cases_lt d fan_out) [
      | inl small ↦ small
      | inr large ↦
          absurd (omega (arith, fits, most, breadth-splits bits level, breadth-positive bits (level + 1), mul-le fan_out unit d unit large (omega arith)))
    ]

-- a level with a whole digit has as many of the next level's intervals as the fan-out
pub breadth-whole : (bits level : ℕ) → digit_bits * (level + 1) ≤ bits → breadth bits level ≡ fan_out * breadth bits (level + 1)
breadth-whole bits level room =
    let whole : bits - digit_bits * level - (bits - digit_bits * (level + 1)) ≡ digit_bits = omega (arith, room) in
    breadth-splits bits level ∙ ap (λ n. 2 ^ n * breadth bits (level + 1)) whole

-- numbers of two places compare by the first place, and then by the second
nat_cmp-places : (a b c d unit : ℕ) → b < unit → d < unit →
    nat_cmp (a * unit + b) (c * unit + d) ≡ ordering_then (nat_cmp a c) (nat_cmp b d)
nat_cmp-places a b c d unit b_small d_small = by_first (nat_cmp a c) (ranks a c)
  where
    by_second : (r : Ordering) → a ≡ c → MatchOrdering r (b < d) (b ≡ d) (d < b) →
        MatchOrdering r (a * unit + b < c * unit + d) (a * unit + b ≡ c * unit + d) (c * unit + d < a * unit + b)
    by_second Less same less = omega (arith, less, ap (λ n. n * unit) same)
    by_second Equal same equal = omega (arith, equal, ap (λ n. n * unit) same)
    by_second Greater same more = omega (arith, more, ap (λ n. n * unit) same)

    by_first : (r : Ordering) → MatchOrdering r (a < c) (a ≡ c) (c < a) →
        nat_cmp (a * unit + b) (c * unit + d) ≡ ordering_then r (nat_cmp b d)
    by_first Less less =
        let next = mul-le (a + 1) unit c unit (omega (arith, less)) (omega arith) in
        let below : a * unit + b < c * unit + d = omega (arith, next, b_small) in
        sym (nat_cmp_is (a * unit + b) (c * unit + d) Less below)
    by_first Equal same = sym (nat_cmp_is (a * unit + b) (c * unit + d) (nat_cmp b d) (by_second (nat_cmp b d) same (ranks b d)))
    by_first Greater more =
        let next = mul-le (c + 1) unit a unit (omega (arith, more)) (omega arith) in
        let above : c * unit + d < a * unit + b = omega (arith, next, d_small) in
        sym (nat_cmp_is (a * unit + b) (c * unit + d) Greater above)

-- what digits weigh is in the order in which a dictionary has them
pub weighed-order : (bits level : ℕ) (ds es : List ℕ) → length ds ≡ length es → Fits bits level ds → Fits bits level es →
    nat_cmp (weighed bits level ds) (weighed bits level es) ≡ slice_cmp nat_cmp ds es
weighed-order bits level [] [] long f g = refl
weighed-order bits level [] (x ∷ xs) long f g = absurd (omega (arith, long))
weighed-order bits level (d ∷ ds) [] long f g = absurd (omega (arith, long))
weighed-order bits level (d ∷ ds) (x ∷ xs) long f g =
    let rest = weighed-order bits (level + 1) ds xs (omega (arith, long)) f.1 g.1 in
    nat_cmp-places d (weighed bits (level + 1) ds) x (weighed bits (level + 1) xs) (breadth bits (level + 1)) (weighed-below bits (level + 1) ds f.1)
    (weighed-below bits (level + 1) xs g.1) ∙ ap (λ r. ordering_then (nat_cmp d x) r) rest
