use Rattle.std.proofs.Common.{sym, ◌∙◌}
use Rattle.trie_shape.specs.Inside.{lent}
use Rattle.trie_shape.proofs.Ways.{turn, absent}
use Rattle.trie_lookups.proofs.Steps.{child_within, child_leads}
use Rattle.trie_lookups.proofs.step.step_below.Goals as goal

pub returns-then-not-has_digit : goal.returns-then-not-has_digit
returns-then-not-has_digit g c k word_is =
    let a = c.args in
    let d = c.digit-digit.ensures in
    let u = turn g.K.Ord.cmp g.K.PathKey.path_of a.level (lent a.below) c.requires word_is d.value d.small in
    absent u g.met.K.PathKey.exact (sym c.has_digit.ensures ∙ c.if-not-has_digit.true)

pub nth-requires : goal.nth-requires
nth-requires g c =
    let a = c.args in
    child_within g.K.Ord.cmp g.K.PathKey.path_of a.level (lent a.below) c.requires c.digit-digit.ensures.small (sym c.has_digit.ensures ∙ c.if-not-has_digit.false) c.place.ensures

pub returns : goal.returns
returns g c =
    let a = c.args in
    let d = c.digit-digit.ensures in
    child_leads g.K.Ord.cmp g.K.PathKey.path_of a.level (lent a.below) c.requires d.small (sym c.has_digit.ensures ∙ c.if-not-has_digit.false) c.place.ensures g.met.K.PathKey.exact c.nth.ensures d.value
