use Rattle.std.proofs.Common.{◌≡◌, ◌⊎◌, inl, inr, subst, sym}
use Rattle.std.specs.Prelude.{IsTrue}
use Rattle.std.specs.Str.{IsUtf8}
use Rattle.arguments.specs.Numbers.{StartsNumber, StartsNegative}
use Rattle.arguments.proofs.NumberLemmas.{value_starts, value_utf8, value_read}
use Rattle.arguments.proofs.number.value_of.Goals as goal
use Rattle.arguments.proofs.number.value_of.Goals.{else-not-starts_number-via-then-not-starts_number+else-not-starts_negative, else-not-starts_number-via-else-not-starts_number}

pub returns-then-not-starts_negative : goal.returns-then-not-starts_negative
returns-then-not-starts_negative c = λ z fits is.
    elim (value_starts z fits) [
      | inl s ↦ let yes : IsTrue c.starts_number.result = c.starts_number.ensures.1 (subst StartsNumber (sym is) s) in cc
      | inr s ↦ let yes : IsTrue c.starts_negative.result = c.starts_negative.ensures.1 (subst StartsNegative (sym is) s) in cc
    ]

pub returns-in-Ok : goal.returns-in-Ok
returns-in-Ok c =
    let text : c.in-Ok.text.now ≡ c.args.field.now = c.in-Ok.ensures.cases.0 in
    let starts : StartsNumber c.args.field.now ⊎ StartsNegative c.args.field.now = elim c.else-not-starts_number.branch [
      | else-not-starts_number-via-then-not-starts_number+else-not-starts_negative w ↦ inr (w.starts_negative.ensures.0 w.if-not-starts_negative.false)
      | else-not-starts_number-via-else-not-starts_number w ↦ inl (c.starts_number.ensures.0 w.if-not-starts_number.false)
    ] in
    rw (c.ok.ensures.value, ← text) (value_read c.in-Ok.text.now c.parse.result c.parse.ensures.value.0 (rw text starts))

pub returns-in-Err : goal.returns-in-Err
returns-in-Err c = λ z fits is. c.in-Err.ensures.cases.0 (subst IsUtf8 (sym is) (value_utf8 z fits))
