use Rattle.std.proofs.Common.{arith, ◌≡◌, subst, sym}
use Rattle.std.specs.Prelude.{IsTrue}
use Rattle.std.specs.Str.{IsUtf8}
use Rattle.arguments.specs.Numbers.{StartsNumber}
use Rattle.arguments.proofs.NumberLemmas.{decimal_starts, number_utf8, number_read}
use Rattle.arguments.proofs.number.number_of.Goals as goal

pub returns-then-not-starts_number : goal.returns-then-not-starts_number
returns-then-not-starts_number c = λ n below is.
    let yes : IsTrue c.starts_number.result = c.starts_number.ensures.1 (subst StartsNumber (sym is) (decimal_starts n (omega arith))) in cc

pub returns-in-Ok : goal.returns-in-Ok
returns-in-Ok c =
    let text : c.in-Ok.text.now ≡ c.args.field.now = c.in-Ok.ensures.cases.0 in
    let starts : StartsNumber c.in-Ok.text.now = subst StartsNumber (sym text) (c.starts_number.ensures.0 c.if-not-starts_number.false) in
    rw (c.ok.ensures.value, ← text) (number_read c.in-Ok.text.now c.parse.result c.parse.ensures.value.0 starts)

pub returns-in-Err : goal.returns-in-Err
returns-in-Err c = λ n below is. c.in-Err.ensures.cases.0 (subst IsUtf8 (sym is) (number_utf8 n (omega arith)))
