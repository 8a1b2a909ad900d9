use Rattle.std.proofs.Common.{ℕ, List, cond, refl, ap, sym, arith}
use Rattle.std.proofs.lemmas.Bool.{lt-ltb, le-ltb}
use Rattle.c_map.specs.Pages.{listed, spelled}
use Rattle.c_map.specs.declared.page.Filling.{Filling}
use Rattle.c_map.proofs.Packed.{page_of}
use Rattle.c_map.proofs.Spelled.{length-spelled}
use Rattle.c_map.proofs.page.page.Goals as goal

pub returns-then-at-gt0 : goal.returns-then-at-gt0
returns-then-at-gt0 g c =
    let at = c.fill_map-at.result in
    let now : Filling × List ℕ = (at, c.fill_map-at.new.buffer) in
    page_of
    (spelled g.V.Shown.number g.V.Shown.bytes)
    (λ e. omega (arith, length-spelled g.V.Shown.number g.V.Shown.bytes e))
    (listed c.args.map.now)
    c.args.buffer.now
    c.args.from
    _
    now
    c.fill_map-at.ensures
    refl
    (sym (ap (λ b. cond b at.used at.next) (lt-ltb 0 at.pairs c.if-at-gt0.true)))

pub returns-else-at-gt0 : goal.returns-else-at-gt0
returns-else-at-gt0 g c =
    let at = c.fill_map-at.result in
    let now : Filling × List ℕ = (at, c.fill_map-at.new.buffer) in
    page_of
    (spelled g.V.Shown.number g.V.Shown.bytes)
    (λ e. omega (arith, length-spelled g.V.Shown.number g.V.Shown.bytes e))
    (listed c.args.map.now)
    c.args.buffer.now
    c.args.from
    _
    now
    c.fill_map-at.ensures
    refl
    (sym (ap (λ b. cond b at.used at.next) (le-ltb 0 at.pairs c.if-at-gt0.false)))
