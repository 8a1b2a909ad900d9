use Rattle.std.proofs.Common.{◌≡◌, ◌∙◌, false, IfSome, is_some, option_map, sym, subst}
use Rattle.bulk_ops.specs.Meanings.{MayAnswer}
use Rattle.stripe.proofs.Seeing.{wrote_behind}
use Rattle.versions.specs.Map.{value_at}
use Rattle.write_history.specs.declared.entry.Write.TheVariants.{Remove}
use Rattle.write_history.specs.Signers.{WroteIf}
use Rattle.map_session.proofs.Turns.{goes_on_self, removes_if}
use Rattle.map_session.proofs.session.many.remove_behind.Goals as goal

pub returns-then-passes-clause-wrote : goal.returns-then-passes-clause-wrote
returns-then-passes-clause-wrote g c = goes_on_self (record { log = c.args.front.now; signer = c.args.author.now })

pub returns-clause-wrote : goal.returns-clause-wrote
returns-clause-wrote g c =
    let R = g.K.Ord.cmp in
    let path = g.K.PathKey.path_of in
    let k = (g.S.KeySlots.key_of c.args.key.now) in
    let removed = c.in_ok-removed.removed in
    let before = option_map g.S.ValueSlots.value_of removed in
    let fails = c.passes.ensures.fails c.if-passes.false in
    let there = subst (λ (j : g.row.K.Denot). before ≡ value_at R c.meet.new.self.entries j) c.lend_key.ensures c.in_ok-removed.ensures.before in
    let kept = subst (λ (j : g.row.K.Denot). IfSome removed (λ v. g.P.Keeps.holds j (g.S.ValueSlots.value_of v))) c.lend_key.ensures c.in_ok-removed.ensures.kept in
    let wrote = subst (λ (j : g.row.K.Denot). WroteIf R path (is_some removed) (Remove j) j before c.args.author.now c.meet.new.self.log c.remove.new.self.log) c.lend_key.ensures (c.in_ok-removed.ensures.wrote c.law.ensures) in
    removes_if R path g.S.ValueSlots.value_of k (g.P.Keeps.holds k) (λ value. MayAnswer g.F.Fn c.args.test.now k value false) removed fails.0
    (record { log = c.args.front.now; signer = c.args.author.now }) (record { log = c.tell.new.front; signer = c.remove.new.author })
    (there ∙ fails.1) kept fails.2
    (subst (WroteIf R path (is_some removed) (Remove k) k before c.args.author.now c.args.front.now) (sym c.tell.ensures)
    (wrote_behind R path (is_some removed) (Remove k) k before c.args.author.now c.args.front.now c.meet.new.self.log c.remove.new.self.log c.meet.ensures.seen wrote))
    c.in_ok-removed.ensures.author
