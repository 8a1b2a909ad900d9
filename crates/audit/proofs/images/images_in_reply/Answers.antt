use Rattle.std.proofs.Common.{◌≡◌, ◌∙◌, ap, sym}
use Rattle.versions.specs.Map.{Map}
use Rattle.std.specs.Prelude.{ℕ, ℤ, List}
use Rattle.script.specs.Replies.{text_of}
use Rattle.script.specs.declared.reply.LineReply.TheVariants as replies
use Rattle.audit.proofs.ReplyPartLemmas.{images_none, never_shown}
use Rattle.audit.proofs.images.images_in_reply.Goals as goal

-- the only map that the text may show has another text
pub returns-in-Ok-false : goal.returns-in-Ok-false
returns-in-Ok-false c =
    let made = c.in_ok-map.map.entries in
    let listed : c.in-Ok-view.images ≡ made = c.in-Ok-view.ensures in
    images_none c.args.query.now c.args.mapping.now c.requires.0 c.args.view.now c.in_ok-some.some.entries c.in-Ok.read.entries made c.args.reply.now c.requires.1 c.in_ok-some.ensures.image c.in_ok-some.ensures.sorted c.in-Ok.ensures
    c.in_ok-map.ensures.read
    (λ e. never_shown c.in-Ok-false.field-0 c.in-Ok-false.field-0-test (c.in-Ok-false.ensures.1 (e ∙ ap (λ (l : Map (List ℕ) ℤ). text_of (replies.Pairs l)) (sym listed))))
