use Rattle.std.proofs.Common.{◌≡◌, ◌∙◌, ap}
use Rattle.std.proofs.lemmas.Result.{IfOk-weaker}
use Rattle.serde_json.specs.View.{view}
use Rattle.serde_json.specs.Written.{compact_text, has_float}
use Rattle.journal_lines.specs.Lines.{line_data}
use Rattle.journal_lines.proofs.LineLemmas.{line_is_compact}
use Rattle.journal_lines.proofs.line.line_text.Goals as goal

pub returns : goal.returns
returns c =
    let is : view c.in_ok-value.value ≡ line_data c.args.number c.args.call.now c.args.reply.now c.args.seat = c.in_ok-value.ensures in
    IfOk-weaker c.to_string.result _ _ (λ s h. h (ap has_float is) ∙ ap compact_text is ∙ line_is_compact c.args.number c.args.call.now c.args.reply.now c.args.seat) c.to_string.ensures.text
