use Rattle.std.proofs.Common.{sym, ◌∙◌}
use Rattle.script.proofs.ScriptLemmas.{same_lines}
use Rattle.script.proofs.laws.text_has_one_script.Goals as goal

pub returns : goal.returns
returns c = λ text one other spells does. same_lines one other spells.lawful does.lawful (sym spells.words ∙ does.words)
