use Rattle.std.proofs.Common.{◌≡◌, ◌+◌, ◌≤◌, length, w64, ap, ◌∙◌, arith}
use Rattle.std.specs.Int.{to_le_bytes}
use Rattle.c_map.specs.Pages.{spelled, written}
use Rattle.c_map.proofs.Fillings.{filled_one-pushed}
use Rattle.c_map.proofs.Spelled.{length-spelled, written-parts}
use Rattle.c_map.proofs.page.fill_one.Goals as goal

-- the four parts lie one behind another
pub returns-clause-filled : goal.returns-clause-filled
returns-clause-filled g c =
    let number = g.V.Shown.number in
    let bytes = g.V.Shown.bytes in
    let at = c.args.at in
    let b = c.args.buffer.now in
    let key = c.args.key.now in
    let value = c.args.value.now in
    let long = length-spelled number bytes (key, value) in
    let tail = ap length c.bytes-bytes.ensures in
    let size : c.saturating_add-size.result ≡ length (spelled number bytes (key, value)) = omega (arith, long, tail, c.saturating_add-size.ensures, c.saturating_sub.ensures, c.if-size-saturating_sub.false) in
    let fits : at.used + length (spelled number bytes (key, value)) ≤ length b = omega (arith, long, size, c.saturating_sub.ensures, c.if-size-saturating_sub.false) in
    let all =
    written-parts number bytes b c.write_at.new.buffer c.write_at-2.new.buffer c.write_at-3.new.buffer c.write_at-4.new.buffer at.used (key, value) fits
    (c.write_at.ensures ∙ ap (written b at.used) c.to_le_bytes.ensures)
    (c.write_at-2.ensures ∙ ap (written c.write_at.new.buffer (at.used + 8)) (c.to_le_bytes-2.ensures ∙ ap (to_le_bytes w64) c.number.ensures))
    c.write_at-3.ensures
    (c.write_at-4.ensures ∙ ap (written c.write_at-3.new.buffer (at.used + 16 + length key)) c.bytes-bytes.ensures) in
    filled_one-pushed (spelled number bytes) at b c.write_at-4.new.buffer (key, value) c.saturating_add-size.result size all (grind (arith, c.if-at-gt0.false)) (grind (arith, c.if-at-gt0-2.false)) (grind (arith, fits, long))
