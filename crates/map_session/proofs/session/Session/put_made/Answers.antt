use Rattle.std.proofs.Common.{rules}
use Rattle.std.proofs.Common.{option_map}
use Rattle.map_session.proofs.Making.{put_value}
use Rattle.map_session.proofs.session.Session.put_made.Goals as goal

pub returns-in-None-clause-read : goal.returns-in-None-clause-read
returns-in-None-clause-read g c =
    put_value g.K.Ord.cmp g.K.PathKey.path_of g.met.K.Ord.total c.in_ok-before.field-0.written (g.S.KeySlots.key_of c.in_ok-key.key) c.args.key (g.S.ValueSlots.value_of c.in_ok-made.made) (g.S.ValueSlots.value_of c.in_ok-answer.answer) (option_map g.S.ValueSlots.value_of c.in_ok-before.field-0.previous) c.args.self.now.signer c.args.self.now.log c.write.new.self.log
    c.in_ok-before.ensures.written (search rules) c.in_ok-key.ensures.ok (search rules) c.in_ok-before.ensures.wrote
