use Rattle.std.proofs.Common.{◌∙◌, option_map}
use Rattle.map_session.proofs.Updated.{there_and}
use Rattle.map_session.proofs.session.Session.remove_if.Goals as goal

pub returns-clause-wrote : goal.returns-clause-wrote
returns-clause-wrote g c =
    let removal = c.in_ok-removal in
    (option_map g.S.ValueSlots.value_of removal.field-0.previous, removal.ensures.wrote, removal.ensures.written ∙ there_and g.S.ValueSlots.value_of _ removal.field-0.previous)
