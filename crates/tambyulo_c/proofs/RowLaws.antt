-- The laws of the types of the two maps.
use Rattle.tambyulo_c.proofs.Steps.{refl}
use Rattle.c_map.proofs.map.Map.TheLaws as map
use Rattle.keys.proofs.text.ByteText.TheLaws as text'
use Rattle.keys.specs.contracts.text.ByteText as text
use Rattle.tambyulo_c.specs.Rows as rows
use denote.Builtin.{u64}
use denote.Param.Laws.{Laws, of_field}
use denote.Param.Shared.{copy_shared}
use denote.Struct.Field.{u64-field}
use denote.Struct.Laws.{u64-laws, u64-copy}

abbrev pub numbers : Laws rows.numbers
numbers = map.the_row_laws u64 (of_field u64-field u64-laws refl (copy_shared u64-field u64-copy))

abbrev pub texts : Laws rows.texts
texts = map.the_row_laws text.the_row text'.the_row_laws
