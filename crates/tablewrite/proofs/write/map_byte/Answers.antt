-- `tablewrite::write::map_byte` meets its contract: each field that the row states adds its weight, and the tag and the class their bits.
use Rattle.tablewrite.proofs.Fields.{map_is}
use Rattle.tablewrite.proofs.write.map_byte.Goals as goal

pub returns : goal.returns
returns c =
    map_is _ _ c.default_payload.ensures c.default_deadline.ensures c.bit_for-payload.ensures.value c.bit_for-deadline.ensures.value c.pace_bit.ensures.value c.bit_for-tag.ensures.value c.class_bit.ensures.value
