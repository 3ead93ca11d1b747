-- `tablewrite::write::write_row` meets its contract: each field is stored where those before it end, so that the stores are the row from the front.
use mathlib.Core.Path.{refl, ◌∙◌, ap}
use native.Mathlib.Omega.{arith}
use Rattle.tablefile.proofs.Laws.{bit_shared, row_length}
use Rattle.tablefile.specs.Layout.{bytes_of, Payload, Period, Deadline, Rate, Samples}
use Rattle.tablewrite.proofs.Fields.{one_byte, two_bytes, four_bytes, size_is, map_stored, field_room, field_stored, row_stored}
use Rattle.tablewrite.proofs.write.write_row.Goals as goal

pub put-requires : goal.put-requires
put-requires c = omega (arith, row_length c.args.edition c.args.row)

pub put_field-requires : goal.put_field-requires
put_field-requires c =
    omega (arith, c.requires, c.put.auto.out, field_room _ _ c.map_byte-map.ensures Payload c.payload_stands.ensures refl (c.to_be_bytes-payload.ensures ∙ two_bytes _))

pub put_field-requires-2 : goal.put_field-requires-2
put_field-requires-2 c =
    omega (arith, c.requires, c.put.auto.out, c.put_field.auto.out, field_room _ _ c.map_byte-map.ensures Period c.period_stands.ensures c.period_place.ensures.value (c.to_be_bytes-period.ensures ∙ four_bytes _ ∙ ap (bytes_of 4) c.stated.ensures))

pub put_field-requires-3 : goal.put_field-requires-3
put_field-requires-3 c =
    omega (arith, c.requires, c.put.auto.out, c.put_field.auto.out, c.put_field-2.auto.out, field_room _ _ c.map_byte-map.ensures Deadline c.deadline_stands.ensures c.deadline_place.ensures.value (c.to_be_bytes-deadline.ensures ∙ four_bytes _))

pub put_field-requires-4 : goal.put_field-requires-4
put_field-requires-4 c =
    omega (arith, c.requires, c.put.auto.out, c.put_field.auto.out, c.put_field-2.auto.out, c.put_field-3.auto.out, field_room _ _ c.map_byte-map.ensures Rate c.rate_stands.ensures c.rate_place.ensures.value (c.to_be_bytes-rate.ensures ∙ four_bytes _ ∙ ap (bytes_of 4) c.rate.ensures))

pub put_field-requires-5 : goal.put_field-requires-5
put_field-requires-5 c =
    omega (arith, c.requires, c.put.auto.out, c.put_field.auto.out, c.put_field-2.auto.out, c.put_field-3.auto.out, c.put_field-4.auto.out, field_room _ _ c.map_byte-map.ensures Samples (c.rate_stands-2.ensures ∙ bit_shared _) c.samples_place.ensures.value (one_byte _ (omega arith) ∙ ap (bytes_of 1) c.samples.ensures))

pub returns : goal.returns
returns c =
    let one = field_stored _ _ c.map_byte-map.ensures Payload c.payload_stands.ensures refl (c.to_be_bytes-payload.ensures ∙ two_bytes _) (map_stored _ _ c.map_byte-map.ensures _ c.put.ensures) c.put_field.ensures in
    let two = field_stored _ _ c.map_byte-map.ensures Period c.period_stands.ensures c.period_place.ensures.value (c.to_be_bytes-period.ensures ∙ four_bytes _ ∙ ap (bytes_of 4) c.stated.ensures) one c.put_field-2.ensures in
    let three = field_stored _ _ c.map_byte-map.ensures Deadline c.deadline_stands.ensures c.deadline_place.ensures.value (c.to_be_bytes-deadline.ensures ∙ four_bytes _) two c.put_field-3.ensures in
    let four = field_stored _ _ c.map_byte-map.ensures Rate c.rate_stands.ensures c.rate_place.ensures.value (c.to_be_bytes-rate.ensures ∙ four_bytes _ ∙ ap (bytes_of 4) c.rate.ensures) three c.put_field-4.ensures in
    let five = field_stored _ _ c.map_byte-map.ensures Samples (c.rate_stands-2.ensures ∙ bit_shared _) c.samples_place.ensures.value (one_byte _ (omega arith) ∙ ap (bytes_of 1) c.samples.ensures) four c.put_field-5.ensures in
    record { value = size_is _ _ c.map_byte-map.ensures c.row_size.ensures.value; out_after = row_stored _ _ c.map_byte-map.ensures _ c.requires five }
