-- Forms are the same if they are so field by field.
use Rattle.std.proofs.Common.{◌≡◌, rules, refl, subst}
use Rattle.std.specs.Bool.{Decides}
use denote.Enum.Bare.{sameb, same_true, true_same}
use Rattle.measured_values.specs.contracts.byte_order.ByteOrder as ByteOrders
use Rattle.measured_values.specs.declared.byte_order.ByteOrder.{ByteOrder}
use Rattle.captured_session.specs.contracts.id_field.IdField as IdFields
use Rattle.captured_session.specs.declared.form.Form.{Form}
use Rattle.captured_session.specs.declared.id_field.IdField.{IdField}

pub same_order : (a b : ByteOrder) → Decides (sameb ByteOrders.the_type a b) (a ≡ b)
same_order a b =
    (same_true ByteOrders.the_type (search rules) a b, true_same ByteOrders.the_type a b)

pub same_field : (a b : IdField) → Decides (sameb IdFields.the_type a b) (a ≡ b)
same_field a b = (same_true IdFields.the_type (search rules) a b, true_same IdFields.the_type a b)

-- two forms are the same by their fields
abbrev pub HasSameFields : Form → Form → Type 0
HasSameFields a b =
    (a.has_order ≡ b.has_order) × ((a.order ≡ b.order) × ((a.granularity ≡ b.granularity)
    × ((a.has_field ≡ b.has_field) × ((a.field ≡ b.field) × ((a.has_overload ≡ b.has_overload)
    × ((a.has_stamp ≡ b.has_stamp) × ((a.stamp ≡ b.stamp) × (a.ticks ≡ b.ticks))))))))

pub is_same : (a b : Form) → HasSameFields a b → a ≡ b
is_same a b h = λ i. record {
  has_order = h.0 i;
  order = h.1.0 i;
  granularity = h.1.1.0 i;
  has_field = h.1.1.1.0 i;
  field = h.1.1.1.1.0 i;
  has_overload = h.1.1.1.1.1.0 i;
  has_stamp = h.1.1.1.1.1.1.0 i;
  stamp = h.1.1.1.1.1.1.1.0 i;
  ticks = h.1.1.1.1.1.1.1.1 i;
}

pub has_same : (a b : Form) → a ≡ b → HasSameFields a b
has_same a b e =
    subst (HasSameFields a) e
    (refl, (refl, (refl, (refl, (refl, (refl, (refl, (refl, refl))))))))
