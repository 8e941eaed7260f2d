use Rattle.std.specs.Cmp.{booleans_Decides}
use Rattle.std.proofs.lemmas.Bool.Decides.{Decides-and, Decides-at, Decides-eqb, Decides-like}
use Rattle.captured_session.proofs.SameForms.{has_same, is_same, same_field, same_order}
use Rattle.captured_session.proofs.captured_list.is_same_form.Goals as goal

-- the test goes field by field
pub returns : goal.returns
returns c =
    let a = c.args.a in
    let b = c.args.b in
    let told = Decides-and _ _ (Decides-eqb a.stamp b.stamp) (Decides-eqb a.ticks b.ticks) in
    let stamps = Decides-and _ _ (booleans_Decides a.has_stamp b.has_stamp) told in
    let overloads = Decides-and _ _ (booleans_Decides a.has_overload b.has_overload) stamps in
    let fields = Decides-and _ _ (same_field a.field b.field) overloads in
    let has_fields = Decides-and _ _ (booleans_Decides a.has_field b.has_field) fields in
    let granularities = Decides-and _ _ (Decides-eqb a.granularity b.granularity) has_fields in
    let orders = Decides-and _ _ (same_order a.order b.order) granularities in
    let all = Decides-and _ _ (booleans_Decides a.has_order b.has_order) orders in
    Decides-like _ (is_same a b) (has_same a b) (Decides-at _ _ c.eq.ensures all)
