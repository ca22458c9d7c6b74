use mathlib.Core.Path.{ap, ◌∙◌}
use Rattle.attribute.specs.declared.Attribute.{Attribute}
use Rattle.attribute_value.specs.Many.{column_of}
use Rattle.capi_column.specs.Rows.{told_of}
use Rattle.capi_attribute.specs.Rows.{attribute_from}
use Rattle.capi_attribute.proofs.las_attribute_column.Goals as goal

pub returns : goal.returns
returns c =
    let r = c.column in
    let a = c.args in
    (λ i. (c.tell.ensures i, r.new.dst))
    ∙ ap told_of (r.ensures ∙ ap (λ (b : Attribute). column_of b a.first a.count a.file.now a.dst.now) {y = attribute_from a.attribute.now} c.attribute_from-a.ensures)
