use mathlib.Core.Path.{ap, ◌∙◌}
use Rattle.capi_header.specs.Numbers.{lent_of}
use Rattle.capi_header.proofs.las_header_default.Goals as goal

pub returns : goal.returns
returns c =
    let d = c.default-header in
    let h = d.result in
    ◌∙◌ {a = (c.numbers_of.result, h.guid, h.system_identifier, h.generating_software)} (λ i. (c.numbers_of.ensures i, h.guid, h.system_identifier, h.generating_software))
    (ap lent_of d.ensures)
