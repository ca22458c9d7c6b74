use mathlib.Core.Path.{ap, ◌∙◌}
use Rattle.keys.specs.declared.Keys.{Keys}
use Rattle.keys.specs.Keys.{found_of}
use Rattle.capi_keys.specs.Rows.{key_row}
use Rattle.capi_keys.proofs.las_keys_find.Goals as goal

pub returns : goal.returns
returns c =
    let a = c.args in
    c.tell_key.ensures ∙ ap (key_row a.key.now) (c.find.ensures ∙ ap (λ (ks : Keys). found_of ks a.wanted a.file.now) c.keys_from.ensures)
