use mathlib.Core.Path.{ap, ◌∙◌}
use Rattle.keys.specs.declared.Keys.{Keys}
use Rattle.keys.specs.Keys.{key_at_of}
use Rattle.capi_keys.specs.Rows.{key_row}
use Rattle.capi_keys.proofs.las_keys_at.Goals as goal

pub returns : goal.returns
returns c =
    let a = c.args in
    c.tell_key.ensures ∙ ap (key_row a.key.now) (c.key_at.ensures ∙ ap (λ (ks : Keys). key_at_of ks a.k a.file.now) c.keys_from.ensures)
