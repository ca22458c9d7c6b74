-- What the table of Layout adds up to.
use Rattle.std.specs.Prelude.{◌+◌, ◌≤◌, ◌≡◌, refl, Bool, true, false}
use Rattle.std.proofs.Common.{arith}
use Rattle.fields.specs.Table.{Follow, total}
use Rattle.vlr.specs.Layout.{Description, fields, width, place, head_size}

-- the fields of a head follow each other from 0 on, without gap or overlap
pub places_follow : (extended : Bool) → Follow (width extended) (place extended) 0 fields
places_follow true = refl
places_follow false = refl

-- "VLR head: 54 bytes with a u16 length. EVLR head: 60 with a u64 length.", from the widths
pub head-sizes : (extended : Bool) → total (width extended) fields ≡ head_size extended
head-sizes true = refl
head-sizes false = refl

-- the head ends where its last field does
pub description_last : (extended : Bool) → place extended Description + width extended Description ≡ head_size extended
description_last true = refl
description_last false = refl

pub head-least : (extended : Bool) → 54 ≤ head_size extended
head-least true = omega arith
head-least false = omega arith

pub head-at-most : (extended : Bool) → head_size extended ≤ 60
head-at-most true = omega arith
head-at-most false = omega arith
