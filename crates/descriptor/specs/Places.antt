-- What the table of Layout adds up to.
use Rattle.std.specs.Prelude.{◌≡◌, refl}
use Rattle.fields.specs.Table.{Follow, total}
use Rattle.descriptor.specs.Layout.{fields, width, place, descriptor_size}

-- the fields follow each other from 0 on, without gap or overlap
pub places_follow : Follow width place 0 fields
places_follow = refl

-- "descriptors of 192 bytes", from the widths
pub all-bytes : total width fields ≡ descriptor_size
all-bytes = refl
