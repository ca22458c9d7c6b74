-- What the private steps go by.
use Rattle.std.specs.List.{list_all}
use Rattle.std.specs.Prelude.{◌+◌, ◌^◌, ◌≤◌, ◌<◌, ◌≡◌, true}
use Rattle.header.specs.declared.Header.{Header}
use Rattle.header.specs.Header.{points_of}
use Rattle.header_convert.specs.Turned.{fits32, old_by_return}

-- the fields have room for what they gain
pub record NewFits (h : Header) : Type 0 where
  pub size : h.header_size + 148 < 2 ^ 16
  pub offset : h.offset_to_point_data + 148 < 2 ^ 32
  pub each : h.point_data_record_length + 2 < 2 ^ 16

-- the fields have what they lose, and the counts fit
pub record OldFits (h : Header) : Type 0 where
  pub size : 148 ≤ h.header_size
  pub offset : 148 ≤ h.offset_to_point_data
  pub each : 2 ≤ h.point_data_record_length
  pub count : points_of h < 2 ^ 32
  pub by-return : list_all fits32 (old_by_return h) ≡ true
