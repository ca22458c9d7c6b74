-- What a header that goes becomes.
use Rattle.std.specs.Prelude.{None, Result, Ok, ◌+◌, ◌-◌, ◌≡◌}
use Rattle.refusal.specs.declared.Refusal.{Refusal}
use Rattle.std.proofs.Math.Path.{refl}
use Rattle.std.proofs.Common.{ap}
use Rattle.header.specs.declared.Header.{Header}
use Rattle.header.specs.Header.{points_of}
use Rattle.header.specs.Minor.{points_legacy, points-large}
use Rattle.header_convert.specs.Turned.{new_code, old_code, changed_of, new_places, old_places, new_header, old_header, new_goes, old_goes, turned_by, new_turned, old_turned}

pub new-turned : (h : Header) → new_goes h ≡ Ok tt → new_turned h ≡ new_header h
unfolding new_turned
new-turned h e = ap (λ (g : Result Unit Refusal). turned_by g (new_header h) h) e

pub old-turned : (h : Header) → old_goes h ≡ Ok tt → old_turned h ≡ old_header h
unfolding old_turned
old-turned h e = ap (λ (g : Result Unit Refusal). turned_by g (old_header h) h) e

-- its version, its places and its count
module _ (h : Header) where
  pub new_version : ((new_header h).version.major ≡ 1) × ((new_header h).version.minor ≡ 4)
  unfolding new_header new_places changed_of
  new_version = (refl, refl)

  pub old_version : ((old_header h).version.major ≡ 1) × ((old_header h).version.minor ≡ 2)
  unfolding old_header old_places changed_of
  old_version = (refl, refl)

  pub record NewPlaced : Type 0 where
    pub size : (new_header h).header_size ≡ h.header_size + 148
    pub offset : (new_header h).offset_to_point_data ≡ h.offset_to_point_data + 148
    pub vlrs : (new_header h).number_of_variable_length_records ≡ h.number_of_variable_length_records
    pub code : (new_header h).point_data_record_format ≡ new_code h.point_data_record_format
    pub each : (new_header h).point_data_record_length ≡ h.point_data_record_length + 2
    pub evlr : (new_header h).evlr ≡ None
    pub count : points_of (new_header h) ≡ h.number_of_point_records

  pub new-placed : NewPlaced
  unfolding new_header new_places changed_of
  new-placed = record { size = refl; offset = refl; vlrs = refl; code = refl; each = refl; evlr = refl; count = points-large (new_header h) refl refl }

  pub record OldPlaced : Type 0 where
    pub size : (old_header h).header_size ≡ h.header_size - 148
    pub offset : (old_header h).offset_to_point_data ≡ h.offset_to_point_data - 148
    pub vlrs : (old_header h).number_of_variable_length_records ≡ h.number_of_variable_length_records
    pub code : (old_header h).point_data_record_format ≡ old_code h.point_data_record_format
    pub each : (old_header h).point_data_record_length ≡ h.point_data_record_length - 2
    pub evlr : (old_header h).evlr ≡ None
    pub count : points_of (old_header h) ≡ points_of h

  pub old-placed : OldPlaced
  unfolding old_header old_places changed_of
  old-placed = record { size = refl; offset = refl; vlrs = refl; code = refl; each = refl; evlr = refl; count = points_legacy (old_header h) refl }
