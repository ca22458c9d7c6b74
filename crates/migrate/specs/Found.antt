-- What stands in the new file: the fields that are kept, the counts, and the points.
use Rattle.std.specs.Prelude.{Ok, ℕ, ◌*◌, ◌≤◌, ◌<◌, ◌≡◌, refl, Bool, true, false, take, replicate}
use Rattle.judge.specs.Run.{run_of}
use Rattle.std.proofs.Math.Path.{sym, ap}
use Rattle.std.proofs.Common.{◌∙◌, eq-eqb, ne_eqb}
use mathlib.Core.List.{List, [], ◌++◌, append-nil}
use native.Mathlib.Omega.{arith}
use Rattle.std.proofs.Math.ListN.{length, drop, drop_of_length-le}
use Rattle.le.specs.Laws.{bytes_take, bytes_drop}
use Rattle.header.specs.declared.Header.{Header}
use Rattle.header.specs.Header.{points_of}
use Rattle.outline.specs.declared.Outline.{Outline}
use Rattle.outline.specs.Outline.{outline_of}
use Rattle.pairs.specs.declared.Plan.{Plan}
use Rattle.convert.specs.Run.{images_of}
use Rattle.convert.specs.Demand.{convert_of, Down, from_6, from_7, SameValues}
use Rattle.convert.specs.Agree.{with_room}
use Rattle.convert.specs.Theorems.{every-record}
use Rattle.header_convert.specs.Turned.{large_of, old_by_return, changed_of, new_places, old_places, new_header, old_header}
use Rattle.migrate.specs.Migrate.{other_of, point_bytes, extra_in, run_verdict, new_file}
use Rattle.migrate.specs.Steps.{Goer}
use Rattle.migrate.specs.Way.{Way, down_6, down_7}
use Rattle.migrate.specs.Moved.{moved}
use Rattle.migrate.specs.Done.{images_long}
use Rattle.migrate.specs.New.{points-new}

-- every field of a header that has nothing to do with its version, its places and its counts
pub record KeptFields (g h : Header) : Type 0 where
  pub file_source_id : g.file_source_id ≡ h.file_source_id
  pub global_encoding : g.global_encoding ≡ h.global_encoding
  pub guid : g.guid ≡ h.guid
  pub system_identifier : g.system_identifier ≡ h.system_identifier
  pub generating_software : g.generating_software ≡ h.generating_software
  pub day_of_year : g.file_creation_day_of_year ≡ h.file_creation_day_of_year
  pub year : g.file_creation_year ≡ h.file_creation_year
  pub vlrs : g.number_of_variable_length_records ≡ h.number_of_variable_length_records
  pub x_scale : g.x_scale_factor ≡ h.x_scale_factor
  pub y_scale : g.y_scale_factor ≡ h.y_scale_factor
  pub z_scale : g.z_scale_factor ≡ h.z_scale_factor
  pub x_offset : g.x_offset ≡ h.x_offset
  pub y_offset : g.y_offset ≡ h.y_offset
  pub z_offset : g.z_offset ≡ h.z_offset
  pub max_x : g.max_x ≡ h.max_x
  pub min_x : g.min_x ≡ h.min_x
  pub max_y : g.max_y ≡ h.max_y
  pub min_y : g.min_y ≡ h.min_y
  pub max_z : g.max_z ≡ h.max_z
  pub min_z : g.min_z ≡ h.min_z
  pub nans : g.nans ≡ h.nans

pub kept_fields : (up : Bool) (h : Header) → KeptFields (other_of up h) h
unfolding new_header new_places old_header old_places changed_of
kept_fields true h =
    record { file_source_id = refl; global_encoding = refl; guid = refl; system_identifier = refl; generating_software = refl; day_of_year = refl; year = refl; vlrs = refl; x_scale = refl; y_scale = refl; z_scale = refl; x_offset = refl; y_offset = refl; z_offset = refl; max_x = refl; min_x = refl; max_y = refl; min_y = refl; max_z = refl; min_z = refl; nans = refl }
kept_fields false h =
    record { file_source_id = refl; global_encoding = refl; guid = refl; system_identifier = refl; generating_software = refl; day_of_year = refl; year = refl; vlrs = refl; x_scale = refl; y_scale = refl; z_scale = refl; x_offset = refl; y_offset = refl; z_offset = refl; max_x = refl; min_x = refl; max_y = refl; min_y = refl; max_z = refl; min_z = refl; nans = refl }

-- the counts of a header that went up
pub record CountsUp (g h : Header) : Type 0 where
  pub legacy : g.number_of_point_records ≡ 0
  pub legacy_by_return : g.number_of_points_by_return ≡ replicate 5 0
  pub has-large : g.has_large_file ≡ true
  pub large : g.large_file.number_of_point_records ≡ h.number_of_point_records
  pub large-by-return : g.large_file.number_of_points_by_return ≡ h.number_of_points_by_return ++ replicate 10 0

pub counts_new : (h : Header) → CountsUp (new_header h) h
unfolding new_header new_places changed_of
counts_new h = record { legacy = refl; legacy_by_return = refl; has-large = refl; large = refl; large-by-return = refl }

-- and down
pub record CountsDown (g h : Header) : Type 0 where
  pub legacy : g.number_of_point_records ≡ points_of h
  pub by_legacy : (h.number_of_point_records ≡ 0 → ⊥) → g.number_of_points_by_return ≡ h.number_of_points_by_return
  pub by_large : h.number_of_point_records ≡ 0 → g.number_of_points_by_return ≡ take 5 (large_of h)

pub counts_old : (h : Header) → CountsDown (old_header h) h
unfolding old_header old_places changed_of old_by_return
counts_old h =
    record {
      legacy = refl;
      by_legacy = λ some. rw (ne_eqb h.number_of_point_records 0 some);
      by_large = λ none. rw (eq-eqb h.number_of_point_records 0 none);
    }

way_down : {a b : ℕ} → Way false a b → Down a b
way_down down_6 = from_6
way_down down_7 = from_7

module _ (up : Bool) (h : Header) (s : List ℕ) (g : Goer up h s) {p : Plan} {m : ℕ} (goes : run_verdict up (outline_of h) s ≡ Ok (run_of p m)) where
  abbrev o : Outline
  o = outline_of h

  abbrev n : Outline
  n = outline_of (other_of up h)

  abbrev new : List ℕ
  new = new_file up p h s

  -- the new file's points are what the conversion makes of the old ones, in a place that they fill
  pub converted_points : (d : List ℕ) → length d ≡ length (point_bytes n new) → convert_of up o.point_data_record_format (extra_in o) o.number_of_point_records (point_bytes o s) d ≡ (Ok (length d), point_bytes n new)
  unfolding run_verdict
  converted_points d long =
      let images = images_of up p o.number_of_point_records (point_bytes o s) in
      let is = points-new up h s g goes in
      let size : length d ≡ m = long ∙ ap length is ∙ images_long up h s g goes in
      let full : length d ≤ m = omega arith in
      let past : drop m d ≡ [] = drop_of_length-le d full in
      with_room up o.point_data_record_format (extra_in o) o.number_of_point_records (point_bytes o s) d goes (omega arith)
      ∙ λ i. (Ok (sym size i), (ap (λ (l : List ℕ). images ++ l) past ∙ append-nil images ∙ sym is) i)

-- on the way down every point shows what it showed
pub same_points : (h : Header) (s : List ℕ) (g : Goer false h s) {p : Plan} {m : ℕ} (goes : run_verdict false (outline_of h) s ≡ Ok (run_of p m)) → let o = outline_of h in let n = outline_of (old_header h) in (k : ℕ) → k < o.number_of_point_records → SameValues o.point_data_record_format n.point_data_record_format (extra_in o) k (point_bytes o s) (point_bytes n (new_file false p h s))
same_points h s g {p} goes k within =
    let o = outline_of h in
    let new = new_file false p h s in
    let points = point_bytes (outline_of (old_header h)) new in
    every-record (way_down (moved false h s g).format) (extra_in o) o.number_of_point_records (point_bytes o s) points
    (bytes_take (o.number_of_point_records * o.point_data_record_length) (drop o.offset_to_point_data s) (bytes_drop o.offset_to_point_data s g.ready.bytes))
    (converted_points false h s g goes points refl) k within
