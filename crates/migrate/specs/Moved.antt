-- Where the parts of the new file lie, by its header.
use Rattle.std.specs.Prelude.{Ok, ℕ, ◌+◌, ◌*◌, ◌-◌, ◌^◌, ◌≤◌, ◌<◌, ◌≡◌, Bool, ◌⊎◌, List, length}
use Rattle.std.proofs.Common.{sym, subst, ◌∙◌, inl, inr, mul-add, arith}
use Rattle.std.proofs.Math.Path.{ap}
use Rattle.std.proofs.Math.Bool.{true, false}
use Rattle.std.proofs.Math.Nat.{mul-le-mul_left}
use Rattle.format.specs.Fields.{record_bytes}
use Rattle.format.specs.declared.Format.{Format}
use Rattle.format.specs.Format.{with_extra}
use Rattle.format.specs.Codes.{coded}
use Rattle.header.specs.declared.Header.{Header}
use Rattle.header.specs.Layout.{VersionMinor}
use Rattle.header.specs.Header.{number, points_of}
use Rattle.header.specs.Judged.{header_in}
use Rattle.header.specs.Minor.{no-large, points_legacy}
use Rattle.outline.specs.declared.Outline.{Outline}
use Rattle.outline.specs.Outline.{outline_of, no_evlrs, header_size_is, vlrs_is, offset_is, code_is, count_is, record_length_is}
use Rattle.rules.specs.Laws.{format_bytes_lem}
use Rattle.extents.specs.Extents.{points_end}
use Rattle.file.specs.Holds.{PartsHold, standard_in, Holds, holds-judged}
use Rattle.file.specs.Points.{point_format, format_is, format_long}
use Rattle.pairs.specs.Pairs.{format_with}
use Rattle.header_convert.specs.Turned.{new_code, old_code, new_header, old_header}
use Rattle.header_convert.specs.Told.{new_version, old_version, new-placed, old-placed}
use Rattle.header_convert.specs.Is as is
use Rattle.header_convert.specs.Goes.{GoesUp, GoesDown, goes-up, goes_down}
use Rattle.migrate.specs.Migrate.{goes_of, other_of, extra_in, new_length}
use Rattle.migrate.specs.Steps.{Goer}
use Rattle.migrate.specs.Way.{Way, up_1, up_3, down_6, down_7, By, two_bytes}

-- "The header grows or shrinks by 148 bytes, the point offset with it", a record by two; the VLRs and the points are as many, and nothing
-- lies beside them
pub record Moved (up : Bool) (o n : Outline) : Type 0 where
  pub size : By up 148 o.header_size n.header_size
  pub offset : By up 148 o.offset_to_point_data n.offset_to_point_data
  pub each : By up 2 o.point_data_record_length n.point_data_record_length
  pub format : Way up o.point_data_record_format n.point_data_record_format
  pub vlrs : n.number_of_variable_length_records ≡ o.number_of_variable_length_records
  pub count : n.number_of_point_records ≡ o.number_of_point_records
  pub later : n.number_of_later_records ≡ 0

-- the codes
pub up_way : (f : ℕ) → (f ≡ 1) ⊎ (f ≡ 3) → Way true f (new_code f)
unfolding new_code
up_way f (inl e) = rw e up_1
up_way f (inr e) = rw e up_3

down_way : (f : ℕ) → (f ≡ 6) ⊎ (f ≡ 7) → Way false f (old_code f)
unfolding old_code
down_way f (inl e) = rw e down_6
down_way f (inr e) = rw e down_7

-- of a header that goes
moved_up : (h : Header) → GoesUp h → h.number_of_point_records ≡ points_of h → Moved true (outline_of h) (outline_of (new_header h))
moved_up h g legacy =
    let p = new-placed h in
    record {
      size = omega (arith, p.size, header_size_is h, header_size_is (new_header h));
      offset = omega (arith, p.offset, offset_is h, offset_is (new_header h));
      each = omega (arith, p.each, record_length_is h, record_length_is (new_header h));
      format = rw (code_is h, code_is (new_header h) ∙ p.code) (up_way _ (is.format_is 2 1 3 h g.is));
      vlrs = vlrs_is (new_header h) ∙ p.vlrs ∙ sym (vlrs_is h);
      count = count_is (new_header h) ∙ p.count ∙ legacy ∙ sym (count_is h);
      later = (no_evlrs (new_header h) (λ three. omega (arith, (new_version h).1)) p.evlr).1;
    }

moved_down : (h : Header) → GoesDown h → Moved false (outline_of h) (outline_of (old_header h))
moved_down h g =
    let p = old-placed h in
    record {
      size = omega (arith, p.size, g.fits.size, header_size_is h, header_size_is (old_header h));
      offset = omega (arith, p.offset, g.fits.offset, offset_is h, offset_is (old_header h));
      each = omega (arith, p.each, g.fits.each, record_length_is h, record_length_is (old_header h));
      format = rw (code_is h, code_is (old_header h) ∙ p.code) (down_way _ (is.format_is 4 6 7 h g.is));
      vlrs = vlrs_is (old_header h) ∙ p.vlrs ∙ sym (vlrs_is h);
      count = count_is (old_header h) ∙ p.count ∙ sym (count_is h);
      later = (no_evlrs (old_header h) (λ three. omega (arith, (old_version h).1)) p.evlr).1;
    }

-- the points of an accepted file are of the format of their code, and each has the record length
module _ (allowance : ℕ) (s : List ℕ) (held : Holds allowance s) where
  holds_format : let y = outline_of (header_in s) in point_format y ≡ format_with y.point_data_record_format (extra_in y)
  unfolding format_with
  holds_format =
      let own = format_is allowance s held in
      own ∙ ap (λ (f : Format). with_extra f.extra_bytes (coded (outline_of (header_in s)).point_data_record_format false)) (sym own)

  pub holds-length : let y = outline_of (header_in s) in record_bytes (format_with y.point_data_record_format (extra_in y)) ≡ y.point_data_record_length
  holds-length = ap record_bytes (sym holds_format) ∙ format_long allowance s held

-- and of a file whose header goes
module _ (up : Bool) (h : Header) (s : List ℕ) (g : Goer up h s) where
  abbrev o : Outline
  o = outline_of h

  abbrev n : Outline
  n = outline_of (other_of up h)

  -- the legacy count of an old file is the effective one
  legacy : h.version.minor ≡ 2 → h.number_of_point_records ≡ points_of h
  legacy two =
      let r = g.ready in
      let p = holds-judged s r.holds.header in
      let old : (header_in s).version.minor < 4 = omega (arith, ap (λ (x : Header). x.version.minor) r.read) in
      sym (points_legacy h (ap (λ (x : Header). x.has_large_file) r.read ∙ no-large s p old))

  pub moved : Moved up o n
  moved = go up g.yes
    where
      go : (b : Bool) → goes_of b h ≡ Ok tt → Moved b (outline_of h) (outline_of (other_of b h))
      go true e = let u = goes-up h e in moved_up h u (legacy (is.version_is 2 1 3 h u.is))
      go false e = moved_down h (goes_down h e)

  -- the rules hold of its outline
  pub parts : PartsHold (standard_in s) (number VersionMinor s) g.ready.allowance o s
  parts = subst (λ (x : Header). PartsHold (standard_in s) (number VersionMinor s) g.ready.allowance (outline_of x) s) (sym g.ready.read) g.ready.holds.parts

  -- each point has the record length, before and after
  pub source_length : record_bytes (format_with o.point_data_record_format (extra_in o)) ≡ o.point_data_record_length
  source_length = subst (λ (x : Header). let y = outline_of x in record_bytes (format_with y.point_data_record_format (extra_in y)) ≡ y.point_data_record_length) (sym g.ready.read) (holds-length g.ready.allowance s g.ready.holds)

  pub target-length : record_bytes (format_with n.point_data_record_format (extra_in o)) ≡ n.point_data_record_length
  target-length = go up (two_bytes (extra_in o) moved.format) moved.each
    where
      go : (b : Bool) → By b 2 (record_bytes (format_with o.point_data_record_format (extra_in o))) (record_bytes (format_with n.point_data_record_format (extra_in o))) → By b 2 o.point_data_record_length n.point_data_record_length → record_bytes (format_with n.point_data_record_format (extra_in o)) ≡ n.point_data_record_length
      go true p q = omega (arith, source_length)
      go false p q = omega (arith, source_length)

  -- the points end by so many bytes later, or earlier
  pub ends : By up (148 + o.number_of_point_records * 2) (points_end o) (points_end n)
  ends = go up moved.offset moved.each
    where
      c : ℕ
      c = o.number_of_point_records

      go : (b : Bool) → By b 148 o.offset_to_point_data n.offset_to_point_data → By b 2 o.point_data_record_length n.point_data_record_length → By b (148 + c * 2) (points_end o) (points_end n)
      go true p q = rw (moved.count, q) (omega (arith, p, mul-add c o.point_data_record_length 2))
      go false p q = rw (moved.count, q) (omega (arith, p, mul-add c n.point_data_record_length 2))

  -- so the new length is a number of 64 bits
  pub length-fits : length s < 2 ^ 63 → new_length up h s < 2 ^ 64
  unfolding new_length
  length-fits known = go up ends
    where
      few : o.number_of_point_records * 20 ≤ o.number_of_point_records * o.point_data_record_length
      few = mul-le-mul_left o.number_of_point_records (omega (arith, parts.record_length_lem, format_bytes_lem o.point_data_record_format))

      go : (b : Bool) → By b (148 + o.number_of_point_records * 2) (points_end o) (points_end n) → points_end n + (length s - points_end o) < 2 ^ 64
      go true p = omega (arith, p, few, parts.points-within)
      go false p = omega (arith, p, parts.points-within)

  -- and the new file is longer, or shorter, by as many bytes
  pub new_by : {m : ℕ} → m ≡ new_length up h s → By up (148 + o.number_of_point_records * 2) (length s) m
  unfolding new_length
  new_by {m} is = go up ends
    where
      go : (b : Bool) → By b (148 + o.number_of_point_records * 2) (points_end o) (points_end n) → By b (148 + o.number_of_point_records * 2) (length s) m
      go true p = omega (arith, p, is, parts.points-within)
      go false p = omega (arith, p, is, parts.points-within)
