-- What a header says of the parts of its file.
use Rattle.std.specs.Prelude.{Option, Some, None}
use Rattle.header.specs.declared.Evlr.{Evlr}
use Rattle.std.specs.Prelude.{ℕ, ◌/◌, ◌%◌, ◌≡◌, Bool, cond, ◌&&◌, eqb}
use Rattle.std.proofs.Math.Path.{refl, ap}
use Rattle.std.proofs.Common.{sym, subst, ◌∙◌}
use Rattle.std.proofs.Math.Bool.{true, false, not, and-eq-true_iff}
use borrow.Author.Tests.{eq-eqb, ne_eqb, eqb-true}
use Rattle.std.proofs.Math.Dec.{T}
use Rattle.header.specs.declared.Header.{Header}
use Rattle.header.specs.declared.Version.{Version}
use Rattle.header.specs.Header.{points_of}
use Rattle.header.specs.Updated.{Alike}
use Rattle.outline.specs.declared.Outline.{Outline}

-- start and count of the EVLRs; none is two zeros
abbrev pub evlr_start : Option Evlr → ℕ
evlr_start (Some e) = e.start_of_first_evlr
evlr_start None = 0

abbrev pub evlr_count : Option Evlr → ℕ
evlr_count (Some e) = e.number_of_evlrs
evlr_count None = 0

-- start of the waveform packets; none is 0
abbrev pub packets_start : Option ℕ → ℕ
packets_start (Some n) = n
packets_start None = 0

-- document 02, No. 11: "In 1.3 with bit 1 of global encoding set and a waveform start that isn't zero, the waveform packets are a record
-- with a 60-byte head after the points."
unfoldable pub is_waveform : Version → ℕ → ℕ → Bool
is_waveform v encoding start = eqb v.major 1 && (eqb v.minor 3 && (eqb (encoding / 2 % 2) 1 && not (eqb start 0)))

unfoldable pub has_waveform : Header → Bool
has_waveform h = is_waveform h.version h.global_encoding (packets_start h.start_of_waveform_data_packet_record)

-- the header's fields of the same names, with the effective count, and what is said of the later records, those after the points: whether
-- they are the waveform packets, where they start and how many there are
abbrev pub outline_with : Bool → ℕ → ℕ → Header → Outline
outline_with waveform start count h =
    record {
      header_size = h.header_size;
      offset_to_point_data = h.offset_to_point_data;
      number_of_variable_length_records = h.number_of_variable_length_records;
      point_data_record_format = h.point_data_record_format;
      point_data_record_length = h.point_data_record_length;
      number_of_point_records = points_of h;
      waveform = waveform;
      start_of_later_records = start;
      number_of_later_records = count;
    }

-- They are one record, the waveform packets, or the EVLRs.
unfoldable pub outline_of : Header → Outline
outline_of h =
    outline_with (has_waveform h) (cond (has_waveform h) (packets_start h.start_of_waveform_data_packet_record) (evlr_start h.evlr))
    (cond (has_waveform h) 1 (evlr_count h.evlr)) h

-- an outline with another count
abbrev pub counting : ℕ → Outline → Outline
counting points o =
    record {
      header_size = o.header_size;
      offset_to_point_data = o.offset_to_point_data;
      number_of_variable_length_records = o.number_of_variable_length_records;
      point_data_record_format = o.point_data_record_format;
      point_data_record_length = o.point_data_record_length;
      number_of_point_records = points;
      waveform = o.waveform;
      start_of_later_records = o.start_of_later_records;
      number_of_later_records = o.number_of_later_records;
    }

-- is that of a header that says the same but for its points
pub outline_alike : (g h : Header) → Alike g h → outline_of g ≡ counting (points_of g) (outline_of h)
unfolding outline_of has_waveform
outline_alike g h a =
    λ i.
    let packets = packets_start (a.waveform i) in
    let waveform = is_waveform (a.version i) (a.encoding i) packets in
    record {
      header_size = a.size i;
      offset_to_point_data = a.offset i;
      number_of_variable_length_records = a.vlrs i;
      point_data_record_format = a.format i;
      point_data_record_length = a.each i;
      number_of_point_records = points_of g;
      waveform = waveform;
      start_of_later_records = cond waveform packets (evlr_start (a.evlr i));
      number_of_later_records = cond waveform 1 (evlr_count (a.evlr i));
    }

module _ (h : Header) where
  -- it has them exactly where it says all this
  pub has-waveform : h.version.major ≡ 1 → h.version.minor ≡ 3 → h.global_encoding / 2 % 2 ≡ 1 → (packets_start h.start_of_waveform_data_packet_record ≡ 0 → ⊥) → has_waveform h ≡ true
  unfolding has_waveform is_waveform
  has-waveform one three bit some = rw (eq-eqb _ _ one, eq-eqb _ _ three, eq-eqb _ _ bit, ne_eqb _ _ some)

  pub waveform_said : has_waveform h ≡ true → (h.version.minor ≡ 3) × (h.global_encoding / 2 % 2 ≡ 1) × (packets_start h.start_of_waveform_data_packet_record ≡ 0 → ⊥)
  unfolding has_waveform is_waveform
  waveform_said has =
      let start = packets_start h.start_of_waveform_data_packet_record in
      let version = (and-eq-true_iff (eqb h.version.major 1) _).0 has in
      let minor = (and-eq-true_iff (eqb h.version.minor 3) _).0 version.1 in
      let bit = (and-eq-true_iff (eqb (h.global_encoding / 2 % 2) 1) (not (eqb start 0))).0 minor.1 in
      (eqb-true _ _ minor.0, eqb-true _ _ bit.0, λ zero. absurd (subst T (sym bit.1 ∙ ap not (eq-eqb start 0 zero)) tt))

  -- of a header whose file has the waveform packets in it, these are the one later record
  pub with_waveform : has_waveform h ≡ true → outline_of h ≡ outline_with true (packets_start h.start_of_waveform_data_packet_record) 1 h
  unfolding outline_of
  with_waveform has = rw has

  -- of any other, document 01's outline: the later records are the EVLRs
  pub with_evlrs : has_waveform h ≡ false → outline_of h ≡ outline_with false (evlr_start h.evlr) (evlr_count h.evlr) h
  unfolding outline_of
  with_evlrs none = rw none

  -- "No other version changes."
  pub no_waveform : (h.version.minor ≡ 3 → ⊥) → has_waveform h ≡ false
  unfolding has_waveform is_waveform
  no_waveform other = rw (ne_eqb h.version.minor 3 other) (go (eqb h.version.major 1))
    where
      go : (b : Bool) → b && false ≡ false
      go true = refl
      go false = refl

  -- so that without EVLRs there are no later records, and both of their numbers are 0
  pub no_evlrs : (h.version.minor ≡ 3 → ⊥) → h.evlr ≡ None → ((outline_of h).start_of_later_records ≡ 0) × ((outline_of h).number_of_later_records ≡ 0)
  no_evlrs other none =
      let plain = with_evlrs (no_waveform other) in
      (ap (λ (o : Outline). o.start_of_later_records) plain ∙ ap evlr_start none, ap (λ (o : Outline). o.number_of_later_records) plain ∙ ap evlr_count none)

-- some of its numbers, for whoever has the header
module _ (h : Header) where
  pub header_size_is : (outline_of h).header_size ≡ h.header_size
  unfolding outline_of
  header_size_is = refl

  pub vlrs_is : (outline_of h).number_of_variable_length_records ≡ h.number_of_variable_length_records
  unfolding outline_of
  vlrs_is = refl

  pub offset_is : (outline_of h).offset_to_point_data ≡ h.offset_to_point_data
  unfolding outline_of
  offset_is = refl

  pub code_is : (outline_of h).point_data_record_format ≡ h.point_data_record_format
  unfolding outline_of
  code_is = refl

  pub count_is : (outline_of h).number_of_point_records ≡ points_of h
  unfolding outline_of
  count_is = refl

  pub record_length_is : (outline_of h).point_data_record_length ≡ h.point_data_record_length
  unfolding outline_of
  record_length_is = refl
