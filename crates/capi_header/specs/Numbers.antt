-- A header as 51 numbers and three texts, and the rows of its calls.
use Rattle.refusal.specs.declared.Refusal.{Refusal}
use Rattle.header.specs.declared.Whole.{Whole}
use Rattle.std.specs.Prelude.{ℕ, zero, suc, Bool, true, false, List, [], ◌∷◌, ◌++◌, Float, get_or, length, Option, Some, None, Result, Ok, Err}
use Rattle.le.specs.Real.{f64_bits_of}
use Rattle.words.specs.Rows.{refused_row, part_row}
use Rattle.header.specs.declared.Evlr.{Evlr}
use Rattle.header.specs.declared.LargeFile.{LargeFile}
use Rattle.header.specs.declared.Header.{Header}
use Rattle.header.specs.Header.{large_back, points_of, end_of_points}
use Rattle.header.specs.Judged.{padding_of, judged}
use Rattle.header_write.specs.Bytes.{start_back, evlr_back}

-- the number at place k, and the n numbers from there on
abbrev pub nth : List ℕ → ℕ → ℕ
nth xs k = get_or xs k 0

abbrev pub from : List ℕ → ℕ → ℕ → List ℕ
from xs k zero = []
from xs k (suc n) = nth xs k ∷ from xs (suc k) n

-- whether a part is there; what stands for it where it isn't is what the writer writes, zeros
abbrev pub has_start : Option ℕ → ℕ
has_start (Some n) = 1
has_start None = 0

abbrev pub has_evlr : Option Evlr → ℕ
has_evlr (Some e) = 1
has_evlr None = 0

abbrev pub has_large : Bool → ℕ
has_large true = 1
has_large false = 0

-- the bits of a float with its NaN's pattern beside it
abbrev pub bits : Float → ℕ → ℕ
bits value nan = f64_bits_of (record { value = value; nan = nan })

-- a header's 51 numbers: the fields up to the counts by return, the floats, and what may be missing
abbrev pub listed : Header → List ℕ → ℕ → ℕ → ℕ → Evlr → ℕ → LargeFile → List ℕ
listed h floats has_s s has_e e has_l l =
    h.file_source_id ∷ h.global_encoding ∷ h.version.major ∷ h.version.minor ∷
    h.file_creation_day_of_year ∷ h.file_creation_year ∷ h.header_size ∷ h.offset_to_point_data ∷
    h.number_of_variable_length_records ∷ h.point_data_record_format ∷ h.point_data_record_length ∷
    h.number_of_point_records ∷ (from h.number_of_points_by_return 0 5 ++ (floats ++
    (has_s ∷ s ∷ has_e ∷ e.start_of_first_evlr ∷ e.number_of_evlrs ∷
    has_l ∷ l.number_of_point_records ∷ from l.number_of_points_by_return 0 15)))

abbrev pub floats_of : Header → List ℕ
floats_of h =
    bits h.x_scale_factor h.nans.x_scale_factor ∷
    bits h.y_scale_factor h.nans.y_scale_factor ∷
    bits h.z_scale_factor h.nans.z_scale_factor ∷
    bits h.x_offset h.nans.x_offset ∷
    bits h.y_offset h.nans.y_offset ∷
    bits h.z_offset h.nans.z_offset ∷
    bits h.max_x h.nans.max_x ∷ bits h.min_x h.nans.min_x ∷
    bits h.max_y h.nans.max_y ∷ bits h.min_y h.nans.min_y ∷
    bits h.max_z h.nans.max_z ∷ bits h.min_z h.nans.min_z ∷ []

unfoldable pub numbers_of : Header → List ℕ
numbers_of h =
    listed h (floats_of h) (has_start h.start_of_waveform_data_packet_record) (start_back h.start_of_waveform_data_packet_record)
    (has_evlr h.evlr) (evlr_back h.evlr) (has_large h.has_large_file) (large_back h)

-- what the caller lends for a header: the numbers, the guid, the system identifier and the generating software
abbrev pub Lent : Type 0
Lent = List ℕ × List ℕ × List ℕ × List ℕ

abbrev pub lent_of : Header → Lent
lent_of h = (numbers_of h, h.guid, h.system_identifier, h.generating_software)

-- a read's row, whose value is where the padding ends, and what was lent, which a refusal leaves
abbrev pub read_row : Lent → ℕ → Result Header Refusal → List ℕ × Lent
read_row lent end (Ok h) = (0 ∷ end ∷ 0 ∷ [], lent_of h)
read_row lent end (Err r) = (refused_row r 0, lent)

-- where the padding ends, of a header that is not refused
abbrev pub end_of : Result Whole Refusal → ℕ
end_of (Ok whole) = whole.end
end_of (Err r) = 0

-- the place and the count of the padding; two zeros where there is none, as on refusal
abbrev pub block_of : Result Whole Refusal → ℕ
block_of (Ok whole) = whole.block
block_of (Err r) = 0

unfoldable pub padding_part : List ℕ → List ℕ
padding_part s = part_row (block_of (judged s)) (length (padding_of s))

-- the row of what is told of a header, which a refusal stands in for
abbrev pub points_row : Result Header Refusal → List ℕ
points_row (Ok h) = 0 ∷ points_of h ∷ 0 ∷ []
points_row (Err r) = refused_row r 0

abbrev pub end_by : Result ℕ Refusal → List ℕ
end_by (Ok n) = 0 ∷ n ∷ 0 ∷ []
end_by (Err r) = refused_row r 0

abbrev pub end_row : Result Header Refusal → List ℕ
end_row (Ok h) = end_by (end_of_points h)
end_row (Err r) = refused_row r 0

abbrev pub size_row : Result ℕ Refusal → List ℕ
size_row (Ok n) = 0 ∷ n ∷ 0 ∷ []
size_row (Err r) = refused_row r 0
