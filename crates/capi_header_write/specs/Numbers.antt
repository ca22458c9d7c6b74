-- A header from 51 numbers and three texts, and the row of its write.
use Rattle.header.specs.declared.Evlr.{Evlr}
use Rattle.std.specs.Prelude.{ℕ, zero, suc, ◌%◌, cond, not, List, [], ◌∷◌, eqb, get_or, Option, Some, None}
use Rattle.le.specs.Real.{f64_of}
use Rattle.le.specs.declared.float.F64.{F64}
use Rattle.header.specs.declared.LargeFile.{LargeFile}
use Rattle.header.specs.declared.Nans.{Nans}
use Rattle.header.specs.declared.Header.{Header}

-- the number at place k, its low bits, and the float that it is the bits of
abbrev pub nth : List ℕ → ℕ → ℕ
nth n k = get_or n k 0

abbrev pub low8 : List ℕ → ℕ → ℕ
low8 n k = nth n k % 256

abbrev pub low16 : List ℕ → ℕ → ℕ
low16 n k = nth n k % 65536

abbrev pub low32 : List ℕ → ℕ → ℕ
low32 n k = nth n k % 4294967296

abbrev pub real : List ℕ → ℕ → F64
real n k = f64_of (nth n k)

-- the count numbers from place k on, and their low 32 bits
abbrev pub from : List ℕ → ℕ → ℕ → List ℕ
from n k zero = []
from n k (suc count) = nth n k ∷ from n (suc k) count

abbrev pub low_from : List ℕ → ℕ → ℕ → List ℕ
low_from n k zero = []
low_from n k (suc count) = low32 n k ∷ low_from n (suc k) count

-- what may be missing: any number but 0 says that it is there
unfoldable pub start_from : ℕ → ℕ → Option ℕ
start_from has n = cond (eqb has 0) None (Some n)

unfoldable pub evlr_from : ℕ → ℕ → ℕ → Option Evlr
evlr_from has first count =
    cond (eqb has 0) None (Some (record { start_of_first_evlr = first; number_of_evlrs = count % 4294967296 }))

unfoldable pub large_from : List ℕ → LargeFile
large_from n = record { number_of_point_records = nth n 35; number_of_points_by_return = from n 36 15 }

-- what is kept beside the floats
unfoldable pub nans_from : List ℕ → Nans
nans_from n =
    record {
      x_scale_factor = (real n 17).nan;
      y_scale_factor = (real n 18).nan;
      z_scale_factor = (real n 19).nan;
      x_offset = (real n 20).nan;
      y_offset = (real n 21).nan;
      z_offset = (real n 22).nan;
      max_x = (real n 23).nan;
      min_x = (real n 24).nan;
      max_y = (real n 25).nan;
      min_y = (real n 26).nan;
      max_z = (real n 27).nan;
      min_z = (real n 28).nan;
    }

-- the header of the numbers, the guid, the system identifier and the generating software
unfoldable pub header_from : List ℕ → List ℕ → List ℕ → List ℕ → Header
header_from n guid system software =
    record {
      file_source_id = low16 n 0;
      global_encoding = low16 n 1;
      guid = guid;
      version = record { major = low8 n 2; minor = low8 n 3 };
      system_identifier = system;
      generating_software = software;
      file_creation_day_of_year = low16 n 4;
      file_creation_year = low16 n 5;
      header_size = low16 n 6;
      offset_to_point_data = low32 n 7;
      number_of_variable_length_records = low32 n 8;
      point_data_record_format = low8 n 9;
      point_data_record_length = low16 n 10;
      number_of_point_records = low32 n 11;
      number_of_points_by_return = low_from n 12 5;
      x_scale_factor = (real n 17).value;
      y_scale_factor = (real n 18).value;
      z_scale_factor = (real n 19).value;
      x_offset = (real n 20).value;
      y_offset = (real n 21).value;
      z_offset = (real n 22).value;
      max_x = (real n 23).value;
      min_x = (real n 24).value;
      max_y = (real n 25).value;
      min_y = (real n 26).value;
      max_z = (real n 27).value;
      min_z = (real n 28).value;
      nans = nans_from n;
      start_of_waveform_data_packet_record = start_from (nth n 29) (nth n 30);
      evlr = evlr_from (nth n 31) (nth n 32) (nth n 33);
      has_large_file = not (eqb (nth n 34) 0);
      large_file = large_from n;
    }
