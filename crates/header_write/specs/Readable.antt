-- The headers that bytes can hold, as the reader would answer them.
use Rattle.std.specs.Prelude.{None}
use Rattle.std.specs.Prelude.{ℕ, ◌+◌, ◌<◌, ◌≡◌, List, eqb, length}
use Rattle.fields.specs.Table.{All}
use Rattle.header.specs.declared.Header.{Header}
use Rattle.header.specs.Kinds.{Fits}
use Rattle.header.specs.Layout.{Field, kind, fields14, fields_of, size}
use Rattle.header.specs.Header.{start_of, evlr_of, no_large}
use Rattle.header.specs.Judged.{padded_to}
use Rattle.header_write.specs.Bytes.{start_back, evlr_back, value_of}

-- What the reader could have answered: a version with a size, fields that fit, what is missing in the form that reads as
-- missing, nothing that the version lacks, and a header-size field that says where the padding ends.
pub record Readable (h : Header) (padding : List ℕ) : Type 0 where
  pub major : h.version.major ≡ 1
  pub minor : h.version.minor < 5
  pub fits : All (λ (f : Field). Fits (kind f) (value_of h f)) fields14
  pub start_normal : start_of (start_back h.start_of_waveform_data_packet_record) ≡ h.start_of_waveform_data_packet_record
  pub start_lacks : h.version.minor < 3 → h.start_of_waveform_data_packet_record ≡ None
  pub evlr_normal : evlr_of (evlr_back h.evlr).start_of_first_evlr (evlr_back h.evlr).number_of_evlrs ≡ h.evlr
  pub evlr_lacks : h.version.minor < 4 → h.evlr ≡ None
  pub large-there : h.has_large_file ≡ eqb h.version.minor 4
  pub large_lacks : h.version.minor < 4 → h.large_file ≡ no_large
  pub end : padded_to (size (fields_of h.version.minor)) h.header_size ≡ size (fields_of h.version.minor) + length padding
