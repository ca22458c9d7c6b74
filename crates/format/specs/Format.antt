-- Formats as sets of attributes.
use Rattle.std.specs.Prelude.{ℕ, true, false}
use Rattle.format.specs.declared.Format.{Format}

-- no attribute at all
unfoldable pub plain : Format
plain =
    record {
      has_gps_time = false;
      has_color = false;
      is_extended = false;
      has_waveform = false;
      has_nir = false;
      extra_bytes = 0;
      is_compressed = false;
    }

-- f with this many extra bytes
abbrev pub with_extra : ℕ → Format → Format
with_extra n f =
    record {
      has_gps_time = f.has_gps_time;
      has_color = f.has_color;
      is_extended = f.is_extended;
      has_waveform = f.has_waveform;
      has_nir = f.has_nir;
      extra_bytes = n;
      is_compressed = f.is_compressed;
    }

-- f with the longer flags and angle, and with time
unfoldable pub extended_of : Format → Format
extended_of f =
    record {
      has_gps_time = true;
      has_color = f.has_color;
      is_extended = true;
      has_waveform = f.has_waveform;
      has_nir = f.has_nir;
      extra_bytes = f.extra_bytes;
      is_compressed = f.is_compressed;
    }
