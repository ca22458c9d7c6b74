-- The attributes that each code stands for, and the records of a code's format.
use Rattle.std.specs.Prelude.{Ok}
use Rattle.std.specs.Prelude.{ℕ, ◌-◌, ◌≤◌, ◌≡◌, refl, Bool, true, false}
use Rattle.std.proofs.Common.{arith}
use Rattle.format.specs.declared.Format.{Format}
use Rattle.format.specs.Format.{with_extra}
use Rattle.format.specs.Codes.{is_in, coded}
use Rattle.format.specs.Fields.{record_bytes, len_of}
use Rattle.format.specs.Length.{len-told}
use Rattle.format.specs.Laws.{record_sum, record_end, fixed_le}

-- the format with these attributes, uncompressed and with no extra bytes
abbrev pub attributes : Bool → Bool → Bool → Bool → Bool → Format
attributes extended time color nir waveform =
    record {
      has_gps_time = time;
      has_color = color;
      is_extended = extended;
      has_waveform = waveform;
      has_nir = nir;
      extra_bytes = 0;
      is_compressed = false;
    }

-- LAS 1.4 R15, formats 0 to 10: `code-attributes.n` is the format n's
pub code-attributes :
    (coded 0 false ≡ attributes false false false false false)
    × (coded 1 false ≡ attributes false true false false false)
    × (coded 2 false ≡ attributes false false true false false)
    × (coded 3 false ≡ attributes false true true false false)
    × (coded 4 false ≡ attributes false true false false true)
    × (coded 5 false ≡ attributes false true true false true)
    × (coded 6 false ≡ attributes true true false false false)
    × (coded 7 false ≡ attributes true true true false false)
    × (coded 8 false ≡ attributes true true true true false)
    × (coded 9 false ≡ attributes true true false false true)
    × (coded 10 false ≡ attributes true true true true true)
unfolding coded is_in
code-attributes = (refl, refl, refl, refl, refl, refl, refl, refl, refl, refl, refl)

module _ (n : ℕ) (compressed : Bool) where
  -- a code's format has no extra bytes of its own, so it is never overlong,
  pub coded-bytes : (20 ≤ record_bytes (coded n compressed)) × (record_bytes (coded n compressed) ≤ 67)
  unfolding coded
  coded-bytes =
      let f = coded n compressed in
      (omega (arith, record_sum f), omega (arith, record_end f, fixed_le f))

  pub coded-len : len_of (coded n compressed) ≡ Ok (record_bytes (coded n compressed))
  coded-len = len-told (coded n compressed) (omega (arith, coded-bytes.1))

  -- and with the rest of a longer record as extra bytes it has that record's length
  pub coded-filled : (m : ℕ) → record_bytes (coded n compressed) ≤ m → record_bytes (with_extra (m - record_bytes (coded n compressed)) (coded n compressed)) ≡ m
  unfolding coded
  coded-filled m h =
      let f = coded n compressed in
      omega (arith, record_end f, record_end (with_extra (m - record_bytes f) f))
