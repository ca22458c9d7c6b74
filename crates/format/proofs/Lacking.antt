-- Attribute sets that no code has, whatever the attributes that are left open.
use Rattle.std.specs.Prelude.{Err}
use mathlib.Core.Path.{◌≡◌, refl}
use mathlib.Core.Bool.{Bool, true, false}
use Rattle.refusal.specs.declared.Refusal.TheVariants.{Attributes}
use Rattle.format.specs.Codes.{is_in, coded, first_with, code_by}

-- no legacy format has near infrared
pub legacy_nir : (t c w : Bool) → Err Attributes ≡ code_by false t c true w
unfolding is_in coded first_with code_by
legacy_nir true true w = refl
legacy_nir true false w = refl
legacy_nir false true w = refl
legacy_nir false false w = refl

-- no legacy format has waveforms without time
pub timeless_waveform : (c : Bool) → Err Attributes ≡ code_by false false c false true
unfolding is_in coded first_with code_by
timeless_waveform true = refl
timeless_waveform false = refl
