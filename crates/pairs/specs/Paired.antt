-- What the two formats of a pair have in common.
use Rattle.std.specs.Prelude.{ℕ, ◌+◌, ◌≤◌, ◌≡◌, refl, Bool, true, false, cond}
use Rattle.std.proofs.Common.{arith}
use Rattle.format.specs.declared.Format.{Format}
use Rattle.format.specs.Fields.{record_bytes}
use Rattle.format.specs.Laws.{record_sum}
use Rattle.format.specs.Format.{with_extra}
use Rattle.format.specs.Codes.{coded}
use Rattle.format.specs.Attributes.{attributes, code-attributes}
use Rattle.pairs.specs.Pairs.{format_with}

-- a new format and the old one of its pair: the same but for their kind, the near infrared and nothing else
pub record Paired (new old : Format) : Type 0 where
  pub is_new : new.is_extended ≡ true
  pub is_old : old.is_extended ≡ false
  pub time : new.has_gps_time ≡ old.has_gps_time
  pub color : new.has_color ≡ old.has_color
  pub waveform : new.has_waveform ≡ old.has_waveform
  pub no_nir : old.has_nir ≡ false
  pub extra : new.extra_bytes ≡ old.extra_bytes

two-at-most : (b : Bool) → cond b 2 0 ≤ 2
two-at-most true = omega arith
two-at-most false = omega arith

-- the old record is the shorter, by four bytes at most
pub shorter : (new old : Format) → Paired new old → (record_bytes old ≤ record_bytes new) × (record_bytes new ≤ record_bytes old + 4)
shorter new old pair = rw (record_sum new, record_sum old, pair.is_new, pair.is_old, pair.time, pair.color, pair.waveform, pair.no_nir, pair.extra) (omega arith, omega (arith, two-at-most new.has_nir))

-- such a pair, with as many extra bytes on both sides
attributes_paired : (time color nir waveform : Bool) (extra : ℕ) → Paired (with_extra extra (attributes true time color nir waveform)) (with_extra extra (attributes false time color false waveform))
attributes_paired time color nir waveform extra =
    record { is_new = refl; is_old = refl; time = refl; color = refl; waveform = refl; no_nir = refl; extra = refl }

-- document 01's pairs, by what each code stands for
module _ (extra : ℕ) where
  by_codes : (new old : ℕ) (time color nir waveform : Bool) → coded new false ≡ attributes true time color nir waveform → coded old false ≡ attributes false time color false waveform → Paired (format_with new extra) (format_with old extra)
  unfolding format_with
  by_codes new old time color nir waveform n o = rw (n, o) (attributes_paired time color nir waveform extra)

  pub six_one : Paired (format_with 6 extra) (format_with 1 extra)
  six_one = by_codes 6 1 true false false false code-attributes.6 code-attributes.1

  pub seven_three : Paired (format_with 7 extra) (format_with 3 extra)
  seven_three = by_codes 7 3 true true false false code-attributes.7 code-attributes.3

  pub eight_three : Paired (format_with 8 extra) (format_with 3 extra)
  eight_three = by_codes 8 3 true true true false code-attributes.8 code-attributes.3

  pub nine_four : Paired (format_with 9 extra) (format_with 4 extra)
  nine_four = by_codes 9 4 true false false true code-attributes.9 code-attributes.4

  pub ten_five : Paired (format_with 10 extra) (format_with 5 extra)
  ten_five = by_codes 10 5 true true true true code-attributes.10 code-attributes.5

-- source and target of a run that goes up, or down
abbrev pub Mates : Bool → Format → Format → Type 0
Mates true source target = Paired target source
Mates false source target = Paired source target
