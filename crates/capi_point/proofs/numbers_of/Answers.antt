use mathlib.Core.List.{[], ◌∷◌}
use Rattle.words.specs.Words.{flags_word, angle_word}
use Rattle.capi_point.specs.Numbers.{has_time, time_bits_of, has_color, has_nir, nir_or, has_waveform}
use mathlib.Core.Path.{◌≡◌, ap, ◌∙◌}
use mir.Syntax.{w32}
use mir.Val.{of_z}
use Rattle.le.proofs.Twos.{kept}
use Rattle.capi_point.specs.Numbers.{listed, numbers_of}
use borrow.Author.Rules.{rules}
use Rattle.capi_point.proofs.numbers_of.Goals as goal

pub returns : goal.returns
unfolding numbers_of
returns c =
    let p = c.args.point in
    let wr = c.waveform_or-waveform.result in
    let cr = c.color_or-color.result in
    let x : c.cast_unsigned.result ≡ of_z w32 p.x = c.cast_unsigned.ensures ∙ ap (of_z w32) (kept w32 p.x (search rules)) in
    let y : c.cast_unsigned-2.result ≡ of_z w32 p.y = c.cast_unsigned-2.ensures ∙ ap (of_z w32) (kept w32 p.y (search rules)) in
    let z : c.cast_unsigned-3.result ≡ of_z w32 p.z = c.cast_unsigned-3.ensures ∙ ap (of_z w32) (kept w32 p.z (search rules)) in
    -- first each call's number, then the colour and the waveform that two of the calls gave
    ◌∙◌ {b = listed (of_z w32 p.x) (of_z w32 p.y) (of_z w32 p.z) p (flags_word p.flags) (angle_word p.scan_angle) (has_time p.gps_time) (time_bits_of p.gps_time) (has_color p.color) cr (has_nir p.nir) (nir_or p.nir) (has_waveform p.waveform) wr}
    (λ i.
    x i ∷ y i ∷ z i ∷ p.intensity ∷ c.flags_word.ensures i ∷ c.angle_word.ensures i ∷ p.user_data ∷ p.point_source_id ∷
    c.has_time.ensures i ∷ c.time_bits.ensures i ∷ c.has_color.ensures i ∷ cr.red ∷ cr.green ∷ cr.blue ∷ c.has_nir.ensures i ∷ c.nir_or.ensures i ∷
    c.has_waveform.ensures i ∷ wr.wave_packet_descriptor_index ∷ wr.byte_offset_to_waveform_data ∷ wr.waveform_packet_size_in_bytes ∷
    c.float_bits.ensures i ∷ c.float_bits-2.ensures i ∷ c.float_bits-3.ensures i ∷ c.float_bits-4.ensures i ∷ [])
    (λ i. listed (of_z w32 p.x) (of_z w32 p.y) (of_z w32 p.z) p (flags_word p.flags) (angle_word p.scan_angle) (has_time p.gps_time) (time_bits_of p.gps_time) (has_color p.color) (c.color_or-color.ensures i) (has_nir p.nir) (nir_or p.nir) (has_waveform p.waveform) (c.waveform_or-waveform.ensures i))
