-- Which files have their waveform packets as a record after the points, by their bytes, and what the outline of these and of the others is.
use Rattle.std.specs.Prelude.{Ok}
use Rattle.header.specs.Whole.{whole_of}
use Rattle.std.specs.Prelude.{ℕ, ◌/◌, ◌%◌, ◌≡◌, refl, Bool, true, false, List}
use Rattle.std.proofs.Common.{ap, sym, ◌∙◌, ⊎_elim}
use Rattle.header.specs.Layout.{GlobalEncoding, VersionMinor, StartOfWaveformDataPacketRecord}
use Rattle.header.specs.Header.{number}
use Rattle.header.specs.Judged.{judged, header_in}
use Rattle.header.specs.Minor.{major_read, minor_read, three-whole, encoding_read, waveform_read, start-told}
use Rattle.outline.specs.Outline.{evlr_start, evlr_count, packets_start, has_waveform, outline_with, outline_of, has-waveform, waveform_said, with_waveform, with_evlrs}

-- "In 1.3 with bit 1 of global encoding set and a waveform start that isn't zero" (document 02, No. 11)
pub record WaveformIn (s : List ℕ) : Type 0 where
  pub version : number VersionMinor s ≡ 3
  pub bit : number GlobalEncoding s / 2 % 2 ≡ 1
  pub start : number StartOfWaveformDataPacketRecord s ≡ 0 → ⊥

module _ (s : List ℕ) {n e : ℕ} (p : judged s ≡ Ok (whole_of n e)) where
  -- where the header has them start is where the bytes do
  starts : number VersionMinor s ≡ 3 → packets_start (header_in s).start_of_waveform_data_packet_record ≡ number StartOfWaveformDataPacketRecord s
  starts three =
      ap packets_start (waveform_read s p three)
      ∙ ⊎_elim (λ some. ap packets_start some) (λ none. ap packets_start none.0 ∙ sym none.1) (start-told (number StartOfWaveformDataPacketRecord s))

  -- the later records of such a file are one, which starts there
  pub waveform_outline : WaveformIn s → outline_of (header_in s) ≡ outline_with true (number StartOfWaveformDataPacketRecord s) 1 (header_in s)
  waveform_outline w =
      let h = header_in s in
      let at = starts w.version in
      with_waveform h (has-waveform h (major_read s p) (minor_read s p ∙ w.version) (rw (encoding_read s p) w.bit) (λ zero. w.start (sym at ∙ zero)))
      ∙ ap (λ (n : ℕ). outline_with true n 1 h) at

  only : has_waveform (header_in s) ≡ true → WaveformIn s
  only has =
      let said = waveform_said (header_in s) has in
      let three = sym (minor_read s p) ∙ said.0 in
      record { version = three; bit = rw (← (encoding_read s p)) said.1; start = λ zero. said.2 (starts three ∙ zero) }

-- those of any other are the EVLRs
pub other_outline : (s : List ℕ) → (WaveformIn s → ⊥) → (let h = header_in s in outline_of h ≡ outline_with false (evlr_start h.evlr) (evlr_count h.evlr) h)
other_outline s other = with_evlrs (header_in s) (go (has_waveform (header_in s)) refl)
  where
    go : (b : Bool) → has_waveform (header_in s) ≡ b → has_waveform (header_in s) ≡ false
    go true has = let w = three-whole s (waveform_said (header_in s) has).0 in absurd (other (only s w.2 has))
    go false none = none
