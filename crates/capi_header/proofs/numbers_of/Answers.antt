use mathlib.Core.Path.{◌∙◌}
use mathlib.Core.List.{◌∷◌}
use Rattle.header_write.specs.Bytes.{start_back}
use Rattle.capi_header.specs.Numbers.{from, has_start, has_evlr, has_large, floats_of, listed, numbers_of}
use Rattle.capi_header.proofs.numbers_of.Goals as goal

-- Long since each of the 51 numbers comes from a call of its own: a name for each place, then the numbers in order.
pub returns : goal.returns
unfolding numbers_of
returns c =
    let h = c.args.h in
    let evlr = c.evlr_back-evlr.result in
    let large = c.large_back-large.result in
    -- first each call's number, then the EVLR pair and the large file that two of the calls gave
    ◌∙◌ {b = listed h (floats_of h) (has_start h.start_of_waveform_data_packet_record) (start_back h.start_of_waveform_data_packet_record) (has_evlr h.evlr) evlr (has_large h.has_large_file) large}
    (λ i.
    c.wide16.ensures i ∷ c.wide16-2.ensures i ∷ c.wide8.ensures i ∷ c.wide8-2.ensures i ∷
    c.wide16-3.ensures i ∷ c.wide16-4.ensures i ∷ c.wide16-5.ensures i ∷ c.wide32.ensures i ∷
    c.wide32-2.ensures i ∷ c.wide8-3.ensures i ∷ c.wide16-6.ensures i ∷ c.wide32-3.ensures i ∷
    c.wide32-4.ensures i ∷ c.wide32-5.ensures i ∷ c.wide32-6.ensures i ∷ c.wide32-7.ensures i ∷
    c.wide32-8.ensures i ∷
    c.float_bits.ensures i ∷ c.float_bits-2.ensures i ∷ c.float_bits-3.ensures i ∷ c.float_bits-4.ensures i ∷
    c.float_bits-5.ensures i ∷ c.float_bits-6.ensures i ∷ c.float_bits-7.ensures i ∷ c.float_bits-8.ensures i ∷
    c.float_bits-9.ensures i ∷ c.float_bits-10.ensures i ∷ c.float_bits-11.ensures i ∷ c.float_bits-12.ensures i ∷
    c.has_start.ensures i ∷ c.start_back.ensures i ∷ c.has_evlr.ensures i ∷ evlr.start_of_first_evlr ∷
    c.wide32-9.ensures i ∷ c.has_large.ensures i ∷ large.number_of_point_records ∷ from large.number_of_points_by_return 0 15)
    (λ i. listed h (floats_of h) (has_start h.start_of_waveform_data_packet_record) (start_back h.start_of_waveform_data_packet_record) (has_evlr h.evlr) (c.evlr_back-evlr.ensures i) (has_large h.has_large_file) (c.large_back-large.ensures i))
