use mathlib.Core.Bool.{cond}
use mathlib.Core.Path.{ap, ◌∙◌}
use Rattle.outline.specs.Outline.{evlr_start, evlr_count, is_waveform, has_waveform, outline_of}
use Rattle.outline.proofs.Outline.of.Goals as goal

pub returns : goal.returns
unfolding outline_of has_waveform
returns c =
    let h = c.args.header in
    let start = c.start_of_packets-packets.ensures in
    let is = c.is_waveform-waveform.ensures ∙ ap (is_waveform h.version h.global_encoding) start in
    λ i.
    record {
      header_size = h.header_size;
      offset_to_point_data = h.offset_to_point_data;
      number_of_variable_length_records = h.number_of_variable_length_records;
      point_data_record_format = h.point_data_record_format;
      point_data_record_length = h.point_data_record_length;
      number_of_point_records = c.number_of_point_records.ensures i;
      waveform = is i;
      start_of_later_records = (c.start_of.ensures ∙ λ j. cond (is j) (start j) (evlr_start h.evlr)) i;
      number_of_later_records = (c.number_of.ensures ∙ λ j. cond (is j) 1 (evlr_count h.evlr)) i;
    }
