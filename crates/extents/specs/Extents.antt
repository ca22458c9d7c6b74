-- Where the parts of a file end: document 01, rules 6 to 8, and with those of the header 2 to 8; document 02, No. 11. All sums are exact.
use Rattle.std.specs.Prelude.{ℕ, ◌+◌, ◌*◌, ◌-◌, ◌≡◌, refl, true, false, cond, List, [], ◌∷◌, ◌++◌, eqb, leb, length, take, drop}
use Rattle.refusal.specs.declared.Refusal.{Refusal}
use Rattle.refusal.specs.declared.Refusal.TheVariants.{PointExtent, EvlrStart, WaveformStart}
use Rattle.outline.specs.declared.Outline.{Outline}
use Rattle.rules.specs.Rules.{Rule, rule, header_rules, record_rules}

-- the first byte after the points; the record length is the header's field
abbrev pub points_end : Outline → ℕ
points_end o = o.offset_to_point_data + o.number_of_point_records * o.point_data_record_length

-- "VLRs follow the header without gaps": the bytes between the header and the points
abbrev pub vlr_bytes : Outline → List ℕ → List ℕ
vlr_bytes o s = take (o.offset_to_point_data - o.header_size) (drop o.header_size s)

unfoldable pub vlr_rules : ℕ → Outline → List ℕ → List Rule
vlr_rules allowance o s = record_rules false allowance 0 o.number_of_variable_length_records (vlr_bytes o s)

-- Rule 7: "Points ending beyond the file: 12."
unfoldable pub point_rule : Outline → List ℕ → Rule
point_rule o s = rule (leb (points_end o) (length s)) (PointExtent o.number_of_point_records) o.number_of_variable_length_records

-- 14 of the EVLRs' start, 35 of the waveform packets'
unfoldable pub start_refusal : Outline → Refusal
start_refusal o = cond o.waveform WaveformStart (EvlrStart o.start_of_later_records)

-- Rule 8: "If there are EVLRs: start before the end of points or beyond the file: 14; then for each, 10, or 13 if it doesn't end
-- in the file. The allowance is one for both kinds." Document 02, No. 11, of the waveform packets: "Refusals, after 12: start before
-- the end of points or beyond the file; then 10 or 13."
unfoldable pub later_rules : ℕ → Outline → List ℕ → List Rule
later_rules allowance o s =
    let vlrs = o.number_of_variable_length_records in
    let start = o.start_of_later_records in
    cond (eqb o.number_of_later_records 0) []
    (rule (leb (points_end o) start) (start_refusal o) vlrs ∷
    rule (leb start (length s)) (start_refusal o) vlrs ∷
    record_rules true allowance vlrs o.number_of_later_records (drop start s))

-- Rules 6 to 8, and 2 to 8.
unfoldable pub part_rules : ℕ → Outline → List ℕ → List Rule
part_rules allowance o s = vlr_rules allowance o s ++ (point_rule o s ∷ later_rules allowance o s)

unfoldable pub outline_rules : ℕ → ℕ → ℕ → Outline → List ℕ → List Rule
outline_rules n minor allowance o s = header_rules n minor o (length s) ++ part_rules allowance o s

-- all records, before the points and after them
unfoldable pub records_of : Outline → ℕ
records_of o = o.number_of_variable_length_records + o.number_of_later_records

pub records_are : (o : Outline) → records_of o ≡ o.number_of_variable_length_records + o.number_of_later_records
unfolding records_of
records_are o = refl
