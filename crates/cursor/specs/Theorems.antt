-- What is promised of the parts of an accepted file.
use Rattle.std.specs.Prelude.{Option, Some, None, Ok}
use Rattle.std.specs.Prelude.{ℕ, zero, suc, ◌+◌, ◌-◌, ◌≤◌, ◌≡◌, refl, Bool, false, cond, eqb, length, take, drop}
use Rattle.std.proofs.Common.{sym, ◌∙◌, arith}
use Rattle.std.proofs.Math.Path.{ap}
use Rattle.std.proofs.Math.Bool.{true}
use mathlib.Core.List.{List, [], ◌∷◌, ◌++◌, append_assoc}
use Rattle.std.proofs.Math.Nat.{sub-zero}
use Rattle.std.proofs.Math.ListN.{length-drop}
use Rattle.std.proofs.Math.Seq.{take-length}
use Rattle.vlr.specs.Vlr.{record_size}
use Rattle.header.specs.Layout.{VersionMinor, StartOfWaveformDataPacketRecord}
use Rattle.header.specs.Header.{number}
use Rattle.header.specs.Judged.{header_in}
use Rattle.outline.specs.declared.Outline.{Outline}
use Rattle.outline.specs.Outline.{evlr_start, evlr_count}
use Rattle.rules.specs.Records.{Run}
use Rattle.extents.specs.Extents.{points_end}
use Rattle.file.specs.Rules.{checked_of}
use Rattle.file.specs.Holds.{holds-judged}
use Rattle.file.specs.Waveform.{WaveformIn, waveform_outline, other_outline}
use Rattle.file.specs.Theorems.{accepted-holds}
use Rattle.cursor.specs.declared.Kind.TheVariants.{Header, Vlr, Gap, Points, Evlr, Waveform}
use Rattle.cursor.specs.declared.Part.{Part}
use Rattle.cursor.specs.declared.Cursor.{Cursor}
use Rattle.cursor.specs.declared.Step.{Step}
use Rattle.cursor.specs.Parts.{part, gap, between, record_parts, outline_in, later_kind, later_start, body_of, parts_of, Covers, joined}
use Rattle.cursor.specs.Cursor.{plan_of, first_of, started_of, step_of, left_of, told_by, cursor_after, after}
use Rattle.cursor.specs.Laws.{left_step}
use Rattle.cursor.specs.Accepted.{to_end, laid}
use Rattle.cursor.specs.Covers.{covered, first_tells, joined_is}

-- what k steps tell, from a cursor on
abbrev pub steps : ℕ → List ℕ → Cursor → List Part
steps zero s c = []
steps (suc k) s c = told_by (steps k s) (step_of s c)

tells : (k : ℕ) (s : List ℕ) (c : Cursor) → steps k s c ≡ take k (left_of s c)
tells zero s c = refl
tells (suc k) s c = go (step_of s c) (λ r. tells k s r.next) ∙ ap (take (suc k)) (sym (left_step s c))
  where
    go : (x : Option Step) → ((r : Step) → steps k s r.next ≡ take k (left_of s r.next)) → told_by (steps k s) x ≡ take (suc k) (told_by (left_of s) x)
    go None h = refl
    go (Some r) h = ap (λ (ps : List Part). r.part ∷ ps) (h r)

-- the parts up to the points, these included
abbrev pub up_to_points : Outline → List ℕ → List Part
up_to_points o s =
    let points = o.offset_to_point_data in
    part Header 0 o.header_size ∷ (record_parts Vlr false o.number_of_variable_length_records o.header_size points s ++ (part Points points (points_end o - points) ∷ []))

-- and those after them, by the later records of an outline
abbrev after_points : ℕ → Outline → List ℕ → List Part
after_points end o s =
    let start = cond (eqb o.number_of_later_records 0) end o.start_of_later_records in
    gap end start ++ record_parts (later_kind o.waveform) true o.number_of_later_records start (length s) s

split : (o x : Outline) (s : List ℕ) → o ≡ x → parts_of o s ≡ up_to_points o s ++ after_points (points_end o) x s
unfolding parts_of body_of later_start
split o x s same =
    let points = o.offset_to_point_data in
    let vlrs = record_parts Vlr false o.number_of_variable_length_records o.header_size points s in
    ap (λ (ps : List Part). part Header 0 o.header_size ∷ ps) (sym (append_assoc vlrs (part Points points (points_end o - points) ∷ []) (after_points (points_end o) o s)))
    ∙ ap (λ (y : Outline). up_to_points o s ++ after_points (points_end o) y s) same

module _ (allowance : ℕ) (s : List ℕ) {n : ℕ} (accepted : checked_of allowance s ≡ Ok n) where
  abbrev parts : List Part
  parts = parts_of (outline_in s) s

  -- "the parts of an accepted file cover it exactly, byte after byte, none overlapping"
  pub cover : Covers 0 (length s) parts
  cover = covered (outline_in s) s (laid allowance s accepted)

  -- so that, joined, they are the file
  pub whole : joined s parts ≡ s
  whole = joined_is s 0 (length s) parts cover ∙ rw (sub-zero, take-length)

  -- a cursor starts, and each step from there tells the next of the parts in file order
  pub starts : started_of allowance s ≡ Ok (first_of (plan_of (outline_in s)))
  unfolding started_of
  starts = rw accepted

  pub in_order : (k : ℕ) → steps k s (first_of (plan_of (outline_in s))) ≡ take k parts
  in_order k = tells k s (first_of (plan_of (outline_in s))) ∙ ap (take k) (first_tells (outline_in s) s (laid allowance s accepted))

  -- document 02, No. 11: "In 1.3 with bit 1 of global encoding set and a waveform start that isn't zero, the waveform packets are a record
  -- with a 60-byte head after the points", and "a part of its own kind"; it starts where the header says, and but for gaps nothing stands
  -- between the points and it, or behind it.
  pub waveform_part : WaveformIn s
      → (let o = outline_in s in
      let start = number StartOfWaveformDataPacketRecord s in
      let size = record_size true (drop start s) in
      (parts ≡ up_to_points o s ++ (gap (points_end o) start ++ (part Waveform start size ∷ gap (start + size) (length s)))) × (points_end o ≤ start) × (start + size ≤ length s))
  unfolding later_kind record_parts
  waveform_part w =
      let o = outline_in s in
      let start = number StartOfWaveformDataPacketRecord s in
      let holds = accepted-holds allowance s accepted in
      let same = waveform_outline s (holds-judged s holds.header) w in
      let from : o.start_of_later_records ≡ start = ap (λ (x : Outline). x.start_of_later_records) same in
      let one : o.number_of_later_records ≡ 1 = ap (λ (x : Outline). x.number_of_later_records) same in
      let bounds = holds.parts.later_start_lem (omega arith) in
      let whole : Run true 1 (drop start s) = rw (from, one) at holds.parts.later_whole in (
        split o _ s same
            ∙ ap (λ (rest : List ℕ). up_to_points o s ++ (gap (points_end o) start ++ (part Waveform start (record_size true rest) ∷ gap (start + record_size true rest) (length s)))) (sym (to_end start s)),
        omega (arith, bounds.0),
        omega (arith, bounds.1, whole.0, length-drop start s),
      )

-- document 01's parts: the records after the points are the EVLRs of the header's pair
abbrev pub AsIn01 : List ℕ → Type 0
AsIn01 s =
    let o = outline_in s in
    let pair = (header_in s).evlr in
    let start = cond (eqb (evlr_count pair) 0) (points_end o) (evlr_start pair) in
    parts_of o s ≡ up_to_points o s ++ (gap (points_end o) start ++ record_parts Evlr true (evlr_count pair) start (length s) s)

-- any other file has these,
pub other_files : (s : List ℕ) → (WaveformIn s → ⊥) → AsIn01 s
unfolding later_kind
other_files s other = split (outline_in s) _ s (other_outline s other)

-- so "No other version changes."
pub other_versions : (s : List ℕ) → (number VersionMinor s ≡ 3 → ⊥) → AsIn01 s
other_versions s other = other_files s (λ w. other w.version)

-- after the last part there is none, for ever
pub none_for_ever : (s : List ℕ) (c : Cursor) → step_of s c ≡ None → (k : ℕ) → (after k s c ≡ c) × (step_of s (after k s c) ≡ None)
none_for_ever s c e zero = (refl, e)
none_for_ever s c e (suc k) =
    let before = none_for_ever s c e k in
    let stays : after (suc k) s c ≡ c = ap (cursor_after (after k s c)) before.1 ∙ before.0 in
    (stays, ap (step_of s) stays ∙ e)

-- document 01's example: "version 1.2, header size 227, one VLR with 4 data bytes, point offset 287, format 0, two points, 327 bytes"
pub worked : (s : List ℕ) → length s ≡ 327 → record_size false (between 227 287 s) ≡ 58
    → parts_of (record { header_size = 227; offset_to_point_data = 287; number_of_variable_length_records = 1; point_data_record_format = 0; point_data_record_length = 20; number_of_point_records = 2; waveform = false; start_of_later_records = 0; number_of_later_records = 0 }) s
    ≡ part Header 0 227 ∷ part Vlr 227 58 ∷ part Gap 285 2 ∷ part Points 287 40 ∷ []
unfolding parts_of body_of record_parts gap later_start
worked s l r = rw (r, l)
