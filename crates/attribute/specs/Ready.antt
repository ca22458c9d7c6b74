-- What it says that there is a place before the first attribute of a file.
use Rattle.std.specs.Prelude.{Option, Some, None, Result, Ok, Err}
use Rattle.first_vlr.specs.Span.{span}
use Rattle.first_vlr.specs.declared.Span.{Span}
use Rattle.refusal.specs.declared.Refused.{Refused}
use Rattle.std.specs.Prelude.{ℕ, ◌+◌, ◌*◌, ◌/◌, ◌≤◌, true, List, length, take, drop}
use Rattle.std.proofs.Math.Path.{◌≡◌, refl, subst⁻¹}
use Rattle.std.proofs.Common.{ap, sym, subst, ◌∙◌, div-add-mod', arith, length-drop, length-take-le}
use Rattle.le.specs.Le.{Bytes}
use Rattle.format.specs.Laws.{record_sum, fixed_le}
use Rattle.outline.specs.declared.Outline.{Outline}
use Rattle.file.specs.Rules.{checked_of}
use Rattle.file.specs.Points.{point_format, length-fits, format_long}
use Rattle.file.specs.Theorems.{accepted-holds}
use Rattle.cursor.specs.Parts.{outline_in}
use Rattle.first_vlr.specs.First.{opened_of, first_of}
use Rattle.first_vlr.specs.Laws.{found_within, opened_file_lem}
use Rattle.attribute.specs.declared.Attributes.{Attributes}
use Rattle.attribute.specs.Attributes.{types_known, sizes_of, before_first, lasf_spec, begun_by, begun_in, begun_after, begun_of}
use Rattle.attribute.specs.Find.{Ready}
use Rattle.attribute.specs.Laws.{described_says}

-- the file is accepted, its first such VLR has n descriptors, and these pass the tests
pub record Began (allowance : ℕ) (s : List ℕ) (c : Attributes) : Type 0 where
  pub records : ℕ
  pub accepted : checked_of allowance s ≡ Ok records
  pub start : ℕ
  pub n : ℕ
  pub found : first_of (outline_in s) lasf_spec 4 s ≡ Some (span start (n * 192))
  pub within : start + n * 192 ≤ length s
  pub types : types_known n (take (n * 192) (drop start s)) ≡ true
  pub sizes : sizes_of n (take (n * 192) (drop start s)) ≤ (point_format (outline_in s)).extra_bytes
  pub place : c ≡ before_first (outline_in s) start n

module _ (allowance : ℕ) (s : List ℕ) {c : Attributes} where
  in_file : (o : Outline) {records : ℕ} → checked_of allowance s ≡ Ok records → o ≡ outline_in s → (x : Option Span) → first_of o lasf_spec 4 s ≡ x → begun_by o s x ≡ Ok c → Began allowance s c
  in_file o {records} accepted is None f p = let z : ◌≡◌ {A = ℕ} 0 1 = cc in absurd (omega arith)
  in_file o {records} accepted is (Some at2) f p =
      let within = found_within o lasf_spec 4 s f in
      let long : length (take at2.length (drop at2.start s)) ≡ at2.length = length-take-le at2.length (drop at2.start s) (rw length-drop (omega arith)) in
      let says = described_says o at2.start (take at2.length (drop at2.start s)) p in
      let n = length (take at2.length (drop at2.start s)) / 192 in
      let all : at2.length ≡ n * 192 = omega (arith, div-add-mod' (length (take at2.length (drop at2.start s))) 192, says.0) in
      record {
        records = records;
        accepted = accepted;
        start = at2.start;
        n = n;
        found = ap (λ (y : Outline). first_of y lasf_spec 4 s) (sym is) ∙ f ∙ ap (λ (k : ℕ). Some (span at2.start k)) all;
        within = omega arith;
        types = subst (λ (k : ℕ). types_known n (take k (drop at2.start s)) ≡ true) all says.1;
        sizes = subst (λ (k : ℕ). sizes_of n (take k (drop at2.start s)) ≤ (point_format (outline_in s)).extra_bytes) all (rw is at says.2);
        place = says.3 ∙ ap (λ (y : Outline). before_first y at2.start n) is;
      }

  pub began : begun_of allowance s ≡ Ok c → Began allowance s c
  unfolding begun_of begun_in
  began = go (opened_of allowance s) refl
    where
      go : (x : Result Outline Refused) → opened_of allowance s ≡ x → begun_after s x ≡ Ok c → Began allowance s c
      go (Ok o) e p =
          let (records, accepted, is) = opened_file_lem allowance s e in
          in_file o accepted is (first_of o lasf_spec 4 s) refl p
      go (Err err) e p = let z : ◌≡◌ {A = ℕ} 0 1 = cc in absurd (omega arith)

  -- the extra bytes are some of a record's
  pub extra_small : Bytes s → Began allowance s c → (point_format (outline_in s)).extra_bytes ≤ 65535
  extra_small bytes b =
      let o = outline_in s in
      omega (arith, record_sum (point_format o), format_long allowance s (accepted-holds allowance s b.accepted), length-fits s bytes)

  -- so its descriptors stand in the file, and its values in a record
  pub ready : Bytes s → Began allowance s c → Ready c s
  unfolding before_first
  ready bytes b =
      let o = outline_in s in
      let holds = accepted-holds allowance s b.accepted in
      subst⁻¹ (λ (k : Attributes). Ready k s) b.place
      (record {
        descriptors = b.within;
        sizes = omega (arith, b.sizes, extra_small bytes b);
        near = omega (arith, holds.parts.offset_within, fixed_le (point_format o));
      })
