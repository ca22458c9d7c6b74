-- The parts of an accepted file cover it and are whole, and only the first is a header.
use Rattle.std.specs.Prelude.{Ok}
use Rattle.std.specs.Prelude.{ℕ, ◌-◌, ◌≤◌, ◌≡◌, refl, Bool, true, false, List, length, take, drop}
use Rattle.std.proofs.Common.{ap, sym, subst, ◌∙◌, arith, take-take}
use Rattle.std.proofs.Math.ListN.{length-drop}
use Rattle.std.proofs.Math.Seq.{length-take-le}
use Rattle.le.specs.Le.{Bytes}
use Rattle.vlr.specs.Vlr.{record_size}
use Rattle.header.specs.Layout.{HeaderSize}
use Rattle.header.specs.Header.{number}
use Rattle.header.specs.Judged.{header_in, padded_to}
use Rattle.header.specs.Answers.{size_read, padded_field}
use Rattle.header.specs.Laws.{within, agreed}
use Rattle.outline.specs.Outline.{header_size_is}
use Rattle.extents.specs.Extents.{points_end}
use Rattle.file.specs.Rules.{checked_of}
use Rattle.file.specs.Holds.{standard_in, Holds, holds-judged}
use Rattle.file.specs.Points.{format_len}
use Rattle.file.specs.Theorems.{accepted-holds}
use Rattle.cursor.specs.Parts.{between, outline_in, body_of, parts_of, Each}
use Rattle.cursor.specs.Laws.{between-short}
use Rattle.cursor.specs.Accepted.{laid}
use Rattle.cursor.specs.Covers.{covered}
use Rattle.cursor.specs.Each.{header_first, each_part}
use Rattle.rewrite.specs.Asked.{HeaderPart, VlrPart, PartIs, IsWhole, Tiles}
use Rattle.rewrite.specs.Laws.{record_whole}
use Rattle.rewrite.specs.Pair.{with_pair, pair_put_back}
use Rattle.rewrite.specs.Rewritten.{back_of}
use Rattle.rewrite.specs.Whole.{NoHeader, whole_same}

module _ (allowance : ℕ) (s : List ℕ) (h : Holds allowance s) where
  -- the header with its padding ends where the header-size field says
  ends_at : padded_to (standard_in s) (number HeaderSize s) ≡ (outline_in s).header_size
  ends_at =
      let field : (outline_in s).header_size ≡ number HeaderSize s = header_size_is (header_in s) ∙ size_read s (holds-judged s h.header) in
      padded_field (standard_in s) (number HeaderSize s) (omega (arith, h.parts.header-size)) ∙ sym field

  pub header_whole : HeaderPart (take (outline_in s).header_size s)
  header_whole =
      let p = holds-judged s h.header in
      let end = padded_to (standard_in s) (number HeaderSize s) in
      let w = within s p in
      let same = agreed s (take end s) p (sym (take-take end end s (omega arith))) in
      subst (λ (n : ℕ). HeaderPart (take n s)) ends_at (standard_in s, rw (length-take-le end s w.2) same)

-- a record that ends in some bytes of the file is whole
record_cut : (s : List ℕ) (x : Bool) (at to : ℕ) → record_size x (between at to s) ≤ length (between at to s) → VlrPart x (take (record_size x (between at to s)) (drop at s))
record_cut s x at to here =
    let m = record_size x (between at to s) in
    let short : m ≤ to - at = omega (arith, between-short at to s) in
    subst (VlrPart x) (take-take m (to - at) (drop at s) short) (record_whole x (between at to s) here)

-- The parts of an accepted file.
module _ (allowance : ℕ) (s : List ℕ) {n : ℕ} (p : checked_of allowance s ≡ Ok n) where
  pub file_tiles : Bytes s → Tiles (outline_in s) s 0 (parts_of (outline_in s) s)
  unfolding PartIs
  file_tiles bytes =
      let o = outline_in s in
      let h = accepted-holds allowance s p in
      let points = o.offset_to_point_data in
      let long = length-take-le (points_end o - points) (drop points s) (simp length-drop (omega (arith, h.parts.points-within))) in (
        covered o s (laid allowance s p),
        rw header_first (header_whole allowance s h, each_part (IsWhole o s) (λ from to. tt) s o (laid allowance s p) (record_cut s false) (record_cut s true) (record_cut s true) (format_len allowance s h bytes, omega (arith, long))),
      )

  pub no_header_after : Each NoHeader (body_of (outline_in s) s)
  no_header_after = each_part NoHeader (λ from to. refl) s (outline_in s) (laid allowance s p) (λ at to whole. refl) (λ at to whole. refl) (λ at to whole. refl) refl

  -- what stands for them is the file, but for the EVLR pair
  pub but_for_pair : Bytes s → with_pair s (back_of (outline_in s) s (parts_of (outline_in s) s)) ≡ s
  but_for_pair bytes =
      let o = outline_in s in
      let size = o.header_size in
      let same = whole_same o s bytes size (body_of o s) (rw header_first at (file_tiles bytes)) no_header_after in
      rw header_first (ap (with_pair s) same ∙ pair_put_back size s (header_whole allowance s (accepted-holds allowance s p)) bytes)
