-- What is so of each part of a file that is laid out as the rules say.
use Prim.Native.Nat.{ℕ, zero, suc, ◌-◌, ◌≤◌}
use Rattle.std.specs.Prelude.{◌≡◌, refl, Bool, cond, List, [], ◌∷◌, ◌++◌, ltb, length}
use Rattle.std.proofs.Common.{subst}
use Rattle.std.proofs.Math.Bool.{true, false}
use Rattle.vlr.specs.Vlr.{record_size}
use Rattle.outline.specs.declared.Outline.{Outline}
use Rattle.extents.specs.Extents.{points_end}
use Rattle.rules.specs.Records.{Run}
use Rattle.cursor.specs.declared.Kind.{Kind}
use Rattle.cursor.specs.declared.Kind.TheVariants.{Header, Vlr, Gap, Points, Evlr, Waveform}
use Rattle.cursor.specs.declared.Part.{Part}
use Rattle.cursor.specs.Parts.{part, gap, between, record_parts, later_kind, later_start, body_of, parts_of, Laid, Each}
use Rattle.cursor.specs.Laws.{drop-between}

-- the header is the first part
pub header_first : (o : Outline) (s : List ℕ) → parts_of o s ≡ part Header 0 o.header_size ∷ body_of o s
unfolding parts_of
header_first o s = refl

module _ (P : Part → Type 0) where
  pub each_both : (ps qs : List Part) → Each P ps → Each P qs → Each P (ps ++ qs)
  each_both [] qs a b = b
  each_both (p ∷ ps) qs (h, a) b = (h, each_both ps qs a b)

  -- so of any gap,
  module _ (gaps : (from to : ℕ) → P (part Gap from (to - from))) where
    each-gap : (from to : ℕ) → Each P (gap from to)
    unfolding gap
    each-gap from to = go (ltb from to)
      where
        go : (b : Bool) → Each P (cond b (part Gap from (to - from) ∷ []) [])
        go true = (gaps from to, tt)
        go false = tt

    module _ (s : List ℕ) where
      -- of any record of a kind that ends where it must,
      abbrev pub Records : Kind → Bool → Type 0
      Records k extended =
          (at to : ℕ) → record_size extended (between at to s) ≤ length (between at to s) → P (part k at (record_size extended (between at to s)))

      each_record : (k : Kind) (extended : Bool) → Records k extended → (n at to : ℕ) → Run extended n (between at to s) → Each P (record_parts k extended n at to s)
      unfolding record_parts
      each_record k extended one zero at to r = each-gap at to
      each_record k extended one (suc n) at to (here, r) =
          (one at to here, each_record k extended one n _ to (subst (Run extended n) (drop-between _ at to s) r))

      -- so of later records of either kind,
      records_later : Records Evlr true → Records Waveform true → (waveform : Bool) → Records (later_kind waveform) true
      unfolding later_kind
      records_later evlrs packets true = packets
      records_later evlrs packets false = evlrs

      -- and of the points, it is so of each part after the header
      pub each_part : (o : Outline) → Laid o s → Records Vlr false → Records Evlr true → Records Waveform true → P (part Points o.offset_to_point_data (points_end o - o.offset_to_point_data)) → Each P (body_of o s)
      unfolding body_of
      each_part o laid vlrs evlrs packets points =
          each_both (record_parts Vlr false _ _ _ s) _ (each_record Vlr false vlrs o.number_of_variable_length_records o.header_size o.offset_to_point_data laid.vlrs)
          (points, each_both (gap (points_end o) (later_start o)) _ (each-gap (points_end o) (later_start o)) (each_record (later_kind o.waveform) true (records_later evlrs packets o.waveform) o.number_of_later_records (later_start o) (length s) laid.later))
