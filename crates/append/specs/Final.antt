-- Laws of what stands in the file after the last store of an offer that adds.
use Rattle.std.specs.Prelude.{Ok}
use Rattle.header.specs.Whole.{whole_of}
use Rattle.std.specs.Prelude.{ℕ, ◌+◌, ◌*◌, ◌-◌, ◌^◌, ◌≤◌, ◌<◌, ◌≡◌, ◌⊎◌, List, length, get_or, take}
use Rattle.std.proofs.Common.{sym, ap, ◌∙◌, inl, inr, ⊎_elim, add-mul, arith, length-take-le}
use Rattle.std.proofs.lemmas.List.Edits.{sets}
use Rattle.std.proofs.Math.Seq.{length-sets}
use Rattle.fields.specs.Table.{part}
use Rattle.store.specs.Parts.{part_sets, part-there}
use Rattle.header.specs.declared.Header.{Header}
use Rattle.header.specs.declared.Version.{Version}
use Rattle.header.specs.Layout.{HeaderSize}
use Rattle.header.specs.Header.{number}
use Rattle.header.specs.Judged.{padded_to, judged, header_in}
use Rattle.header.specs.Updated.{Beside, updated_alike}
use Rattle.outline.specs.declared.Outline.{Outline}
use Rattle.outline.specs.Outline.{outline_of, counting}
use Rattle.extents.specs.Extents.{points_end, vlr_bytes}
use Rattle.file.specs.Rules.{checked_of}
use Rattle.file.specs.Holds.{standard_in, holds-judged}
use Rattle.file.specs.Kept.{same-part, accepted_with}
use Rattle.offer.specs.declared.Sweep.{Sweep}
use Rattle.offer.specs.Offer.{record_length, end_in}
use Rattle.offer.specs.Laws.{Adds, Stands}
use Rattle.offer.specs.Sweeps.{by_return_fit}
use Rattle.sectors.specs.Sectors.{by_return_of, with_header, stores_of, after_stores}
use Rattle.sectors.specs.Header.{header_with, Fitting, length_header, drop_header, part_header, judged_header, header_read, outline_read}
use Rattle.sectors.specs.Laws.{all-stores, no_more}
use Rattle.append.specs.Adding.{holds, none, at-end, bytes-all, points-new, enough, size-wide, end-wide, free_front, free_judged, free_header}

-- an array of six u64
pub record Bounds (bounds : List ℕ) : Type 0 where
  pub six : length bounds ≡ 6
  pub patterns : (j : ℕ) → get_or bounds j 0 < 2 ^ 64

-- t is s with the records behind the points and the header's counts and bounds anew
pub record Grown (records : List ℕ) (n : ℕ) (w : Sweep) (bounds s t : List ℕ) : Type 0 where
  pub long : length t ≡ length s
  -- the records stand behind the points that the header told
  pub there : part (n * record_length (header_in s)) (end_in (header_in s)) t ≡ take (n * record_length (header_in s)) records
  -- the header reads with the sweep's counts and the bounds, and every other field as it did
  pub header : header_in t ≡ header_with w bounds (header_in s)
  -- every other byte is as it was
  pub others : (m p : ℕ) → Beside p m → (p + m ≤ end_in (header_in s)) ⊎ (end_in (header_in s) + n * record_length (header_in s) ≤ p) → part m p t ≡ part m p s

module _ (a : ℕ) (records : List ℕ) (n believed : ℕ) (s : List ℕ) (w : Sweep) (d : Adds a records n believed s w) where
  abbrev h : Header
  h = header_in s

  abbrev o : Outline
  o = outline_of h

  abbrev size : ℕ
  size = record_length h

  abbrev new : List ℕ
  new = take w.bytes records

  new_long : length new ≡ w.bytes
  new_long = length-take-le w.bytes records (enough a records n believed s w d)

  -- the records where they go: this is read and checked as the file
  abbrev laid : List ℕ
  laid = sets s w.at new

  laid_long : length laid ≡ length s
  laid_long = length-sets s w.at new

  laid-front : take w.at laid ≡ take w.at s
  laid-front = part_sets w.at 0 new s w.at (inl (omega arith))

  laid_header : header_in laid ≡ header_in s
  laid_header = free_header a records n believed s w d laid laid_long laid-front

  laid-judged : judged laid ≡ judged s
  laid-judged = free_judged a records n believed s w d laid laid_long laid-front

  laid-whole : judged laid ≡ Ok (whole_of (standard_in s) (padded_to (standard_in s) (number HeaderSize s)))
  laid-whole = laid-judged ∙ holds-judged s (holds a records n believed s w d).header

  module _ (bounds : List ℕ) (b : Bounds bounds) where
    -- and then the header's counts and bounds
    abbrev pub full : List ℕ
    full = with_header w bounds laid

    -- which is what stands there from the last store on
    pub full_is : (k : ℕ) → stores_of w ≤ k → after_stores w records bounds k s ≡ full
    full_is k late =
        let there = enough a records n believed s w d in
        let all : stores_of w + (k - stores_of w) ≡ k = omega arith in
        rw all at (no_more w records bounds there s d.room (k - stores_of w)) ∙ all-stores w records bounds there s d.room

    fitting : Fitting w bounds
    fitting = record { points = d.fit.points; by-return = by_return_fit w d.fit; six = b.six; patterns = b.patterns }

    full_header : header_in full ≡ header_with w bounds h
    full_header = header_read w bounds fitting laid laid-whole ∙ ap (header_with w bounds) laid_header

    pub full-grown : Grown records n w bounds s full
    full-grown =
        let at = at-end a records n believed s w d in
        let all = bytes-all a records n believed s w d in
        record {
          long = length_header w bounds laid ∙ laid_long;
          there =
              rw (← at, ← all)
              (part_header w bounds b.six w.bytes w.at laid (inr (inr (end-wide a records n believed s w d))) ∙ part-there new s w.at w.bytes new_long d.room);
          header = full_header;
          others = λ m p beside apart.
              part_header w bounds b.six m p laid beside
              ∙ part_sets m p new s w.at (⊎_elim (λ before. inl (omega arith)) (λ behind. inr (omega (arith, new_long))) apart);
        }

    full_version : (header_in full).version.minor ≡ h.version.minor
    full_version =
        ap (λ (g : Header). g.version.minor) full_header
        ∙ ap (λ (v : Version). v.minor) (updated_alike w.points (by_return_of w) bounds h).version

    pub full_outline : outline_of (header_in full) ≡ counting (believed + n) o
    full_outline =
        outline_read w bounds fitting laid laid-whole (ap (λ (x : Header). x.version.minor) laid_header ∙ d.proper.version)
        ∙ ap (λ (x : Header). counting w.points (outline_of x)) laid_header
        ∙ ap (λ (k : ℕ). counting k o) (points-new a records n believed s w d)

    -- its points end where the records do
    new-end : points_end (counting (believed + n) o) ≡ end_in h + n * size
    new-end = omega (arith, add-mul believed n size, ap (λ (c : ℕ). c * size) d.count)

    pub full-accepted : checked_of a full ≡ Ok d.proper.found
    full-accepted =
        let hold = holds a records n believed s w d in
        let gap : ℕ = o.offset_to_point_data - o.header_size in
        let vlrs : vlr_bytes o full ≡ vlr_bytes o laid = ap (take gap) (drop_header w bounds b.six o.header_size laid (size-wide a records n believed s w d)) in
        let front = free_front a records n believed s w d laid laid_long laid-front in
        accepted_with a s full hold (none a records n believed s w d) full-grown.long (believed + n) (judged_header w bounds b.six laid ∙ laid-judged) full_version full_outline
        (vlrs ∙ same-part (end_in h) s laid front gap o.header_size (omega (arith, hold.parts.offset_after_header)))
        (omega (arith, new-end, at-end a records n believed s w d, bytes-all a records n believed s w d, d.room)) d.proper.accepted

    -- and so they are in
    pub full_stands : Stands a records n believed full
    full_stands =
        let each : record_length (header_in full) ≡ size = ap (λ (x : Outline). x.point_data_record_length) full_outline in
        let start : points_end (counting (believed + n) o) - n * size ≡ end_in h = omega (arith, new-end) in
        record {
          proper = record {
            found = d.proper.found;
            accepted = full-accepted;
            version = full_version ∙ d.proper.version;
            some = d.proper.some;
            there = rw each d.proper.there;
          };
          count = ap (λ (x : Outline). x.number_of_point_records) full_outline;
          last =
              ap (λ (x : Outline). part (n * x.point_data_record_length) (points_end x - n * x.point_data_record_length) full) full_outline
              ∙ ap (λ (p : ℕ). part (n * size) p full) start ∙ full-grown.there ∙ ap (λ (m : ℕ). take (n * m) records) (sym each);
        }
