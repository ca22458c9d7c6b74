-- Whatever the reader answers is readable: a header that bytes hold.
use Rattle.std.specs.Prelude.{Ok}
use Rattle.header.specs.Whole.{whole_of}
use Rattle.std.specs.Prelude.{ℕ, ◌+◌, ◌-◌, ◌^◌, ◌≤◌, ◌<◌, ◌≡◌, Bool, cond, List, [], take, drop}
use Rattle.std.proofs.Math.Path.{refl, ap, subst}
use Rattle.std.proofs.Common.{sym, ◌∙◌, ⊎_elim, add-sub_of_le, arith, length-drop, length-take-le}
use Rattle.std.proofs.Math.Bool.{true, false}
use Rattle.std.proofs.Math.Dec.{eqb}
use Rattle.std.proofs.Math.ListN.{length}
use Rattle.le.specs.Le.{Bytes}
use Rattle.le.specs.Laws.{bytes_take, num-lt, num_past}
use Rattle.fields.specs.Table.{All, none, ◌&◌}
use Rattle.fields.specs.Laws.{zipped, both, within as lie-within}
use Rattle.header.specs.Kinds.{Fits}
use Rattle.header.specs.Layout.{Field, VersionMinor, HeaderSize, StartOfWaveformDataPacketRecord, StartOfFirstEvlr, NumberOfEvlrs, NumberOfPointRecords, NumberOfPointsByReturn, place, kind, width, fields12, fields14, fields_of, size}
use Rattle.header.specs.Header.{number, start_of, evlr_of, large_read, no_large, header_of}
use Rattle.header.specs.Judged.{padded_to, judged, header_in, padding_of}
use Rattle.header.specs.Laws.{accepted, within, size-least, short_12, short_13}
use Rattle.header.specs.Answers.{Block, header_whole, padding-whole, number-block, block-of}
use Rattle.header.specs.Values.{value-fits, numbers_fit, nums_past}
use Rattle.header_write.specs.Bytes.{evlr_back, value_of}
use Rattle.header_write.specs.Back.{start_kept, pair_back, same_12}
use Rattle.header_write.specs.Readable.{Readable}

-- a pair that was read reads so again, and fits
module _ (a n : ℕ) where
  pub pair_normal : evlr_of (evlr_back (evlr_of a n)).start_of_first_evlr (evlr_back (evlr_of a n)).number_of_evlrs ≡ evlr_of a n
  unfolding evlr_of
  pair_normal = go (eqb a 0) (eqb n 0) refl refl
    where
      go : (x y : Bool) → eqb a 0 ≡ x → eqb n 0 ≡ y → evlr_of (evlr_back (evlr_of a n)).start_of_first_evlr (evlr_back (evlr_of a n)).number_of_evlrs ≡ evlr_of a n
      go true y e f = rw e
      go false true e f = rw (e, f)
      go false false e f = rw (e, f) (rw (e, f))

  pair_fits : a < 256 ^ 8 → n < 256 ^ 4 → ((evlr_back (evlr_of a n)).start_of_first_evlr < 256 ^ 8) × ((evlr_back (evlr_of a n)).number_of_evlrs < 256 ^ 4)
  pair_fits p q = ⊎_elim (λ e. rw e (omega arith, omega arith)) (λ e. rw e (p, q)) (pair_back a n)

-- what a large file's counts fit, there or not
large-fits : (b : List ℕ) → Bytes b → (t : Bool) → let l = cond t (large_read b) no_large in Fits (kind NumberOfPointRecords) l.number_of_point_records × Fits (kind NumberOfPointsByReturn) l.number_of_points_by_return
large-fits b bs true = (num-lt 8 b (place NumberOfPointRecords) bs, numbers_fit b bs 15 8 (place NumberOfPointsByReturn))
large-fits b bs false = (omega arith, subst (Fits (kind NumberOfPointsByReturn)) (nums_past 8 15 0 [] (omega arith)) (numbers_fit [] (λ k. omega arith) 15 8 0))

-- the header in a block of its version's size, where the padding ends where the field says
module _ (b padding : List ℕ) (bs : Bytes b) (k : Block b) where
  fields_fit : All (λ (f : Field). Fits (kind f) (value_of (header_of b) f)) fields14
  unfolding header_of
  fields_fit =
      let in_block : 227 ≤ length b = omega (arith, k.fills, size-least (number VersionMinor b)) in
      let old = zipped (λ f e h. subst (Fits (kind f)) (sym e) (value-fits b bs (kind f) (place f) h)) fields12 (same_12 b k.signature) (lie-within width place fields12 0 (length b) refl in_block) in
      let wave = subst (λ (n : ℕ). n < 256 ^ 8) (sym (start_kept (number StartOfWaveformDataPacketRecord b))) (num-lt 8 b 227 bs) in
      let pair = pair_fits (number StartOfFirstEvlr b) (number NumberOfEvlrs b) (num-lt 8 b 235 bs) (num-lt 4 b 243 bs) in
      let counts = large-fits b bs (eqb (number VersionMinor b) 4) in
      both (both old (wave & none)) (pair.0 & pair.1 & counts.0 & counts.1 & none)

  pub readable-block : padded_to (size (fields_of (number VersionMinor b))) (number HeaderSize b) ≡ size (fields_of (number VersionMinor b)) + length padding → Readable (header_of b) padding
  unfolding header_of start_of evlr_of
  readable-block end =
      record {
        major = k.major;
        minor = k.minor;
        fits = fields_fit;
        start_normal = ap start_of (start_kept (number StartOfWaveformDataPacketRecord b));
        start_lacks = λ old. rw (num_past 8 b 227 (omega (arith, k.fills, short_12 (number VersionMinor b) old)));
        evlr_normal = pair_normal (number StartOfFirstEvlr b) (number NumberOfEvlrs b);
        evlr_lacks = λ old. rw (num_past 8 b 235 (omega (arith, k.fills, short_13 (number VersionMinor b) old)));
        large-there = refl;
        large_lacks = λ old. let past : length b ≤ 235 = omega (arith, k.fills, short_13 (number VersionMinor b) old) in λ i. record { number_of_point_records = num_past 8 b 247 (omega arith) i; number_of_points_by_return = nums_past 8 15 255 b (omega arith) i };
        end = end;
      }

-- so whatever is accepted is read as one
module _ (s : List ℕ) (bytes : Bytes s) {n e : ℕ} (p : judged s ≡ Ok (whole_of n e)) where
  pub readable : Readable (header_in s) (padding_of s)
  readable =
      let w = within s p in
      let b = take n s in
      let k = block-of s p in
      let pad : length (take (e - n) (drop n s)) ≡ e - n = length-take-le (e - n) (drop n s) (simp length-drop (omega (arith, w.1, w.2))) in
      let fills : size (fields_of (number VersionMinor b)) ≡ n = sym k.fills ∙ length-take-le n s (omega (arith, w.1, w.2)) in
      let end : padded_to (size (fields_of (number VersionMinor b))) (number HeaderSize b) ≡ size (fields_of (number VersionMinor b)) + length (take (e - n) (drop n s)) =
      (λ i. padded_to (fills i) (number-block s p HeaderSize (omega (arith, w.0)) i)) ∙ sym (accepted s p).end ∙ rw (fills, pad) (sym (add-sub_of_le w.1)) in
      rw (header_whole s p, padding-whole s p) (readable-block b (take (e - n) (drop n s)) (bytes_take n s bytes) k end)
