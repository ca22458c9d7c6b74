-- A header that bytes can hold, turned, is one that bytes can hold, with the same padding.
use Rattle.std.specs.Prelude.{ℕ, zero, suc, ◌+◌, ◌-◌, ◌^◌, ◌≤◌, ◌<◌, ◌≡◌, refl, Bool, cond, List, [], ◌∷◌, ◌++◌, eqb, ltb, get_or, take}
use Rattle.std.proofs.Common.{◌∙◌, ltb-true, ltb-false, length-append}
use Rattle.std.proofs.Math.Bool.{true, false}
use native.Mathlib.Omega.{arith}
use Rattle.std.proofs.Math.ListN.{length, replicate}
use Rattle.std.proofs.Math.Seq.{length-take-le}
use Rattle.fields.specs.Table.{All, none, ◌&◌}
use Rattle.header.specs.declared.Header.{Header}
use Rattle.header.specs.Kinds.{Numbers, Fits}
use Rattle.header.specs.Layout.{Field, kind, fields14}
use Rattle.header.specs.Header.{points_of}
use Rattle.header.specs.Answers.{padded_grown, padded_shrunk}
use Rattle.header.specs.Minor.{no_start, no_pair}
use Rattle.header_write.specs.Bytes.{value_of}
use Rattle.header_write.specs.Readable.{Readable}
use Rattle.header_convert.specs.Turned.{new_code, old_code, large_of, old_by_return, fits32, changed_of, new_places, old_places, new_header, old_header}
use Rattle.header_convert.specs.Lists.{each-passes}
use Rattle.header_convert.specs.Goes.{GoesUp, GoesDown}
use Rattle.header_convert.specs.Is.{version_is}

-- numbers below a bound, one list after another
both_below : (n : ℕ) (xs ys : List ℕ) → ((j : ℕ) → get_or xs j 0 < n) → ((j : ℕ) → get_or ys j 0 < n) → (j : ℕ) → get_or (xs ++ ys) j 0 < n
both_below n [] ys a b j = b j
both_below n (x ∷ xs) ys a b zero = a zero
both_below n (x ∷ xs) ys a b (suc j) = both_below n xs ys (λ i. a (suc i)) b j

zeros_below : (n k : ℕ) → 0 < n → (j : ℕ) → get_or (replicate k 0) j 0 < n
zeros_below n zero h j = h
zeros_below n (suc k) h zero = h
zeros_below n (suc k) h (suc j) = zeros_below n k h j

past_below : (n : ℕ) (xs : List ℕ) (j : ℕ) → 0 < n → length xs ≤ j → get_or xs j 0 < n
past_below n [] j h l = h
past_below n (x ∷ xs) zero h l = absurd (omega arith)
past_below n (x ∷ xs) (suc j) h l = past_below n xs j h (omega arith)

-- codes are small
new-code_small : (f : ℕ) → new_code f < 256
unfolding new_code
new-code_small f = go (eqb f 1)
  where
    go : (b : Bool) → cond b 6 7 < 256
    go true = omega arith
    go false = omega arith

old-code_small : (f : ℕ) → old_code f < 256
unfolding old_code
old-code_small f = go (eqb f 6)
  where
    go : (b : Bool) → cond b 1 3 < 256
    go true = omega arith
    go false = omega arith

module _ (h : Header) (padding : List ℕ) (r : Readable h padding) where
  abbrev Fit : Header → Type 0
  Fit g = All (λ (f : Field). Fits (kind f) (value_of g f)) fields14

  module _ (g : GoesUp h) where
    up_fits : Fit h → Fit (new_header h)
    unfolding new_header new_places changed_of
    up_fits (signature & src & enc & guid & major & minor & system & software & day & year & size-field & offset & vlrs & format & each & count & by-return & xs & ys & zs & xo & yo & zo & max_x & min_x & max_y & min_y & max_z & min_z & wave & first & evlrs & points & large & none) =
        let one : 1 < 256 ^ 1 = omega arith in
        let four : 4 < 256 ^ 1 = omega arith in
        let zero4 : 0 < 256 ^ 4 = omega arith in
        let zero8 : 0 < 256 ^ 8 = omega arith in
        let size' : h.header_size + 148 < 256 ^ 2 = omega (arith, g.fits.size) in
        let offset' : h.offset_to_point_data + 148 < 256 ^ 4 = omega (arith, g.fits.offset) in
        let format' : new_code h.point_data_record_format < 256 ^ 1 = omega (arith, new-code_small h.point_data_record_format) in
        let each' : h.point_data_record_length + 2 < 256 ^ 2 = omega (arith, g.fits.each) in
        let count' : 0 < 256 ^ 4 = omega arith in
        let by_return' : Fits (Numbers 5 4) (replicate 5 0) = (refl, zeros_below (256 ^ 4) 5 (omega arith)) in
        let points' : h.number_of_point_records < 256 ^ 8 = omega (arith, count) in
        let large' : Fits (Numbers 15 8) (h.number_of_points_by_return ++ replicate 10 0) =
        (length-append h.number_of_points_by_return (replicate 10 0) ∙ rw by-return.0, both_below (256 ^ 8) h.number_of_points_by_return (replicate 10 0) (λ j. omega (arith, by-return.1 j)) (zeros_below (256 ^ 8) 10 (omega arith))) in
        signature & src & enc & guid & one & four & system & software & day & year & size' & offset' & vlrs & format' & each' & count' & by_return' & xs & ys & zs & xo & yo & zo & max_x & min_x & max_y & min_y & max_z & min_z & zero8 & zero8 & zero4 & points' & large' & none

    pub new-readable : Readable (new_header h) padding
    unfolding new_header new_places changed_of
    new-readable =
        record {
          major = refl;
          minor = omega arith;
          fits = up_fits r.fits;
          start_normal = no_start;
          start_lacks = λ l. absurd (omega arith);
          evlr_normal = no_pair 0;
          evlr_lacks = λ l. absurd (omega arith);
          large-there = refl;
          large_lacks = λ l. absurd (omega arith);
          end = padded_grown 227 h.header_size (length padding) 148 (rw (version_is 2 1 3 h g.is) at r.end);
        }

  module _ (g : GoesDown h) where
    -- the counts by return are five, and fit
    five : length h.number_of_points_by_return ≡ 5 → length (large_of h) ≡ 15 → length (old_by_return h) ≡ 5
    unfolding old_by_return
    five legacy large = go (eqb h.number_of_point_records 0)
      where
        go : (b : Bool) → length (cond b (take 5 (large_of h)) h.number_of_points_by_return) ≡ 5
        go true = length-take-le 5 (large_of h) (omega arith)
        go false = legacy

    below : (j : ℕ) → get_or (old_by_return h) j 0 < 256 ^ 4
    below j = go (ltb j (length (old_by_return h))) refl
      where
        go : (b : Bool) → ltb j (length (old_by_return h)) ≡ b → get_or (old_by_return h) j 0 < 256 ^ 4
        go true e = omega (arith, ltb-true (get_or (old_by_return h) j 0) (2 ^ 32) (each-passes fits32 (old_by_return h) g.fits.by-return j (ltb-true _ _ e)))
        go false e = past_below (256 ^ 4) (old_by_return h) j (omega arith) (ltb-false _ _ e)

    down_fits : Fit h → Fit (old_header h)
    unfolding old_header old_places changed_of
    down_fits (signature & src & enc & guid & major & minor & system & software & day & year & size-field & offset & vlrs & format & each & count & by-return & xs & ys & zs & xo & yo & zo & max_x & min_x & max_y & min_y & max_z & min_z & wave & first & evlrs & points & large & none) =
        let one : 1 < 256 ^ 1 = omega arith in
        let two : 2 < 256 ^ 1 = omega arith in
        let zero4 : 0 < 256 ^ 4 = omega arith in
        let zero8 : 0 < 256 ^ 8 = omega arith in
        let size' : h.header_size - 148 < 256 ^ 2 = omega (arith, size-field) in
        let offset' : h.offset_to_point_data - 148 < 256 ^ 4 = omega (arith, offset) in
        let format' : old_code h.point_data_record_format < 256 ^ 1 = omega (arith, old-code_small h.point_data_record_format) in
        let each' : h.point_data_record_length - 2 < 256 ^ 2 = omega (arith, each) in
        let count' : points_of h < 256 ^ 4 = omega (arith, g.fits.count) in
        let by_return' : Fits (Numbers 5 4) (old_by_return h) = (five by-return.0 large.0, below) in
        let points' : 0 < 256 ^ 8 = omega arith in
        let large' : Fits (Numbers 15 8) (replicate 15 0) = (refl, zeros_below (256 ^ 8) 15 (omega arith)) in
        signature & src & enc & guid & one & two & system & software & day & year & size' & offset' & vlrs & format' & each' & count' & by_return' & xs & ys & zs & xo & yo & zo & max_x & min_x & max_y & min_y & max_z & min_z & zero8 & zero8 & zero4 & points' & large' & none

    pub old-readable : Readable (old_header h) padding
    unfolding old_header old_places changed_of
    old-readable =
        record {
          major = refl;
          minor = omega arith;
          fits = down_fits r.fits;
          start_normal = no_start;
          start_lacks = λ l. refl;
          evlr_normal = no_pair 0;
          evlr_lacks = λ l. refl;
          large-there = refl;
          large_lacks = λ l. refl;
          end = padded_shrunk 227 h.header_size (length padding) 148 g.fits.size (rw (version_is 4 6 7 h g.is) at r.end);
        }
