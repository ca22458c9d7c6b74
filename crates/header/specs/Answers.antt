-- Laws of what the reader answers, for whoever asks it: what is read of an accepted header, and which refusals there are.
use Rattle.std.specs.Prelude.{Result, Ok, Err}
use Rattle.header.specs.Whole.{whole_of}
use Rattle.header.specs.declared.Whole.{Whole}
use Rattle.std.specs.Prelude.{ℕ, ◌+◌, ◌-◌, ◌≤◌, ◌<◌, ◌≡◌, refl, Bool, cond, ◌&&◌, List, eqb, length, take, drop}
use Rattle.std.proofs.Common.{sym, subst, ◌∙◌, arith, lt-ltb, le-ltb, eq-eqb, ltb-true, ltb-false, length-take-le}
use Rattle.std.proofs.Math.Path.{ap}
use Rattle.std.proofs.Math.Bool.{true, false}
use Rattle.std.proofs.Math.Dec.{ltb}
use Rattle.le.specs.Le.{Bytes}
use Rattle.le.specs.Laws.{num-take, num-lt, bytes_take}
use Rattle.refusal.specs.declared.Refusal.{Refusal}
use Rattle.refusal.specs.Refused.{err_same}
use Rattle.refusal.specs.declared.Refusal.TheVariants.{Short, Signature, Version as VersionRefusal}
use Rattle.header.specs.declared.Version.{Version}
use Rattle.header.specs.declared.Header.{Header}
use Rattle.header.specs.Layout.{Field, FileSignature, VersionMajor, VersionMinor, HeaderSize, OffsetToPointData, PointDataRecordLength, place, width, fields_of, size}
use Rattle.header.specs.Header.{part, number, header_of, default_header, lasf}
use Rattle.header.specs.Judged.{eq_list, standard_of, version_of, padded_to, sized, versioned, judged, read_by, read_of, header_or, header_in, padding_by, padding_of}
use Rattle.header.specs.Window.{part-take}
use Rattle.header.specs.Laws.{accepted, within}

-- the reader answers as rule 1 judges
pub read_refused : (s : List ℕ) {r : Refusal} → judged s ≡ Err r → read_of s ≡ Err r
unfolding read_of read_by
read_refused s p = ap (λ (a : Result Whole Refusal). read_by a s) p

pub read-judged : (s : List ℕ) {h : Header} → read_of s ≡ Ok h → (n e : ℕ) × (judged s ≡ Ok (whole_of n e))
unfolding read_of read_by
read-judged s {h} p = go (judged s) refl
  where
    go : (a : Result Whole Refusal) → judged s ≡ a → (n e : ℕ) × (judged s ≡ Ok (whole_of n e))
    go (Ok whole) q = (whole.block, whole.end, q)
    go (Err r) q = let never : Err r ≡ Ok h = sym (ap (λ (a : Result Whole Refusal). read_by a s) q) ∙ p in absurd cc

pub refused-judged : (s : List ℕ) {r : Refusal} → read_of s ≡ Err r → judged s ≡ Err r
unfolding read_of read_by
refused-judged s {r} p = go (judged s) refl
  where
    go : (a : Result Whole Refusal) → judged s ≡ a → judged s ≡ Err r
    go (Ok whole) q = let never : Ok (header_of (take whole.block s)) ≡ Err r = sym (ap (λ (a : Result Whole Refusal). read_by a s) q) ∙ p in absurd cc
    go (Err r') q =
        let same : ◌≡◌ {A = Result Header Refusal} (Err r') (Err r) = sym (ap (λ (a : Result Whole Refusal). read_by a s) q) ∙ p in
        q ∙ ap Err (err_same same)

-- the header that was read is the one in the bytes
pub header_is : (s : List ℕ) {h : Header} → read_of s ≡ Ok h → h ≡ header_in s
header_is s p = sym (ap header_or p)

-- and the same answer has the same header
pub header_same : (s t : List ℕ) → read_of t ≡ read_of s → header_in t ≡ header_in s
header_same s t p = ap header_or p

-- a block that its version's fields fill
pub record Block (b : List ℕ) : Type 0 where
  pub signature : part FileSignature b ≡ lasf
  pub major : number VersionMajor b ≡ 1
  pub minor : number VersionMinor b < 5
  pub fills : length b ≡ size (fields_of (number VersionMinor b))

-- what is read of a header that is accepted: that of its block, and the bytes between as padding
module _ (s : List ℕ) {n e : ℕ} (p : judged s ≡ Ok (whole_of n e)) where
  pub read_whole : read_of s ≡ Ok (header_of (take n s))
  unfolding read_of read_by
  read_whole = ap (λ (a : Result Whole Refusal). read_by a s) p

  pub header_whole : header_in s ≡ header_of (take n s)
  header_whole = ap header_or read_whole

  pub padding-whole : padding_of s ≡ take (e - n) (drop n s)
  unfolding padding_of padding_by
  padding-whole = ap (λ (a : Result Whole Refusal). padding_by a s) p

  -- the fields of its block are those of the bytes, and so are its version and its header-size field
  pub number-block : (f : Field) → place f + width f ≤ n → number f (take n s) ≡ number f s
  number-block f h = num-take (width f) (place f) s n h

  pub block-of : Block (take n s)
  block-of =
      let a = accepted s p in
      let w = within s p in
      let minors = number-block VersionMinor (omega (arith, w.0)) in
      record {
        signature = part-take n s 4 0 (omega (arith, w.0)) ∙ a.signature;
        major = number-block VersionMajor (omega (arith, w.0)) ∙ a.major;
        minor = rw minors a.minor;
        fills = length-take-le n s (omega (arith, w.1, w.2)) ∙ a.block ∙ ap (λ (m : ℕ). size (fields_of m)) (sym minors);
      }

  pub version_read : (header_in s).version ≡ version_of s
  unfolding header_of version_of
  version_read =
      let w = within s p in
      ap (λ (h : Header). h.version) header_whole
      ∙ λ i. record { major = number-block VersionMajor (omega (arith, w.0)) i; minor = number-block VersionMinor (omega (arith, w.0)) i }

  pub size_read : (header_in s).header_size ≡ number HeaderSize s
  unfolding header_of
  size_read = ap (λ (h : Header). h.header_size) header_whole ∙ number-block HeaderSize (omega (arith, (within s p).0))

-- a record length that is read is a number of two bytes, the default one too
pub record_length-fits : (s : List ℕ) → Bytes s → (header_in s).point_data_record_length ≤ 65535
unfolding read_of read_by header_of default_header
record_length-fits s bytes = go (judged s)
  where
    go : (a : Result Whole Refusal) → (header_or (read_by a s)).point_data_record_length ≤ 65535
    go (Ok whole) = omega (arith, num-lt 2 (take whole.block s) (place PointDataRecordLength) (bytes_take whole.block s bytes))
    go (Err r) = omega arith

-- and a point offset one of four
pub point_offset_fits : (s : List ℕ) → Bytes s → (header_in s).offset_to_point_data ≤ 4294967295
unfolding read_of read_by header_of default_header
point_offset_fits s bytes = go (judged s)
  where
    go : (a : Result Whole Refusal) → (header_or (read_by a s)).offset_to_point_data ≤ 4294967295
    go (Ok whole) = omega (arith, num-lt 4 (take whole.block s) (place OffsetToPointData) (bytes_take whole.block s bytes))
    go (Err r) = omega arith

-- a version that is known has the size of its fields
pub standard_is : (v : Version) → v.major ≡ 1 → v.minor < 5 → standard_of v ≡ Ok (size (fields_of v.minor))
unfolding standard_of
standard_is v major minor = rw (eq-eqb _ _ major, lt-ltb _ _ minor)

-- where the padding ends
pub padded_field : (n field : ℕ) → n ≤ field → padded_to n field ≡ field
unfolding padded_to
padded_field n field h = go (ltb n field) refl
  where
    go : (b : Bool) → ltb n field ≡ b → cond b field n ≡ field
    go true e = refl
    go false e = omega (arith, ltb-false n field e)

pub padded_most : (n field : ℕ) → field ≤ padded_to n field
unfolding padded_to
padded_most n field = go (ltb n field) refl
  where
    go : (b : Bool) → ltb n field ≡ b → field ≤ cond b field n
    go true e = omega arith
    go false e = omega (arith, ltb-false n field e)

-- and padding that follows a header follows it when both move
pub padded_grown : (n field pad k : ℕ) → padded_to n field ≡ n + pad → padded_to (n + k) (field + k) ≡ n + k + pad
unfolding padded_to
padded_grown n field pad k = go (ltb n field) refl
  where
    go : (b : Bool) → ltb n field ≡ b → cond b field n ≡ n + pad → cond (ltb (n + k) (field + k)) (field + k) (n + k) ≡ n + k + pad
    go true e h = rw (lt-ltb (n + k) (field + k) (omega (arith, ltb-true n field e))) (omega arith)
    go false e h = rw (le-ltb (n + k) (field + k) (omega (arith, ltb-false n field e))) (omega arith)

pub padded_shrunk : (n field pad k : ℕ) → k ≤ field → padded_to (n + k) field ≡ n + k + pad → padded_to n (field - k) ≡ n + pad
unfolding padded_to
padded_shrunk n field pad k l = go (ltb (n + k) field) refl
  where
    go : (b : Bool) → ltb (n + k) field ≡ b → cond b field (n + k) ≡ n + k + pad → cond (ltb n (field - k)) (field - k) n ≡ n + pad
    go true e h = rw (lt-ltb n (field - k) (omega (arith, ltb-true (n + k) field e))) (omega arith)
    go false e h = rw (le-ltb n (field - k) (omega (arith, ltb-false (n + k) field e))) (omega arith)

-- a header is refused with 1, 2 or 3, and in no other way
module _ (P : Refusal → Type 0) (short : (n : ℕ) → P (Short n)) (signature : (n : ℕ) → P (Signature n)) (version : (n : ℕ) → P (VersionRefusal n)) where
  abbrev Only : Result Whole Refusal → Type 0
  Only (Ok whole) = Unit
  Only (Err r) = P r

  either : (b : Bool) (x y : Result Whole Refusal) → Only x → Only y → Only (cond b x y)
  either true x y p q = p
  either false x y p q = q

  only : (s : List ℕ) → Only (judged s)
  unfolding judged versioned standard_of sized
  only s =
      either (ltb (length s) 4) _ _ (short 4)
      (either (eq_list (part FileSignature s) lasf) _ _ (either (ltb (length s) 26) _ _ (short 26) (size (eqb (version_of s).major 1 && ltb (version_of s).minor 5) _ _)) (signature _))
    where
      size : (b : Bool) (n r : ℕ) → Only (sized (cond b (Ok n) (Err (VersionRefusal r))) s)
      size true n r = either (ltb (length s) n) _ _ (short n) (either (ltb (length s) (number HeaderSize s)) _ _ (short _) tt)
      size false n r = version r

  pub refused-only : (s : List ℕ) {r : Refusal} → judged s ≡ Err r → P r
  refused-only s p = subst Only p (only s)
