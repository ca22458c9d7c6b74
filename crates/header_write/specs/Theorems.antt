-- What reading and writing a header add up to.
use Rattle.std.specs.Prelude.{Ok}
use Rattle.header.specs.Whole.{whole_of}
use Rattle.std.specs.Prelude.{ℕ, ◌≤◌, ◌≡◌, ◌⊎◌, List, ◌++◌, length, take, drop, replicate}
use Rattle.le.specs.Le.{Bytes}
use Rattle.header.specs.declared.Header.{Header}
use Rattle.header.specs.Layout.{VersionMinor, StartOfFirstEvlr, NumberOfEvlrs, size, fields_of}
use Rattle.header.specs.Header.{number}
use Rattle.header.specs.Judged.{judged, read_of, header_in, padding_of}
use Rattle.header_write.specs.Bytes.{block}
use Rattle.header_write.specs.Wrote.{wrote_of}
use Rattle.header_write.specs.Back.{Paired}
use Rattle.header_write.specs.Round as round
use Rattle.header_write.specs.Readable.{Readable}
use Rattle.header_write.specs.Reads as reads
use Rattle.header_write.specs.Reread as reread

-- Demand 2, "Written back, it has the same bytes": of bytes that are accepted, the header that was read and its padding are
-- written as those bytes, up to the padding's end, a NaN's pattern included.
module _ (s : List ℕ) (bytes : Bytes s) {n e : ℕ} (p : judged s ≡ Ok (whole_of n e)) where
  pub same_bytes : (number VersionMinor s ≡ 4 → Paired (number StartOfFirstEvlr s) (number NumberOfEvlrs s)) → block (header_in s) ++ padding_of s ≡ take e s
  same_bytes = round.same_bytes s bytes p

  -- "except that an EVLR start and count of which one is zero become two zeros"
  pub half_zero : number VersionMinor s ≡ 4 → (number StartOfFirstEvlr s ≡ 0) ⊎ (number NumberOfEvlrs s ≡ 0) → block (header_in s) ++ padding_of s ≡ take 235 (take e s) ++ (replicate 12 0 ++ drop 247 (take e s))
  half_zero = round.half_zero s bytes p

  -- The writer's answer and buffer, for either: where there is room, the bytes stand at the front and the rest is left.
  pub written_back : (d : List ℕ) {bs : List ℕ} → block (header_in s) ++ padding_of s ≡ bs → e ≤ length d → wrote_of (header_in s) (padding_of s) d ≡ (Ok e, bs ++ drop e d)
  written_back = round.written_back s bytes p

  -- What the reader answers is a header that bytes can hold, whatever they are.
  pub readable : Readable (header_in s) (padding_of s)
  readable = reads.readable s bytes p

-- And back: such a header, written with its padding, is read from what the writer leaves as it was, and so is the padding.
pub read_again : (h : Header) (padding : List ℕ) → Readable h padding → (d d' : List ℕ) {n : ℕ} → wrote_of h padding d ≡ (Ok n, d') → (judged d' ≡ Ok (whole_of (size (fields_of h.version.minor)) n)) × (read_of d' ≡ Ok h) × (padding_of d' ≡ padding)
read_again h padding r d d' p = reread.written_again h padding r d d' p
