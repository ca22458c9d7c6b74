-- The points written afresh with one class changed are their bytes with one byte changed.
use Rattle.std.specs.Prelude.{Result, Ok}
use Rattle.point.specs.declared.Point.{Point}
use Rattle.refusal.specs.declared.Refusal.{Refusal}
use Prim.Native.Nat.{ℕ, zero, suc, ◌+◌, ◌*◌, ◌-◌, ◌≤◌, ◌<◌}
use Rattle.std.specs.Prelude.{◌≡◌, refl, Bool, true, cond}
use Rattle.std.proofs.Math.Path.{ap, sym}
use Rattle.std.proofs.Common.{◌∙◌, length-drop, take-append-drop, length-take-le, get_or-drop}
use Rattle.std.proofs.Math.Bool.{false}
use mathlib.Core.List.{List, ◌++◌}
use Rattle.std.proofs.Math.Nat.{suc-mul, zero-mul}
use native.Mathlib.Omega.{arith}
use borrow.Author.Tests.{ne_eqb}
use Rattle.std.proofs.Math.Dec.{eqb}
use Rattle.std.proofs.Math.ListN.{length, set, take, drop, length-set}
use Rattle.std.proofs.Math.Seq.{take_all}
use Rattle.std.proofs.lemmas.List.{set-append_left, take-set-le, drop-set-add}
use Rattle.le.specs.Le.{num, Bytes}
use Rattle.le.specs.Laws.{num-one, num-lt, num-take, bytes_take, bytes_drop}
use Rattle.le.specs.Made.{set_made}
use Rattle.format.specs.declared.Format.{Format}
use Rattle.format.specs.Fields.{len_of, record_bytes}
use Rattle.format.specs.Laws.{len_is, record_sum}
use Rattle.point.specs.Read.{point_of, extra_of}
use Rattle.point.specs.Answer.{answered, whole_read}
use Rattle.point.specs.Class.{reclassed, class_place, classed, record_with, point_classed, extra-classed}
use Rattle.point_write.specs.Write.{record_of}
use Rattle.point_write.specs.Theorems.{read_then_written}
use Rattle.rewrite.specs.Back.{point_by, point_back, points_back}
use Rattle.rewrite.specs.Laws.{no-points, more_points, point_same, part_same}
use Rattle.reclassify.specs.Afresh.{read_with, point_with, points_with}

-- a byte with another class is a byte
pub classed_byte : (e : Bool) (c b : ℕ) → c < 256 → (e ≡ false → c ≤ 31) → b < 256 → classed e c b < 256
classed_byte true c b byte fits h = byte
classed_byte false c b byte fits h = omega (arith, fits refl)

-- the class lies in the record
pub place-within : (f : Format) → class_place f.is_extended < record_bytes f
place-within f = go f.is_extended (record_bytes f) (record_sum f)
  where
    go : (e : Bool) (n : ℕ) → n ≡ 20 + cond e 2 0 + cond f.has_gps_time 8 0 + cond f.has_color 6 0 + cond f.has_nir 2 0 + cond f.has_waveform 29 0 + f.extra_bytes → class_place e < n
    go true n sum = omega arith
    go false n sum = omega arith

-- a byte behind the first m
pub num_later : (m at : ℕ) (s : List ℕ) → num 1 at (drop m s) ≡ num 1 (m + at) s
num_later m at s = num-one (drop m s) at ∙ get_or-drop m s at 0 ∙ sym (num-one s (m + at))

-- a byte set in the first m, and one set behind them
set_first : (m at x : ℕ) (s : List ℕ) → at < m → m ≤ length s → set s at x ≡ set (take m s) at x ++ drop m s
set_first m at x s h room =
    ap (λ (l : List ℕ). set l at x) (sym (take-append-drop m s)) ∙ set-append_left (take m s) (drop m s) at x (omega (arith, length-take-le m s room))

set_later : (m at x : ℕ) (s : List ℕ) → set s (m + at) x ≡ take m s ++ set (drop m s) at x
set_later m at x s =
    sym (take-append-drop m (set s (m + at) x)) ∙ (λ i. take-set-le m s (m + at) x (omega arith) i ++ drop-set-add m s at x i)

module _ (f : Format) (c : ℕ) (byte : c < 256) (fits : f.is_extended ≡ false → c ≤ 31) where
  abbrev place : ℕ
  place = class_place f.is_extended

  -- the byte of s at a place, with the class
  abbrev pub byte_at : ℕ → List ℕ → ℕ
  byte_at at s = classed f.is_extended c (num 1 at s)

  pub bytes_with : (at : ℕ) (s : List ℕ) → Bytes s → Bytes (set s at (byte_at at s))
  bytes_with at s bytes = set_made s at (byte_at at s) (classed_byte f.is_extended c (num 1 at s) byte fits (num-lt 1 s at bytes)) bytes

  -- one record
  pub point_with_lem : (s : List ℕ) → len_of f ≡ Ok (length s) → Bytes s → point_with f c s ≡ set s place (byte_at place s)
  unfolding point_with
  point_with_lem s whole bytes =
      let t = record_with f s c in
      let size : length s ≡ record_bytes f = len_is f (length s) whole in
      let long : length t ≡ length s = length-set s place (byte_at place s) in
      let room : record_bytes f ≤ length s = omega arith in
      let read = whole_read f s whole in
      ap (λ (r : Result Point Refusal). point_by f (extra_of f s) (read_with c r)) read
      ∙ ap (record_of f (reclassed c (point_of f s))) (answered f s (point_of f s) read).extra
      ∙ (λ i. record_of f (sym (point_classed f s c room) i) (sym (extra-classed f s c) i))
      ∙ read_then_written f t (bytes_with place s bytes) (omega arith)
      ∙ take_all (record_bytes f) t (omega arith)

  -- no record
  none_with : (m k : ℕ) (s : List ℕ) → points_with f m 0 c k s ≡ points_back f m k s
  unfolding points_with
  none_with m zero s = sym (no-points f m s)
  none_with m (suc k) s = ap (λ (l : List ℕ). point_back f (take m s) ++ l) (none_with m k (drop m s)) ∙ sym (more_points f m s k)

  -- the record after n others
  module _ (m : ℕ) (whole : len_of f ≡ Ok m) where
    within : place < m
    within = omega (arith, place-within f, len_is f m whole)

    -- k records and one more are the first and the others
    module _ (k : ℕ) (s : List ℕ) (long : length s ≡ suc k * m) where
      all : length s ≡ m + k * m
      all = long ∙ suc-mul k m ∙ omega arith

      others : length (drop m s) ≡ k * m
      others = rw length-drop (omega (arith, all))

      front : len_of f ≡ Ok (length (take m s))
      front = rw (length-take-le m s (omega (arith, all))) whole

    pub points_with_lem : (k n : ℕ) (s : List ℕ) → length s ≡ k * m → Bytes s → n < k → points_with f m (suc n) c k s ≡ set s (n * m + place) (byte_at (n * m + place) s)
    unfolding points_with
    points_with_lem zero n s long bytes h = absurd (omega arith)
    points_with_lem (suc k) zero s long bytes h =
        let at : 0 * m + place ≡ place = omega (arith, zero-mul m) in
        let same : byte_at place (take m s) ≡ byte_at place s = ap (classed f.is_extended c) (num-take 1 place s m (omega (arith, within))) in
        let rest = none_with m k (drop m s) ∙ part_same f m k (drop m s) (whole, others k s long) (bytes_drop m s bytes) in
        (λ i. point_with_lem (take m s) (front k s long) (bytes_take m s bytes) i ++ rest i)
        ∙ (λ i. set (take m s) place (same i) ++ drop m s)
        ∙ sym (set_first m place (byte_at place s) s within (omega (arith, all k s long)))
        ∙ ap (λ (p : ℕ). set s p (byte_at p s)) (sym at)
    points_with_lem (suc k) (suc n) s long bytes h =
        let q = n * m + place in
        let at : m + q ≡ suc n * m + place = omega (arith, suc-mul n m) in
        let later : byte_at q (drop m s) ≡ byte_at (m + q) s = ap (classed f.is_extended c) (num_later m q s) in
        let rest = points_with_lem k n (drop m s) (others k s long) (bytes_drop m s bytes) (omega arith) in
        let other : eqb (suc (suc n)) 1 ≡ false = ne_eqb (suc (suc n)) 1 (λ e. omega arith) in
        let less : suc (suc n) - 1 ≡ suc n = omega arith in
        rw (other, less)
        ((λ i. point_same f (take m s) (front k s long) (bytes_take m s bytes) i ++ rest i)
        ∙ (λ i. take m s ++ set (drop m s) q (later i))
        ∙ sym (set_later m q (byte_at (m + q) s) s)
        ∙ ap (λ (p : ℕ). set s p (byte_at p s)) at)
