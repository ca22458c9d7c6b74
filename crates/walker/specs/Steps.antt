-- A walker's answers one after another.
use Rattle.std.specs.Prelude.{Result, Ok, Err}
use Rattle.refusal.specs.Refused.{at_record}
use Rattle.point.specs.declared.Point.{Point}
use Rattle.refusal.specs.declared.Refused.{Refused}
use Prim.Native.Nat.{ℕ, zero, suc, ◌+◌, ◌*◌, ◌-◌, ◌≤◌, ◌<◌}
use Rattle.std.specs.Prelude.{◌≡◌, refl, true, false, List, drop}
use Rattle.std.proofs.Math.Path.{ap}
use Rattle.std.proofs.Common.{sym, ◌∙◌, zero-mul, mul-le-mul_right, arith, length-drop, length-take-le}
use Rattle.std.proofs.Math.Nat.{suc-mul}
use borrow.Author.Tests.{le-leb, lt-ltb}
use Rattle.std.proofs.Math.ListN.{length, take}
use Rattle.refusal.specs.declared.Refusal.TheVariants.{Index}
use Rattle.format.specs.Fields.{record_bytes}
use Rattle.point.specs.Read.{point_of, read_of}
use Rattle.point.specs.Answer.{read_whole}
use Rattle.walker.specs.declared.Place.{Place}
use Rattle.walker.specs.declared.Walker.{Walker}
use Rattle.walker.specs.Walk.{has_next, record_of, refusal_of, after, took_of, next_of}
use Rattle.walker.specs.Laws.{next_says}

-- a walker after n answers, and its n-th answer, counted from 0
abbrev pub walked_on : ℕ → Walker → Walker
walked_on zero w = w
walked_on (suc n) w = walked_on n (next_of w).1

abbrev pub answer_of : ℕ → Walker → Result Point Refused
answer_of n w = (next_of (walked_on n w)).0

-- the n-th record after a walker's place, counted from 0
abbrev pub nth_record : ℕ → Walker → List ℕ
nth_record n w =
    let m = record_bytes w.place.format in
    take m (drop (w.place.at + n * m) w.file.now)

-- a walker whose records, as many as are left, lie in its file: what a file that is accepted gives
pub record Ready (w : Walker) : Type 0 where
  pub accepted : w.place.start ≡ (Ok tt)
  pub fits : record_bytes w.place.format ≤ 65535
  pub room : w.place.at + w.place.left * record_bytes w.place.format ≤ length w.file.now

-- a walker with no next record stays, and repeats its refusal
module _ (w : Walker) (none : has_next w.file.now w.place ≡ false) where
  nothing : next_of w ≡ (refusal_of w.place, w)
  unfolding next_of took_of
  nothing = rw none

  pub stays : (n : ℕ) → walked_on n w ≡ w
  stays zero = refl
  stays (suc n) = ap (λ (x : Result Point Refused × Walker). walked_on n x.1) nothing ∙ stays n

  pub repeats : (n : ℕ) → answer_of n w ≡ refusal_of w.place
  repeats n = ap (λ (x : Walker). (next_of x).0) (stays n) ∙ ap (λ (x : Result Point Refused × Walker). x.0) nothing

-- k records are one and k - 1 more
one_more : (k m : ℕ) → 0 < k → k * m ≡ m + (k - 1) * m
one_more zero m h = absurd (omega arith)
one_more (suc k) m h = let e : suc k - 1 ≡ k = omega arith in rw e (omega (arith, suc-mul k m))

-- a ready walker gives its first record, and is ready after it
unfoldable moved : Walker → Walker
moved w = record { file = w.file; place = after w.place }

module _ (w : Walker) (r : Ready w) (left : 0 < w.place.left) where
  abbrev m : ℕ
  m = record_bytes w.place.format

  has : has_next w.file.now w.place ≡ true
  unfolding has_next
  has =
      let h : w.place.at + m ≤ length w.file.now = omega (arith, r.room, one_more w.place.left m left) in
      rw (r.accepted, le-leb _ _ r.fits, lt-ltb _ _ left) (le-leb _ _ h)

  first : record_of w.file.now w.place ≡ nth_record 0 w
  first =
      let e : w.place.at ≡ w.place.at + 0 * m = omega (arith, zero-mul m) in
      (next_says w.file.now w.place has).bytes ∙ ap (λ (k : ℕ). take m (drop k w.file.now)) e

  given : next_of w ≡ (Ok (point_of w.place.format (nth_record 0 w)), moved w)
  unfolding next_of took_of moved
  given = rw has (λ i. (Ok (point_of w.place.format (first i)), moved w))

  ready : Ready (moved w)
  unfolding moved after
  ready =
      let h : w.place.at + m + (w.place.left - 1) * m ≤ length w.file.now = omega (arith, r.room, one_more w.place.left m left) in
      record { accepted = r.accepted; fits = r.fits; room = h }

  shifted : (n : ℕ) → nth_record (suc n) w ≡ nth_record n (moved w)
  unfolding moved after
  shifted n =
      let e : w.place.at + suc n * m ≡ w.place.at + m + n * m = omega (arith, suc-mul n m) in
      ap (λ (k : ℕ). take m (drop k w.file.now)) e

-- the n-th answer of a ready walker is read from the n-th record
pub gives : (n : ℕ) (w : Walker) → Ready w → n < w.place.left → answer_of n w ≡ Ok (point_of w.place.format (nth_record n w))
unfolding moved after
gives zero w r h = ap (λ (x : Result Point Refused × Walker). x.0) (given w r h)
gives (suc n) w r h =
    let one : 0 < w.place.left = omega arith in
    let fewer : n < w.place.left - 1 = omega arith in
    ap (λ (x : Result Point Refused × Walker). answer_of n x.1) (given w r one)
    ∙ gives n (moved w) (ready w r one) fewer
    ∙ ap (λ (l : List ℕ). Ok (point_of w.place.format l)) (sym (shifted w r one n))

-- which the point reader reads
pub reads : (n : ℕ) (w : Walker) → Ready w → n < w.place.left → read_of w.place.format (nth_record n w) ≡ Ok (point_of w.place.format (nth_record n w))
reads n w r h =
    let m = record_bytes w.place.format in
    let k = w.place.at + n * m in
    let some : m ≤ length (drop k w.file.now) = rw length-drop (omega (arith, r.room, suc-mul n m, mul-le-mul_right m h)) in
    read_whole w.place.format (nth_record n w) r.fits (omega (arith, length-take-le m (drop k w.file.now) some))

-- and which `record_at` gives before it
pub shows : (n : ℕ) (w : Walker) → Ready w → n < w.place.left → record_of w.file.now (walked_on n w).place ≡ nth_record n w
unfolding moved after
shows zero w r h = first w r h
shows (suc n) w r h =
    let one : 0 < w.place.left = omega arith in
    let fewer : n < w.place.left - 1 = omega arith in
    ap (λ (x : Result Point Refused × Walker). record_of w.file.now (walked_on n x.1).place) (given w r one)
    ∙ shows n (moved w) (ready w r one) fewer
    ∙ sym (shifted w r one n)

-- what a walker of an accepted file answers where there is no next record
pub by_count : (p : Place) → p.start ≡ (Ok tt) → refusal_of p ≡ Err (at_record (Index p.count) 0)
unfolding refusal_of
by_count p e = rw e

-- and after the last, k records on, a ready walker has none
ends_after : (k n : ℕ) (w : Walker) → Ready w → w.place.left ≡ k → k ≤ n → answer_of n w ≡ Err (at_record (Index w.place.count) 0)
unfolding moved after has_next
ends_after zero n w r e h = repeats w (rw (r.accepted, le-leb _ _ r.fits, e)) n ∙ by_count w.place r.accepted
ends_after (suc k) zero w r e h = absurd (omega arith)
ends_after (suc k) (suc n) w r e h =
    let one : 0 < w.place.left = omega arith in
    let last : w.place.left - 1 ≡ k = omega arith in
    ap (λ (x : Result Point Refused × Walker). answer_of n x.1) (given w r one) ∙ ends_after k n (moved w) (ready w r one) last (omega arith)

pub ends : (n : ℕ) (w : Walker) → Ready w → w.place.left ≤ n → answer_of n w ≡ Err (at_record (Index w.place.count) 0)
ends n w r h = ends_after w.place.left n w r refl h
