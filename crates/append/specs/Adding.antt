-- Laws of an offer that adds: where its records go, and that whatever stands there is not looked at.
use Rattle.std.specs.Prelude.{Ok}
use Rattle.std.specs.Prelude.{ℕ, ◌+◌, ◌*◌, ◌≤◌, ◌≡◌, List, length, take}
use Rattle.std.proofs.Common.{ap, subst, ◌∙◌, arith}
use Rattle.header.specs.declared.Header.{Header}
use Rattle.header.specs.Layout.{VersionMinor}
use Rattle.header.specs.Header.{number}
use Rattle.header.specs.Judged.{judged, read_of, header_in}
use Rattle.header.specs.Laws.{size-least}
use Rattle.outline.specs.declared.Outline.{Outline}
use Rattle.outline.specs.Outline.{outline_of}
use Rattle.file.specs.Rules.{checked_of}
use Rattle.file.specs.Holds.{Holds, holds-judged}
use Rattle.file.specs.Theorems.{accepted-holds}
use Rattle.file.specs.Kept.{same-judged, same_read, same_header_in, same_check}
use Rattle.offer.specs.declared.Sweep.{Sweep}
use Rattle.offer.specs.Offer.{record_length, end_in}
use Rattle.offer.specs.Laws.{Adds, adds}
use Rattle.offer.specs.Sweeps.{sweep-at, sweep-bytes, sweep-points}
use Rattle.offer.specs.Tail.{same_offer}
use Rattle.sectors.specs.Header.{none-after_12}

-- a file of version 1.2 has no later records
pub none_in_12 : (a : ℕ) (s : List ℕ) {m : ℕ} → checked_of a s ≡ Ok m → (header_in s).version.minor ≡ 2 → (outline_of (header_in s)).number_of_later_records ≡ 0
none_in_12 a s accepted two = (none-after_12 s (holds-judged s (accepted-holds a s accepted).header) two).1

module _ (a : ℕ) (records : List ℕ) (n believed : ℕ) (s : List ℕ) (w : Sweep) (d : Adds a records n believed s w) where
  abbrev h : Header
  h = header_in s

  abbrev o : Outline
  o = outline_of h

  pub holds : Holds a s
  holds = accepted-holds a s d.proper.accepted

  pub none : o.number_of_later_records ≡ 0
  none = none_in_12 a s d.proper.accepted d.proper.version

  -- the records go behind the points, and are all there
  pub at-end : w.at ≡ end_in h
  at-end = ap (λ (x : Sweep). x.at) d.sweep ∙ sweep-at h records n

  pub bytes-all : w.bytes ≡ n * record_length h
  bytes-all = ap (λ (x : Sweep). x.bytes) d.sweep ∙ sweep-bytes h records n

  pub points-new : w.points ≡ believed + n
  points-new = ap (λ (x : Sweep). x.points) d.sweep ∙ sweep-points h records n ∙ ap (λ (c : ℕ). c + n) d.count

  pub enough : w.bytes ≤ length records
  enough = omega (arith, bytes-all, d.proper.there)

  -- the header's block, and then its size field, lie before them
  pub size-wide : 227 ≤ o.header_size
  size-wide = omega (arith, size-least (number VersionMinor s), holds.parts.header-size)

  pub end-wide : 227 ≤ w.at
  end-wide = omega (arith, at-end, size-wide, holds.parts.offset_after_header)

  -- a file with the same bytes before them is read and checked the same, and has the same offer
  module _ (t : List ℕ) (long : length t ≡ length s) (front : take w.at t ≡ take w.at s) where
    pub free_front : take (end_in h) t ≡ take (end_in h) s
    free_front = subst (λ (e : ℕ). take e t ≡ take e s) at-end front

    pub free_judged : judged t ≡ judged s
    free_judged = same-judged a s t holds none long free_front

    pub free_read : read_of t ≡ read_of s
    free_read = same_read a s t holds none long free_front

    pub free_header : header_in t ≡ header_in s
    free_header = same_header_in a s t holds none long free_front

    pub free_accepted : checked_of a t ≡ Ok d.proper.found
    free_accepted = same_check a s t holds none long free_front d.proper.accepted

    pub free_adds : Adds a records n believed t w
    free_adds =
        (adds a records n believed t w).0
        (same_offer a s t d.proper.accepted none long free_front records n believed ∙ (adds a records n believed s w).1 d)
