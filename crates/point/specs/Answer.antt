-- What a read answers, and the extra bytes with it: one split of `read_of` and `extra_of`, from which the rest follows.
use Rattle.std.specs.Prelude.{Result, Ok, Err}
use Rattle.refusal.specs.declared.Refusal.{Refusal}
use Rattle.std.specs.Prelude.{ℕ, ◌≤◌, ◌<◌, ◌≡◌, refl, Bool, cond, length, drop}
use Rattle.std.proofs.Common.{◌∙◌, arith, ltb-true, ltb-false, le-ltb, length-drop, length-take-le}
use Rattle.std.proofs.Math.Path.{ap}
use Rattle.std.proofs.Math.Bool.{true, false}
use mathlib.Core.List.{List, []}
use Rattle.std.proofs.Math.Dec.{ltb}
use Rattle.refusal.specs.declared.Refusal.TheVariants.{Short, RecordLength}
use Rattle.format.specs.declared.Format.{Format}
use Rattle.format.specs.declared.Field.TheVariants.{ExtraBytes}
use Rattle.format.specs.Fields.{place_of, record_bytes, len_of}
use Rattle.format.specs.Length as format
use Rattle.format.specs.Length.{Told, told, len-told, len-refused, len_is, len-le}
use Rattle.format.specs.Laws.{record_end}
use Rattle.point.specs.declared.Point.{Point}
use Rattle.point.specs.Read.{field_of, point_of, sized_of, read_after, read_of, extra_after, extra_of}

-- the point and its extra bytes; 8 with the true length of an overlong format; 1 with the bytes wanted
pub data Read (f : Format) (s : List ℕ) : Result Point Refusal → List ℕ → Type 0 where
  whole : record_bytes f ≤ 65535 → record_bytes f ≤ length s → Read f s (Ok (point_of f s)) (field_of f ExtraBytes s)
  over : 65535 < record_bytes f → Read f s (Err (RecordLength (record_bytes f))) []
  short : record_bytes f ≤ 65535 → length s < record_bytes f → Read f s (Err (Short (record_bytes f))) []

module _ (f : Format) (s : List ℕ) where
  pub read : Read f s (read_of f s) (extra_of f s)
  unfolding read_of extra_of sized_of
  read = go (told f)
    where
      sized : record_bytes f ≤ 65535 → (b : Bool) → ltb (length s) (record_bytes f) ≡ b → Read f s (cond b (Err (Short (record_bytes f))) (Ok (point_of f s))) (cond b [] (field_of f ExtraBytes s))
      sized h true t = short h (ltb-true _ _ t)
      sized h false t = whole h (ltb-false _ _ t)

      go : {l : Result ℕ Refusal} → Told f l → Read f s (read_after f s l) (extra_after f s l)
      go (format.fits h) = sized h (ltb (length s) (record_bytes f)) refl
      go (format.over h) = over h

  -- a point that is answered is the record's, whole, with its extra bytes
  pub record Answered (p : Point) : Type 0 where
    pub fits : record_bytes f ≤ 65535
    pub long : len_of f ≡ Ok (record_bytes f)
    pub room : record_bytes f ≤ length s
    pub point : p ≡ point_of f s
    pub extra : extra_of f s ≡ field_of f ExtraBytes s

  pub answered : (p : Point) → read_of f s ≡ Ok p → Answered p
  answered p e =
      let a = go read e in
      record { fits = a.0; long = len-told f a.0; room = a.1; point = a.2; extra = a.3 }
    where
      go : {r : Result Point Refusal} {x : List ℕ} → Read f s r x → r ≡ Ok p → (record_bytes f ≤ 65535) × (record_bytes f ≤ length s) × (p ≡ point_of f s) × (x ≡ field_of f ExtraBytes s)
      go (whole h l) e = (h, l, cc, refl)
      go (over h) e = let z : ◌≡◌ {A = ℕ} 0 1 = cc in absurd (omega arith)
      go (short h l) e = let z : ◌≡◌ {A = ℕ} 0 1 = cc in absurd (omega arith)

  -- and bytes of the format's length are answered
  module _ (h : record_bytes f ≤ 65535) (room : record_bytes f ≤ length s) where
    pub read_whole : read_of f s ≡ Ok (point_of f s)
    unfolding read_of sized_of
    read_whole = ap (read_after f s) (len-told f h) ∙ rw (le-ltb (length s) (record_bytes f) room)

    pub extra-whole : extra_of f s ≡ field_of f ExtraBytes s
    extra-whole = (answered (point_of f s) read_whole).extra

  -- an overlong format reads nothing
  pub read_over : 65535 < record_bytes f → read_of f s ≡ Err (RecordLength (record_bytes f))
  unfolding read_of
  read_over h = ap (read_after f s) (len-refused f h)

  pub extra_over : 65535 < record_bytes f → extra_of f s ≡ []
  unfolding extra_of
  extra_over h = ap (extra_after f s) (len-refused f h)

  -- by what the length tells
  pub read_told : (n : ℕ) → len_of f ≡ Ok n → n ≤ length s → read_of f s ≡ Ok (point_of f s)
  read_told n e room = read_whole (len-le f n e) (omega (arith, len_is f n e))

  pub whole_read : len_of f ≡ Ok (length s) → read_of f s ≡ Ok (point_of f s)
  whole_read e = read_told (length s) e (omega arith)

  pub extra-length : record_bytes f ≤ length s → length (field_of f ExtraBytes s) ≡ f.extra_bytes
  extra-length h = length-take-le f.extra_bytes (drop (place_of f ExtraBytes) s) (rw length-drop (omega (arith, record_end f)))
