-- The class that a point had, set again, gives the file back.
use Rattle.std.specs.Prelude.{Ok}
use Rattle.std.specs.Prelude.{ℕ, ◌+◌, ◌≤◌, ◌<◌, ◌≡◌, refl, Bool, true, false, List, length, set}
use Rattle.std.proofs.Common.{ap, sym, subst, ◌∙◌, arith, get_or-set_same, set-set}
use Rattle.std.proofs.lemmas.List.{set-get_or}
use Rattle.le.specs.Le.{num, Bytes}
use Rattle.le.specs.Laws.{num-one}
use Rattle.point.specs.Class.{class_place, class_in, classed}
use Rattle.outline.specs.declared.Outline.{Outline}
use Rattle.outline.specs.Outline.{outline_of}
use Rattle.cursor.specs.Parts.{outline_in}
use Rattle.reclassify.specs.Reclassify.{is_extended, record_at, reclassified_of}
use Rattle.reclassify.specs.Laws.{class_at, Applies, applies_done}
use Rattle.reclassify.specs.Kept.{after, inside, ends, holds, same_header, same_check}

-- a byte with a class that fits has it, and with the class that it had it is as it was
has-class : (e : Bool) (c b : ℕ) → (e ≡ false → c ≤ 31) → class_in e (classed e c b) ≡ c
has-class true c b fits = refl
has-class false c b fits = omega (arith, fits refl)

had_class : (e : Bool) (c b : ℕ) → (e ≡ false → c ≤ 31) → classed e (class_in e b) (classed e c b) ≡ b
had_class true c b fits = refl
had_class false c b fits = omega (arith, fits refl)

class_small : (e : Bool) (b : ℕ) → e ≡ false → class_in e b ≤ 31
class_small true b e = let z : ◌≡◌ {A = ℕ} 0 1 = cc in absurd (omega arith)
class_small false b e = omega arith

module _ (a i c : ℕ) (s : List ℕ) (d : Applies a i c s) (bytes : Bytes s) where
  abbrev o : Outline
  o = outline_in s

  abbrev e : Bool
  e = is_extended o

  abbrev at : ℕ
  at = class_at i s

  abbrev t : List ℕ
  t = after a i c s d

  -- the class that the point had
  abbrev pub was : ℕ
  was = class_in e (num 1 at s)

  outline : outline_in t ≡ o
  outline = ap outline_of (same_header a i c s d bytes)

  pub applies_again : Applies a i was t
  applies_again =
      record {
        found = d.found;
        accepted = same_check a i c s d bytes;
        some = d.some;
        there = subst (λ (u : Outline). i ≤ u.number_of_point_records) (sym outline) d.there;
        fits = λ old. class_small e (num 1 at s) (ap is_extended (sym outline) ∙ old);
      }

  within : at < length s
  within = omega (arith, inside a i c s d bytes, ends a i c s d bytes, (holds a i c s d).parts.points-within)

  now_there : num 1 at t ≡ classed e c (num 1 at s)
  now_there = num-one t at ∙ get_or-set_same s at (classed e c (num 1 at s)) 0 within

  put_back : set t at (num 1 at s) ≡ s
  put_back = set-set s at (classed e c (num 1 at s)) (num 1 at s) ∙ ap (set s at) (num-one s at) ∙ set-get_or s at 0

  pub class_back : reclassified_of a i was t ≡ (Ok c, s)
  class_back =
      applies_done a i was t applies_again
      ∙ (λ j. let u = outline j in let k = record_at u i + class_place (is_extended u) in (Ok (class_in (is_extended u) (num 1 k t)), set t k (classed (is_extended u) was (num 1 k t))))
      ∙ (λ j. (Ok (class_in e (now_there j)), set t at (classed e was (now_there j))))
      ∙ (λ j. (Ok (has-class e c (num 1 at s) d.fits j), set t at (had_class e c (num 1 at s) d.fits j)))
      ∙ ap (λ (l : List ℕ). (Ok c, l)) put_back
