-- A piece that the format has is laid at the table's place for it, and one that it lacks is not.
use Rattle.std.specs.Prelude.{Ok}
use Prim.Native.Nat.{ℕ, ◌+◌, ◌≤◌}
use mathlib.Core.Path.{◌≡◌, refl, ap, sym, ◌∙◌}
use mathlib.Core.Bool.{Bool, true, false}
use mathlib.Core.List.{List, [], ◌∷◌, ◌++◌}
use native.Mathlib.Nat.{zero-add}
use native.Mathlib.Omega.{arith}
use lib.ListN.{length, drop, length-append}
use lib.Seq.{sets}
use Rattle.lent.specs.Laws.{whole, sets_append}
use Rattle.fields.specs.Table.{Stored, done, store, joined}
use Rattle.fields.specs.Laws.{stored-joined}
use Rattle.format.specs.declared.Format.{Format}
use Rattle.format.specs.declared.Field.{Field}
use Rattle.format.specs.declared.Field.TheVariants.{GpsTime}
use Rattle.format.specs.Laws.{rest_follow}
use Rattle.format.specs.Fields.{only, rest_of, size_of, place_of, has_of, record_bytes}
use Rattle.format.specs.Each.{field-within}
use Rattle.point.specs.declared.Point.{Point}
use Rattle.point_write.specs.Write.{field_bytes, record_of, sized_of}
use Rattle.point_write.specs.Taken.{Taken, record_length_lem, taken-sized}

-- no bytes are no stores
pub no_stores : (d : List ℕ) (at : ℕ) (bs : List ℕ) → length bs ≡ 0 → d ≡ sets d at bs
no_stores d at [] e = refl
no_stores d at (b ∷ bs) e = absurd (omega arith)

module _ (f : Format) (p : Point) (e : List ℕ) (x : Field) (long : length (field_bytes f p e x) ≡ size_of f x) where
  abbrev pub Laid : Bool → List ℕ → List ℕ → Type 0
  Laid has d r = Stored (size_of f) (place_of f) (field_bytes f p e) d (only has x) r

  pub lacking : {has : Bool} {d r : List ℕ} → has ≡ false → r ≡ d → Laid has d r
  lacking lacks same = rw (lacks, same) done

  module _ {at : ℕ} {bs : List ℕ} (here : at ≡ place_of f x) (is : bs ≡ field_bytes f p e x) where
    pub there : {has : Bool} {d r : List ℕ} → has ≡ true → r ≡ sets d at bs → Laid has d r
    there {has} {d} taken put = rw taken (store (put ∙ (λ i. sets d (here i) (is i))) long done)

    pub fits : (n : ℕ) → has_of f x ≡ true → record_bytes f ≤ n → at + length bs ≤ n
    fits n has room = omega (arith, field-within f x has, here, ap length is)

-- what stands before the time, laid at the front, and then the rest: the whole record at the front
module _ (f : Format) (p : Point) (e : List ℕ) (taken : Taken f p e) (core : List ℕ) (is : record_of f p e ≡ core ++ joined (field_bytes f p e) (rest_of f)) where
  pub core-fits : length core ≤ record_bytes f
  core-fits = omega (arith, sym (record_length_lem f p e taken) ∙ ap length is ∙ length-append core (joined (field_bytes f p e) (rest_of f)))

  pub written : (n : ℕ) (d : List ℕ) {h r : List ℕ} → n ≡ record_bytes f → n ≤ length d → length core ≡ place_of f GpsTime → h ≡ sets d 0 core → Stored (size_of f) (place_of f) (field_bytes f p e) h (rest_of f) r → (Ok n, r) ≡ sized_of f p e n d
  written n d {h} {r} whole_is room long front rest =
      let put : r ≡ sets h (place_of f GpsTime) (joined (field_bytes f p e) (rest_of f)) = stored-joined (size_of f) (field_bytes f p e) (place_of f) (rest_of f) (place_of f GpsTime) (rest_follow f) rest in
      let both : sets h (place_of f GpsTime) (joined (field_bytes f p e) (rest_of f)) ≡ sets d 0 (record_of f p e) = rw (front, ← long, is) (ap (λ (k : ℕ). sets (sets d 0 core) k (joined (field_bytes f p e) (rest_of f))) (sym (zero-add (length core))) ∙ sym (sets_append d core (joined (field_bytes f p e) (rest_of f)) 0)) in
      let laid : r ≡ record_of f p e ++ drop n d = put ∙ both ∙ whole d (record_of f p e) n (record_length_lem f p e taken ∙ sym whole_is) room in
      ap (λ (l : List ℕ). (Ok n, l)) laid ∙ sym (taken-sized f p e taken n d room)
