-- A point brings a walker nearer to its end.
use Rattle.std.specs.Prelude.{Result, Ok, Err}
use Rattle.refusal.specs.declared.Refused.{Refused}
use Rattle.point.specs.declared.Point.{Point}
use Rattle.std.specs.Prelude.{ℕ, ◌-◌, ◌<◌, ◌≡◌, Bool, cond, List}
use Rattle.std.proofs.Math.Path.{refl, ap}
use Rattle.std.proofs.Math.Bool.{true, false}
use native.Mathlib.Omega.{arith}
use Rattle.point.specs.declared.Point as point
use Rattle.point.specs.Read.{point_of}
use Rattle.walker.specs.declared.Place.{Place}
use Rattle.walker.specs.declared.Walker.{Walker}
use Rattle.walker.specs.Walk.{has_next, record_of, refusal_by, refusal_of, after, took_of, next_by, next_of}
use Rattle.walker.specs.Laws.{next_says}

-- a refusal is no point
no_point_lem : (p : Place) (x : point.Point) (s : Result Unit Refused) → Ok x ≡ refusal_by p s → ⊥
no_point_lem p x (Ok tt) e = let z : ◌≡◌ {A = ℕ} 0 1 = cc in omega arith
no_point_lem p x (Err err) e = let z : ◌≡◌ {A = ℕ} 0 1 = cc in omega arith

module _ (w w' : Walker) (x : point.Point) where
  abbrev s : List ℕ
  s = w.file.now

  abbrev p : Place
  p = w.place

  by_next : (b : Bool) → has_next s p ≡ b → (Ok x, w') ≡ next_by w (cond b (record { answer = Ok (point_of p.format (record_of s p)); next = after p }) (record { answer = refusal_of p; next = p })) → w'.place.left < p.left
  unfolding refusal_of after
  by_next true t e =
      let one = (next_says s p t).one in
      let left : w'.place.left ≡ p.left - 1 = ap (λ (y : Result Point Refused × Walker). y.1.place.left) e in
      omega arith
  by_next false t e = absurd (no_point_lem p x p.start (ap (λ (y : Result Point Refused × Walker). y.0) e))

  pub nearer : (Ok x, w') ≡ next_of w → w'.place.left < w.place.left
  unfolding next_of took_of
  nearer = by_next (has_next s p) refl
