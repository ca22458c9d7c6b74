-- What the private steps go by.
use Rattle.std.specs.Prelude.{Ok, ℕ, ◌+◌, ◌-◌, ◌^◌, ◌≤◌, ◌<◌, ◌≡◌, Bool, List, ◌++◌, length, take, drop}
use Rattle.std.proofs.Common.{subst}
use Rattle.le.specs.Le.{Bytes}
use Rattle.header.specs.declared.Header.{Header}
use Rattle.header.specs.Layout.{fields_of, size}
use Rattle.header.specs.Judged.{header_in, padding_of}
use Rattle.header_write.specs.Readable.{Readable}
use Rattle.outline.specs.declared.Outline.{Outline}
use Rattle.extents.specs.Extents.{points_end}
use Rattle.file.specs.Holds.{Holds}
use Rattle.migrate.specs.Migrate.{goes_of, front_of}

-- the header of an accepted file
pub record Ready (h : Header) (s : List ℕ) : Type 0 where
  pub allowance : ℕ
  pub holds : Holds allowance s
  pub bytes : Bytes s
  pub read : h ≡ header_in s

-- one that goes
pub record Goer (up : Bool) (h : Header) (s : List ℕ) : Type 0 where
  pub ready : Ready h s
  pub yes : goes_of up h ≡ Ok tt

-- points that lie in a file
pub record Inside (o : Outline) (s : List ℕ) : Type 0 where
  pub within : points_end o ≤ length s
  pub known : length s < 2 ^ 63

-- a header that a front can be written with, and room for it
pub record Fronted (new : Header) (o : Outline) (s d : List ℕ) : Type 0 where
  pub readable : Readable new (padding_of s)
  pub padded : new.header_size ≡ size (fields_of new.version.minor) + length (padding_of s)
  pub after : o.header_size ≤ o.offset_to_point_data
  pub within : o.offset_to_point_data ≤ length s
  pub moved : new.offset_to_point_data ≡ new.header_size + (o.offset_to_point_data - o.header_size)
  pub room : new.offset_to_point_data ≤ length d

-- and for what follows the points, which end at `to`
pub record Around (new : Header) (o : Outline) (to : ℕ) (s d : List ℕ) : Type 0 where
  pub front : Fronted new o s d
  pub points : new.offset_to_point_data ≤ to
  pub inside : points_end o ≤ length s
  pub known : length s < 2 ^ 63
  pub rest : to + (length s - points_end o) ≤ length d

-- the front, the points that stand there, and what follows them
abbrev pub around_of : Header → Outline → ℕ → List ℕ → List ℕ → List ℕ
around_of new o to s d =
    let offset = new.offset_to_point_data in
    front_of new o s ++ (take (to - offset) (drop offset d) ++ (drop (points_end o) s ++ drop (to + length (drop (points_end o) s)) d))

-- of equals
pub around_at : {g g' : Header} {o o' : Outline} {to to' : ℕ} {s d d' : List ℕ} → g ≡ g' → o ≡ o' → to ≡ to' → d ≡ d' → Around g o to s d → Around g' o' to' s d'
around_at {g} {g'} {o} {o'} {to} {to'} {s} {d} {d'} p q r e a =
    subst (λ (x : Header). Around x o' to' s d') p (subst (λ (x : Outline). Around g x to' s d') q (subst (λ (x : ℕ). Around g o x s d') r (subst (λ (x : List ℕ). Around g o to s x) e a)))
