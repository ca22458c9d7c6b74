-- What the file check's yes says of the points.
use Rattle.std.specs.Prelude.{Ok, Err}
use Rattle.rules.specs.NotAccepted.{not_accepted}
use Rattle.refusal.specs.Refused.{at_record}
use Rattle.std.specs.Prelude.{ℕ, ◌+◌, ◌*◌, ◌≡◌, List, drop}
use Rattle.std.proofs.Math.Path.{refl, ap}
use Rattle.std.proofs.Math.ListN.{take}
use Rattle.std.specs.Borrow.{Bor}
use Rattle.le.specs.Le.{Bytes}
use Rattle.refusal.specs.declared.Refusal.{Refusal}
use Rattle.format.specs.Fields.{record_bytes}
use Rattle.header.specs.Judged.{header_in}
use Rattle.outline.specs.declared.Outline.{Outline}
use Rattle.outline.specs.Outline.{outline_of}
use Rattle.file.specs.Rules.{checked_of}
use Rattle.file.specs.Points.{point_format, length-fits, format_long}
use Rattle.file.specs.Theorems.{accepted-holds}
use Rattle.walker.specs.declared.Walker.{Walker}
use Rattle.walker.specs.Begin.{first_place, refused_place, begin_of, walker_of}
use Rattle.walker.specs.Steps.{Ready, nth_record}

-- where a walker starts: of an accepted file before the first of its points, in the header's format, and of a refused one with the refusal
module _ (allowance : ℕ) (s : List ℕ) where
  pub begins : {n : ℕ} → checked_of allowance s ≡ Ok n → (let p = begin_of allowance s in let o = outline_of (header_in s) in (p.format ≡ point_format o) × (p.at ≡ o.offset_to_point_data) × (p.count ≡ o.number_of_point_records) × (p.start ≡ (Ok tt)))
  unfolding begin_of first_place
  begins accepted = rw accepted (refl, refl, refl, refl)

  pub begins_refused : {r : Refusal} {m n : ℕ} → checked_of allowance s ≡ Err (not_accepted r m n) → (begin_of allowance s).start ≡ Err (at_record r m)
  unfolding begin_of refused_place
  begins_refused refused = rw refused

-- the walker before the first point
abbrev pub first_of : Bor (List ℕ) → Walker
first_of file = record { file = file; place = first_place (outline_of (header_in file.now)) }

module _ (allowance : ℕ) (file : Bor (List ℕ)) (n : ℕ) (accepted : checked_of allowance file.now ≡ Ok n) where
  abbrev first : Outline
  first = outline_of (header_in file.now)

  -- so a walker of an accepted file stands before its first point
  pub at_first : walker_of allowance file ≡ first_of file
  unfolding walker_of begin_of
  at_first = rw accepted

  -- in records as long as the header says
  long : record_bytes (point_format first) ≡ first.point_data_record_length
  long = format_long allowance file.now (accepted-holds allowance file.now accepted)

  -- and has its records before it
  pub ready : Bytes file.now → Ready (first_of file)
  unfolding first_place
  ready bytes =
      record {
        accepted = refl;
        fits = rw long (length-fits file.now bytes);
        room = rw long (accepted-holds allowance file.now accepted).parts.points-within;
      }

  -- each as long as the header says
  pub nth_is : (k : ℕ) → nth_record k (first_of file) ≡ take first.point_data_record_length (drop (first.offset_to_point_data + k * first.point_data_record_length) file.now)
  unfolding first_place
  nth_is k = ap (λ (m : ℕ). take m (drop (first.offset_to_point_data + k * m) file.now)) long
