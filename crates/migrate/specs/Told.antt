-- What the definitions say, by each answer that is met on the way.
use Rattle.std.specs.Prelude.{Result, Ok, Err, ℕ, ◌*◌, ◌-◌, ◌≤◌, ◌<◌, ◌≡◌, Bool, List, ◌++◌, length, take, drop}
use Rattle.rules.specs.NotAccepted.{refused_of}
use Rattle.refusal.specs.declared.Refusal.TheVariants.{NoRoom}
use Rattle.refusal.specs.Refused.{at_record}
use Rattle.judge.specs.Run.{run_of}
use Rattle.judge.specs.declared.Run.{Run}
use Rattle.refusal.specs.declared.Refused.{Refused}
use Rattle.rules.specs.declared.NotAccepted.{NotAccepted}
use Rattle.std.proofs.Common.{sym, ◌∙◌, arith, le-ltb, lt-ltb}
use Rattle.std.proofs.Math.Path.{ap}
use Rattle.refusal.specs.declared.Refusal.{Refusal}
use Rattle.header.specs.declared.Header.{Header}
use Rattle.header.specs.Judged.{header_in}
use Rattle.outline.specs.declared.Outline.{Outline}
use Rattle.outline.specs.Outline.{outline_of}
use Rattle.extents.specs.Extents.{points_end}
use Rattle.format.specs.declared.Format.{Format}
use Rattle.file.specs.Points.{point_format}
use Rattle.convert.specs.Demand.{ask_of, convert_of}
use Rattle.file.specs.Rules.{checked_of}
use Rattle.pairs.specs.declared.Plan.{Plan}
use Rattle.migrate.specs.Migrate.{goes_of, point_bytes, extra_in, run_verdict, new_file, new_length, placed, goes_verdict, header_verdict, checked_verdict, file_verdict, done_by, migrated_of}

-- the points of a file are its bytes from the offset to their end, and the question and the call are those of their format
module _ (o : Outline) (s : List ℕ) (f : Format) (e : ℕ) (format : f ≡ point_format o) (end : e ≡ points_end o) where
  abbrev sliced : List ℕ
  sliced = take (e - o.offset_to_point_data) (drop o.offset_to_point_data s)

  are_points : sliced ≡ point_bytes o s
  are_points =
      let size : e - o.offset_to_point_data ≡ o.number_of_point_records * o.point_data_record_length = omega arith in
      ap (λ (k : ℕ). take k (drop o.offset_to_point_data s)) size

  pub run-asked : (up : Bool) {b : Bool} → up ≡ b → ask_of b o.point_data_record_format f.extra_bytes o.number_of_point_records sliced ≡ run_verdict up o s
  unfolding run_verdict
  run-asked up is = λ i. ask_of (sym is i) o.point_data_record_format (format i).extra_bytes o.number_of_point_records (are_points i)

  pub run_converted : (up : Bool) {b : Bool} (d : List ℕ) → up ≡ b → convert_of b o.point_data_record_format f.extra_bytes o.number_of_point_records sliced d ≡ convert_of up o.point_data_record_format (extra_in o) o.number_of_point_records (point_bytes o s) d
  run_converted up d is = λ i. convert_of (sym is i) o.point_data_record_format (format i).extra_bytes o.number_of_point_records (are_points i) d

module _ (up : Bool) (h : Header) (s : List ℕ) where
  -- a header that goes is told what its points are, one that does not why
  pub by_points : goes_of up h ≡ Ok tt → header_verdict up h s ≡ placed (new_length up h s) (run_verdict up (outline_of h) s)
  unfolding header_verdict
  by_points e = ap (λ (g : Result Unit Refusal). goes_verdict g (placed (new_length up h s) (run_verdict up (outline_of h) s))) e

  pub by_header : {r : Refusal} → goes_of up h ≡ Err r → header_verdict up h s ≡ Err (at_record r 0)
  unfolding header_verdict
  by_header e = ap (λ (g : Result Unit Refusal). goes_verdict g (placed (new_length up h s) (run_verdict up (outline_of h) s))) e

  -- points that do not go are told why; others without room are told that, and with room they are written
  pub refused_done : (d : List ℕ) {v : Result Run Refused} {err : Refused} (n : ℕ) → v ≡ Err err → done_by up h s d (placed n v) ≡ (Err err, d)
  refused_done d n e = ap (λ (x : Result Run Refused). done_by up h s d (placed n x)) e

  pub roomless_done : (d : List ℕ) {v : Result Run Refused} {run : Run} (n : ℕ) → v ≡ Ok run → length d < n → done_by up h s d (placed n v) ≡ (Err (at_record (NoRoom n) 0), d)
  roomless_done d n e short = ap (λ (x : Result Run Refused). done_by up h s d (placed n x)) e ∙ rw (lt-ltb (length d) n short)

  pub roomy_done : (d : List ℕ) (p : Plan) (n m : ℕ) → n ≤ length d → done_by up h s d (placed n (Ok (run_of p m))) ≡ (Ok n, new_file up p h s ++ drop n d)
  roomy_done d p n m room = rw (le-ltb (length d) n room)

-- an accepted file is told by its header, one that is refused why
module _ (up : Bool) (allowance : ℕ) (s : List ℕ) where
  pub by_accepted : {n : ℕ} → checked_of allowance s ≡ Ok n → file_verdict up allowance s ≡ header_verdict up (header_in s) s
  unfolding file_verdict
  by_accepted e = ap (λ (c : Result ℕ NotAccepted). checked_verdict c (header_verdict up (header_in s) s)) e

  pub by_check_lem : {found : NotAccepted} → checked_of allowance s ≡ Err found → file_verdict up allowance s ≡ Err (refused_of found)
  unfolding file_verdict
  by_check_lem e = ap (λ (c : Result ℕ NotAccepted). checked_verdict c (header_verdict up (header_in s) s)) e

  pub done : (d : List ℕ) {v : Result Run Refused} → file_verdict up allowance s ≡ v → migrated_of up allowance s d ≡ done_by up (header_in s) s d v
  unfolding migrated_of
  done d e = ap (done_by up (header_in s) s d) e
