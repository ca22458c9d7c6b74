-- Point records counted by return: document 02, No. 1, "the five counts by return (returns 0, 6 and 7 are counted nowhere)".
use Rattle.refusal.specs.declared.Refusal.{Refusal}
use Rattle.point.specs.declared.Point.{Point}
use Rattle.std.specs.Prelude.{ℕ, zero, suc, ◌+◌, ◌*◌, cond, List, eqb, ltb, length, take, drop, Result, Ok, Err}
use Rattle.refusal.specs.declared.Refusal.TheVariants.{Short}
use Rattle.refusal.specs.Table.{wanted_of}
use Rattle.format.specs.declared.Format.{Format}
use Rattle.format.specs.Fields.{record_bytes, len_of}
use Rattle.flags.specs.Readings.{return_number_of}
use Rattle.point.specs.Read.{read_of}
use Rattle.tally.specs.declared.ByReturn.{ByReturn}

-- the return number of the point that is read; 0 where none is
abbrev pub return_by : Result Point Refusal → ℕ
return_by (Ok p) = return_number_of p.flags
return_by (Err r) = 0

unfoldable pub return_in : Format → List ℕ → ℕ
return_in f s = return_by (read_of f s)

-- how many of n records, one after the other, have return number r
unfoldable pub count_of : Format → ℕ → ℕ → List ℕ → ℕ
count_of f r zero s = 0
count_of f r (suc n) s = cond (eqb (return_in f (take (record_bytes f) s)) r) 1 0 + count_of f r n (drop (record_bytes f) s)

-- those of returns 1 to 5
unfoldable pub by_return : Format → ℕ → List ℕ → ByReturn
by_return f n s =
    record {
      first = count_of f 1 n s;
      second = count_of f 2 n s;
      third = count_of f 3 n s;
      fourth = count_of f 4 n s;
      fifth = count_of f 5 n s;
    }

-- 8 for a format that is overlong, then "records short (1)"; the product is exact
abbrev pub tally_by : Result ℕ Refusal → Format → ℕ → List ℕ → Result ByReturn Refusal
tally_by (Err r) f n s = Err r
tally_by (Ok m) f n s = cond (ltb (length s) (n * m)) (Err (Short (wanted_of (n * m)))) (Ok (by_return f n s))

unfoldable pub tally_of : Format → ℕ → List ℕ → Result ByReturn Refusal
tally_of f n s = tally_by (len_of f) f n s
