-- Document 01, "Strict conversion": the pairs of formats, and the lengths of their records.
use Rattle.std.specs.Prelude.{Option, Some, None, Result, Ok, Err, ℕ, false, cond, eqb}
use Rattle.refusal.specs.declared.Refusal.{Refusal}
use Rattle.pairs.specs.declared.Plan.{Plan}
use Rattle.refusal.specs.declared.Refusal.TheVariants.{NoPair}
use Rattle.format.specs.declared.Format.{Format}
use Rattle.format.specs.Format.{with_extra}
use Rattle.format.specs.Codes.{coded}
use Rattle.format.specs.Fields.{len_of}

-- the format of a code of the standard, with extra bytes
unfoldable pub format_with : ℕ → ℕ → Format
format_with code extra = with_extra extra (coded code false)

-- "Extra bytes are kept": both sides have as many
abbrev pub pair_of : ℕ → ℕ → ℕ → Option (Format × Format)
pair_of source target extra = Some ((format_with source extra), (format_with target extra))

-- "Pairs down: 6 to 1, 7 to 3, 8 to 3, 9 to 4, 10 to 5"
unfoldable pub old_pair : ℕ → ℕ → Option (Format × Format)
old_pair n extra =
    cond (eqb n 6) (pair_of 6 1 extra)
    (cond (eqb n 7) (pair_of 7 3 extra)
    (cond (eqb n 8) (pair_of 8 3 extra)
    (cond (eqb n 9) (pair_of 9 4 extra) (cond (eqb n 10) (pair_of 10 5 extra) None))))

-- "Up: 1 to 6, 3 to 7, 4 to 9, 5 to 10"
unfoldable pub new_pair : ℕ → ℕ → Option (Format × Format)
new_pair n extra =
    cond (eqb n 1) (pair_of 1 6 extra)
    (cond (eqb n 3) (pair_of 3 7 extra) (cond (eqb n 4) (pair_of 4 9 extra) (cond (eqb n 5) (pair_of 5 10 extra) None)))

-- "source, then target record over 65,535 bytes 8", by what the two formats' lengths answer
abbrev pub lengths_of : Format → Format → Result ℕ Refusal → Result ℕ Refusal → Result Plan Refusal
lengths_of source target (Ok m) (Ok n) =
    Ok (record { source = source; target = target; source_length = m; target_length = n })
lengths_of source target (Ok m) (Err r) = Err r
lengths_of source target (Err r) other = Err r

-- "no pair 26", then the lengths
abbrev pub planned_by : ℕ → Option (Format × Format) → Result Plan Refusal
planned_by format (Some (source, target)) = lengths_of source target (len_of source) (len_of target)
planned_by format None = Err (NoPair format)
