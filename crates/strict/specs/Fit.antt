-- Document 01, "Strict conversion", for one record: "Then records in turn, each by: return number above 7; number of returns
-- above 7; class above 31; channel above 0; overlap set and class not 12, or clear and class 12 or 28; NIR not 0; rank before
-- holding outside −128 to 127." Document 02, No. 2, amends the last limits: "the standard's rank runs from −90 to 90".
use Rattle.std.specs.Prelude.{Option, Some, None, Result, Ok, Err, ℕ, Bool, true, false, not, cond, ◌&&◌, eqb, ltb, ℤ, pos, neg_ℤ}
use Rattle.refusal.specs.declared.Refusal.{Refusal}
use Rattle.std.specs.Int.Signed.{lt_z}
use Rattle.std.specs.Int.{w16}
use Rattle.std.proofs.Common.{of_z}
use Rattle.refusal.specs.declared.Refusal.TheVariants.{ReturnNumber, NumberOfReturns, Class, Channel, Overlap, Nir, Angle}
use Rattle.flags.specs.declared.Flags.{Flags}
use Rattle.flags.specs.Readings.{return_number_of, number_of_returns_of, class_of, channel_of, overlap_of}
use Rattle.angle.specs.declared.ScanAngle.{ScanAngle}
use Rattle.angle.specs.declared.ScanAngle.TheVariants.{Rank, Scaled}
use Rattle.angle.specs.Angle.{nearest_rank, to_scaled}
use Rattle.point.specs.declared.Point.{Point}

-- the first of two answers that is a refusal
abbrev pub first_of : Result Unit Refusal → Result Unit Refusal → Result Unit Refusal
first_of (Ok _) other = other
first_of (Err r) other = Err r

-- "overlap set and class not 12, or clear and class 12 or 28" does not fit
unfoldable pub overlap_goes : Bool → ℕ → Bool
overlap_goes true class = eqb class 12
overlap_goes false class = not (eqb class 12) && not (eqb class 28)

-- "return number above 7; number of returns above 7; class above 31; channel above 0; overlap .."
unfoldable pub readings_fit : ℕ → ℕ → ℕ → ℕ → Bool → Result Unit Refusal
readings_fit return_number returns class channel overlap =
    cond (ltb 7 return_number) (Err (ReturnNumber return_number))
    (cond (ltb 7 returns) (Err (NumberOfReturns returns))
    (cond (ltb 31 class) (Err (Class class))
    (cond (ltb 0 channel) (Err (Channel channel)) (cond (overlap_goes overlap class) (Ok tt) (Err (Overlap class))))))

-- of flags of either kind, by what the Rust reads from them
unfoldable pub flags_fit_of : Flags → Result Unit Refusal
flags_fit_of f = readings_fit (return_number_of f) (number_of_returns_of f) (class_of f) (channel_of f) (overlap_of f)

-- "NIR not 0" does not fit; a missing one is 0
abbrev pub nir_fit_of : Option ℕ → Result Unit Refusal
nir_fit_of (Some n) = cond (eqb n 0) (Ok tt) (Err (Nir n))
nir_fit_of None = Ok tt

-- "the standard's rank runs from −90 to 90": another does not fit
unfoldable pub rank_fits : ℤ → Bool
rank_fits z = not (lt_z z (neg_ℤ (pos 90))) && not (lt_z (pos 90) z)

-- "scan angle to the nearest whole degree with halves away from zero", in ℤ: the "rank before holding"
abbrev pub exact_rank : ScanAngle → ℤ
exact_rank (Rank r) = r
exact_rank (Scaled n) = nearest_rank n

-- a rank is judged by the same limits as the scaled angle that it is brought up to, and told by its bits
unfoldable pub angle_fit_of : ScanAngle → Result Unit Refusal
angle_fit_of a = cond (rank_fits (exact_rank a)) (Ok tt) (Err (Angle (of_z w16 (to_scaled a))))

-- the record check, in this order; it depends on three fields
abbrev pub fields_fit : Flags → Option ℕ → ScanAngle → Result Unit Refusal
fields_fit flags nir angle = first_of (flags_fit_of flags) (first_of (nir_fit_of nir) (angle_fit_of angle))

unfoldable pub fit_of : Point → Result Unit Refusal
fit_of p = fields_fit p.flags p.nir p.scan_angle
