-- The words that demand 3 is stated in: pairs of codes, the records of a run, and why a run is refused.
use Rattle.std.specs.Prelude.{Result, Ok, Err, ℕ, suc, ◌*◌, ◌≤◌, ◌<◌, ◌≡◌, Bool, true, false, List, ◌++◌, length, take, drop}
use Rattle.refusal.specs.declared.Refused.{Refused}
use Rattle.judge.specs.declared.Run.{Run}
use Rattle.refusal.specs.declared.Refusal.{Refusal}
use Rattle.refusal.specs.declared.Refusal.TheVariants.{NoPair, RecordLength, Short, NoRoom}
use Rattle.refusal.specs.Table.{wanted_of}
use Rattle.le.specs.Le as le
use Rattle.format.specs.declared.Field.TheVariants.{ExtraBytes}
use Rattle.format.specs.Fields.{record_bytes}
use Rattle.flags.specs.Readings.{class_of}
use Rattle.point.specs.declared.Point.{Point}
use Rattle.point.specs.Read.{point_of, field_of}
use Rattle.strict.specs.Fit.{fit_of}
use Rattle.strict.specs.Shown.{Same, Within90, Never, Unshown}
use Rattle.strict.specs.First.{FirstField}
use Rattle.pairs.specs.Pairs.{format_with}
use Rattle.judge.specs.Judge.{old_verdict, new_verdict}
use Rattle.convert.specs.Run.{to_old_of, to_new_of}

-- the question and the writing call of either way: strictly down, or up
abbrev pub ask_of : Bool → ℕ → ℕ → ℕ → List ℕ → Result Run Refused
ask_of false code extra count s = old_verdict code extra count s
ask_of true code extra count s = new_verdict code extra count s

abbrev pub convert_of : Bool → ℕ → ℕ → ℕ → List ℕ → List ℕ → Result ℕ Refused × List ℕ
convert_of false code extra count s d = to_old_of code extra count s d
convert_of true code extra count s d = to_new_of code extra count s d

-- "Pairs down: 6 to 1, 7 to 3, 8 to 3, 9 to 4, 10 to 5"
pub data Down : ℕ → ℕ → Type 0 where
  from_6 : Down 6 1
  from_7 : Down 7 3
  from_8 : Down 8 3
  from_9 : Down 9 4
  from_10 : Down 10 5

-- "Up: 1 to 6, 3 to 7, 4 to 9, 5 to 10"
pub data Up : ℕ → ℕ → Type 0 where
  from_1 : Up 1 6
  from_3 : Up 3 7
  from_4 : Up 4 9
  from_5 : Up 5 10

-- the bytes of a record of the format with this code and `extra` extra bytes, and of `count` of them
abbrev pub length_of : ℕ → ℕ → ℕ
length_of code extra = record_bytes (format_with code extra)

abbrev pub run_length : ℕ → ℕ → ℕ → ℕ
run_length code extra count = count * length_of code extra

-- the record after k others of m bytes
abbrev pub nth : ℕ → ℕ → List ℕ → List ℕ
nth m k s = take m (drop (k * m) s)

-- what a reader of a format finds in the record after k others, in a run or in a destination, and that record's extra bytes
abbrev pub point_at : ℕ → ℕ → ℕ → List ℕ → Point
point_at code extra k s = point_of (format_with code extra) (nth (length_of code extra) k s)

abbrev pub extra_at : ℕ → ℕ → ℕ → List ℕ → List ℕ
extra_at code extra k s = field_of (format_with code extra) ExtraBytes (nth (length_of code extra) k s)

-- "the same value in every field", of the record after k others: `Same`, in strict/specs/Shown.antt, is the list of readings (x, y, z,
-- intensity, each reading of the flags, overlap as the Rust reads it and as the standard does, the angle, user data, source id, time,
-- colour, waveform, near infrared, the bits of NaNs with their floats); and the extra bytes
pub record SameValues (new old extra k : ℕ) (s e : List ℕ) : Type 0 where
  pub readings : Same (point_at new extra k s) (point_at old extra k e)
  pub extra-bytes : extra_at old extra k e ≡ extra_at new extra k s

-- an old record that shows the record after k others: bytes of the old format's length, in which an old reader finds the same value in
-- every field, and the same extra bytes; and it is one of the standard, whose rank is within ±90
pub record OldRecord (new old extra k : ℕ) (s : List ℕ) : Type 0 where
  pub image : List ℕ
  pub bytes : le.Bytes image
  pub long : length image ≡ length_of old extra
  pub readings : Same (point_at new extra k s) (point_of (format_with old extra) image)
  pub extra-bytes : field_of (format_with old extra) ExtraBytes image ≡ extra_at new extra k s
  pub within_90 : Within90 (point_of (format_with old extra) image)

-- neither record is over 65,535 bytes
abbrev pub NotOverlong : ℕ → ℕ → ℕ → Type 0
NotOverlong source target extra = (length_of source extra ≤ 65535) × (length_of target extra ≤ 65535)

-- neither the source nor the destination is short
abbrev pub Enough : ℕ → ℕ → ℕ → ℕ → List ℕ → List ℕ → Type 0
Enough source target extra count s d = (run_length source extra count ≤ length s) × (run_length target extra count ≤ length d)

-- each of the first `count` records fits: document 01's record check, `fit_of` in strict/specs/Fit.antt, refuses none of its fields
abbrev pub AllFit : ℕ → ℕ → ℕ → List ℕ → Type 0
AllFit code extra count s = (k : ℕ) → k < count → fit_of (point_at code extra k s) ≡ Ok tt

-- the record after k others is the first that does not fit, and `why` names the first of its fields that does not (`FirstField`, in
-- strict/specs/First.antt, has document 01's order): no old record of the pair has what `why` names, and so none shows the same values; of
-- an angle, none of the standard
pub record FirstUnfit (new old extra count k : ℕ) (s : List ℕ) (why : Refusal) : Type 0 where
  pub within : k < count
  pub earlier_fit : AllFit new extra k s
  pub first_field : FirstField (point_at new extra k s) why
  pub named : Unshown (format_with old extra) (point_at new extra k s) why
  pub not-shown : Never (format_with old extra) (λ q. Within90 q × Same (point_at new extra k s) q)

-- none has class 28
abbrev pub No28 : ℕ → ℕ → ℕ → List ℕ → Type 0
No28 code extra count s = (k : ℕ) → k < count → class_of (point_at code extra k s).flags ≡ 28 → ⊥

-- all have ranks within ±90
abbrev pub AllWithin90 : ℕ → ℕ → ℕ → List ℕ → Type 0
AllWithin90 code extra count s = (k : ℕ) → k < count → Within90 (point_at code extra k s)

-- the first m bytes of s at the front of d
abbrev pub laid : ℕ → List ℕ → List ℕ → List ℕ
laid m s d = take m s ++ drop m d

module _ (code extra count : ℕ) (s d : List ℕ) where
  -- a run that goes down: what must hold, in no order
  pub record Convertible : Type 0 where
    pub old : ℕ
    pub pair : Down code old
    pub not-overlong : NotOverlong code old extra
    pub enough : Enough code old extra count s d
    pub all-fit : AllFit code extra count s

  -- "order: no pair 26; source, then target record over 65,535 bytes 8; source short 1 .. Then records in turn", and document 02, No. 10: "22
  -- now comes after the record checks". What a run is refused with, and the record's number, which is 0 where it is no record's
  pub data RefusedFor : Refusal → ℕ → Type 0 where
    no_pair : ((old : ℕ) → Down code old → ⊥) → RefusedFor (NoPair code) 0
    source_overlong : {old : ℕ} → Down code old → 65535 < length_of code extra → RefusedFor (RecordLength (length_of code extra)) 0
    target-overlong :
        {old : ℕ} → Down code old → length_of code extra ≤ 65535 → 65535 < length_of old extra
        → RefusedFor (RecordLength (length_of old extra)) 0
    source-short :
        {old : ℕ} → Down code old → NotOverlong code old extra → length s < run_length code extra count
        → RefusedFor (Short (wanted_of (run_length code extra count))) 0
    of-record :
        {old k : ℕ} {why : Refusal} → Down code old → NotOverlong code old extra → run_length code extra count ≤ length s → k < count
        → AllFit code extra k s → fit_of (point_at code extra k s) ≡ Err why
        → RefusedFor why (suc k)
    no_room :
        {old : ℕ} → Down code old → NotOverlong code old extra → run_length code extra count ≤ length s → AllFit code extra count s
        → length d < run_length old extra count
        → RefusedFor (NoRoom (run_length old extra count)) 0
