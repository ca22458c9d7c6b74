-- Document 02, No. 3, "Whole files, old to new and back", sentence by sentence: theorems about the promises of `ask_new`, `ask_old`, `to_new`
-- and `to_old` alone. `file_verdict` and `migrated_of` (`Migrate.antt`) are the question's answer, and the call's with the destination as it is
-- left; `up` is true on the way to 1.4. A file is the bytes s; d is the destination before and e after.
use Rattle.std.specs.Prelude.{Ok, Err, ℕ, ◌+◌, ◌*◌, ◌≤◌, ◌<◌, ◌≡◌, Bool, true, false, List, ◌++◌, ◌↔◌, ◌⊎◌, length, take, drop}
use Rattle.refusal.specs.Refused.{at_record}
use Rattle.judge.specs.Run.{run_of}
use Rattle.std.proofs.Common.{sym, ap, subst, ◌∙◌, inl, inr}
use Rattle.le.specs.Le as le
use Rattle.refusal.specs.declared.Refusal.{Refusal}
use Rattle.refusal.specs.declared.Refusal.TheVariants.{NoRoom}
use Rattle.refusal.specs.Table.{number_of}
use Rattle.header.specs.declared.Header.{Header}
use Rattle.header.specs.Judged.{header_in, padding_of}
use Rattle.outline.specs.declared.Outline.{Outline}
use Rattle.outline.specs.Outline.{outline_of}
use Rattle.extents.specs.Extents.{points_end, vlr_bytes}
use Rattle.file.specs.Rules.{checked_of}
use Rattle.file.specs.Theorems.{accepted}
use Rattle.pairs.specs.declared.Plan.{Plan}
use Rattle.convert.specs.Demand.{convert_of, No28, AllWithin90, SameValues}
use Rattle.header_convert.specs.Turned.{old_header}
use Rattle.migrate.specs.Migrate.{other_of, point_bytes, extra_in, new_file, file_verdict, migrated_of}
use Rattle.migrate.specs.Steps.{Goer}
use Rattle.migrate.specs.Way.{By}
use Rattle.migrate.specs.Moved.{Moved, moved, new_by}
use Rattle.migrate.specs.New.{header_new, padding-new, vlrs_new, rest-new}
use Rattle.migrate.specs.Again.{accepted-new}
use Rattle.migrate.specs.Answer.{Going, same_refusal, with_room, without-room, asked-bytes, asked_refusal, plan, goes_by, goer_is, is_new, past}
use Rattle.migrate.specs.Found.{KeptFields, kept_fields, CountsUp, counts_new, CountsDown, counts_old, converted_points, same_points}
use Rattle.migrate.specs.Back.{comes_back, comes_only}
use Rattle.migrate.specs.Never.{file_never_22}
use Rattle.migrate.specs.Exact.{RefusedFor, refused_then, then_refused, roomless_then}

-- what a file says of itself, and where its parts lie by that
abbrev pub outline_in : List ℕ → Outline
outline_in s = outline_of (header_in s)

-- its points: as many records as it counts, of its format, each with so many extra bytes
abbrev pub points_in : List ℕ → List ℕ
points_in s = point_bytes (outline_in s) s

abbrev pub format_in : List ℕ → ℕ
format_in s = (outline_in s).point_data_record_format

abbrev pub count_in : List ℕ → ℕ
count_in s = (outline_in s).number_of_point_records

-- none of them has class 28; all have ranks within ±90
abbrev pub FileNo28 : List ℕ → Type 0
FileNo28 s = No28 (format_in s) (extra_in (outline_in s)) (count_in s) (points_in s)

abbrev pub FileWithin90 : List ℕ → Type 0
FileWithin90 s = AllWithin90 (format_in s) (extra_in (outline_in s)) (count_in s) (points_in s)

-- Of a file that was written, either way, t is the new one.
module _ (up : Bool) (allowance : ℕ) (s d : List ℕ) (bytes : le.Bytes s) {n : ℕ} {e : List ℕ} (written : migrated_of up allowance s d ≡ (Ok n, e)) where
  abbrev t : List ℕ
  t = take n e

  -- (that it goes, as its answer says)
  abbrev goer : Goer up (header_in s) s
  goer = goer_is up allowance s bytes d written

  abbrev going : Going up allowance s (plan up allowance s bytes d written) n
  going = goes_by up allowance s bytes d written

  abbrev new : t ≡ new_file up (plan up allowance s bytes d written) (header_in s) s
  new = is_new up allowance s bytes d written

  -- "Turn an accepted 1.2 file .. into 1.4 .., and such a 1.4 file into 1.2": it is accepted, with the same records found.
  pub accepted_again : {k : ℕ} → checked_of allowance s ≡ Ok k → checked_of allowance t ≡ Ok k
  accepted_again {k} a =
      subst (λ (x : List ℕ). checked_of allowance x ≡ Ok k) (sym new)
      (accepted-new up (header_in s) s goer going.points ((accepted allowance s).0 a).1)

  -- Its header is the other one of the definitions: "The header grows or shrinks by 148 bytes, the point offset with it", a record by two,
  -- "format 1 or 3 into 1.4 with format 6 or 7" and back; the effective count is the same, and every other field is kept.
  pub other_header : header_in t ≡ other_of up (header_in s)
  other_header = ap header_in new ∙ header_new up (header_in s) s goer going.points

  pub moved_by : Moved up (outline_in s) (outline_in t)
  moved_by = subst (λ (x : Header). Moved up (outline_in s) (outline_of x)) (sym other_header) (moved up (header_in s) s goer)

  pub fields_kept : KeptFields (header_in t) (header_in s)
  fields_kept = subst (λ (x : Header). KeptFields x (header_in s)) (sym other_header) (kept_fields up (header_in s))

  -- "VLRs, padding and gaps are copied": the padding, all bytes between the header and the points, and all that follow the points.
  pub padding_copied : padding_of t ≡ padding_of s
  padding_copied = ap padding_of new ∙ padding-new up (header_in s) s goer going.points

  pub vlrs_copied : vlr_bytes (outline_in t) t ≡ vlr_bytes (outline_in s) s
  vlrs_copied =
      (λ i. vlr_bytes (outline_of (other_header i)) (new i))
      ∙ vlrs_new up (header_in s) s goer going.points

  pub rest_copied : drop (points_end (outline_in t)) t ≡ drop (points_end (outline_in s)) s
  rest_copied =
      (λ i. drop (points_end (outline_of (other_header i))) (new i))
      ∙ rest-new up (header_in s) s goer going.points

  -- "point bytes follow document 01's upgrade or strict conversion": the new points are what that makes of the old ones, in any place that
  -- they fill.
  pub points_converted : (place : List ℕ) → length place ≡ length (points_in t) → convert_of up (format_in s) (extra_in (outline_in s)) (count_in s) (points_in s) place ≡ (Ok (length place), points_in t)
  points_converted place long =
      let is : points_in t ≡ point_bytes (outline_of (other_of up (header_in s))) (new_file up (plan up allowance s bytes d written) (header_in s) s) = λ i. point_bytes (outline_of (other_header i)) (new i) in
      converted_points up (header_in s) s goer going.points place (long ∙ ap length is)
      ∙ ap (λ (l : List ℕ). (Ok (length place), l)) (sym is)

  -- "Bytes past" the new file stay, and it is longer, or shorter, by 148 bytes and two for each point.
  pub past_stays : (drop n e ≡ drop n d) × By up (148 + count_in s * 2) (length s) n
  past_stays = (past up allowance s bytes d written, new_by up (header_in s) s goer going.long)

-- "Going up, the legacy counts become zero and the large ones hold them."
module _ (allowance : ℕ) (s d : List ℕ) (bytes : le.Bytes s) {n : ℕ} {e : List ℕ} where
  pub counts_up : migrated_of true allowance s d ≡ (Ok n, e) → CountsUp (header_in (take n e)) (header_in s)
  counts_up written = subst (λ (x : Header). CountsUp x (header_in s)) (sym (other_header true allowance s d bytes written)) (counts_new (header_in s))

  -- "Going down, the counts by return are the legacy ones if the legacy count isn't zero, else the large ones."
  pub counts_down : migrated_of false allowance s d ≡ (Ok n, e) → CountsDown (header_in (take n e)) (header_in s)
  counts_down written = subst (λ (x : Header). CountsDown x (header_in s)) (sym (other_header false allowance s d bytes written)) (counts_old (header_in s))

  -- Demand 3 inside the file: on the way down an old reader finds, in every point, the same value in every field.
  pub every-point :
      (written : migrated_of false allowance s d ≡ (Ok n, e)) → (k : ℕ) → k < count_in s
      → SameValues (format_in s) (format_in (take n e)) (extra_in (outline_in s)) k (points_in s) (points_in (take n e))
  every-point written k within =
      let w = other_header false allowance s d bytes written in
      let same = same_points (header_in s) s (goer_is false allowance s bytes d written) (goes_by false allowance s bytes d written).points k within in
      subst (λ (x : Header). SameValues (format_in s) (outline_of x).point_data_record_format (extra_in (outline_in s)) k (points_in s) (point_bytes (outline_of x) (take n e))) (sym w)
      (subst (λ (x : List ℕ). SameValues (format_in s) (outline_of (old_header (header_in s))).point_data_record_format (extra_in (outline_in s)) k (points_in s) (point_bytes (outline_of (old_header (header_in s))) x)) (sym (is_new false allowance s bytes d written)) same)

-- Document 02, No. 10: "All callers, No. 3's among them, use the two": a question without a destination, and a writing call that asks it
-- itself. 22 aside they never disagree.
module _ (up : Bool) (allowance : ℕ) (s d : List ℕ) where
  pub refused-as-asked :
      {why : Refusal} {j : ℕ} → file_verdict up allowance s ≡ Err (at_record why j) → migrated_of up allowance s d ≡ (Err (at_record why j), d)
  refused-as-asked = same_refusal up allowance s d

  pub written-as-asked :
      {p : Plan} {n : ℕ} → file_verdict up allowance s ≡ Ok (run_of p n)
      → (n ≤ length d → (e : List ℕ) × (migrated_of up allowance s d ≡ (Ok n, e))) × (length d < n → migrated_of up allowance s d ≡ (Err (at_record (NoRoom n) 0), d))
  written-as-asked a = (λ room. (_, with_room up allowance s d a room), without-room up allowance s d a)

  pub bytes-were-asked :
      {n : ℕ} {e : List ℕ} → migrated_of up allowance s d ≡ (Ok n, e) → ((p : Plan) × (file_verdict up allowance s ≡ Ok (run_of p n))) × (n ≤ length d)
  bytes-were-asked = asked-bytes up allowance s d

  pub refusal-was-asked :
      {why : Refusal} {j : ℕ} {e : List ℕ} → migrated_of up allowance s d ≡ (Err (at_record why j), e)
      → (file_verdict up allowance s ≡ Err (at_record why j))
      ⊎ ((p : Plan) × (n : ℕ) × (file_verdict up allowance s ≡ Ok (run_of p n)) × (why ≡ NoRoom n) × (j ≡ 0) × (length d < n))
  refusal-was-asked w = (asked_refusal up allowance s d w).0

  -- "22 .. only from the writing call".
  pub never_22 : {why : Refusal} {j : ℕ} → file_verdict up allowance s ≡ Err (at_record why j) → number_of why ≡ 22 → ⊥
  never_22 = file_never_22 up allowance s

  -- "A refusal writes nothing into lent memory."
  pub untouched : {why : Refusal} {j : ℕ} {e : List ℕ} → migrated_of up allowance s d ≡ (Err (at_record why j), e) → e ≡ d
  untouched w = (asked_refusal up allowance s d w).1

  -- "Refusals after the file check: other version or format; ..; no room last": a file is refused, with a refusal and a record number,
  -- exactly when these are the first to hold in that order (`RefusedFor`, in Exact.antt).
  pub refused_exactly :
      le.Bytes s → (why : Refusal) (j : ℕ)
      → ((e : List ℕ) × (migrated_of up allowance s d ≡ (Err (at_record why j), e))) ↔ RefusedFor up allowance s d why j
  refused_exactly bytes why j = (
    λ w. found why j (asked_refusal up allowance s d w.1).0,
    λ holds. (d, then_refused up allowance s d bytes holds),
  )
    where
      found : (why : Refusal) (j : ℕ) → (file_verdict up allowance s ≡ Err (at_record why j)) ⊎ ((p : Plan) × (n : ℕ) × (file_verdict up allowance s ≡ Ok (run_of p n)) × (why ≡ NoRoom n) × (j ≡ 0) × (length d < n)) → RefusedFor up allowance s d why j
      found why j (inl a) = refused_then up allowance s d bytes a
      found why j (inr (p, n, a, is, first, short)) =
          subst (λ (x : Refusal). RefusedFor up allowance s d x j) (sym is) (subst (λ (x : ℕ). RefusedFor up allowance s d (NoRoom n) x) (sym first) (roomless_then up allowance s d bytes a short))

-- "A 1.2 file whose way up none of the refusals below stops, with no class 28 and ranks within ±90, comes back byte for byte."
module _ (allowance : ℕ) (s d : List ℕ) (bytes : le.Bytes s) {n : ℕ} {e : List ℕ} (up : migrated_of true allowance s d ≡ (Ok n, e)) (d' : List ℕ) (room : length s ≤ length d') where
  pub back :
      FileNo28 s → FileWithin90 s
      → migrated_of false allowance (take n e) d' ≡ (Ok (length s), s ++ drop (length s) d')
  back no28 ranks =
      let is = is_new true allowance s bytes d up in
      let b = comes_back allowance s bytes (goes_by true allowance s bytes d up) no28 ranks in
      ap (λ (x : List ℕ). migrated_of false allowance x d') is
      ∙ with_room false allowance _ d' b.1 room
      ∙ ap (λ (x : List ℕ). (Ok (length s), x ++ drop (length s) d')) b.2

  -- Both are needed: what went up comes down again exactly then.
  pub back-exactly :
      ((m : ℕ) × (f : List ℕ) × (migrated_of false allowance (take n e) d' ≡ (Ok m, f))) ↔ (FileNo28 s × FileWithin90 s)
  back-exactly = (
    λ w.
        let is = is_new true allowance s bytes d up in
        comes_only allowance s bytes (goes_by true allowance s bytes d up) (asked-bytes false allowance _ d' (ap (λ (x : List ℕ). migrated_of false allowance x d') (sym is) ∙ w.2)).0.1,
    λ may. (_, _, back may.0 may.1),
  )
