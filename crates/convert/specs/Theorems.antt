-- Demand 3, sentence by sentence, for every run: theorems about the promises of `to_old` and `to_new` alone. `to_old_of` and `to_new_of`
-- (`Run.antt`) are their answer with the destination as it is left; all other words stand in `Demand.antt`. A run is `count` records in
-- the bytes s, each with `extra` extra bytes; d is the destination before and e after; k is how many records stand before one.
use Rattle.std.specs.Prelude.{Ok, Err, ℕ, suc, ◌≤◌, ◌<◌, ◌≡◌, Bool, List, ◌↔◌, ◌⊎◌, length, drop}
use Rattle.refusal.specs.Refused.{at_record}
use Rattle.judge.specs.Run.{run_of}
use Rattle.refusal.specs.declared.Refusal.{Refusal}
use Rattle.refusal.specs.declared.Refusal.TheVariants.{NoRoom}
use Rattle.refusal.specs.Table.{number_of}
use Rattle.le.specs.Le as le
use Rattle.pairs.specs.declared.Plan.{Plan}
use Rattle.convert.specs.Run.{to_old_of, to_new_of}
use Rattle.convert.specs.Demand.{ask_of, convert_of, Down, Up, length_of, run_length, SameValues, OldRecord, FirstUnfit, NotOverlong, Enough, No28, AllWithin90, laid, Convertible, RefusedFor}
use Rattle.convert.specs.Exact.{converted_then, then_converted, refused_then, then_refused}
use Rattle.convert.specs.Found.{same_values, ranks_within, rest_stays, fits-shown, shown-fits, unfit_record}
use Rattle.convert.specs.Back.{upgrade_answered, answered_back, back_only}
use Rattle.convert.specs.Agree.{same_refusal, with_room, without-room, asked-bytes, asked_refusal, not-room}

module _ {new old : ℕ} (pair : Down new old) (extra count : ℕ) (s d : List ℕ) where
  -- "A run of format 6 to 10 records made strictly into its paired old format shows an old reader, in every record, the same value in
  -- every field, scan angle to the nearest whole degree with halves away from zero."
  pub every-record :
      {n : ℕ} {e : List ℕ} → le.Bytes s → to_old_of new extra count s d ≡ (Ok n, e)
      → (k : ℕ) → k < count → SameValues new old extra k s e
  every-record bytes converted = same_values pair extra count s d converted bytes

  -- Document 02, No. 2: "the standard's rank runs from −90 to 90". So do the ranks of all that is converted.
  pub every-rank-within-90 :
      {n : ℕ} {e : List ℕ} → le.Bytes s → to_old_of new extra count s d ≡ (Ok n, e)
      → AllWithin90 old extra count e
  every-rank-within-90 bytes converted = ranks_within pair extra count s d converted bytes

  -- "If all fit, each record goes into the rest of the destination and bytes past the run stay."
  pub past-the-run :
      {n : ℕ} {e : List ℕ} → to_old_of new extra count s d ≡ (Ok n, e)
      → (n ≡ run_length old extra count) × (drop n e ≡ drop n d)
  past-the-run = rest_stays pair extra count s d

  -- "Otherwise the first record and first field that doesn't fit are named": the record is there, those before it fit, the fields before
  -- the one that is named fit too, and what is named does not, since no old record of the pair, and of the standard, shows the same values.
  pub refused-record :
      {why : Refusal} {k : ℕ} {e : List ℕ} → to_old_of new extra count s d ≡ (Err (at_record why (suc k)), e)
      → FirstUnfit new old extra count k s why
  refused-record refused = unfit_record pair extra count s d (refused_then new extra count s d refused).0

  -- "It is refused only then, a short buffer, an overlong record or a wrong format aside": these aside, a run is converted exactly when
  -- each of its records has an old record of the standard that shows it. (Of every old record this would be false: `rank_104_shows_a_refused_point`
  -- in strict/specs/Theorems.antt.)
  pub converted-if-shown :
      le.Bytes s → NotOverlong new old extra → Enough new old extra count s d
      → ((n : ℕ) × (e : List ℕ) × (to_old_of new extra count s d ≡ (Ok n, e))) ↔ ((k : ℕ) → k < count → OldRecord new old extra k s)
  converted-if-shown bytes long enough = (
    λ w. λ k l. fits-shown pair extra count s d bytes enough.0 k l ((converted_then new extra count s d w.2).all-fit k l),
    λ shown. (
      _,
      _,
      then_converted new extra count s d (record {
        old = old;
        pair = pair;
        not-overlong = long;
        enough = enough;
        all-fit = λ k l. shown-fits pair extra count s d bytes enough.0 k l (shown k l);
      }),
    ),
  )

-- "It is refused only then, a short buffer, an overlong record or a wrong format aside." Of any format code: a run is converted exactly
-- when it has a pair, no record is overlong, no buffer short, and every record fits; it is refused, with a refusal and a record number,
-- exactly when these are the first to hold in document 01's order, no room last (document 02, No. 10). "A refusal writes nothing into lent memory."
module _ (code extra count : ℕ) (s d : List ℕ) where
  pub converted-exactly :
      ((n : ℕ) × (e : List ℕ) × (to_old_of code extra count s d ≡ (Ok n, e))) ↔ Convertible code extra count s d
  converted-exactly = (λ w. converted_then code extra count s d w.2, λ c. (_, _, then_converted code extra count s d c))

  pub refused_exactly :
      (why : Refusal) (j : ℕ)
      → ((e : List ℕ) × (to_old_of code extra count s d ≡ (Err (at_record why j), e))) ↔ RefusedFor code extra count s d why j
  refused_exactly why j = (λ w. (refused_then code extra count s d w.1).0, λ holds. (d, then_refused code extra count s d holds))

  pub refused_unwritten : {why : Refusal} {j : ℕ} {e : List ℕ} → to_old_of code extra count s d ≡ (Err (at_record why j), e) → e ≡ d
  refused_unwritten refused = (refused_then code extra count s d refused).1

-- Document 02, No. 10: "a question, with no destination, that gives the first refusal other than 22 or the bytes needed, and a writing call
-- that asks it itself. For the same source, 22 aside, they never disagree." Either way, strictly down (false) and up (true):
module _ (up : Bool) (code extra count : ℕ) (s d : List ℕ) where
  -- what the question refuses, the writing call refuses so, and leaves the destination;
  pub refused-as-asked :
      {why : Refusal} {j : ℕ} → ask_of up code extra count s ≡ Err (at_record why j)
      → convert_of up code extra count s d ≡ (Err (at_record why j), d)
  refused-as-asked = same_refusal up code extra count s d

  -- where the question answers n bytes, the call writes n bytes, or answers 22 with n, exactly when the destination is shorter;
  pub written-as-asked :
      {p : Plan} {n : ℕ} → ask_of up code extra count s ≡ Ok (run_of p n)
      → (n ≤ length d → (e : List ℕ) × (convert_of up code extra count s d ≡ (Ok n, e)))
      × (length d < n → convert_of up code extra count s d ≡ (Err (at_record (NoRoom n) 0), d))
  written-as-asked a = (λ room. (_, with_room up code extra count s d a room), without-room up code extra count s d a)

  -- bytes that the call writes, the question answers, and a refusal of the call is the question's, or 22 with the bytes that it answers;
  pub bytes-were-asked :
      {n : ℕ} {e : List ℕ} → convert_of up code extra count s d ≡ (Ok n, e)
      → ((p : Plan) × (ask_of up code extra count s ≡ Ok (run_of p n))) × (n ≤ length d)
  bytes-were-asked = asked-bytes up code extra count s d

  pub refusal-was-asked :
      {why : Refusal} {j : ℕ} {e : List ℕ} → convert_of up code extra count s d ≡ (Err (at_record why j), e)
      → (ask_of up code extra count s ≡ Err (at_record why j))
      ⊎ ((p : Plan) × (n : ℕ) × (ask_of up code extra count s ≡ Ok (run_of p n)) × (why ≡ NoRoom n) × (length d < n))
  refusal-was-asked = asked_refusal up code extra count s d

  -- "22 .. only from the writing call".
  pub never_22 : {why : Refusal} {j : ℕ} → ask_of up code extra count s ≡ Err (at_record why j) → number_of why ≡ 22 → ⊥
  never_22 = not-room up code extra count s

-- "An old record with a pair, whose class isn't 28 and whose new record isn't overlong, brought up and strictly down again, has its own
-- bytes." Document 02, No. 2: this "now needs the old rank within ±90". Where no buffer is short the upgrade is answered; what it leaves, made
-- old into any d' with room, is the run's own bytes there, and what lies past them stays.
module _ {old new : ℕ} (pair : Up old new) (extra count : ℕ) (s d : List ℕ) where
  pub upgraded-run :
      length_of new extra ≤ 65535 → Enough old new extra count s d
      → (e : List ℕ) × (to_new_of old extra count s d ≡ (Ok (run_length new extra count), e))
  upgraded-run = upgrade_answered pair extra count s d

  pub up-and-down-run :
      {n : ℕ} {e : List ℕ} → le.Bytes s → to_new_of old extra count s d ≡ (Ok n, e)
      → No28 old extra count s → AllWithin90 old extra count s → (d' : List ℕ) → run_length old extra count ≤ length d'
      → to_old_of new extra count e d' ≡ (Ok (run_length old extra count), laid (run_length old extra count) s d')
  up-and-down-run bytes = answered_back pair extra count s d bytes

  -- Class and rank are both needed: what was brought up goes down again exactly then.
  pub down-again-run :
      {n : ℕ} {e : List ℕ} → le.Bytes s → to_new_of old extra count s d ≡ (Ok n, e) → (d' : List ℕ) → run_length old extra count ≤ length d'
      → ((n' : ℕ) × (e' : List ℕ) × (to_old_of new extra count e d' ≡ (Ok n', e'))) ↔ (No28 old extra count s × AllWithin90 old extra count s)
  down-again-run bytes upgraded d' room = (
    λ w. back_only pair extra count s d bytes upgraded d' w.2,
    λ may. (_, _, up-and-down-run bytes upgraded may.0 may.1 d' room),
  )
