-- When a key's value is given, and when it is refused: document 02, No. 14, "Refusals, in order, each over the whole directory: file check; no
-- directory; directory short; keys not rising; unknown location; target record absent; target beyond its end; key not found."
use Rattle.std.specs.Prelude.{Option, Some, None, Ok, Err}
use Rattle.rules.specs.NotAccepted.{not_accepted}
use Rattle.first_vlr.specs.Span.{span}
use Rattle.first_vlr.specs.declared.Span.{Span}
use Rattle.std.specs.Prelude.{ℕ, ◌+◌, ◌*◌, ◌≤◌, ◌<◌, ◌≡◌, true, false, cond, List, eqb, length, take, drop}
use Rattle.refusal.specs.declared.Refusal.{Refusal}
use Rattle.refusal.specs.declared.Refusal.TheVariants.{NoDirectory, DirectoryShort, KeysNotRising, UnknownLocation, TargetAbsent, TargetBeyond, KeyNotFound}
use Rattle.file.specs.Rules.{checked_of}
use Rattle.cursor.specs.Parts.{outline_in}
use Rattle.directory.specs.declared.Entry.{Entry}
use Rattle.directory.specs.declared.Question.{Question}
use Rattle.directory.specs.declared.Question.TheVariants.{Rising, Known, There, Within}
use Rattle.directory.specs.Directory.{count_of, key_of, passes}
use Rattle.keys.specs.declared.Value.{Value}
use Rattle.keys.specs.declared.Value.TheVariants.{Number, Doubles, Text}
use Rattle.keys.specs.Keys.{projection_of, target_of, start_of}

module _ (s : List ℕ) where
  -- the first VLR of LASF_Projection with a record id
  abbrev pub record_in : ℕ → Option Span
  record_in id = projection_of (outline_in s) id s

  -- each entry of a directory passes, and one does not
  abbrev pub All : Question → List ℕ → Type 0
  All q d = (k : ℕ) → k < count_of d → passes q (target_of (record_in 34736)) (target_of (record_in 34737)) d k ≡ true

  abbrev pub Fails : Question → List ℕ → Type 0
  Fails q d = (k : ℕ) × (k < count_of d) × (passes q (target_of (record_in 34736)) (target_of (record_in 34737)) d k ≡ false)

  -- what an entry says: "Location 0 holds the value itself; the others point into the two other records, by index and count"
  abbrev pub value_in : Entry → Value
  value_in e =
      cond (eqb e.location 0)
      (Number e.index)
      (cond (eqb e.location 34736)
      (Doubles (start_of (record_in 34736) + 8 * e.index) (8 * e.count))
      (Text (start_of (record_in 34737) + e.index) e.count))

-- what is passed, one after the other
module _ (allowance : ℕ) (s : List ℕ) where
  abbrev pub Accepted : Type 0
  Accepted = (n : ℕ) × (checked_of allowance s ≡ Ok n)

  pub record Directory (d : List ℕ) : Type 0 where
    pub accepted : Accepted
    pub start : ℕ
    pub bytes : ℕ
    pub found : record_in s 34735 ≡ Some (span start bytes)
    pub is : d ≡ take bytes (drop start s)

  abbrev pub Long : List ℕ → Type 0
  Long d = Directory d × (8 + 8 * count_of d ≤ length d)

  abbrev pub Risen : List ℕ → Type 0
  Risen d = Long d × All s Rising d

  abbrev pub Located : List ℕ → Type 0
  Located d = Risen d × All s Known d

  abbrev pub Targeted : List ℕ → Type 0
  Targeted d = Located d × All s There d

  abbrev pub Sound : List ℕ → Type 0
  Sound d = Targeted d × All s Within d

  -- the refusals in their order
  pub data Unopened : Refusal → ℕ → Type 0 where
    file_check : {why : Refusal} {j n : ℕ} → checked_of allowance s ≡ Err (not_accepted why j n) → Unopened why j
    no_directory : Accepted → record_in s 34735 ≡ None → Unopened NoDirectory 0
    directory_short : {d : List ℕ} → Directory d → length d < 8 + 8 * count_of d → Unopened DirectoryShort 0
    not_rising : {d : List ℕ} → Long d → Fails s Rising d → Unopened KeysNotRising 0
    unknown_location : {d : List ℕ} → Risen d → Fails s Known d → Unopened UnknownLocation 0
    target_absent : {d : List ℕ} → Located d → Fails s There d → Unopened TargetAbsent 0
    target-beyond : {d : List ℕ} → Targeted d → Fails s Within d → Unopened TargetBeyond 0

  -- and of a key x
  pub data RefusedFor (x : ℕ) : Refusal → ℕ → Type 0 where
    unopened : {why : Refusal} {j : ℕ} → Unopened why j → RefusedFor x why j
    key-not_found : {d : List ℕ} → Sound d → ((k : ℕ) → k < count_of d → key_of d k ≡ x → ⊥) → RefusedFor x KeyNotFound 0

  -- and none of them: entry k has the key
  pub record FoundAt (x : ℕ) (d : List ℕ) (k : ℕ) : Type 0 where
    pub sound : Sound d
    pub below : k < count_of d
    pub has : key_of d k ≡ x
