-- Laws of what is told of keys, by what a file is refused for or has.
use Rattle.std.specs.Prelude.{Option, Some, None, Result, Ok, Err}
use Rattle.keys.specs.KeyValue.{key_value}
use Rattle.refusal.specs.Refused.{at_record, ok_same, refused_same}
use Rattle.first_vlr.specs.Span.{span}
use Rattle.first_vlr.specs.declared.Span.{Span}
use Rattle.refusal.specs.declared.Refused.{Refused}
use Rattle.rules.specs.declared.NotAccepted.{NotAccepted}
use Rattle.std.specs.Prelude.{ℕ, ◌+◌, ◌*◌, ◌≤◌, ◌<◌, ◌≡◌, Bool, ◌⊎◌, ltb, length, take, drop}
use Rattle.std.proofs.Math.Path.{refl, ap}
use Rattle.std.proofs.Common.{sym, ◌∙◌, inl, inr, arith}
use Rattle.std.proofs.Math.Bool.{true, false, cond}
use mathlib.Core.List.{List}
use borrow.Author.Tests.{le-leb, lt-leb, leb-true, ltb-true, ltb-false}
use Rattle.std.proofs.Math.Dec.{eqb}
use Rattle.refusal.specs.declared.Refusal.{Refusal}
use Rattle.file.specs.Rules.{checked_of}
use Rattle.cursor.specs.Parts.{outline_in}
use Rattle.first_vlr.specs.First as first-vlr
use Rattle.first_vlr.specs.Laws.{found_within}
use Rattle.directory.specs.declared.Entry.{Entry}
use Rattle.directory.specs.declared.Question.{Question}
use Rattle.directory.specs.declared.Question.TheVariants.{Rising, Known, There, Within}
use Rattle.directory.specs.Directory.{count_of, key_of, entry_of, holds, within, passes, judged_of, place_of}
use Rattle.directory.specs.Laws as judging
use Rattle.directory.specs.Order.{Sought, there, nowhere, placed, only}
use Rattle.keys.specs.declared.Keys.{Keys}
use Rattle.keys.specs.declared.Value.{Value}
use Rattle.keys.specs.declared.Value.TheVariants.{Doubles, Text}
use Rattle.keys.specs.Keys.{projection, projection_of, target_of, start_of, opened_by, opened_in, opened_of, directory_in, base_of, part_of, told_of, key_at_of, found_of, value_by, got_by, got_of}
use Rattle.keys.specs.Exact.{record_in, All, Fails, value_in, Accepted, Directory, Long, Risen, Located, Targeted, Sound, Unopened, file_check, no_directory, directory_short, not_rising, unknown_location, target_absent, target-beyond, RefusedFor, unopened, key-not_found, FoundAt}

-- a record that was found lies in the file
lies : (s : List ℕ) (id : ℕ) {start n : ℕ} → record_in s id ≡ Some (span start n) → start + n ≤ length s
unfolding projection_of
lies s id e = found_within (outline_in s) projection id s e

module _ (allowance : ℕ) (s : List ℕ) where
  abbrev doubles : Option ℕ
  doubles = target_of (record_in s 34736)

  abbrev text : Option ℕ
  text = target_of (record_in s 34737)

  -- where the keys of a directory stand
  abbrev pub keys_in : {d : List ℕ} → Directory allowance s d → Keys
  keys_in {d} dir =
      record { count = count_of d; start = dir.start; length = dir.bytes; doubles = start_of (record_in s 34736); text = start_of (record_in s 34737) }

  -- what opening answers, by the file check and by what its directory is judged to be
  of_file : Accepted allowance s → opened_of allowance s ≡ opened_in (record_in s 34735) (record_in s 34736) (record_in s 34737) s
  unfolding opened_of first-vlr.opened_of
  of_file (n, e) = rw e

  module _ {d : List ℕ} (dir : Directory allowance s d) where
    of_directory : {x : Result ℕ Refusal} → judged_of d doubles text ≡ x → opened_of allowance s ≡ opened_by dir.start dir.bytes (record_in s 34736) (record_in s 34737) x
    unfolding opened_in
    of_directory is =
        of_file dir.accepted
        ∙ ap (λ (v : Option Span). opened_in v (record_in s 34736) (record_in s 34737) s) dir.found
        ∙ ap (λ (l : List ℕ). opened_by dir.start dir.bytes (record_in s 34736) (record_in s 34737) (judged_of l doubles text)) (sym dir.is)
        ∙ ap (opened_by dir.start dir.bytes (record_in s 34736) (record_in s 34737)) is

    passing : (q : Question) → All s q d → judging.all d doubles text q ≡ true
    passing q h = judging.every-passes (passes q doubles text d) (count_of d) h

    failing : (q : Question) → Fails s q d → judging.all d doubles text q ≡ false
    failing q (k, h, e) = judging.one_fails (passes q doubles text d) (count_of d) k h e

  pub then_unopened : {why : Refusal} {j : ℕ} → Unopened allowance s why j → opened_of allowance s ≡ Err (at_record why j)
  unfolding opened_of first-vlr.opened_of opened_in
  then_unopened (file_check e) = rw e
  then_unopened (no_directory a e) = of_file a ∙ rw e
  then_unopened (directory_short dir h) = of_directory dir (judging.then_short _ doubles text h)
  then_unopened (not_rising (dir, l) f) = of_directory dir (judging.then_falling _ doubles text l (failing dir Rising f))
  then_unopened (unknown_location ((dir, l), r) f) = of_directory dir (judging.then_unknown _ doubles text l (passing dir Rising r) (failing dir Known f))
  then_unopened (target_absent (((dir, l), r), k) f) = of_directory dir (judging.then_absent _ doubles text l (passing dir Rising r) (passing dir Known k) (failing dir There f))
  then_unopened (target-beyond ((((dir, l), r), k), t) f) =
      of_directory dir (judging.then_beyond _ doubles text l (passing dir Rising r) (passing dir Known k) (passing dir There t) (failing dir Within f))

  abbrev pub directory_of : {d : List ℕ} → Sound allowance s d → Directory allowance s d
  directory_of sound = sound.0.0.0.0.0

  pub then_opened : {d : List ℕ} (sound : Sound allowance s d) → opened_of allowance s ≡ Ok (keys_in (directory_of sound))
  then_opened (((((dir, l), r), k), t), w) =
      of_directory dir (judging.then_sound _ doubles text l (passing dir Rising r) (passing dir Known k) (passing dir There t) (passing dir Within w))

  -- a record that holds values up to `end` is there, and lies in the file
  pub record Lies (id end : ℕ) : Type 0 where
    pub start : ℕ
    pub bytes : ℕ
    pub found : record_in s id ≡ Some (span start bytes)
    pub ends : end ≤ bytes
    pub in_file : start + bytes ≤ length s

  held : (id end : ℕ) → holds (target_of (record_in s id)) end ≡ true → Lies id end
  held id end = go (record_in s id) refl
    where
      go : (v : Option Span) → record_in s id ≡ v → holds (target_of v) end ≡ true → Lies id end
      go (Some at) e h = record { start = at.start; bytes = at.length; found = e; ends = leb-true end at.length h; in_file = lies s id e }
      go None e h = let z : ◌≡◌ {A = ℕ} 0 1 = cc in absurd (omega arith)

  ends_in_file : (id end : ℕ) → Lies id end → start_of (record_in s id) + end ≤ length s
  ends_in_file id end l = rw l.found (omega (arith, l.ends, l.in_file))

  -- so the entry's value is told
  told_is : {d : List ℕ} (dir : Directory allowance s d) (e : Entry) → within doubles text e ≡ true → told_of (length s) (keys_in dir) e ≡ Some (key_value e.key (value_in s e))
  unfolding told_of part_of base_of
  told_is dir e w = go (eqb e.location 0) (eqb e.location 34736) refl refl
    where
      go : (a b : Bool) → eqb e.location 0 ≡ a → eqb e.location 34736 ≡ b → told_of (length s) (keys_in dir) e ≡ Some (key_value e.key (value_in s e))
      go true b p q = rw p
      go false true p q =
          let ends : holds doubles (8 * (e.index + e.count)) ≡ true = rw (p, q) at w in
          rw (p, q, le-leb _ _ (ends_in_file 34736 (8 * (e.index + e.count)) (held 34736 (8 * (e.index + e.count)) ends)), q)
      go false false p q =
          let ends : holds text (e.index + e.count) ≡ true = rw (p, q) at w in
          rw (p, q, le-leb _ _ (ends_in_file 34737 (e.index + e.count) (held 34737 (e.index + e.count) ends)), q)

  -- and it lies in its record
  pub doubles_lie : (e : Entry) → e.location ≡ 34736 → within doubles text e ≡ true → Lies 34736 (8 * (e.index + e.count))
  doubles_lie e is w = held 34736 (8 * (e.index + e.count)) (rw is at w)

  pub text-lies : (e : Entry) → e.location ≡ 34737 → within doubles text e ≡ true → Lies 34737 (e.index + e.count)
  text-lies e is w = held 34737 (e.index + e.count) (rw is at w)

  pub doubles_are : (e : Entry) {end : ℕ} → e.location ≡ 34736 → (l : Lies 34736 end) → value_in s e ≡ Doubles (l.start + 8 * e.index) (8 * e.count)
  doubles_are e is l = rw (is, l.found)

  pub text_is : (e : Entry) {end : ℕ} → e.location ≡ 34737 → (l : Lies 34737 end) → value_in s e ≡ Text (l.start + e.index) e.count
  text_is e is l = rw (is, l.found)

  module _ {d : List ℕ} (sound : Sound allowance s d) where
    abbrev ks : Keys
    ks = keys_in (directory_of sound)

    -- what each entry points to ends in its record
    pub ends : (k : ℕ) → k < count_of d → within doubles text (entry_of d k) ≡ true
    ends k h = sym (judging.asks_within d k doubles text) ∙ sound.1 k h

    -- each key in turn, and no more
    pub each-told : (k : ℕ) → k < count_of d → key_at_of ks k s ≡ Some (key_value (key_of d k) (value_in s (entry_of d k)))
    unfolding key_at_of
    each-told k h =
        ap (λ (b : Bool). cond b None (told_of (length s) ks (entry_of (directory_in ks s) k))) (lt-leb _ _ h)
        ∙ ap (λ (l : List ℕ). told_of (length s) ks (entry_of l k)) (sym (directory_of sound).is)
        ∙ told_is (directory_of sound) (entry_of d k) (ends k h)
        ∙ ap (λ (e : Entry). Some (key_value e.key (value_in s (entry_of d k)))) (judging.entry_is d k)

    pub no_more : (k : ℕ) → count_of d ≤ k → key_at_of ks k s ≡ None
    unfolding key_at_of
    no_more k h = rw (le-leb _ _ h)

    -- no two entries have the same key
    pub only_one : (j k : ℕ) → j < count_of d → k < count_of d → key_of d j ≡ key_of d k → j ≡ k
    only_one j k h l e = only (key_of d) (count_of d) (λ i below. sym (judging.asks_rising d i doubles text) ∙ sound.0.0.0.1 i below) j k h l e

    -- a key that is there, and one that is not
    place : (x : ℕ) → found_of ks x s ≡ key_at_of ks (place_of (key_of d) x (count_of d)) s
    unfolding found_of
    place x = ap (λ (l : List ℕ). key_at_of ks (place_of (key_of l) x (count_of d)) s) (sym (directory_of sound).is)

    pub found_there : (x k : ℕ) → k < count_of d → key_of d k ≡ x → found_of ks x s ≡ Some (key_value x (value_in s (entry_of d k)))
    found_there x k h e = place x ∙ go (placed (key_of d) x (count_of d))
      where
        go : {p : ℕ} → Sought (key_of d) x 0 (count_of d) p → key_at_of ks p s ≡ Some (key_value x (value_in s (entry_of d k)))
        go {p} (there f l is) =
            let same : p ≡ k = only_one p k (omega arith) h (is ∙ sym e) in
            ap (λ (n : ℕ). key_at_of ks n s) same ∙ each-told k h ∙ ap (λ (n : ℕ). Some (key_value n (value_in s (entry_of d k)))) e
        go (nowhere is none) = absurd (none k (omega arith) (omega arith) e)

    pub found_nowhere : (x : ℕ) → ((k : ℕ) → k < count_of d → key_of d k ≡ x → ⊥) → found_of ks x s ≡ None
    found_nowhere x none = place x ∙ go (placed (key_of d) x (count_of d))
      where
        go : {p : ℕ} → Sought (key_of d) x 0 (count_of d) p → key_at_of ks p s ≡ None
        go {p} (there f l is) = absurd (none p (omega arith) is)
        go {p} (nowhere is all) = no_more p (omega arith)

  -- so what is answered of a key x
  module _ (x : ℕ) where
    pub then_refused : {why : Refusal} {j : ℕ} → RefusedFor allowance s x why j → got_of allowance x s ≡ Err (at_record why j)
    unfolding got_of
    then_refused (unopened u) = ap (λ (o : Result Keys Refused). got_by o x s) (then_unopened u)
    then_refused (key-not_found sound none) = ap (λ (o : Result Keys Refused). got_by o x s) (then_opened sound) ∙ ap value_by (found_nowhere sound x none)

    pub then_given : {d : List ℕ} {k : ℕ} → FoundAt allowance s x d k → got_of allowance x s ≡ Ok (value_in s (entry_of d k))
    unfolding got_of
    then_given {d} {k} f = ap (λ (o : Result Keys Refused). got_by o x s) (then_opened f.sound) ∙ ap value_by (found_there f.sound x k f.below f.has)

-- there is a reason to refuse, or none; and the answer tells which it was
module _ (allowance : ℕ) (s : List ℕ) where
  pub data Opening : Type 0 where
    refused : {why : Refusal} {j : ℕ} → Unopened allowance s why j → Opening
    read : {d : List ℕ} → Sound allowance s d → Opening

  pub opening : Opening
  opening = by_check_lem (checked_of allowance s) refl
    where
      asked : (q : Question) (d : List ℕ) → All s q d ⊎ Fails s q d
      asked q d = judging.decided (passes q (target_of (record_in s 34736)) (target_of (record_in s 34737)) d) (count_of d)

      by_end : {d : List ℕ} → Targeted allowance s d → All s Within d ⊎ Fails s Within d → Opening
      by_end h (inl all) = read (h, all)
      by_end h (inr bad) = refused (target-beyond h bad)

      by_target : {d : List ℕ} → Located allowance s d → All s There d ⊎ Fails s There d → Opening
      by_target {d} h (inl all) = by_end (h, all) (asked Within d)
      by_target h (inr bad) = refused (target_absent h bad)

      by_location : {d : List ℕ} → Risen allowance s d → All s Known d ⊎ Fails s Known d → Opening
      by_location {d} h (inl all) = by_target (h, all) (asked There d)
      by_location h (inr bad) = refused (unknown_location h bad)

      by_order : {d : List ℕ} → Long allowance s d → All s Rising d ⊎ Fails s Rising d → Opening
      by_order {d} h (inl all) = by_location (h, all) (asked Known d)
      by_order h (inr bad) = refused (not_rising h bad)

      by_length : {d : List ℕ} → Directory allowance s d → (b : Bool) → ltb (length d) (8 + 8 * count_of d) ≡ b → Opening
      by_length {d} h true e = refused (directory_short h (ltb-true _ _ e))
      by_length {d} h false e = by_order (h, ltb-false _ _ e) (asked Rising d)

      by_record : Accepted allowance s → (v : Option Span) → record_in s 34735 ≡ v → Opening
      by_record a (Some at) e =
          let d = take at.length (drop at.start s) in
          by_length {d = d} (record { accepted = a; start = at.start; bytes = at.length; found = e; is = refl }) (ltb (length d) (8 + 8 * count_of d)) refl
      by_record a None e = refused (no_directory a e)

      by_check_lem : (c : Result ℕ NotAccepted) → checked_of allowance s ≡ c → Opening
      by_check_lem (Ok n) e = by_record (n, e) (record_in s 34735) refl
      by_check_lem (Err err) e = refused (file_check e)

  pub was_unopened : {why : Refusal} {j : ℕ} → opened_of allowance s ≡ Err (at_record why j) → Unopened allowance s why j
  was_unopened {why} {j} e = go opening
    where
      go : Opening → Unopened allowance s why j
      go (refused {why = r} {j = k} u) =
          let same = refused_same (sym (then_unopened allowance s u) ∙ e) in
          rw (← same.0, ← same.1) u
      go (read sound) =
          let told = then_opened allowance s sound in
          let z : ◌≡◌ {A = ℕ} 0 1 = cc in
          absurd (omega arith)

  pub opened_are : {d : List ℕ} (sound : Sound allowance s d) {ks : Keys} → opened_of allowance s ≡ Ok ks → ks ≡ keys_in allowance s (directory_of allowance s sound)
  opened_are sound are = ok_same (sym are ∙ then_opened allowance s sound)

  pub was_opened : {ks : Keys} → opened_of allowance s ≡ Ok ks → (d : List ℕ) × (sound : Sound allowance s d) × (ks ≡ keys_in allowance s (directory_of allowance s sound))
  was_opened {ks} e = go opening
    where
      go : Opening → (d : List ℕ) × (sound : Sound allowance s d) × (ks ≡ keys_in allowance s (directory_of allowance s sound))
      go (refused {why = r} {j = k} u) =
          let told : opened_of allowance s ≡ Err (at_record r k) = then_unopened allowance s u in
          let z : ◌≡◌ {A = ℕ} 0 1 = cc in
          absurd (omega arith)
      go (read {d} sound) = (d, sound, opened_are sound e)

  module _ (x : ℕ) where
    pub data Outcome : Type 0 where
      refused_for : {why : Refusal} {j : ℕ} → RefusedFor allowance s x why j → Outcome
      given : {d : List ℕ} {k : ℕ} → FoundAt allowance s x d k → Outcome

    pub outcome : Outcome
    outcome = go opening
      where
        by_place : {d : List ℕ} {p : ℕ} → Sound allowance s d → Sought (key_of d) x 0 (count_of d) p → Outcome
        by_place {d} {p} sound (there h l e) = given {k = p} (record { sound = sound; below = omega arith; has = e })
        by_place sound (nowhere e none) = refused_for (key-not_found sound (λ k h. none k (omega arith) (omega arith)))

        go : Opening → Outcome
        go (refused u) = refused_for (unopened u)
        go (read {d} sound) = by_place sound (placed (key_of d) x (count_of d))

    pub was-refused : {why : Refusal} {j : ℕ} → got_of allowance x s ≡ Err (at_record why j) → RefusedFor allowance s x why j
    was-refused {why} {j} e = go outcome
      where
        go : Outcome → RefusedFor allowance s x why j
        go (refused_for {why = r} {j = k} h) =
            let same = refused_same (sym (then_refused allowance s x h) ∙ e) in
            rw (← same.0, ← same.1) h
        go (given {d} {k} f) =
            let told : got_of allowance x s ≡ Ok (value_in s (entry_of d k)) = then_given allowance s x f in
            let z : ◌≡◌ {A = ℕ} 0 1 = cc in
            absurd (omega arith)

    pub was_given : {v : Value} → got_of allowance x s ≡ Ok v → (d : List ℕ) × (k : ℕ) × FoundAt allowance s x d k × (v ≡ value_in s (entry_of d k))
    was_given {v} e = go outcome
      where
        go : Outcome → (d : List ℕ) × (k : ℕ) × FoundAt allowance s x d k × (v ≡ value_in s (entry_of d k))
        go (refused_for {why = r} {j = k} h) =
            let told : got_of allowance x s ≡ Err (at_record r k) = then_refused allowance s x h in
            let z : ◌≡◌ {A = ℕ} 0 1 = cc in
            absurd (omega arith)
        go (given {d} {k} f) =
            (d, k, f, ok_same (sym e ∙ then_given allowance s x f))
