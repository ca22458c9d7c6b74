-- The question and the writing call, both ways: what the one answers the other does, but for the room.
use Rattle.std.specs.Prelude.{Option, Some, None, Result, Ok, Err, ℕ, ◌*◌, ◌≤◌, ◌<◌, ◌≡◌, Bool, cond, List, ◌++◌, ◌⊎◌, ltb, length, drop}
use Rattle.refusal.specs.Refused.{at_record, refused_same}
use Rattle.judge.specs.Run.{run_of}
use Rattle.refusal.specs.declared.Refused.{Refused}
use Rattle.judge.specs.declared.Run.{Run}
use Rattle.format.specs.declared.Format.{Format}
use Rattle.std.proofs.Math.Path.{refl}
use Rattle.std.proofs.Common.{ap, sym, subst, ◌∙◌, inl, inr, arith, le-ltb, lt-ltb, ltb-true, ltb-false}
use Rattle.std.proofs.Math.Bool.{true, false}
use Rattle.refusal.specs.declared.Refusal.{Refusal}
use Rattle.refusal.specs.declared.Refusal.TheVariants.{Short, NoRoom}
use Rattle.refusal.specs.Table.{number_of, wanted_of}
use Rattle.format.specs.Length as format
use Rattle.strict.specs.First.{FirstField, first_named, at_return_number, at-number-of-returns, at-class, at-channel, at-overlap, at_nir, at-angle}
use Rattle.point.specs.declared.Point.{Point}
use Rattle.pairs.specs.declared.Plan.{Plan}
use Rattle.pairs.specs.Pairs.{old_pair, new_pair, lengths_of, planned_by}
use Rattle.judge.specs.Judge.{records_of, judged_of, verdict_on, verdict_by, old_verdict, new_verdict}
use Rattle.convert.specs.Run.{images_of, done_of, to_old_of, to_new_of}
use Rattle.convert.specs.Demand.{ask_of, convert_of}
use Rattle.convert.specs.Told.{not-bytes}
use Rattle.convert.specs.Each.{first-refused}

module _ (up : Bool) (code extra count : ℕ) (s d : List ℕ) where
  -- the writing call does what the question answers
  does : convert_of up code extra count s d ≡ done_of up count s d (ask_of up code extra count s)
  unfolding to_old_of to_new_of
  does = go up
    where
      go : (b : Bool) → convert_of b code extra count s d ≡ done_of b count s d (ask_of b code extra count s)
      go true = refl
      go false = refl

  pub same_refusal : {why : Refusal} {j : ℕ} → ask_of up code extra count s ≡ Err (at_record why j) → convert_of up code extra count s d ≡ (Err (at_record why j), d)
  same_refusal a = does ∙ ap (done_of up count s d) a

  module _ {p : Plan} {n : ℕ} (a : ask_of up code extra count s ≡ Ok (run_of p n)) where
    pub with_room : n ≤ length d → convert_of up code extra count s d ≡ (Ok n, images_of up p count s ++ drop n d)
    with_room h = does ∙ ap (done_of up count s d) a ∙ rw (le-ltb (length d) n h)

    pub without-room : length d < n → convert_of up code extra count s d ≡ (Err (at_record (NoRoom n) 0), d)
    without-room h = does ∙ ap (done_of up count s d) a ∙ rw (lt-ltb (length d) n h)

  -- and the other way round
  pub asked-bytes : {n : ℕ} {e : List ℕ} → convert_of up code extra count s d ≡ (Ok n, e) → ((p : Plan) × (ask_of up code extra count s ≡ Ok (run_of p n))) × (n ≤ length d)
  asked-bytes {n} {e} h = go (ask_of up code extra count s) refl (sym does ∙ h)
    where
      fits : (p : Plan) (m : ℕ) → ask_of up code extra count s ≡ Ok (run_of p m) → (t : Bool) → ltb (length d) m ≡ t → (images : List ℕ) → ◌≡◌ {A = Result ℕ Refused × List ℕ} (cond t (Err (at_record (NoRoom m) 0), d) (Ok m, images)) (Ok n, e) → ((p : Plan) × (ask_of up code extra count s ≡ Ok (run_of p n))) × (n ≤ length d)
      fits p m a true t images w = not-bytes (NoRoom m) 0 n d e w
      fits p m a false t images w =
          let q = ap (λ (x : Result ℕ Refused × List ℕ). x.0) w in
          let same : m ≡ n = cc in
          ((p, a ∙ ap (λ (b : ℕ). Ok (run_of p b)) same), omega (arith, ltb-false (length d) m t))

      go : (v : Result Run Refused) → ask_of up code extra count s ≡ v → done_of up count s d v ≡ (Ok n, e) → ((p : Plan) × (ask_of up code extra count s ≡ Ok (run_of p n))) × (n ≤ length d)
      go (Ok run) a w = fits run.plan run.bytes a (ltb (length d) run.bytes) refl _ w
      go (Err err) a w = not-bytes err.refusal err.«record» n d e w

  pub asked_refusal : {why : Refusal} {j : ℕ} {e : List ℕ} → convert_of up code extra count s d ≡ (Err (at_record why j), e) → (ask_of up code extra count s ≡ Err (at_record why j)) ⊎ ((p : Plan) × (n : ℕ) × (ask_of up code extra count s ≡ Ok (run_of p n)) × (why ≡ NoRoom n) × (length d < n))
  asked_refusal {why} {j} {e} h = go (ask_of up code extra count s) refl (sym does ∙ h)
    where
      short : (p : Plan) (m : ℕ) → ask_of up code extra count s ≡ Ok (run_of p m) → (t : Bool) → ltb (length d) m ≡ t → (images : List ℕ) → ◌≡◌ {A = Result ℕ Refused × List ℕ} (cond t (Err (at_record (NoRoom m) 0), d) (Ok m, images)) (Err (at_record why j), e) → (ask_of up code extra count s ≡ Err (at_record why j)) ⊎ ((p : Plan) × (n : ℕ) × (ask_of up code extra count s ≡ Ok (run_of p n)) × (why ≡ NoRoom n) × (length d < n))
      short p m a true t images w =
          let q = ap (λ (x : Result ℕ Refused × List ℕ). x.0) w in
          inr (p, m, a, sym (refused_same q).0, ltb-true (length d) m t)
      short p m a false t images w = not-bytes why j m e images (sym w)

      go : (v : Result Run Refused) → ask_of up code extra count s ≡ v → done_of up count s d v ≡ (Err (at_record why j), e) → (ask_of up code extra count s ≡ Err (at_record why j)) ⊎ ((p : Plan) × (n : ℕ) × (ask_of up code extra count s ≡ Ok (run_of p n)) × (why ≡ NoRoom n) × (length d < n))
      go (Ok run) a w = short run.plan run.bytes a (ltb (length d) run.bytes) refl _ w
      go (Err err) a w =
          let q = ap (λ (x : Result ℕ Refused × List ℕ). x.0) w in
          let same : Err err ≡ Err (at_record why j) = cc in
          inl (a ∙ same)

-- the numbers that the question may refuse with: 26 and 8 of the plan, 1, and 15 to 21 of a record
abbrev NotRoom : Result Run Refused → Type 0
NotRoom (Ok run) = Unit
NotRoom (Err err) = number_of err.refusal ≡ 22 → ⊥

field-number : {p : Point} {why : Refusal} → FirstField p why → number_of why < 22
field-number (at_return_number h) = omega arith
field-number (at-number-of-returns h l) = omega arith
field-number (at-class h l m) = omega arith
field-number (at-channel h l m n) = omega arith
field-number (at-overlap h l m n o) = omega arith
field-number (at_nir h l) = omega arith
field-number (at-angle h l m) = omega arith

records_not-room : (up : Bool) (p : Plan) (count : ℕ) (s : List ℕ) (w : Result Unit Refused) → records_of up p count s ≡ w → NotRoom (verdict_on p count w)
records_not-room up p count s (Ok _) e = tt
records_not-room true p count s (Err err) e = let z : ◌≡◌ {A = ℕ} 0 1 = cc in absurd (omega arith)
records_not-room false p count s (Err err) e =
    let w = first-refused p.source p.source_length 1 count s e in
    λ is. omega (arith, field-number (first_named _ err.refusal w.refused))

run-not-room : (up : Bool) (p : Plan) (count : ℕ) (s : List ℕ) → NotRoom (verdict_on p count (judged_of up p count s))
unfolding judged_of
run-not-room up p count s = go (Short (wanted_of (count * p.source_length))) (λ is. omega arith) (ltb (length s) (count * p.source_length))
  where
    go : (r : Refusal) → (number_of r ≡ 22 → ⊥) → (t : Bool) → NotRoom (verdict_on p count (cond t (Err (at_record r 0)) (records_of up p count s)))
    go r other true = other
    go r other false = records_not-room up p count s (records_of up p count s) refl

planned_not-room : (up : Bool) (count : ℕ) (s : List ℕ) (code : ℕ) (x : Option (Format × Format)) → NotRoom (verdict_by up count s (planned_by code x))
planned_not-room up count s code None = λ is. omega arith
planned_not-room up count s code (Some (a, b)) = go (format.told a) (format.told b)
  where
    go : {x y : Result ℕ Refusal} → format.Told a x → format.Told b y → NotRoom (verdict_by up count s (lengths_of a b x y))
    go (format.over h) y = λ is. omega arith
    go (format.fits h) (format.over l) = λ is. omega arith
    go (format.fits h) (format.fits l) = run-not-room up _ count s

pub not-room : (up : Bool) (code extra count : ℕ) (s : List ℕ) {why : Refusal} {j : ℕ} → ask_of up code extra count s ≡ Err (at_record why j) → number_of why ≡ 22 → ⊥
unfolding old_verdict new_verdict
not-room up code extra count s a = subst NotRoom a (go up)
  where
    go : (b : Bool) → NotRoom (ask_of b code extra count s)
    go true = planned_not-room true count s code (new_pair code extra)
    go false = planned_not-room false count s code (old_pair code extra)
