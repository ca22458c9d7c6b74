-- What an answer of the question, or of the call, says of the file.
use Rattle.std.specs.Prelude.{Result, Ok, Err, ℕ, ◌≤◌, ◌<◌, ◌≡◌, Bool, true, false, cond, ◌⊎◌, List, ◌++◌, ltb, length, take, drop}
use Rattle.refusal.specs.Refused.{at_record, refused_same}
use Rattle.judge.specs.Run.{run_of, run_same}
use Rattle.refusal.specs.declared.Refused.{Refused}
use Rattle.judge.specs.declared.Run.{Run}
use Rattle.rules.specs.declared.NotAccepted.{NotAccepted}
use Rattle.std.proofs.Math.Path.{refl, sym, ap}
use Rattle.std.proofs.Common.{◌∙◌, inl, inr, arith, le-ltb, lt-ltb, ltb-true, ltb-false, take_at, drop_at}
use Rattle.le.specs.Le as le
use Rattle.refusal.specs.declared.Refusal.{Refusal}
use Rattle.refusal.specs.declared.Refusal.TheVariants.{NoRoom}
use Rattle.header.specs.declared.Header.{Header}
use Rattle.header.specs.Judged.{header_in}
use Rattle.outline.specs.Outline.{outline_of}
use Rattle.file.specs.Rules.{checked_of}
use Rattle.file.specs.Theorems.{accepted-holds}
use Rattle.pairs.specs.declared.Plan.{Plan}
use Rattle.convert.specs.Told.{not-bytes}
use Rattle.migrate.specs.Migrate.{goes_of, run_verdict, new_file, new_length, placed, goes_verdict, header_verdict, checked_verdict, file_verdict, done_by, migrated_of}
use Rattle.migrate.specs.Steps.{Goer}
use Rattle.migrate.specs.New.{new_long}

-- a refusal is no going
not-goes : {A : Type 0} (r : Refusal) (k : ℕ) (p : Plan) (n : ℕ) → ◌≡◌ {A = Result Run Refused} (Err (at_record r k)) (Ok (run_of p n)) → A
not-goes r k p n e = let z : ◌≡◌ {A = ℕ} 0 1 = cc in absurd (omega arith)

module _ (up : Bool) (allowance : ℕ) (s : List ℕ) where
  abbrev h : Header
  h = header_in s

  -- a file that goes: it is accepted, its header goes, and so do its points, by the plan; n is the length of the new file
  pub record Going (p : Plan) (n : ℕ) : Type 0 where
    pub found : ℕ
    pub accepted : checked_of allowance s ≡ Ok found
    pub yes : goes_of up h ≡ Ok tt
    pub bytes : ℕ
    pub points : run_verdict up (outline_of h) s ≡ Ok (run_of p bytes)
    pub long : n ≡ new_length up h s

  pub going : {p : Plan} {n : ℕ} → file_verdict up allowance s ≡ Ok (run_of p n) → Going p n
  unfolding file_verdict header_verdict
  going {p} {n} e = check (checked_of allowance s) (goes_of up h) (run_verdict up (outline_of h) s) refl refl refl e
    where
      check : (c : Result ℕ NotAccepted) (y : Result Unit Refusal) (v : Result Run Refused) → checked_of allowance s ≡ c → goes_of up h ≡ y → run_verdict up (outline_of h) s ≡ v → checked_verdict c (goes_verdict y (placed (new_length up h s) v)) ≡ Ok (run_of p n) → Going p n
      check (Ok k) (Ok _) (Ok run) a b c w =
          let same = run_same w in
          record { found = k; accepted = a; yes = b; bytes = run.bytes; points = c ∙ ap (λ (x : Plan). Ok (run_of x run.bytes)) same.0; long = sym same.1 }
      check (Ok k) (Ok _) (Err err) a b c w = not-goes err.refusal err.«record» p n w
      check (Ok k) (Err r) v a b c w = not-goes r 0 p n w
      check (Err err) y v a b c w = not-goes err.refusal err.«record» p n w

  pub then_goes : {p : Plan} {n : ℕ} → Going p n → file_verdict up allowance s ≡ Ok (run_of p n)
  unfolding file_verdict header_verdict
  then_goes {p} {n} g = rw (g.accepted, g.yes, g.points) (ap (λ (b : ℕ). Ok (run_of p b)) (sym g.long))

  abbrev pub goer : {p : Plan} {n : ℕ} → le.Bytes s → Going p n → Goer up h s
  goer bytes g = record { ready = record { allowance = allowance; holds = accepted-holds allowance s g.accepted; bytes = bytes; read = refl }; yes = g.yes }

  -- the writing call does what the question answers
  module _ (d : List ℕ) where
    does : {v : Result Run Refused} → file_verdict up allowance s ≡ v → migrated_of up allowance s d ≡ done_by up h s d v
    unfolding migrated_of
    does e = ap (done_by up h s d) e

    pub same_refusal : {why : Refusal} {j : ℕ} → file_verdict up allowance s ≡ Err (at_record why j) → migrated_of up allowance s d ≡ (Err (at_record why j), d)
    same_refusal e = does e

    pub with_room : {p : Plan} {n : ℕ} → file_verdict up allowance s ≡ Ok (run_of p n) → n ≤ length d → migrated_of up allowance s d ≡ (Ok n, new_file up p h s ++ drop n d)
    with_room {p} {n} e room = does e ∙ rw (le-ltb (length d) n room)

    pub without-room : {p : Plan} {n : ℕ} → file_verdict up allowance s ≡ Ok (run_of p n) → length d < n → migrated_of up allowance s d ≡ (Err (at_record (NoRoom n) 0), d)
    without-room {p} {n} e short = does e ∙ rw (lt-ltb (length d) n short)

    -- and the other way round
    pub asked-bytes : {n : ℕ} {e : List ℕ} → migrated_of up allowance s d ≡ (Ok n, e) → ((p : Plan) × (file_verdict up allowance s ≡ Ok (run_of p n))) × (n ≤ length d)
    asked-bytes {n} {e} w = go (file_verdict up allowance s) refl (sym (does refl) ∙ w)
      where
        fits : (p : Plan) (k : ℕ) → file_verdict up allowance s ≡ Ok (run_of p k) → (t : Bool) → ltb (length d) k ≡ t → (x : List ℕ) → ◌≡◌ {A = Result ℕ Refused × List ℕ} (cond t (Err (at_record (NoRoom k) 0), d) (Ok k, x)) (Ok n, e) → ((p : Plan) × (file_verdict up allowance s ≡ Ok (run_of p n))) × (n ≤ length d)
        fits p k a true t x q = not-bytes (NoRoom k) 0 n d e q
        fits p k a false t x q =
            let r = ap (λ (y : Result ℕ Refused × List ℕ). y.0) q in
            let same : k ≡ n = cc in
            ((p, a ∙ ap (λ (b : ℕ). Ok (run_of p b)) same), omega (arith, ltb-false (length d) k t))

        go : (v : Result Run Refused) → file_verdict up allowance s ≡ v → done_by up h s d v ≡ (Ok n, e) → ((p : Plan) × (file_verdict up allowance s ≡ Ok (run_of p n))) × (n ≤ length d)
        go (Ok run) a q = fits run.plan run.bytes a (ltb (length d) run.bytes) refl _ q
        go (Err err) a q = not-bytes err.refusal err.«record» n d e q

    pub asked_refusal : {why : Refusal} {j : ℕ} {e : List ℕ} → migrated_of up allowance s d ≡ (Err (at_record why j), e) → ((file_verdict up allowance s ≡ Err (at_record why j)) ⊎ ((p : Plan) × (n : ℕ) × (file_verdict up allowance s ≡ Ok (run_of p n)) × (why ≡ NoRoom n) × (j ≡ 0) × (length d < n))) × (e ≡ d)
    asked_refusal {why} {j} {e} w = go (file_verdict up allowance s) refl (sym (does refl) ∙ w)
      where
        Was : Type 0
        Was = ((file_verdict up allowance s ≡ Err (at_record why j)) ⊎ ((p : Plan) × (n : ℕ) × (file_verdict up allowance s ≡ Ok (run_of p n)) × (why ≡ NoRoom n) × (j ≡ 0) × (length d < n))) × (e ≡ d)

        short : (p : Plan) (k : ℕ) → file_verdict up allowance s ≡ Ok (run_of p k) → (t : Bool) → ltb (length d) k ≡ t → (x : List ℕ) → ◌≡◌ {A = Result ℕ Refused × List ℕ} (cond t (Err (at_record (NoRoom k) 0), d) (Ok k, x)) (Err (at_record why j), e) → Was
        short p k a true t x q =
            let r = ap (λ (y : Result ℕ Refused × List ℕ). y.0) q in
            (inr (p, k, a, sym (refused_same r).0, sym (refused_same r).1, ltb-true (length d) k t), sym (ap (λ (y : Result ℕ Refused × List ℕ). y.1) q))
        short p k a false t x q = not-bytes why j k e x (sym q)

        go : (v : Result Run Refused) → file_verdict up allowance s ≡ v → done_by up h s d v ≡ (Err (at_record why j), e) → Was
        go (Ok run) a q = short run.plan run.bytes a (ltb (length d) run.bytes) refl _ q
        go (Err err) a q =
            let x = ap (λ (y : Result ℕ Refused × List ℕ). y.0) q in
            let same : Err err ≡ Err (at_record why j) = cc in
            (inl (a ∙ same), sym (ap (λ (y : Result ℕ Refused × List ℕ). y.1) q))

  -- what is left where bytes were written: the new file, and what lay past it
  module _ (bytes : le.Bytes s) (d : List ℕ) {n : ℕ} {e : List ℕ} (w : migrated_of up allowance s d ≡ (Ok n, e)) where
    abbrev pub asked : ((p : Plan) × (file_verdict up allowance s ≡ Ok (run_of p n))) × (n ≤ length d)
    asked = asked-bytes d w

    abbrev pub plan : Plan
    plan = asked.0.0

    pub goes_by : Going plan n
    goes_by = going asked.0.1

    abbrev pub goer_is : Goer up h s
    goer_is = goer bytes goes_by

    pub left : e ≡ new_file up plan h s ++ drop n d
    left = sym (ap (λ (y : Result ℕ Refused × List ℕ). y.1) (sym (with_room d asked.0.1 asked.1) ∙ w))

    file_long : length (new_file up plan h s) ≡ n
    file_long = new_long up h s goer_is goes_by.points ∙ sym goes_by.long

    pub is_new : take n e ≡ new_file up plan h s
    is_new = ap (take n) left ∙ take_at (new_file up plan h s) (drop n d) n file_long

    pub past : drop n e ≡ drop n d
    past = ap (drop n) left ∙ drop_at (new_file up plan h s) (drop n d) n file_long
