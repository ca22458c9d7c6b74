-- Laws of a run's records, one by one: which fit, which is refused first, and where the image of each stands.
use Rattle.std.specs.Prelude.{Result, Ok, Err, Bool, cond, take}
use Rattle.refusal.specs.Refused.{at_record, refused_same}
use Rattle.refusal.specs.declared.Refused.{Refused}
use Prim.Native.Nat.{ℕ, zero, suc, ◌+◌, ◌*◌, ◌≤◌, ◌<◌}
use Rattle.std.proofs.Math.Path.{◌≡◌, refl, ap, sym, subst}
use Rattle.std.proofs.Common.{◌∙◌, zero-mul, mul-le-mul_right, arith, take_at, drop-drop, length-take-le}
use Rattle.std.proofs.Math.Bool.{true, false}
use mathlib.Core.List.{List, [], ◌++◌, append_assoc, append-nil}
use Rattle.std.proofs.Math.Nat.{suc-mul}
use borrow.Author.Tests.{ltb-false}
use Rattle.std.proofs.Math.Dec.{ltb}
use Rattle.std.proofs.Math.ListN.{length, drop, length-drop}
use Rattle.std.proofs.Math.Seq.{drop_at}
use Rattle.refusal.specs.declared.Refusal.{Refusal}
use Rattle.le.specs.Le as le
use Rattle.le.specs.Laws.{bytes_take, bytes_drop}
use Rattle.format.specs.declared.Format.{Format}
use Rattle.format.specs.declared.Field.TheVariants.{ExtraBytes}
use Rattle.format.specs.Laws.{len_is}
use Rattle.point.specs.Read.{point_of, field_of}
use Rattle.strict.specs.Fit.{fit_of}
use Rattle.strict.specs.Shown.{Same, down_image}
use Rattle.pairs.specs.Paired.{Paired}
use Rattle.strict.specs.Theorems.{shown_the_same}
use Rattle.pairs.specs.declared.Plan.{Plan}
use Rattle.judge.specs.Judge.{judged_by, judge_run, judged_of, verdict_on}
use Rattle.convert.specs.Run.{turned_of, image_of, images_of, done_of}
use Rattle.convert.specs.Told.{converted_of, not-bytes}
use Rattle.pairs.specs.Sound.{Sound}
use Rattle.convert.specs.Asked.{Takes, TakesRun}
use Rattle.convert.specs.Demand.{nth}
use Rattle.judge.specs.Laws.{goes}
use Rattle.convert.specs.Laws.{image_length, takes_all}

pub at_zero : (m : ℕ) (s : List ℕ) → drop (zero * m) s ≡ s
at_zero m s = ap (λ (j : ℕ). drop j s) (zero-mul m)

pub at_suc : (m k : ℕ) (s : List ℕ) → drop (suc k * m) s ≡ drop (k * m) (drop m s)
at_suc m k s =
    let more : suc k * m ≡ m + k * m = omega (arith, suc-mul k m) in
    ap (λ (j : ℕ). drop j s) more ∙ sym (drop-drop (k * m) m s)

-- a record that is there is a whole one
pub nth-length : (m k count : ℕ) (s : List ℕ) → k < count → count * m ≤ length s → length (nth m k s) ≡ m
nth-length m k count s within there =
    let ends : suc k * m ≤ count * m = mul-le-mul_right m (omega arith) in
    length-take-le m (drop (k * m) s) (simp length-drop (omega (arith, suc-mul k m)))

-- each record of a run that fits does
pub fits_each : (f : Format) (m number count : ℕ) (s : List ℕ) → judge_run f m number count s ≡ Ok tt → (k : ℕ) → k < count → fit_of (point_of f (nth m k s)) ≡ Ok tt
unfolding judge_run
fits_each f m number zero s e k l = absurd (omega arith)
fits_each f m number (suc c) s e k l = go (fit_of (point_of f (take m s))) refl e (fits_each f m (number + 1) c (drop m s)) k l
  where
    go : (x : Result Unit Refusal) → fit_of (point_of f (take m s)) ≡ x → judged_by x number (judge_run f m (number + 1) c (drop m s)) ≡ Ok tt → (judge_run f m (number + 1) c (drop m s) ≡ Ok tt → (j : ℕ) → j < c → fit_of (point_of f (nth m j (drop m s))) ≡ Ok tt) → (k : ℕ) → k < suc c → fit_of (point_of f (nth m k s)) ≡ Ok tt
    go (Ok _) g h later zero l = ap (λ (t : List ℕ). fit_of (point_of f (take m t))) (at_zero m s) ∙ g
    go (Ok _) g h later (suc k) l = ap (λ (t : List ℕ). fit_of (point_of f (take m t))) (at_suc m k s) ∙ later h k (omega arith)
    go (Err r) g h later k l = let z : ◌≡◌ {A = ℕ} 0 1 = cc in absurd (omega arith)

-- the record that a run is refused for: it does not fit, and those before it do
pub record FirstRefused (f : Format) (m number count : ℕ) (s : List ℕ) (r : Refusal) (j : ℕ) : Type 0 where
  pub others : ℕ
  pub within : others < count
  pub numbered : j ≡ number + others
  pub refused : fit_of (point_of f (nth m others s)) ≡ Err r
  pub earlier : (i : ℕ) → i < others → fit_of (point_of f (nth m i s)) ≡ Ok tt

pub first-refused : (f : Format) (m number count : ℕ) (s : List ℕ) {r : Refusal} {j : ℕ} → judge_run f m number count s ≡ Err (at_record r j) → FirstRefused f m number count s r j
unfolding judge_run
first-refused f m number zero s e = let z : ◌≡◌ {A = ℕ} 0 1 = cc in absurd (omega arith)
first-refused f m number (suc c) s {r} {j} e = go (fit_of (point_of f (take m s))) refl e (first-refused f m (number + 1) c (drop m s))
  where
    early : (w : FirstRefused f m (number + 1) c (drop m s) r j) → fit_of (point_of f (take m s)) ≡ Ok tt → (i : ℕ) → i < suc w.others → fit_of (point_of f (nth m i s)) ≡ Ok tt
    early w g zero l = ap (λ (t : List ℕ). fit_of (point_of f (take m t))) (at_zero m s) ∙ g
    early w g (suc i) l = ap (λ (t : List ℕ). fit_of (point_of f (take m t))) (at_suc m i s) ∙ w.earlier i (omega arith)

    go : (x : Result Unit Refusal) → fit_of (point_of f (take m s)) ≡ x → judged_by x number (judge_run f m (number + 1) c (drop m s)) ≡ Err (at_record r j) → (judge_run f m (number + 1) c (drop m s) ≡ Err (at_record r j) → FirstRefused f m (number + 1) c (drop m s) r j) → FirstRefused f m number (suc c) s r j
    go (Ok _) g h later =
        let w = later h in
        record {
          others = suc w.others;
          within = omega (arith, w.within);
          numbered = omega (arith, w.numbered);
          refused = ap (λ (t : List ℕ). fit_of (point_of f (take m t))) (at_suc m w.others s) ∙ w.refused;
          earlier = early w g;
        }
    go (Err q) g h later =
        let e = refused_same h in
        let same : q ≡ r = e.0 in
        let first : number ≡ j = e.1 in
        record {
          others = 0;
          within = omega arith;
          numbered = omega (arith, first);
          refused = ap (λ (t : List ℕ). fit_of (point_of f (take m t))) (at_zero m s) ∙ g ∙ ap Err same;
          earlier = λ i l. absurd (omega arith);
        }

-- the other way round: a run fits where each record does, and is refused for the first that does not
pub all-fit : (f : Format) (m number count : ℕ) (s : List ℕ) → ((k : ℕ) → k < count → fit_of (point_of f (nth m k s)) ≡ Ok tt) → judge_run f m number count s ≡ Ok tt
unfolding judge_run
all-fit f m number zero s each = refl
all-fit f m number (suc c) s each =
    let rest = judge_run f m (number + 1) c (drop m s) in
    ap (λ (t : List ℕ). judged_by (fit_of (point_of f (take m t))) number rest) (sym (at_zero m s))
    ∙ ap (λ (x : Result Unit Refusal). judged_by x number rest) (each zero (omega arith))
    ∙ all-fit f m (number + 1) c (drop m s) (λ k l. ap (λ (t : List ℕ). fit_of (point_of f (take m t))) (sym (at_suc m k s)) ∙ each (suc k) (omega arith))

pub refused-at : (f : Format) (m number count : ℕ) (s : List ℕ) (r : Refusal) (k : ℕ) → k < count → ((i : ℕ) → i < k → fit_of (point_of f (nth m i s)) ≡ Ok tt) → fit_of (point_of f (nth m k s)) ≡ Err r → judge_run f m number count s ≡ Err (at_record r (number + k))
unfolding judge_run
refused-at f m number zero s r k l before refused = absurd (omega arith)
refused-at f m number (suc c) s r zero l before refused =
    let rest = judge_run f m (number + 1) c (drop m s) in
    let own : number ≡ number + 0 = omega arith in
    ap (λ (t : List ℕ). judged_by (fit_of (point_of f (take m t))) number rest) (sym (at_zero m s))
    ∙ ap (λ (x : Result Unit Refusal). judged_by x number rest) refused
    ∙ ap (λ (j : ℕ). Err (at_record r j)) own
refused-at f m number (suc c) s r (suc k) l before refused =
    let rest = judge_run f m (number + 1) c (drop m s) in
    let own : number + 1 + k ≡ number + suc k = omega arith in
    ap (λ (t : List ℕ). judged_by (fit_of (point_of f (take m t))) number rest) (sym (at_zero m s))
    ∙ ap (λ (x : Result Unit Refusal). judged_by x number rest) (before zero (omega arith))
    ∙ refused-at f m (number + 1) c (drop m s) r k (omega arith) (λ i j. ap (λ (t : List ℕ). fit_of (point_of f (take m t))) (sym (at_suc m i s)) ∙ before (suc i) (omega arith)) (ap (λ (t : List ℕ). fit_of (point_of f (take m t))) (sym (at_suc m k s)) ∙ refused)
    ∙ ap (λ (j : ℕ). Err (at_record r j)) own

-- the images of a run stand one after the other: the one after k others begins at k target lengths
module _ (up : Bool) (p : Plan) (sound : Sound up p) where
  pub each_image : (k count : ℕ) (s rest : List ℕ) → TakesRun up p count s → count * p.source_length ≤ length s → k < count → (after : List ℕ) × (drop (k * p.target_length) (images_of up p count s ++ rest) ≡ image_of up p (nth p.source_length k s) ++ after)
  unfolding images_of TakesRun
  each_image k zero s rest t h l = absurd (omega arith)
  each_image zero (suc c) s rest t h l =
      let m = p.source_length in
      let first = image_of up p (take m s) in
      let others = images_of up p c (drop m s) in (
        others ++ rest,
        at_zero p.target_length ((first ++ others) ++ rest)
            ∙ append_assoc first others rest
            ∙ ap (λ (x : List ℕ). image_of up p (take m x) ++ (others ++ rest)) (sym (at_zero m s)),
      )
  each_image (suc k) (suc c) s rest t h l =
      let m = p.source_length in
      let n = p.target_length in
      let first = image_of up p (take m s) in
      let others = images_of up p c (drop m s) in
      let there : m + c * m ≤ length s = omega (arith, suc-mul c m) in
      let size : length first ≡ n = image_length up p sound (take m s) (length-take-le m s (omega arith)) t.0 in
      let later = each_image k c (drop m s) rest t.1 (simp length-drop (omega arith)) (omega arith) in (
        later.0,
        at_suc n k ((first ++ others) ++ rest)
            ∙ ap (drop (k * n)) (ap (drop n) (append_assoc first others rest) ∙ drop_at first (others ++ rest) n size)
            ∙ later.1
            ∙ ap (λ (x : List ℕ). image_of up p (take m x) ++ later.0) (sym (at_suc m k s)),
      )

  -- and so it is the record after k others of what stands there
  pub image_at : (k count : ℕ) (s rest : List ℕ) → TakesRun up p count s → count * p.source_length ≤ length s → k < count → Takes p.target (turned_of up (point_of p.source (nth p.source_length k s))) → nth p.target_length k (images_of up p count s ++ rest) ≡ image_of up p (nth p.source_length k s)
  image_at k count s rest t h l takes =
      let m = p.source_length in
      let n = p.target_length in
      let image = each_image k count s rest t h l in
      ap (take n) image.1 ∙ take_at (image_of up p (nth m k s)) image.0 n (image_length up p sound (nth m k s) (nth-length m k count s l h) takes)

-- a run that is converted was judged to fit and had room, and its images stand before what was there
module _ (up : Bool) (p : Plan) (count : ℕ) (s d : List ℕ) where
  pub record Written (n : ℕ) (e : List ℕ) : Type 0 where
    pub fits : judged_of up p count s ≡ Ok tt
    pub room : count * p.target_length ≤ length d
    pub many : n ≡ count * p.target_length
    pub stands : e ≡ images_of up p count s ++ drop (count * p.target_length) d

  pub written : {n : ℕ} {e : List ℕ} → converted_of up p count s d ≡ (Ok n, e) → Written n e
  unfolding converted_of
  written {n} {e} = go (judged_of up p count s) refl
    where
      laid : judged_of up p count s ≡ Ok tt → (t : Bool) → ltb (length d) (count * p.target_length) ≡ t → (r : Refusal) → ◌≡◌ {A = Result ℕ Refused × List ℕ} (cond t (Err (at_record r 0), d) (Ok (count * p.target_length), images_of up p count s ++ drop (count * p.target_length) d)) (Ok n, e) → Written n e
      laid f true t r h = not-bytes r 0 n d e h
      laid f false t r h =
          let q = ap (λ (w : Result ℕ Refused × List ℕ). w.0) h in
          record { fits = f; room = ltb-false _ _ t; many = cc; stands = sym (ap (λ (w : Result ℕ Refused × List ℕ). w.1) h) }

      go : (w : Result Unit Refused) → judged_of up p count s ≡ w → done_of up count s d (verdict_on p count w) ≡ (Ok n, e) → Written n e
      go (Ok _) f h = laid f (ltb (length d) (count * p.target_length)) refl _ h
      go (Err err) f h = not-bytes err.refusal err.«record» n d e h

-- an old reader finds in the place of each image what the record there says
module _ (p : Plan) (sound : Sound false p) (pair : Paired p.source p.target) (count : ℕ) (s d : List ℕ) (bytes : le.Bytes s) (fits : judged_of false p count s ≡ Ok tt) where
  pub each-shown : {e : List ℕ} → e ≡ images_of false p count s ++ drop (count * p.target_length) d → (k : ℕ) → k < count → Same (point_of p.source (nth p.source_length k s)) (point_of p.target (nth p.target_length k e)) × (field_of p.target ExtraBytes (nth p.target_length k e) ≡ field_of p.source ExtraBytes (nth p.source_length k s))
  unfolding image_of
  each-shown {e} is k l =
      let m = p.source_length in
      let n = p.target_length in
      let r = nth m k s in
      let g = goes false p count s fits in
      let long : length r ≡ m = nth-length m k count s l g.there in
      let own = fits_each p.source m 1 count s g.records k l in
      let image = image_at false p sound k count s (drop (count * n) d) (takes_all false p sound count s g.records) g.there l (λ _. own) in
      let stands : nth n k e ≡ down_image p.source p.target r ++ [] = ap (nth n k) is ∙ image ∙ sym (append-nil (image_of false p r)) in
      let same = shown_the_same p.source p.target pair r (bytes_take m (drop (k * m) s) (bytes_drop (k * m) s bytes)) [] (omega (arith, len_is p.source m sound.from)) own in
      subst (λ (t : List ℕ). Same (point_of p.source r) (point_of p.target t) × (field_of p.target ExtraBytes t ≡ field_of p.source ExtraBytes r)) (sym stands) same
