-- What is told into no room, and then into all, is what is promised.
use Rattle.std.specs.Prelude.{Result, Ok, Err, ℕ, ◌*◌, ◌/◌, ◌≤◌, ◌<◌, ◌≡◌, List, [], ◌++◌, leb, length, drop}
use Rattle.refusal.specs.Refused.{at_record}
use Rattle.rules.specs.declared.NotAccepted.{NotAccepted}
use Rattle.std.proofs.Math.Path.{ap, sym}
use Rattle.std.proofs.Common.{subst, ◌∙◌, zero-add, arith, lt-ltb, le-ltb}
use Rattle.refusal.specs.declared.Refused.{Refused}
use Rattle.refusal.specs.declared.Refusal.TheVariants.{NoRoom}
use Rattle.file.specs.Rules.{checked_of}
use Rattle.file.specs.Theorems.{accepted-holds}
use Rattle.cursor.specs.declared.Cursor.{Cursor}
use Rattle.cursor.specs.Cursor.{started_of, left_of}
use Rattle.cursor.specs.Parts.{outline_in, parts_of, Covers}
use Rattle.cursor.specs.Started.{started_at, started_refused}
use Rattle.cursor.specs.Theorems.{cover}
use Rattle.returns.specs.declared.Survey.{Survey}
use Rattle.returns.specs.Returns.{survey_of}
use Rattle.returns.specs.Laws.{survey_points, survey_odd}
use Rattle.finding.specs.declared.Finding.{Finding}
use Rattle.finding.specs.Told.{all_numbers, told, plus-fits, told-nowhere, told-all}
use Rattle.findings.specs.Found.{found_from, survey_in, found_of}
use Rattle.findings.specs.Answer.{answer_to, answer_by, findings_of, Surveyed, Begun}
use Rattle.findings.specs.Laws.{survey_is}
use Rattle.findings.specs.Inside.{all_inside}

-- the survey of an accepted file
surveyed : (allowance : ℕ) (s : List ℕ) {n : ℕ} → checked_of allowance s ≡ Ok n → Surveyed s (survey_in s)
surveyed allowance s e =
    let o = outline_in s in
    let (extended, at, each, count) = survey_points (leb 6 o.point_data_record_format) o.offset_to_point_data o.point_data_record_length o.number_of_point_records s in
    record {
      within = rw (at, each, count) (accepted-holds allowance s e).parts.points-within;
      odd = rw (extended, at, each, count) (survey_odd (leb 6 o.point_data_record_format) o.offset_to_point_data o.point_data_record_length o.number_of_point_records s);
    }

module _ (allowance : ℕ) (s : List ℕ) where
  pub refused_is : {r : Refused} (d : List ℕ) → started_of allowance s ≡ Err r → (Err r, d) ≡ findings_of allowance s d
  unfolding findings_of
  refused_is d e = sym (ap (λ (x : Result ℕ NotAccepted). answer_by x (found_of s) d) (started_refused allowance s e).1)

  module _ {c : Cursor} {v : Survey} (start : started_of allowance s ≡ Ok c) (is : v ≡ survey_of allowance s) where
    accepted : checked_of allowance s ≡ Ok (started_at allowance s start).0
    accepted = (started_at allowance s start).1

    left : left_of s c ≡ parts_of (outline_in s) s
    left = (started_at allowance s start).2

    same : v ≡ survey_in s
    same = is ∙ survey_is allowance s accepted

    pub begun : Begun s v c
    begun =
        record {
          surveyed = subst (Surveyed s) (sym same) (surveyed allowance s accepted);
          covers = subst (Covers 0 (length s)) (sym left) (cover allowance s accepted);
        }

    found : found_from s v 1 (left_of s c) ≡ found_of s
    unfolding found_of
    found = λ i. found_from s (same i) 1 (left i)

    answered : (d : List ℕ) → findings_of allowance s d ≡ answer_to (found_of s) d
    unfolding findings_of
    answered d = ap (λ (x : Result ℕ NotAccepted). answer_by x (found_of s) d) accepted

    module _ (short : length s ≤ 18446744073709551615) {n : ℕ} {e : List ℕ} (counting : (n, e) ≡ told (found_from s v 1 (left_of s c)) (0, [])) (d : List ℕ) where
      few : length (found_of s) ≤ 18446744073709551615
      few = omega (arith, (all_inside allowance s accepted).few)

      both : ◌≡◌ {A = ℕ × List ℕ} (n, e) (length (found_of s), [])
      both =
          counting ∙ ap (λ (fs : List Finding). told fs (0, [])) found ∙ told-nowhere (found_of s) 0 [] (omega arith)
          ∙ ap (λ (k : ℕ). (k, [])) (plus-fits 0 (length (found_of s)) (omega (arith, few)) ∙ zero-add (length (found_of s)))

      count : n ≡ length (found_of s)
      count = ap (λ (w : ℕ × List ℕ). w.0) both

      whole : e ++ d ≡ d
      whole = ap (λ (w : ℕ × List ℕ). w.1 ++ d) both

      pub no_room : length (e ++ d) / 4 < n → (Err (at_record (NoRoom n) 0), e ++ d) ≡ findings_of allowance s d
      no_room h =
          let less : length d / 4 < length (found_of s) = rw (whole, count) at h in
          rw (whole, count) (sym (answered d ∙ rw (lt-ltb _ _ less)))

      pub room : n ≤ length (e ++ d) / 4 → {m : ℕ} {b : List ℕ} → (m, b) ≡ told (found_from s v 1 (left_of s c)) (0, e ++ d) → (Ok n, b) ≡ findings_of allowance s d
      room h {m} {b} all =
          let enough : length (found_of s) ≤ length d / 4 = rw (whole, count) at h in
          let is_all : (m, b) ≡ told (found_of s) (0, d) = all ∙ (λ i. told (found i) (0, whole i)) in
          let after : b ≡ all_numbers (found_of s) ++ drop (length (found_of s) * 4) d = ap (λ (w : ℕ × List ℕ). w.1) (is_all ∙ told-all (found_of s) d (omega arith) few) in
          rw (count, after) (sym (answered d ∙ rw (le-ltb _ _ enough)))
