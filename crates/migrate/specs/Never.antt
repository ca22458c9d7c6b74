-- The question has no destination: it never refuses with 22.
use Rattle.std.specs.Prelude.{Result, Ok, Err, ℕ, ◌≡◌, refl, Bool, true, false, cond, List}
use Rattle.refusal.specs.Refused.{at_record, refused_same}
use Rattle.judge.specs.declared.Run.{Run}
use Rattle.refusal.specs.declared.Refused.{Refused}
use Rattle.rules.specs.declared.NotAccepted.{NotAccepted}
use Rattle.std.proofs.Common.{sym, subst, arith}
use Rattle.refusal.specs.declared.Refusal.{Refusal}
use Rattle.refusal.specs.Table.{number_of}
use Rattle.header.specs.declared.Header.{Header}
use Rattle.header.specs.Judged.{header_in}
use Rattle.outline.specs.Outline.{outline_of}
use Rattle.file.specs.Rules.{checked_of}
use Rattle.file.specs.Room.{check_never_22}
use Rattle.convert.specs.Agree.{not-room}
use Rattle.header_convert.specs.Turned.{beside}
use Rattle.migrate.specs.Migrate.{goes_of, point_bytes, extra_in, run_verdict, new_length, placed, goes_verdict, header_verdict, checked_verdict, file_verdict}
use Rattle.migrate.specs.Exact.{is_for, counts_for, size_for, offset_for, each_for, goes_tests}

abbrev NotRoom : Refusal → Type 0
NotRoom r = number_of r ≡ 22 → ⊥

abbrev HeaderNot : Result Unit Refusal → Type 0
HeaderNot (Ok _) = Unit
HeaderNot (Err r) = NotRoom r

either : (b : Bool) (x y : Result Unit Refusal) → HeaderNot x → HeaderNot y → HeaderNot (cond b x y)
either true x y p q = p
either false x y p q = q

header_never : (up : Bool) (h : Header) → HeaderNot (goes_of up h)
header_never up h =
    subst HeaderNot (sym (goes_tests up h))
    (either (is_for up h) _ _
    (either (beside h) _ _ (λ is. omega arith)
    (either (counts_for up h) _ _
    (either (size_for up h) _ _
    (either (offset_for up h) _ _ (either (each_for up h) _ _ tt (λ is. omega arith)) (λ is. omega arith))
    (λ is. omega arith))
    (λ is. omega arith)))
    (λ is. omega arith))

points_never : (up : Bool) (h : Header) (s : List ℕ) {r : Refusal} {k : ℕ} → run_verdict up (outline_of h) s ≡ Err (at_record r k) → NotRoom r
unfolding run_verdict
points_never up h s e =
    let o = outline_of h in
    not-room up o.point_data_record_format (extra_in o) o.number_of_point_records (point_bytes o s) e

pub file_never_22 : (up : Bool) (allowance : ℕ) (s : List ℕ) {why : Refusal} {j : ℕ} → file_verdict up allowance s ≡ Err (at_record why j) → number_of why ≡ 22 → ⊥
unfolding file_verdict header_verdict
file_never_22 up allowance s {why} {j} e = check (checked_of allowance s) (goes_of up h) (run_verdict up (outline_of h) s) refl refl refl e
  where
    h : Header
    h = header_in s

    same : {r : Refusal} {k : ℕ} → NotRoom r → ◌≡◌ {A = Result Run Refused} (Err (at_record r k)) (Err (at_record why j)) → NotRoom why
    same {r} {k} own w = subst NotRoom (refused_same w).0 own

    check : (c : Result ℕ NotAccepted) (y : Result Unit Refusal) (v : Result Run Refused) → checked_of allowance s ≡ c → goes_of up h ≡ y → run_verdict up (outline_of h) s ≡ v → checked_verdict c (goes_verdict y (placed (new_length up h s) v)) ≡ Err (at_record why j) → NotRoom why
    check (Err err) y v a b c w = same (check_never_22 allowance s a) w
    check (Ok n) (Err r) v a b c w = same (subst HeaderNot b (header_never up h)) w
    check (Ok n) (Ok _) (Err err) a b c w = same (points_never up h s c) w
    check (Ok n) (Ok _) (Ok run) a b c w = let z : ◌≡◌ {A = ℕ} 0 1 = cc in absurd (omega arith)
