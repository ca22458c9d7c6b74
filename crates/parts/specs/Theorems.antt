-- What an answered number of entries says of the table.
use Rattle.std.specs.Prelude.{Result, Ok, Err}
use Rattle.refusal.specs.Refused.{at_record}
use Rattle.refusal.specs.declared.Refused.{Refused}
use Rattle.rules.specs.declared.NotAccepted.{NotAccepted}
use Rattle.std.specs.Prelude.{ℕ, ◌≡◌, refl, Bool, true, false, cond, List, ◌++◌, leb, length, take, drop}
use Rattle.std.proofs.Common.{sym, ap, arith}
use Rattle.std.proofs.Math.Path.{subst}
use Rattle.std.proofs.Math.Seq.{take-append_seam, drop-append_seam}
use Rattle.refusal.specs.declared.Refusal.{Refusal}
use Rattle.refusal.specs.declared.Refusal.TheVariants.{NoRoom}
use Rattle.file.specs.Rules.{checked_of}
use Rattle.cursor.specs.declared.Part.{Part}
use Rattle.cursor.specs.Parts.{outline_in, parts_of, Covers}
use Rattle.cursor.specs.Theorems.{cover}
use Rattle.parts.specs.Table.{tabled_by, tabled_of}

refused : {A : Type 0} {r : Refusal} {k n : ℕ} {t t' : List Part} → ◌≡◌ {A = Result ℕ Refused × List Part} (Err (at_record r k), t) (Ok n, t') → A
refused {r = r} {k} {n} p =
    let q : ◌≡◌ {A = Result ℕ Refused} (Err (at_record r k)) (Ok n) = ap (λ (w : Result ℕ Refused × List Part). w.0) p in
    let z : ◌≡◌ {A = ℕ} 0 1 = cc in
    absurd (omega arith)

-- n entries are the parts ps, and the others are as they were
pub record Filled (ps t t' : List Part) (n : ℕ) : Type 0 where
  pub entries : take n t' ≡ ps
  pub others : drop n t' ≡ drop n t

module _ (ps t t' : List Part) {n : ℕ} where
  filled : ◌≡◌ {A = Result ℕ Refused} (Ok (length ps)) (Ok n) → ps ++ drop (length ps) t ≡ t' → Filled ps t t' n
  filled p q =
      let same : length ps ≡ n = cc in
      record {
        entries = rw (← same, ← q) (take-append_seam ps (drop (length ps) t));
        others = rw (← same, ← q) (drop-append_seam ps (drop (length ps) t));
      }

  by_room : (b : Bool) → ◌≡◌ {A = Result ℕ Refused × List Part} (cond b (Ok (length ps), ps ++ drop (length ps) t) (Err (at_record (NoRoom (length ps)) 0), t)) (Ok n, t') → Filled ps t t' n
  by_room true p = filled (ap (λ (w : Result ℕ Refused × List Part). w.0) p) (ap (λ (w : Result ℕ Refused × List Part). w.1) p)
  by_room false p = refused p

  by_check_lem : (x : Result ℕ NotAccepted) → tabled_by x ps t ≡ (Ok n, t') → Filled ps t t' n
  by_check_lem (Ok m) p = by_room (leb (length ps) (length t)) p
  by_check_lem (Err err) p = refused p

accepted_by : (x : Result ℕ NotAccepted) (ps t t' : List Part) {n : ℕ} → tabled_by x ps t ≡ (Ok n, t') → (A : Type 0) → ((m : ℕ) → x ≡ Ok m → A) → A
accepted_by (Ok m) ps t t' p A h = h m refl
accepted_by (Err err) ps t t' p A h = refused p

module _ (allowance : ℕ) (s : List ℕ) (t t' : List Part) {n : ℕ} (answered : tabled_of allowance s t ≡ (Ok n, t')) where
  -- "filled in file order"; "Entries past the last are unchanged"
  pub in_file_order : Filled (parts_of (outline_in s) s) t t' n
  unfolding tabled_of
  in_file_order = by_check_lem (parts_of (outline_in s) s) t t' (checked_of allowance s) answered

  -- the entries cover the file exactly
  pub entries_cover : Covers 0 (length s) (take n t')
  unfolding tabled_of
  entries_cover =
      accepted_by (checked_of allowance s) (parts_of (outline_in s) s) t t' answered (Covers 0 (length s) (take n t'))
      (λ m e. subst (Covers 0 (length s)) (sym in_file_order.entries) (cover allowance s e))
