-- The bytes behind the points of an accepted file without later records are no part of an offer.
use Rattle.std.specs.Prelude.{Result, Ok}
use Rattle.rules.specs.declared.NotAccepted.{NotAccepted}
use Rattle.std.specs.Prelude.{ℕ, ◌+◌, ◌*◌, ◌-◌, ◌≤◌, ◌≡◌, Bool, ◌&&◌, length, take}
use Rattle.std.proofs.Math.Path.{refl, ap}
use Rattle.std.proofs.Common.{sym, ◌∙◌, mul-le-mul_right, arith, eqb-true}
use Rattle.std.proofs.Math.Bool.{true, false}
use mathlib.Core.List.{List}
use Rattle.std.proofs.Math.Dec.{eqb}
use Rattle.header.specs.declared.Header.{Header}
use Rattle.header.specs.Judged.{eq_list, header_in}
use Rattle.outline.specs.Outline.{outline_of}
use Rattle.file.specs.Rules.{checked_of}
use Rattle.file.specs.Theorems.{accepted-holds}
use Rattle.file.specs.Kept.{same-part, same_header_in, same_check}
use Rattle.offer.specs.Offer.{count_in, record_length, end_in, last_bytes, is_in, growing, counted, offered, offer_by, offer_of}

-- of a file with this header, the records that stand last lie before the end of the points
module _ (h : Header) (records : List ℕ) (n believed : ℕ) (s t : List ℕ) (same : take (end_in h) t ≡ take (end_in h) s) where
  same_last : count_in h ≡ believed + n → last_bytes h n t ≡ last_bytes h n s
  same_last count =
      let bytes = n * record_length h in
      let few : bytes ≤ count_in h * record_length h = mul-le-mul_right (record_length h) (omega arith) in
      same-part (end_in h) s t same bytes (end_in h - bytes) (omega arith)

  same_in : is_in h records n believed t ≡ is_in h records n believed s
  unfolding is_in
  same_in = go (eqb (count_in h) (believed + n)) refl
    where
      go : (b : Bool) → eqb (count_in h) (believed + n) ≡ b → b && eq_list (last_bytes h n t) (take (n * record_length h) records) ≡ b && eq_list (last_bytes h n s) (take (n * record_length h) records)
      go true e = ap (λ (l : List ℕ). eq_list l (take (n * record_length h) records)) (same_last (eqb-true _ _ e))
      go false e = refl

  same-offered : length t ≡ length s → offered h records n believed t ≡ offered h records n believed s
  unfolding offered counted growing
  same-offered long = rw (same_in, long)

-- "Demand 2 reads the tail's bytes as free until counted": bytes that agree up to the end of the points have the same offer
module _ (a : ℕ) (s t : List ℕ) {m : ℕ} (accepted : checked_of a s ≡ Ok m) (none : (outline_of (header_in s)).number_of_later_records ≡ 0) (long : length t ≡ length s) (same : take (end_in (header_in s)) t ≡ take (end_in (header_in s)) s) where
  pub same_offer : (records : List ℕ) (n believed : ℕ) → offer_of a records n believed t ≡ offer_of a records n believed s
  unfolding offer_of
  same_offer records n believed =
      let holds = accepted-holds a s accepted in
      ap (λ (x : Result ℕ NotAccepted). offer_by x records n believed t) (same_check a s t holds none long same accepted)
      ∙ ap (λ (h : Header). offered h records n believed t) (same_header_in a s t holds none long same)
      ∙ same-offered (header_in s) records n believed s t same long
      ∙ ap (λ (x : Result ℕ NotAccepted). offer_by x records n believed s) (sym accepted)
