-- One list of rules after another, and what the rules of the header leave to those of the parts.
use Rattle.std.specs.Prelude.{Result, Ok, Err}
use Rattle.rules.specs.NotAccepted.{not_accepted}
use Rattle.rules.specs.declared.NotAccepted.{NotAccepted}
use Prim.Native.Nat.{ℕ, ◌+◌, ◌-◌, ◌*◌, ◌/◌, ◌≤◌, ◌<◌}
use mathlib.Core.Path.{◌≡◌, sym, ◌∙◌}
use mathlib.Core.List.{List, ◌++◌}
use native.Mathlib.Omega.{arith}
use native.Mathlib.Nat.{div-lt_iff_lt-mul, le-div_iff_mul-le}
use borrow.Author.Tests.{leb-true}
use lib.ListN.{length}
use Rattle.refusal.specs.declared.Refusal.{Refusal}
use Rattle.outline.specs.declared.Outline.{Outline}
use Rattle.rules.specs.Rules.{Rule, first, format_bytes, header_rules}
use Rattle.extents.specs.Steps.{Bounded}
use Rattle.rules.specs.Laws.{format_bytes_lem}
use Rattle.rules.specs.First.{All, first-append, all_hold, accepted-all, refused-first}

module _ (xs ys : List Rule) (done : Result ℕ NotAccepted) (n : ℕ) {x : Result ℕ NotAccepted} (e : x ≡ first xs (Ok n)) where
  -- a refusal of the first list is the answer of both
  pub then_refused : {r : Refusal} {k m : ℕ} → x ≡ Err (not_accepted r k m) → x ≡ first (xs ++ ys) done
  then_refused p = p ∙ sym (refused-first xs (first ys done) n (sym e ∙ p)) ∙ sym (first-append xs ys done)

  -- and where it has none, the answer of the second is
  pub then_accepted : {m : ℕ} {y : Result ℕ NotAccepted} → x ≡ Ok m → y ≡ first ys done → y ≡ first (xs ++ ys) done
  then_accepted p q = q ∙ sym (all_hold xs (first ys done) (accepted-all xs (sym e ∙ p)).0) ∙ sym (first-append xs ys done)

-- rules 2 to 5 bound what the parts are cut from
pub bounded : (n minor : ℕ) (o : Outline) (s : List ℕ) → All (header_rules n minor o (length s)) → Bounded o s
unfolding header_rules
bounded n minor o s (size, (format, (compressed, (version, (long, (after, (inside, none))))))) =
    record {
      after_header = leb-true _ _ after;
      within = leb-true _ _ inside;
      some-length = omega (arith, leb-true (format_bytes o.point_data_record_format) o.point_data_record_length long, (format_bytes_lem o.point_data_record_format).0);
    }

-- the points' end, tested by a division
module _ (len offset m count : ℕ) (h : offset ≤ len) (some : 0 < m) where
  pub beyond : (len - offset) / m < count → len < offset + count * m
  beyond t = let p : len - offset < count * m = (div-lt_iff_lt-mul some).0 t in omega arith

  pub inside : count ≤ (len - offset) / m → offset + count * m ≤ len
  inside t = let p : count * m ≤ len - offset = (le-div_iff_mul-le some).0 t in omega arith
