-- What the file check answers by the header that is read, and what is known where a file is opened.
use Rattle.std.specs.Prelude.{ℕ, ◌≡◌, refl, Result, Ok, Err, List}
use Rattle.std.proofs.Common.{sym, ◌∙◌}
use Rattle.std.proofs.Math.Path.{ap}
use Rattle.refusal.specs.declared.Refusal.{Refusal}
use Rattle.refusal.specs.Refused.{ok_same, err_same}
use Rattle.header.specs.declared.Header.{Header}
use Rattle.header.specs.Whole.{whole_of}
use Rattle.header.specs.Judged.{standard_of, judged, read_of, header_in}
use Rattle.header.specs.Laws.{standard-of}
use Rattle.header.specs.Answers.{version_read, read-judged, refused-judged, header_is}
use Rattle.outline.specs.Outline.{outline_of}
use Rattle.rules.specs.declared.NotAccepted.{NotAccepted}
use Rattle.rules.specs.NotAccepted.{not_accepted}
use Rattle.rules.specs.Rules.{first}
use Rattle.extents.specs.Extents.{outline_rules, records_of}
use Rattle.file.specs.Rules.{readable, standard_size, rules_of, checked_of, opened_by, opened_of}
use Rattle.file.specs.Laws.{header_number}
use Rattle.file.specs.Theorems.{accepted}

-- a header that is read has a version that is known
pub standard_read : (s : List ℕ) {h : Header} → read_of s ≡ Ok h → (n e : ℕ) × (judged s ≡ Ok (whole_of n e)) × (standard_of h.version ≡ Ok n)
standard_read s read =
    let w = read-judged s read in
    let p = w.2 in
    (w.0, w.1, p, ap (λ (x : Header). standard_of x.version) (header_is s read) ∙ ap standard_of (version_read s p) ∙ standard-of s p)

module _ (allowance : ℕ) (s : List ℕ) where
  -- the rules of a file whose header is read, by that header
  pub checked_read : {h : Header} → read_of s ≡ Ok h → {n : ℕ} → standard_of h.version ≡ Ok n → checked_of allowance s ≡ first (outline_rules n h.version.minor allowance (outline_of h) s) (Ok (records_of (outline_of h)))
  unfolding checked_of rules_of readable standard_size
  checked_read {h} read {n} standard =
      let w = standard_read s read in
      let block : w.0 ≡ n = ok_same (sym w.3 ∙ standard) in
      rw (w.2, block)
      (ap (λ (x : Header). first (outline_rules n x.version.minor allowance (outline_of x) s) (Ok (records_of (outline_of x)))) (sym (header_is s read)))

  pub checked_refused : {r : Refusal} → read_of s ≡ Err r → checked_of allowance s ≡ Err (not_accepted r 0 0)
  unfolding checked_of rules_of readable standard_size first
  checked_refused read = let p = refused-judged s read in rw (p, header_number s p) refl

  -- an accepted file is opened, and one that is opened is accepted
  pub opened-accepted : {h : Header} → opened_of allowance s ≡ Ok h → (checked_of allowance s ≡ Ok (records_of (outline_of h))) × (h ≡ header_in s)
  unfolding opened_of opened_by
  opened-accepted {h} p = go (checked_of allowance s) refl
    where
      go : (a : Result ℕ NotAccepted) → checked_of allowance s ≡ a → (checked_of allowance s ≡ Ok (records_of (outline_of h))) × (h ≡ header_in s)
      go (Ok n) q =
          let is : h ≡ header_in s = sym (ok_same (sym (ap (λ (a : Result ℕ NotAccepted). opened_by a s) q) ∙ p)) in
          (q ∙ ap Ok (((accepted allowance s).0 q).1 ∙ ap (λ (x : Header). records_of (outline_of x)) (sym is)), is)
      go (Err err) q = let never : Err err ≡ Ok h = sym (ap (λ (a : Result ℕ NotAccepted). opened_by a s) q) ∙ p in absurd cc

  pub opened-refused : {err : NotAccepted} → opened_of allowance s ≡ Err err → checked_of allowance s ≡ Err err
  unfolding opened_of opened_by
  opened-refused {err} p = go (checked_of allowance s) refl
    where
      go : (a : Result ℕ NotAccepted) → checked_of allowance s ≡ a → checked_of allowance s ≡ Err err
      go (Ok n) q = let never : Ok (header_in s) ≡ Err err = sym (ap (λ (a : Result ℕ NotAccepted). opened_by a s) q) ∙ p in absurd cc
      go (Err other) q = q ∙ ap Err (err_same (sym (ap (λ (a : Result ℕ NotAccepted). opened_by a s) q) ∙ p))

  pub open_accepted : {n : ℕ} → checked_of allowance s ≡ Ok n → opened_of allowance s ≡ Ok (header_in s)
  unfolding opened_of opened_by
  open_accepted p = ap (λ (a : Result ℕ NotAccepted). opened_by a s) p

  pub open_refused : {err : NotAccepted} → checked_of allowance s ≡ Err err → opened_of allowance s ≡ Err err
  unfolding opened_of opened_by
  open_refused p = ap (λ (a : Result ℕ NotAccepted). opened_by a s) p
