-- What the definitions add up to.
use Rattle.std.specs.Prelude.{Result, Ok}
use Rattle.refusal.specs.Refused.{ok_same}
use Rattle.header.specs.Whole.{whole_of}
use Rattle.header.specs.declared.Whole.{Whole}
use Rattle.header.specs.declared.Header.{Header}
use Rattle.refusal.specs.declared.Refusal.{Refusal}
use Rattle.std.specs.Prelude.{ℕ, ◌≡◌, refl, List, drop}
use Rattle.std.proofs.Math.Path.{sym, ap}
use Rattle.std.proofs.Common.{◌∙◌}
use Rattle.std.proofs.Math.ListN.{take}
use Rattle.std.proofs.Math.Seq.{take-take}
use Rattle.fields.specs.Table.{Follow}
use Rattle.header.specs.Layout.{HeaderSize, place, width, fields12, fields13, fields14, size}
use Rattle.header.specs.Header.{number, header_of}
use Rattle.header.specs.Judged.{standard_of, padded_to, judged, read_by, read_of, padding_by, padding_of}
use Rattle.header.specs.Window.{drop-take}
use Rattle.header.specs.Laws.{accepted, standard-of, within, agreed}
use Rattle.header.specs.Answers.{read-judged, header_is, version_read, size_read}

-- "Fields stand in the order of `Header::read_from`": from byte 0 on, without gap or overlap.
pub follow_12 : Follow width place 0 fields12
follow_12 = refl

pub follow_13 : Follow width place 0 fields13
follow_13 = refl

pub follow_14 : Follow width place 0 fields14
follow_14 = refl

-- "Header sizes, from the standard: 227 for 1.0 to 1.2, 235 for 1.3, 375 for 1.4"
pub sizes : (size fields12 ≡ 227) × (size fields13 ≡ 235) × (size fields14 ≡ 375)
sizes = (refl, refl, refl)

-- "If the header-size field is above the standard size, the bytes between are padding": past their end the reader does
-- not look. Bytes that agree so far have the same answer, the same header and the same padding.
module _ (s t : List ℕ) {n e : ℕ} (p : judged s ≡ Ok (whole_of n e)) (same : take e s ≡ take e t) where
  pub same_answer : judged t ≡ judged s
  same_answer = agreed s t p same ∙ sym p

  pub same_header : read_of t ≡ read_of s
  unfolding read_of read_by
  same_header =
      let q = agreed s t p same in
      let w = within s p in
      let blocks : take n t ≡ take n s =
      sym (take-take n e t w.1) ∙ ap (take n) (sym same) ∙ take-take n e s w.1 in
      ap (λ (a : Result Whole Refusal). read_by a t) q
      ∙ (λ i. Ok (header_of (blocks i)))
      ∙ ap (λ (a : Result Whole Refusal). read_by a s) (sym p)

  pub same-padding : padding_of t ≡ padding_of s
  unfolding padding_of padding_by
  same-padding =
      let q = agreed s t p same in
      let w = within s p in
      ap (λ (a : Result Whole Refusal). padding_by a t) q
      ∙ sym (drop-take n e t) ∙ ap (drop n) (sym same) ∙ drop-take n e s
      ∙ ap (λ (a : Result Whole Refusal). padding_by a s) (sym p)

-- "the header, and where its block and its padding end": a header that is read says by its version and its header-size field where they end.
pub measured : (s : List ℕ) {h : Header} → read_of s ≡ Ok h → {n : ℕ} → standard_of h.version ≡ Ok n → judged s ≡ Ok (whole_of n (padded_to n h.header_size))
measured s {h} p {n} known =
    let w = read-judged s p in
    let j = w.2 in
    let is = header_is s p in
    let block : w.0 ≡ n = ok_same (sym (ap (λ (x : Header). standard_of x.version) is ∙ ap standard_of (version_read s j) ∙ standard-of s j) ∙ known) in
    let size : h.header_size ≡ number HeaderSize s = ap (λ (x : Header). x.header_size) is ∙ size_read s j in
    j ∙ ap Ok ((λ i. whole_of (block i) (((accepted s j).end) i)) ∙ (λ i. whole_of n (padded_to (block i) (sym size i))))
