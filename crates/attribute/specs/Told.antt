-- The answers by their reasons, and the reasons by the answers.
use Rattle.std.specs.Prelude.{Option, Some, None, Result, Ok, Err}
use Rattle.refusal.specs.Refused.{at_record, refused_same}
use Rattle.first_vlr.specs.Span.{span}
use Rattle.first_vlr.specs.declared.Span.{Span}
use Rattle.refusal.specs.declared.Refused.{Refused}
use Rattle.std.specs.Prelude.{ℕ, ◌*◌, ◌/◌, ◌%◌, ◌≤◌, ◌<◌, Bool, List, length, drop}
use Rattle.std.proofs.Math.Path.{◌≡◌, refl, subst⁻¹}
use Rattle.std.proofs.Common.{ap, sym, subst, ◌∙◌, arith, leb-false, eqb-true, length-drop, length-take-le}
use Rattle.std.proofs.Math.Bool.{true, false, cond}
use Rattle.std.proofs.lemmas.Bool.{lt-leb, eqb-false}
use Rattle.std.proofs.Math.Dec.{leb, eqb}
use Rattle.std.proofs.Math.ListN.{take}
use Rattle.refusal.specs.declared.Refusal.{Refusal}
use Rattle.refusal.specs.declared.Refusal.TheVariants.{NoDescriptors, DescriptorBytes, DataType, AttributeSizes}
use Rattle.descriptor.specs.Descriptor.{type_in}
use Rattle.outline.specs.declared.Outline.{Outline}
use Rattle.file.specs.Points.{point_format}
use Rattle.cursor.specs.Parts.{outline_in}
use Rattle.first_vlr.specs.First.{opened_of, first_of}
use Rattle.first_vlr.specs.Laws.{found_within, opened_file_lem, opened_refused, opens, opens_refused}
use Rattle.attribute.specs.declared.Attributes.{Attributes}
use Rattle.attribute.specs.Attributes.{types_known, sizes_of, before_first, described_in, lasf_spec, begun_by, begun_in, begun_after, begun_of}
use Rattle.attribute.specs.Laws.{not_a_multiple, type_unknown, sizes_over}
use Rattle.attribute.specs.Each.{nth, types_all, types_some, type_above}
use Rattle.attribute.specs.Exact.{Accepted, DataAt, descriptors, NoneFor, file_check, no_such_vlr, no_multiple, unknown_type, too_long}

-- all types are known where each is
pub types-known : (n : ℕ) (d : List ℕ) → ((k : ℕ) → k < n → type_in (nth k d) ≤ 10) → types_known n d ≡ true
types-known n d each = go (types_known n d) refl
  where
    go : (b : Bool) → types_known n d ≡ b → b ≡ true
    go true e = refl
    go false e = let (k, below, above) = types_some n d e in absurd (omega (arith, each k below))

-- why a VLR's data is refused
data Wrong (o : Outline) (d : List ℕ) : Refusal → Type 0 where
  bytes : (length d % 192 ≡ 0 → ⊥) → Wrong o d DescriptorBytes
  types : length d % 192 ≡ 0 → types_known (length d / 192) d ≡ false → Wrong o d DataType
  sizes : length d % 192 ≡ 0 → types_known (length d / 192) d ≡ true → (point_format o).extra_bytes < sizes_of (length d / 192) d → Wrong o d AttributeSizes

module _ (o : Outline) (start : ℕ) (d : List ℕ) {why : Refusal} {j : ℕ} where
  is_wrong : {r : Refusal} → Wrong o d r → ◌≡◌ {A = Result Attributes Refused} (Err (at_record r 0)) (Err (at_record why j)) → Wrong o d why × (j ≡ 0)
  is_wrong {r} w e =
      let same : r ≡ why = (refused_same e).0 in
      let none : j ≡ 0 = sym (refused_same e).1 in
      (subst (Wrong o d) same w, none)

  wrong : described_in o start d ≡ Err (at_record why j) → Wrong o d why × (j ≡ 0)
  unfolding described_in
  wrong = go (eqb (length d % 192) 0) (types_known (length d / 192) d) (leb (sizes_of (length d / 192) d) (point_format o).extra_bytes) refl refl refl
    where
      go : (x y z : Bool) → eqb (length d % 192) 0 ≡ x → types_known (length d / 192) d ≡ y → leb (sizes_of (length d / 192) d) (point_format o).extra_bytes ≡ z → cond x (cond y (cond z (Ok (before_first o start (length d / 192))) (Err (at_record AttributeSizes 0))) (Err (at_record DataType 0))) (Err (at_record DescriptorBytes 0)) ≡ Err (at_record why j) → Wrong o d why × (j ≡ 0)
      go true true true a b e p = let z : ◌≡◌ {A = ℕ} 0 1 = cc in absurd (omega arith)
      go true true false a b e p = is_wrong (sizes (eqb-true (length d % 192) 0 a) b (leb-false (sizes_of (length d / 192) d) (point_format o).extra_bytes e)) p
      go true false z a b e p = is_wrong (types (eqb-true (length d % 192) 0 a) b) p
      go false y z a b e p = is_wrong (bytes (eqb-false (length d % 192) 0 a)) p

module _ (allowance : ℕ) (s : List ℕ) where
  abbrev o : Outline
  o = outline_in s

  -- what is found has the bytes that it says
  long : {start n : ℕ} → first_of o lasf_spec 4 s ≡ Some (span start n) → length (take n (drop start s)) ≡ n
  long {start} {n} e = length-take-le n (drop start s) (rw length-drop (omega (arith, found_within o lasf_spec 4 s e)))

  -- the answer of an accepted file goes by the VLR's data
  pub by_data : {start n : ℕ} → DataAt allowance s start n → begun_of allowance s ≡ described_in o start (take n (drop start s))
  unfolding begun_of begun_in
  by_data ((records, accepted), found) = rw (opens allowance s accepted, found)

  -- multiples of 192, and how many
  pub whole : {start n : ℕ} → first_of o lasf_spec 4 s ≡ Some (span start (n * 192)) → (let d = take (n * 192) (drop start s) in (length d % 192 ≡ 0) × (length d / 192 ≡ n))
  whole {start} {n} e = rw (long e) (omega arith, omega arith)

  -- THE REASONS GIVE THE ANSWER,
  pub then_none : {why : Refusal} {j : ℕ} → NoneFor allowance s why j → begun_of allowance s ≡ Err (at_record why j)
  unfolding begun_of begun_in
  then_none (file_check e) = rw (opens_refused allowance s e)
  then_none (no_such_vlr (records, accepted) e) = rw (opens allowance s accepted, e)
  then_none (no_multiple {start} {n} at differs) = by_data at ∙ not_a_multiple o start (take n (drop start s)) (λ h. differs (sym (ap (λ (m : ℕ). m % 192) (long at.1)) ∙ h))
  then_none (unknown_type {start} {n} at k below above) =
      let d = take (n * 192) (drop start s) in
      let (multiple, count) = whole at.1 in
      by_data at ∙ type_unknown o start d multiple (rw count (type_above n d k below above))
  then_none (too_long {start} {n} at known over) =
      let d = take (n * 192) (drop start s) in
      let (multiple, count) = whole at.1 in
      by_data at ∙ sizes_over o start d multiple (rw count (types-known n d known)) (rw count (lt-leb (sizes_of n d) (point_format o).extra_bytes over))

  -- AND THE ANSWER HAS ONE OF THEM
  multiple : {start n : ℕ} → first_of o lasf_spec 4 s ≡ Some (span start n) → length (take n (drop start s)) % 192 ≡ 0 → n ≡ n / 192 * 192
  multiple e m = omega (arith, long e, m)

  from_wrong : {start n : ℕ} {why : Refusal} {j : ℕ} → DataAt allowance s start n → Wrong o (take n (drop start s)) why → j ≡ 0 → NoneFor allowance s why j
  from_wrong at (bytes h) none = subst⁻¹ (NoneFor allowance s DescriptorBytes) none (no_multiple at (λ e. h (ap (λ (m : ℕ). m % 192) (long at.1) ∙ e)))
  from_wrong {start} {n} at (types m t) none =
      let all = multiple at.1 m in
      let count : length (take n (drop start s)) / 192 ≡ n / 192 = ap (λ (k : ℕ). k / 192) (long at.1) in
      let some : types_known (n / 192) (descriptors allowance s start (n / 192)) ≡ false = subst (λ (k : ℕ). types_known (n / 192) (take k (drop start s)) ≡ false) all (rw count at t) in
      let (k, below, above) = types_some (n / 192) (descriptors allowance s start (n / 192)) some in
      subst⁻¹ (NoneFor allowance s DataType) none (unknown_type {n = n / 192} (subst (DataAt allowance s start) all at) k below above)
  from_wrong {start} {n} at (sizes m t over) none =
      let all = multiple at.1 m in
      let count : length (take n (drop start s)) / 192 ≡ n / 192 = ap (λ (k : ℕ). k / 192) (long at.1) in
      let known : types_known (n / 192) (descriptors allowance s start (n / 192)) ≡ true = subst (λ (k : ℕ). types_known (n / 192) (take k (drop start s)) ≡ true) all (rw count at t) in
      let more : (point_format o).extra_bytes < sizes_of (n / 192) (descriptors allowance s start (n / 192)) = subst (λ (k : ℕ). (point_format o).extra_bytes < sizes_of (n / 192) (take k (drop start s))) all (rw count at over) in
      subst⁻¹ (NoneFor allowance s AttributeSizes) none (too_long {n = n / 192} (subst (DataAt allowance s start) all at) (types_all (n / 192) (descriptors allowance s start (n / 192)) known) more)

  in_file : {why : Refusal} {j : ℕ} (x : Option Span) → Accepted allowance s → first_of o lasf_spec 4 s ≡ x → begun_by o s x ≡ Err (at_record why j) → NoneFor allowance s why j
  in_file (Some at) a e p = let w = wrong o at.start (take at.length (drop at.start s)) p in from_wrong (a, e) w.0 w.1
  in_file {why} {j} None a e p =
      let same : NoDescriptors ≡ why = (refused_same p).0 in
      let none : 0 ≡ j = (refused_same p).1 in
      subst (λ (r : Refusal). NoneFor allowance s r j) same (subst (NoneFor allowance s NoDescriptors) none (no_such_vlr a e))

  pub none_then : {why : Refusal} {j : ℕ} → begun_of allowance s ≡ Err (at_record why j) → NoneFor allowance s why j
  unfolding begun_of begun_in
  none_then {why} {j} = go (opened_of allowance s) refl
    where
      go : (x : Result Outline Refused) → opened_of allowance s ≡ x → begun_after s x ≡ Err (at_record why j) → NoneFor allowance s why j
      go (Ok y) e p =
          let (records, accepted, is) = opened_file_lem allowance s e in
          in_file (first_of (outline_in s) lasf_spec 4 s) (records, accepted) refl (subst (λ (z : Outline). begun_by z s (first_of z lasf_spec 4 s) ≡ Err (at_record why j)) is p)
      go (Err err) e p =
          let same : err.refusal ≡ why = (refused_same p).0 in
          let number : err.«record» ≡ j = (refused_same p).1 in
          file_check (opened_refused allowance s (e ∙ λ i. Err (at_record (same i) (number i)))).1
