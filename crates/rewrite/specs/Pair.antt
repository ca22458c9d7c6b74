-- The header's EVLR pair: all that rewriting may change.
use Rattle.std.specs.Prelude.{ℕ, ◌≤◌, ◌≡◌, refl, Bool, true, false, cond, ◌⊎◌, List, ◌++◌, eqb, length, take, drop, replicate}
use Rattle.std.proofs.Common.{ap, sym, ◌∙◌, inl, inr, append_assoc, arith, eqb-true, length-append, length-take, length-drop, take-append-drop, take_at, drop_at, drop-drop, length-take-le}
use Rattle.std.proofs.lemmas.Bool.{eqb-false}
use Rattle.std.proofs.lemmas.List.{take-append-le, drop-append-le}
use Rattle.le.specs.Le.{Bytes}
use Rattle.le.specs.Laws.{num-take, bytes_take}
use Rattle.header.specs.Layout.{VersionMinor, StartOfFirstEvlr, NumberOfEvlrs, size, fields_of}
use Rattle.header.specs.Header.{number}
use Rattle.header.specs.Laws as header
use Rattle.header_write.specs.Back.{Paired}
use Rattle.rewrite.specs.Back.{header_back}
use Rattle.rewrite.specs.Asked.{HeaderPart}
use Rattle.rewrite.specs.Laws.{header_same, header_half}

-- bytes 235 to 246, where the pair stands, as "two zeros"
abbrev pub pair_cleared : List ℕ → List ℕ
pair_cleared s = take 235 s ++ (replicate 12 0 ++ drop 247 s)

-- those bytes of t as they are in s
abbrev pub pair_of : List ℕ → List ℕ → List ℕ
pair_of s t = take 235 t ++ (take 12 (drop 235 s) ++ drop 247 t)

-- the same in version 1.4, which has the pair
abbrev pub with_pair : List ℕ → List ℕ → List ℕ
with_pair s t = cond (eqb (number VersionMinor s) 4) (pair_of s t) t

pair_self : (s : List ℕ) → pair_of s s ≡ s
pair_self s =
    let rest : take 12 (drop 235 s) ++ drop 247 s ≡ drop 235 s = ap (λ (l : List ℕ). take 12 (drop 235 s) ++ l) (sym (drop-drop 12 235 s)) ∙ take-append-drop 12 (drop 235 s) in
    rw rest (take-append-drop 235 s)

pair_cleared_lem : (s : List ℕ) → 247 ≤ length s → pair_of s (pair_cleared s) ≡ s
pair_cleared_lem s long =
    let first : length (take 235 s) ≡ 235 = length-take-le 235 s (omega arith) in
    let second : length (take 235 s ++ replicate 12 0) ≡ 247 = rw (length-append, first) in
    let rest : drop 247 (pair_cleared s) ≡ drop 247 s = ap (drop 247) (sym (append_assoc (take 235 s) (replicate 12 0) (drop 247 s))) ∙ drop_at (take 235 s ++ replicate 12 0) (drop 247 s) 247 second in
    (λ i. take_at (take 235 s) (replicate 12 0 ++ drop 247 s) 235 first i ++ (take 12 (drop 235 s) ++ rest i)) ∙ pair_self s

cleared_append : (s t : List ℕ) → 247 ≤ length s → pair_cleared s ++ t ≡ pair_cleared (s ++ t)
cleared_append s t second =
    let first : 235 ≤ length s = omega arith in
    rw (append_assoc (take 235 s) (replicate 12 0 ++ drop 247 s) t, append_assoc (replicate 12 0) (drop 247 s) t, take-append-le 235 s t, drop-append-le 247 s t)

module _ (s : List ℕ) (whole : HeaderPart s) where
  -- a header of version 1.4 has its pair
  large : number VersionMinor s ≡ 4 → 375 ≤ length s
  large four =
      let a = header.accepted s whole.1 in
      let block : whole.0 ≡ 375 = a.block ∙ ap (λ (k : ℕ). size (fields_of k)) four in
      omega (arith, a.holds-block)

  -- what stands for a header is the header, or in version 1.4 the header with its pair cleared,
  either : Bytes s → (header_back s ≡ s) ⊎ ((number VersionMinor s ≡ 4) × (header_back s ≡ pair_cleared s))
  either bytes = go (eqb (number VersionMinor s) 4) (eqb (number StartOfFirstEvlr s) 0) (eqb (number NumberOfEvlrs s) 0) refl refl refl
    where
      go : (four start count : Bool) → eqb (number VersionMinor s) 4 ≡ four → eqb (number StartOfFirstEvlr s) 0 ≡ start → eqb (number NumberOfEvlrs s) 0 ≡ count → (header_back s ≡ s) ⊎ ((number VersionMinor s ≡ 4) × (header_back s ≡ pair_cleared s))
      go true true count p q r = inr (eqb-true _ _ p, header_half s whole bytes (eqb-true _ _ p) (inl (eqb-true _ _ q)))
      go true false true p q r = inr (eqb-true _ _ p, header_half s whole bytes (eqb-true _ _ p) (inr (eqb-true _ _ r)))
      go true false false p q r = inl (header_same s whole bytes (λ four. record { count_too = λ e. absurd (eqb-false _ _ q e); start_too = λ e. absurd (eqb-false _ _ r e) }))
      go false start count p q r = inl (header_same s whole bytes (λ four. absurd (eqb-false _ _ p four)))

  -- so it has as many bytes
  pub length_header : Bytes s → length (header_back s) ≡ length s
  length_header bytes = go (either bytes)
    where
      go : (header_back s ≡ s) ⊎ ((number VersionMinor s ≡ 4) × (header_back s ≡ pair_cleared s)) → length (header_back s) ≡ length s
      go (inl same) = ap length same
      go (inr (four, cleared)) = ap length cleared ∙ simp (length-append, length-take, length-drop) (omega (arith, large four))

-- with what follows it in a file: a pair of which both or neither are zero stays,
module _ (n : ℕ) (s : List ℕ) (whole : HeaderPart (take n s)) (bytes : Bytes s) where
  minor : number VersionMinor (take n s) ≡ number VersionMinor s
  minor = num-take 1 25 s n (omega (arith, header.within (take n s) whole.1, length-take n s))

  pub paired_same : (number VersionMinor s ≡ 4 → Paired (number StartOfFirstEvlr s) (number NumberOfEvlrs s)) → header_back (take n s) ++ drop n s ≡ s
  paired_same paired =
      let kept : number VersionMinor (take n s) ≡ 4 → Paired (number StartOfFirstEvlr (take n s)) (number NumberOfEvlrs (take n s)) =
      λ four. let long = large (take n s) whole four in rw (num-take 8 235 s n (omega (arith, length-take n s)), num-take 4 243 s n (omega (arith, length-take n s))) (paired (sym minor ∙ four)) in
      rw (header_same (take n s) whole (bytes_take n s bytes) kept) (take-append-drop n s)

  -- and one of which either is zero becomes two zeros
  pub zero_cleared : number VersionMinor s ≡ 4 → (number StartOfFirstEvlr s ≡ 0) ⊎ (number NumberOfEvlrs s ≡ 0) → header_back (take n s) ++ drop n s ≡ pair_cleared s
  zero_cleared four half =
      let long = large (take n s) whole (minor ∙ four) in
      let zero = rw (← (num-take 8 235 s n (omega (arith, length-take n s))), ← (num-take 4 243 s n (omega (arith, length-take n s)))) at half in
      rw (header_half (take n s) whole (bytes_take n s bytes) (minor ∙ four) zero)
      (cleared_append (take n s) (drop n s) (omega arith) ∙ ap pair_cleared (take-append-drop n s))

  -- so what stands for a header with what follows it is that, or in version 1.4 that with the pair cleared,
  whole_either : (header_back (take n s) ++ drop n s ≡ s) ⊎ ((number VersionMinor s ≡ 4) × (header_back (take n s) ++ drop n s ≡ pair_cleared s))
  whole_either = go (either (take n s) whole (bytes_take n s bytes))
    where
      go : (header_back (take n s) ≡ take n s) ⊎ ((number VersionMinor (take n s) ≡ 4) × (header_back (take n s) ≡ pair_cleared (take n s))) → (header_back (take n s) ++ drop n s ≡ s) ⊎ ((number VersionMinor s ≡ 4) × (header_back (take n s) ++ drop n s ≡ pair_cleared s))
      go (inl same) = inl (rw same (take-append-drop n s))
      go (inr (four, cleared)) = inr (sym minor ∙ four, rw cleared (cleared_append (take n s) (drop n s) (omega (arith, large (take n s) whole four)) ∙ ap pair_cleared (take-append-drop n s)))

  -- and with the pair as it is, it is the same
  pub pair_put_back : with_pair s (header_back (take n s) ++ drop n s) ≡ s
  pair_put_back = go (eqb (number VersionMinor s) 4) refl whole_either
    where
      go : (four : Bool) → eqb (number VersionMinor s) 4 ≡ four → (header_back (take n s) ++ drop n s ≡ s) ⊎ ((number VersionMinor s ≡ 4) × (header_back (take n s) ++ drop n s ≡ pair_cleared s)) → cond four (pair_of s (header_back (take n s) ++ drop n s)) (header_back (take n s) ++ drop n s) ≡ s
      go false p (inl same) = same
      go false p (inr (four, cleared)) = absurd (eqb-false _ _ p four)
      go true p (inl same) = ap (pair_of s) same ∙ pair_self s
      go true p (inr (four, cleared)) = ap (pair_of s) cleared ∙ pair_cleared_lem s (omega (arith, large (take n s) whole (minor ∙ four), length-take n s))
