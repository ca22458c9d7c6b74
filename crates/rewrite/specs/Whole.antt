-- Of bytes, what stands for all parts is the file, but for the header's EVLR pair.
use Rattle.std.specs.Prelude.{ℕ, ◌+◌, ◌-◌, ◌≤◌, Bool, take, drop}
use Rattle.std.proofs.Math.Path.{◌≡◌, refl, ap}
use Rattle.std.proofs.Common.{◌∙◌, arith, length-take-le}
use Rattle.std.proofs.Math.Bool.{true, false}
use mathlib.Core.List.{List, [], ◌∷◌, ◌++◌}
use Rattle.std.proofs.Math.Nat.{zero-add}
use Rattle.std.proofs.Math.ListN.{length, length-append, length-drop}
use Rattle.std.proofs.Math.Seq.{take_all}
use Rattle.le.specs.Le.{Bytes}
use Rattle.le.specs.Laws.{bytes_take, bytes_drop}
use Rattle.outline.specs.declared.Outline.{Outline}
use Rattle.cursor.specs.declared.Part.{Part}
use Rattle.cursor.specs.declared.Kind.{Kind}
use Rattle.cursor.specs.declared.Kind.TheVariants.{Header, Vlr, Gap, Points, Evlr, Waveform}
use Rattle.rewrite.specs.Back.{header_back, part_back}
use Rattle.rewrite.specs.Laws.{part_same, vlr_same}
use Rattle.rewrite.specs.Pair.{length_header}
use Rattle.cursor.specs.Parts.{part, Covers, Each, bytes_of, joined}
use Rattle.cursor.specs.Covers.{covers_up, joined_is}
use Rattle.rewrite.specs.Rewritten.{back_of}
use Rattle.rewrite.specs.Asked.{PartIs, IsWhole, Tiles}

abbrev pub is_header : Kind → Bool
is_header Header = true
is_header Vlr = false
is_header Gap = false
is_header Points = false
is_header Evlr = false
is_header Waveform = false

abbrev pub NoHeader : Part → Type 0
NoHeader p = is_header p.kind ≡ false

module _ (o : Outline) where
  -- every part but a header is itself
  pub body_same : (k : Kind) (t : List ℕ) → PartIs o k t → Bytes t → is_header k ≡ false → part_back o k t ≡ t
  unfolding part_back PartIs
  body_same Header t whole bytes body = let z : ◌≡◌ {A = ℕ} 0 1 = cc in absurd (omega arith)
  body_same Vlr t whole bytes body = vlr_same false t whole bytes
  body_same Gap t whole bytes body = refl
  body_same Points t whole bytes body = part_same _ _ _ t whole bytes
  body_same Evlr t whole bytes body = vlr_same true t whole bytes
  body_same Waveform t whole bytes body = vlr_same true t whole bytes

  -- and what stands for any has its length
  pub part_length : (k : Kind) (t : List ℕ) → PartIs o k t → Bytes t → length (part_back o k t) ≡ length t
  unfolding part_back PartIs
  part_length Header t whole bytes = length_header t whole bytes
  part_length Vlr t whole bytes = ap length (vlr_same false t whole bytes)
  part_length Gap t whole bytes = refl
  part_length Points t whole bytes = ap length (part_same _ _ _ t whole bytes)
  part_length Evlr t whole bytes = ap length (vlr_same true t whole bytes)
  part_length Waveform t whole bytes = ap length (vlr_same true t whole bytes)

  module _ (s : List ℕ) (bytes : Bytes s) where
    pub bytes-part : (p : Part) → Bytes (bytes_of s p)
    bytes-part p = bytes_take p.length (drop p.start s) (bytes_drop p.start s bytes)

    -- the first of some parts ends in the file,
    pub first_ends : (at : ℕ) (p : Part) (ps : List Part) → Covers at (length s) (p ∷ ps) → p.start + p.length ≤ length s
    first_ends at p ps (e, c) = omega (arith, covers_up (at + p.length) (length s) ps c)

    -- so it has its bytes, and so has what stands for it
    pub length_part : (p : Part) → p.start + p.length ≤ length s → length (bytes_of s p) ≡ p.length
    length_part p ends = length-take-le p.length (drop p.start s) (simp length-drop (omega arith))

    pub length_back : (p : Part) → p.start + p.length ≤ length s → IsWhole o s p → length (part_back o p.kind (bytes_of s p)) ≡ p.length
    length_back p ends whole = part_length p.kind (bytes_of s p) whole (bytes-part p) ∙ length_part p ends

    pub length_tiles : (at : ℕ) (ps : List Part) → Tiles o s at ps → at + length (back_of o s ps) ≡ length s
    unfolding back_of
    length_tiles at [] (c, w) = omega (arith, c)
    length_tiles at (p ∷ ps) ((e, c), (whole, w)) =
        rw length-append (omega (arith, length_back p (first_ends at p ps (e, c)) whole, length_tiles (at + p.length) ps (c, w)))

    back_joined : (ps : List Part) → Each (IsWhole o s) ps → Each NoHeader ps → back_of o s ps ≡ joined s ps
    unfolding back_of
    back_joined [] w none = refl
    back_joined (p ∷ ps) (whole, w) (body, none) = rw (body_same p.kind (bytes_of s p) whole (bytes-part p) body, back_joined ps w none)

    -- the header and all that follows it
    pub whole_same : (n : ℕ) (ps : List Part) → Tiles o s 0 (part Header 0 n ∷ ps) → Each NoHeader ps → back_of o s (part Header 0 n ∷ ps) ≡ header_back (take n s) ++ drop n s
    unfolding back_of part_back PartIs
    whole_same n ps ((e, c), (whole, w)) none =
        rw (back_joined ps w none, joined_is s n (length s) ps (rw zero-add at c), take_all (length s - n) (drop n s) (simp length-drop (omega arith)))
