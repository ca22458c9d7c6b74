-- What rewriting comes to: document 01, "rewriting", and the mission's "Written back, it has the same bytes".
use Rattle.std.specs.Prelude.{Ok, Err}
use Rattle.rules.specs.NotAccepted.{not_accepted}
use Rattle.refusal.specs.Refused.{at_record}
use Rattle.std.specs.Prelude.{ℕ, ◌+◌, ◌≤◌, ◌<◌, ◌≡◌, refl, ◌⊎◌, List, [], ◌∷◌, ◌++◌, length, take, drop, replicate}
use Rattle.std.proofs.Common.{ap, sym, subst, ◌∙◌, append_assoc, arith, length-append, take_at, drop_at}
use borrow.Author.Tests.{le-leb, lt-leb}
use Rattle.le.specs.Le.{Bytes}
use Rattle.refusal.specs.declared.Refusal.{Refusal}
use Rattle.refusal.specs.declared.Refusal.TheVariants.{NoRoom}
use Rattle.header.specs.Layout.{VersionMinor, StartOfFirstEvlr, NumberOfEvlrs}
use Rattle.header.specs.Header.{number}
use Rattle.header_write.specs.Back.{Paired}
use Rattle.outline.specs.declared.Outline.{Outline}
use Rattle.file.specs.Rules.{checked_of}
use Rattle.file.specs.Theorems.{accepted-holds}
use Rattle.cursor.specs.declared.Part.{Part}
use Rattle.cursor.specs.Parts.{outline_in, body_of, parts_of, bytes_of}
use Rattle.cursor.specs.Each.{header_first}
use Rattle.rewrite.specs.Back.{header_back, part_back}
use Rattle.rewrite.specs.Pair.{paired_same, zero_cleared}
use Rattle.rewrite.specs.Rewritten.{back_of, rewritten_of}
use Rattle.rewrite.specs.Asked.{HeaderPart, Tiles}
use Rattle.rewrite.specs.Whole.{first_ends, length_back, length_tiles, whole_same}
use Rattle.rewrite.specs.Sound.{header_whole, file_tiles, no_header_after}

-- "22, after the file check": what the check refuses is refused so, and then a destination shorter than the file; both leave it.
module _ (allowance : ℕ) (s d : List ℕ) where
  pub refused : {r : Refusal} {k n : ℕ} → checked_of allowance s ≡ Err (not_accepted r k n) → rewritten_of allowance s d ≡ (Err (at_record r k), d)
  unfolding rewritten_of
  refused p = rw p

  pub too_short : {n : ℕ} → checked_of allowance s ≡ Ok n → length d < length s → rewritten_of allowance s d ≡ (Err (at_record (NoRoom (length s)) 0), d)
  unfolding rewritten_of
  too_short p h = rw (p, lt-leb (length s) (length d) h)

-- the same of the parts, each where it stands
abbrev pub Stands : List ℕ → Outline → List ℕ → List Part → Type 0
Stands r o s [] = Unit
Stands r o s (p ∷ ps) = (bytes_of r p ≡ part_back o p.kind (bytes_of s p)) × Stands r o s ps

-- parts that are laid one after the other stand in their places
laid_stand : (o : Outline) (s : List ℕ) → Bytes s → (before after : List ℕ) (at : ℕ) (ps : List Part) → length before ≡ at → Tiles o s at ps → Stands (before ++ (back_of o s ps ++ after)) o s ps
unfolding back_of
laid_stand o s bytes before after at [] long t = tt
laid_stand o s bytes before after at (p ∷ ps) long ((start, c), (whole, w)) =
    let back = part_back o p.kind (bytes_of s p) in
    let size : length back ≡ p.length = length_back o s bytes p (first_ends o s bytes at p ps (start, c)) whole in
    let all = before ++ ((back ++ back_of o s ps) ++ after) in
    let here : bytes_of all p ≡ back =
    ap (λ (k : ℕ). take p.length (drop k all)) start
    ∙ ap (take p.length) (drop_at before ((back ++ back_of o s ps) ++ after) at long ∙ append_assoc back (back_of o s ps) after)
    ∙ take_at back (back_of o s ps ++ after) p.length size in
    let next : length (before ++ back) ≡ at + p.length = rw (length-append, long, size) in
    let same : (before ++ back) ++ (back_of o s ps ++ after) ≡ all = rw (append_assoc before, append_assoc back) in
    (here, subst (λ (l : List ℕ). Stands l o s ps) same (laid_stand o s bytes (before ++ back) after (at + p.length) ps next (c, w)))

-- For an accepted file and a destination with room:
module _ (allowance : ℕ) (s : List ℕ) (bytes : Bytes s) {n : ℕ} (p : checked_of allowance s ≡ Ok n) (d : List ℕ) (room : length s ≤ length d) where
  -- the answer is the file's length;
  pub answer : (rewritten_of allowance s d).0 ≡ Ok (length s)
  unfolding rewritten_of
  answer = rw (p, le-leb (length s) (length d) room)

  left : (rewritten_of allowance s d).1 ≡ back_of (outline_in s) s (parts_of (outline_in s) s) ++ drop (length s) d
  unfolding rewritten_of
  left = rw (p, le-leb (length s) (length d) room)

  abbrev size : ℕ
  size = (outline_in s).header_size

  header : HeaderPart (take size s)
  header = header_whole allowance s (accepted-holds allowance s p)

  begins : {bs : List ℕ} → header_back (take size s) ++ drop size s ≡ bs → (rewritten_of allowance s d).1 ≡ bs ++ drop (length s) d
  begins is =
      let same = whole_same (outline_in s) s bytes size (body_of (outline_in s) s) (rw header_first at (file_tiles allowance s p bytes)) (no_header_after allowance s p) in
      left ∙ rw header_first (ap (λ (l : List ℕ). l ++ drop (length s) d) (same ∙ is))

  long : length (back_of (outline_in s) s (parts_of (outline_in s) s)) ≡ length s
  long = omega (arith, length_tiles (outline_in s) s bytes 0 (parts_of (outline_in s) s) (file_tiles allowance s p bytes))

  -- "the destination begins with the same bytes", where both or neither of the EVLR pair are zero, and in versions without one;
  pub same_bytes : (number VersionMinor s ≡ 4 → Paired (number StartOfFirstEvlr s) (number NumberOfEvlrs s)) → (rewritten_of allowance s d).1 ≡ s ++ drop (length s) d
  same_bytes paired = begins (paired_same size s header bytes paired)

  -- "but an EVLR pair with one zero becomes two zeros", in bytes 235 to 246;
  pub half_zero : number VersionMinor s ≡ 4 → (number StartOfFirstEvlr s ≡ 0) ⊎ (number NumberOfEvlrs s ≡ 0) → (rewritten_of allowance s d).1 ≡ (take 235 s ++ (replicate 12 0 ++ drop 247 s)) ++ drop (length s) d
  half_zero four half = begins (zero_cleared size s header bytes four half)

  -- "bytes past the file's length in the destination stay";
  pub past_stays : drop (length s) (rewritten_of allowance s d).1 ≡ drop (length s) d
  past_stays = ap (drop (length s)) left ∙ drop_at (back_of (outline_in s) s (parts_of (outline_in s) s)) (drop (length s) d) (length s) long

  -- and in the place of every part, in their order, stands what its writer makes of what its reader answers, gaps being copied.
  pub each_part : Stands (rewritten_of allowance s d).1 (outline_in s) s (parts_of (outline_in s) s)
  each_part = subst (λ (l : List ℕ). Stands l (outline_in s) s (parts_of (outline_in s) s)) (sym left) (laid_stand (outline_in s) s bytes [] (drop (length s) d) 0 (parts_of (outline_in s) s) refl (file_tiles allowance s p bytes))
