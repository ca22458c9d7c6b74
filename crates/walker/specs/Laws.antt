-- What a step is to the point reader: it gives what the reader answers on the next record, and where there is none the reader refuses.
use Rattle.std.specs.Prelude.{Result, Ok, Err}
use Rattle.point.specs.declared.Point.{Point}
use Rattle.refusal.specs.declared.Refusal.{Refusal}
use Rattle.std.specs.Prelude.{ℕ, ◌+◌, ◌≤◌, ◌<◌, ◌≡◌, refl, Bool, true, false, cond, List, [], take, drop}
use Rattle.std.proofs.Math.Path.{ap}
use Rattle.std.proofs.Common.{sym, ◌∙◌, arith}
use Rattle.std.proofs.Math.Bool.{and-eq-true_iff}
use borrow.Author.Tests.{leb-true, ltb-true}
use Rattle.std.proofs.Math.ListN.{length, length-drop}
use Rattle.std.proofs.Math.Seq.{length-take-le}
use Rattle.format.specs.Fields.{record_bytes}
use Rattle.format.specs.Laws.{record_sum}
use Rattle.point.specs.declared.Point as point
use Rattle.point.specs.Read.{point_of, read_of}
use Rattle.point.specs.Answer as read
use Rattle.point.specs.Answer.{Read, answered, read_whole}
use Rattle.walker.specs.declared.Place.{Place}
use Rattle.walker.specs.declared.Took.{Took}
use Rattle.walker.specs.Walk.{accepted, has_next, record_of, refusal_of, after, took_of}

module _ (s : List ℕ) (p : Place) where
  -- what there being a next record says
  pub record Next : Type 0 where
    pub fits : record_bytes p.format ≤ 65535
    pub one : 0 < p.left
    pub room : p.at + record_bytes p.format ≤ length s
    pub bytes : record_of s p ≡ take (record_bytes p.format) (drop p.at s)
    pub long : length (record_of s p) ≡ record_bytes p.format

  next-bytes : has_next s p ≡ true → record_of s p ≡ take (record_bytes p.format) (drop p.at s)
  unfolding record_of
  next-bytes t = rw t

  no_bytes : has_next s p ≡ false → record_of s p ≡ []
  unfolding record_of
  no_bytes t = rw t

  pub next_says : has_next s p ≡ true → Next
  unfolding has_next
  next_says e =
      let a = (and-eq-true_iff (accepted p.start) _).0 e in
      let b = (and-eq-true_iff _ _).0 a.1 in
      let c = (and-eq-true_iff _ _).0 b.1 in
      let r : p.at + record_bytes p.format ≤ length s = leb-true _ _ c.1 in
      let l = next-bytes e in
      record {
        fits = leb-true _ _ b.0;
        one = ltb-true _ _ c.0;
        room = r;
        bytes = l;
        long = ap length l ∙ length-take-le (record_bytes p.format) (drop p.at s) (rw length-drop (omega arith));
      }

  -- a record that is read is the next, since no format's record is empty
  pub read_is_next : (x : point.Point) → read_of p.format (record_of s p) ≡ Ok x → has_next s p ≡ true
  read_is_next x e = go (has_next s p) refl
    where
      go : (b : Bool) → has_next s p ≡ b → b ≡ true
      go true t = refl
      go false t = absurd (omega (arith, (answered p.format [] x (ap (read_of p.format) (sym (no_bytes t)) ∙ e)).room, record_sum p.format))

-- the answer and the next place, by what the reader answers
abbrev pub took_after : Place → Result Point Refusal → Took
took_after p (Ok x) = record { answer = Ok x; next = after p }
took_after p (Err r) = record { answer = refusal_of p; next = p }

none_read : (p : Place) {r : Result Point Refusal} {e : List ℕ} → Read p.format [] r e → took_after p r ≡ record { answer = refusal_of p; next = p }
none_read p (read.whole fits there) = absurd (omega (arith, there, record_sum p.format))
none_read p (read.over long) = refl
none_read p (read.short fits none) = refl

-- "Each record is taken by let .. else from the reader's answer, the else branch giving the refusal"
pub by_reader : (s : List ℕ) (p : Place) → took_of s p ≡ took_after p (read_of p.format (record_of s p))
unfolding took_of
by_reader s p = go (has_next s p) refl
  where
    go : (b : Bool) → has_next s p ≡ b → cond b (record { answer = Ok (point_of p.format (record_of s p)); next = after p }) (record { answer = refusal_of p; next = p }) ≡ took_after p (read_of p.format (record_of s p))
    go true t = let h = next_says s p t in ap (took_after p) (sym (read_whole p.format (record_of s p) h.fits (omega (arith, h.long))))
    go false t = sym (ap (λ (l : List ℕ). took_after p (read_of p.format l)) (no_bytes s p t) ∙ none_read p (read.read p.format []))

-- a step leaves how the walk began
pub start_kept : (s : List ℕ) (p : Place) → (took_of s p).next.start ≡ p.start
unfolding after
start_kept s p = ap (λ (t : Took). t.next.start) (by_reader s p) ∙ go (read_of p.format (record_of s p))
  where
    go : (r : Result Point Refusal) → (took_after p r).next.start ≡ p.start
    go (Ok x) = refl
    go (Err r) = refl
