use Rattle.std.specs.Prelude.{Result, Ok, Err}
use Rattle.refusal.specs.declared.Refusal.{Refusal}
use Prim.Native.Nat.{ℕ, ◌+◌, ◌≤◌, ◌<◌}
use mathlib.Core.Path.{◌≡◌, ap, sym, ◌∙◌}
use mathlib.Core.Bool.{Bool}
use mathlib.Core.List.{List}
use borrow.Author.Tests.{lt-ltb, le-ltb}
use native.Mathlib.Omega.{arith}
use lib.ListN.{length}
use Rattle.std.proofs.lemmas.Result.{err_from_is_err_and}
use Rattle.refusal.specs.declared.Refusal.TheVariants.{Short}
use Rattle.refusal.specs.Laws.{wanted-checked}
use Rattle.refusal.specs.Refused.{err_same}
use Rattle.refusal.specs.Table.{wanted_of}
use Rattle.vlr.specs.declared.RecordLength.{RecordLength}
use Rattle.vlr.specs.Layout.{head_size}
use Rattle.vlr.specs.Vlr.{data_length, length_of, record_size, stated_of, extent_of}
use Rattle.vlr.specs.Laws.{stated_is, stated-refused}
use Rattle.vlr.proofs.measure.Goals as goal

-- The tests go by what is left past the head; the record's size is the head's and the stated length.
-- the answer of a head h and a length n, by what is left past the head
module _ (extended : Bool) (s : List ℕ) where
  no-head : {r : Refusal} → stated_of extended s ≡ Err r → Err r ≡ extent_of extended s
  unfolding stated_of extent_of
  no-head p =
      let short : length s < head_size extended = stated-refused extended s p in
      let test = lt-ltb (length s) (head_size extended) short in
      rw test (ap Err (sym (err_same (rw test at p))))

  module _ {h : ℕ} (head : h ≡ head_size extended) {l : RecordLength} {n : ℕ} (stated : l ≡ length_of extended s) (is : n ≡ data_length l) (there : h ≤ length s) where
    size : h + n ≡ record_size extended s
    unfolding record_size
    size = λ i. head i + (is ∙ ap data_length stated) i

    cut_off : length s < h + n → Err (Short (wanted_of (h + n))) ≡ extent_of extended s
    unfolding extent_of
    cut_off p = rw (← head, ← size, le-ltb (length s) h there, lt-ltb (length s) (h + n) p)

    all_there : h + n ≤ length s → Ok (h + n) ≡ extent_of extended s
    unfolding extent_of
    all_there p = rw (← head, ← size, le-ltb (length s) h there, le-ltb (length s) (h + n) p)

pub returns-in_err-stated : goal.returns-in_err-stated
returns-in_err-stated c =
    let p = err_from_is_err_and c.from_residual.result c.from_residual.ensures.1 in
    rw (p.1, p.2) (no-head c.args.extended c.args.s.now (sym c.stated.ensures ∙ c.in_err-stated.was))

pub returns-then-s-head : goal.returns-then-s-head
returns-then-s-head c =
    let a = c.args in
    let l = stated_is a.extended a.s.now (sym c.stated.ensures ∙ c.in_ok-stated.was) in
    let wanted = c.unwrap_or-wanted.ensures ∙ wanted-checked c.checked_add.result (c.head_size-head.result + c.to_u64-content.result) c.checked_add.ensures in
    ap (λ (n : ℕ). Err (Short n)) wanted
    ∙ cut_off a.extended a.s.now c.head_size-head.ensures (sym l.1) c.to_u64-content.ensures (omega arith) (omega arith)

pub returns : goal.returns
returns c =
    let a = c.args in
    let l = stated_is a.extended a.s.now (sym c.stated.ensures ∙ c.in_ok-stated.was) in
    all_there a.extended a.s.now c.head_size-head.ensures (sym l.1) c.to_u64-content.ensures (omega arith) (omega arith)

pub overflow_sub-s : goal.overflow_sub-s
overflow_sub-s c = omega (arith, stated_is c.args.extended c.args.s.now (sym c.stated.ensures ∙ c.in_ok-stated.was))
