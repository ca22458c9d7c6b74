use Rattle.std.specs.Prelude.{Ok, Err}
use Prim.Native.Nat.{ℕ, ◌+◌, ◌≤◌}
use mathlib.Core.Path.{◌≡◌, ap, sym, ◌∙◌}
use mathlib.Core.List.{List, ◌++◌}
use borrow.Author.Rules.{rules}
use native.Mathlib.Omega.{arith}
use lib.ListN.{length, drop, length-append}
use Rattle.refusal.specs.declared.Refusal.TheVariants.{NoRoom}
use Rattle.lent.specs.Laws.{front, no_front, then_tail}
use Rattle.lent.specs.Front.{front_of}
use Rattle.vlr.specs.Layout.{head_size}
use Rattle.vlr.specs.Places.{head-at-most}
use Rattle.vlr.specs.Vlr.{head_bytes, written_of}
use Rattle.vlr.specs.Laws.{length-head, stored-head, stated-length, other_length}
use Rattle.vlr_write.proofs.write_to.Goals as goal
use Rattle.vlr_write.proofs.write_to.Goals.{After-head_size-head, Start}

-- Long since each refusal and the write itself return at a place of their own; what the calls before them told is said once.
pub returns-then-data-wanted : goal.returns-then-data-wanted
returns-then-data-wanted c =
    let a = c.args in
    rw c.to_u64-wanted.ensures (sym (other_length a.vlr a.«data».now a.dst.now (λ e. omega arith)))

-- past the first test the data has the stated length
module _ (h : After-head_size-head) where
  abbrev begun : Start
  begun = (goal.at.After-head_size-head h).Start

  abbrev written : List ℕ
  written = head_bytes begun.args.vlr ++ begun.args.«data».now

  same : written_of begun.args.vlr begun.args.«data».now begun.args.dst.now ≡ front_of written begun.args.dst.now
  same = stated-length begun.args.vlr begun.args.«data».now begun.args.dst.now (omega arith)

  head : h.head_size-head.result ≡ length (head_bytes begun.args.vlr)
  head =
      let user : length begun.args.vlr.user_id ≡ 16 = search rules in
      let text : length begun.args.vlr.description ≡ 32 = search rules in
      h.head_size-head.ensures ∙ ap head_size h.is_extended.ensures ∙ sym (length-head begun.args.vlr user text)

  size : h.head_size-head.result + length begun.args.«data».now ≡ length written
  size = omega (arith, head, length-append (head_bytes begun.args.vlr) begun.args.«data».now)

pub returns-then-dst-size : goal.returns-then-dst-size
returns-then-dst-size c =
    (λ i. (Err (NoRoom (size (goal.at.returns-then-dst-size c).After-head_size-head i)), (begun (goal.at.returns-then-dst-size c).After-head_size-head).args.dst.now)) ∙ sym (same (goal.at.returns-then-dst-size c).After-head_size-head ∙ no_front (written (goal.at.returns-then-dst-size c).After-head_size-head) (begun (goal.at.returns-then-dst-size c).After-head_size-head).args.dst.now (omega (arith, size (goal.at.returns-then-dst-size c).After-head_size-head)))

pub returns : goal.returns
returns c =
    let a = (begun (goal.at.returns c).After-head_size-head).args in
    let room : c.head_size-head.result + length a.«data».now ≤ length a.dst.now = omega arith in
    let left = then_tail a.dst.now (head_bytes a.vlr) a.«data».now c.write_head.new.dst c.put.new.dst c.head_size-head.result c.put.result (sym (head (goal.at.returns c).After-head_size-head)) room (stored-head a.vlr c.write_head.ensures) c.put.ensures in
    (λ i. (Ok (size (goal.at.returns c).After-head_size-head i), (left ∙ ap (λ (k : ℕ). written (goal.at.returns c).After-head_size-head ++ drop k a.dst.now) (size (goal.at.returns c).After-head_size-head)) i))
    ∙ sym (same (goal.at.returns c).After-head_size-head ∙ front (written (goal.at.returns c).After-head_size-head) a.dst.now (omega (arith, size (goal.at.returns c).After-head_size-head)))

pub overflow_add-size : goal.overflow_add-size
overflow_add-size c = omega (arith, head-at-most c.is_extended.result)
