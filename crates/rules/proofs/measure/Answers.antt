use Rattle.std.specs.Prelude.{Ok, Err}
use Prim.Native.Nat.{ℕ, ◌≤◌, ◌<◌}
use mathlib.Core.Path.{◌≡◌, ap, sym, ◌∙◌}
use mathlib.Core.Bool.{Bool}
use mathlib.Core.List.{List}
use borrow.Author.Tests.{lt-leb, le-leb}
use native.Mathlib.Omega.{arith}
use lib.ListN.{length}
use Rattle.vlr.specs.declared.RecordLength.{RecordLength}
use Rattle.vlr.specs.Layout.{head_size}
use Rattle.vlr.specs.Vlr.{length_of, record_size}
use Rattle.vlr.specs.Laws.{Whole, accepted, record_size_lem, head-within, cut_off, stated_is, stated-refused}
use Rattle.rules.specs.Rules.{too_far, no_length}
use Rattle.rules.specs.Steps.{measured_of}
use Rattle.rules.proofs.measure.Goals as goal

-- the answer for a head that is not there, for a record that is cut off, and for one that is whole
module _ (extended : Bool) (s : List ℕ) where
  no-head : length s < head_size extended → Err (too_far (no_length extended)) ≡ measured_of extended s
  unfolding measured_of
  no-head h = rw (lt-leb _ _ h)

  cut : {l : RecordLength} → (head_size extended ≤ length s) × (length_of extended s ≡ l) → length s < record_size extended s → Err (too_far l) ≡ measured_of extended s
  unfolding measured_of
  cut (head, is) h = rw (le-leb _ _ head, lt-leb _ _ h, is)

  there : {n : ℕ} → Whole extended s n → Ok n ≡ measured_of extended s
  unfolding measured_of
  there {n} w =
      let size : n ≡ record_size extended s = omega (arith, w.size, record_size_lem extended s) in
      let all : record_size extended s ≤ length s = omega (arith, w.there) in
      rw (le-leb (head_size extended) (length s) (omega (arith, head-within extended s)), le-leb _ _ all, size)

pub returns-in_default : goal.returns-in_default
returns-in_default c =
    let a = c.args in
    ap Err (c.too_far.ensures ∙ ap too_far c.no_length.ensures) ∙ no-head a.extended a.rest.now (stated-refused a.extended a.rest.now (sym c.stated.ensures ∙ c.in_default.is))

pub returns-in-Ok-measure : goal.returns-in-Ok-measure
returns-in-Ok-measure c =
    let a = c.args in
    there a.extended a.rest.now (accepted a.extended a.rest.now (sym c.measure.ensures ∙ c.in-Ok-measure.is))

pub returns-in-Err : goal.returns-in-Err
returns-in-Err c =
    let a = c.args in
    ap Err c.too_far-in-Err.ensures
    ∙ cut a.extended a.rest.now (stated_is a.extended a.rest.now (sym c.stated.ensures ∙ c.in-Ok.is)) (cut_off a.extended a.rest.now (sym c.measure.ensures ∙ c.in-Err.is))
