use Rattle.std.specs.Prelude.{Result, Ok}
use Rattle.point.specs.declared.Point.{Point}
use Rattle.refusal.specs.declared.Refused.{Refused}
use Prim.Native.Nat.{ℕ, ◌+◌, ◌-◌}
use mathlib.Core.Path.{◌≡◌, sym, ap, ◌∙◌}
use native.Mathlib.Omega.{arith}
use mathlib.Core.List.{List}
use lib.ListN.{length}
use Rattle.format.specs.Fields.{record_bytes}
use Rattle.point.specs.declared.Point as point
use Rattle.point.specs.Read.{read_of}
use Rattle.walker.specs.declared.Place.{Place}
use Rattle.walker.specs.declared.Took.{Took}
use Rattle.walker.specs.Walk.{record_of, after, took_of}
use Rattle.walker.specs.Laws.{Next, next_says, read_is_next, took_after, by_reader}
use Rattle.walker.proofs.take_at.Goals as goal
use Rattle.walker.proofs.take_at.Goals.{After-read_from, In-Ok}

-- The reader's answer on the next record decides: `by_reader`. A point is the next record's, which ends in the file.
module _ (c : After-read_from) where
  abbrev s : List ℕ
  s = c.args.file.now

  abbrev p : Place
  p = c.args.place

  -- what is read is the next record
  read : read_of p.format (record_of s p) ≡ c.read_from.result
  read = ap (read_of p.format) (sym c.record_at-record.ensures) ∙ sym c.read_from.ensures

  took : took_of s p ≡ took_after p c.read_from.result
  took = by_reader s p ∙ ap (took_after p) read

pub returns-in_default : goal.returns-in_default
returns-in_default c =
    let p = c.args.place in
    ap (λ (w : Result Point Refused). record { answer = w; next = p }) c.refusal_at.ensures
    ∙ sym (took (goal.at.returns-in_default c).After-read_from ∙ ap (took_after p) c.in_default.is)

-- a point that is read is the next record's
next : (c : In-Ok) → Next c.args.file.now c.args.place
next c =
    let r = (goal.at.In-Ok c).After-read_from in
    next_says c.args.file.now c.args.place (read_is_next c.args.file.now c.args.place _ (read r ∙ c.in-Ok.is))

long : (c : In-Ok) → length c.record_at-record.result.now ≡ record_bytes c.args.place.format
long c = ap length c.record_at-record.ensures ∙ (next c).long

pub overflow_add-result : goal.overflow_add-result
overflow_add-result c =
    let r = (goal.at.overflow_add-result c).In-Ok in
    omega (arith, (next r).room, long r)

pub overflow_sub-result : goal.overflow_sub-result
overflow_sub-result c = omega (arith, (next (goal.at.overflow_sub-result c).In-Ok).one)

-- the place n bytes further on
abbrev further : Place → point.Point → ℕ → Took
further p x n =
    record {
      answer = Ok x;
      next = record { format = p.format; at = p.at + n; left = p.left - 1; count = p.count; start = p.start };
    }

pub returns : goal.returns
unfolding after
returns c =
    let p = c.args.place in
    ap (further p c.in-Ok.point) (long (goal.at.returns c).In-Ok) ∙ sym (took (goal.at.returns c).After-read_from ∙ ap (took_after p) c.in-Ok.is)
