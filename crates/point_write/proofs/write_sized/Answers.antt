use Rattle.std.specs.Prelude.{Ok}
use mathlib.Core.Path.{◌≡◌, ap, sym, ◌∙◌}
use mathlib.Core.Bool.{Bool, cond}
use native.Mathlib.Omega.{arith}
use borrow.Author.Tests.{eq-eqb, ne_eqb, lt-ltb}
use lib.ListN.{length}
use lib.Seq.{sets}
use Rattle.flags.specs.Bytes.{two_bytes_of}
use Rattle.point_bytes.specs.Bytes.{core_of, legacy_core_of}
use Rattle.point_write.specs.Write.{sized_of}
use Rattle.point_write.specs.Laws.{extended_is, legacy_is, core-length, legacy_core-length}
use Rattle.point_write.specs.Taken.{Taken, extended-taken, legacy_taken, flags_refused}
use Rattle.point_write.proofs.Laid.{core-fits, written}
use Rattle.point_write.proofs.write_sized.Goals as goal
use Rattle.point_write.proofs.write_sized.Goals.{After-extended_core-core, After-legacy_core-core}

-- What was written before the time and after it is the table's record; the refusals follow the tests.
pub returns-then-extra-format : goal.returns-then-extra-format
unfolding sized_of
returns-then-extra-format c = rw (ne_eqb _ _ c.if-extra-format.true)

pub returns-then-dst-n : goal.returns-then-dst-n
unfolding sized_of
returns-then-dst-n c =
    let a = c.args in
    rw (eq-eqb _ _ c.if-extra-format.false, lt-ltb (length a.dst.now) a.n (omega arith))

-- extended: the core with its three bytes of flags
taken : (x : After-extended_core-core) → Taken x.args.format x.args.point x.args.extra.now
taken x = extended-taken x.args.format x.args.point x.args.extra.now x.if-format.true x.if-extra-format.false

pub put_at-requires : goal.put_at-requires
put_at-requires c =
    let a = c.args in
    omega (arith, ap length c.extended_core-core.ensures, core-fits a.format a.point a.extra.now (taken (goal.at.put_at-requires c).After-extended_core-core) (core_of a.point) (extended_is a.format a.point a.extra.now c.if-format.true), c.requires, c.if-dst-n.false)

pub returns-then-format : goal.returns-then-format
returns-then-format c =
    let a = c.args in
    let new = c.if-format.true in
    written a.format a.point a.extra.now (taken (goal.at.returns-then-format c).After-extended_core-core) (core_of a.point) (extended_is a.format a.point a.extra.now new)
    a.n a.dst.now c.requires c.if-dst-n.false (core-length a.format a.point a.extra.now ∙ sym (ap (λ (b : Bool). cond b 22 20) new))
    (c.put_at.ensures ∙ ap (sets a.dst.now 0) c.extended_core-core.ensures) c.write_rest.ensures

-- legacy: the core with the two bytes that the flags have
module _ (x : After-legacy_core-core) where
  told : two_bytes_of x.args.point.flags ≡ Ok (x.in-Ok.a, x.in-Ok.b)
  told = sym x.to_two_bytes.ensures ∙ x.in-Ok.is

  taken-2 : Taken x.args.format x.args.point x.args.extra.now
  taken-2 = legacy_taken x.args.format x.args.point x.args.extra.now x.in-Ok.a x.in-Ok.b told x.if-extra-format.false

pub put_at-requires-in-Ok : goal.put_at-requires-in-Ok
put_at-requires-in-Ok c =
    let a = c.args in
    let x = (goal.at.put_at-requires-in-Ok c).After-legacy_core-core in
    omega (arith, ap length c.legacy_core-core.ensures, core-fits a.format a.point a.extra.now (taken-2 x) (legacy_core_of a.point c.in-Ok.a c.in-Ok.b) (legacy_is a.format a.point a.extra.now c.in-Ok.a c.in-Ok.b c.if-format.false (told x)), c.requires, c.if-dst-n.false)

pub returns-in-Ok : goal.returns-in-Ok
returns-in-Ok c =
    let a = c.args in
    let x = (goal.at.returns-in-Ok c).After-legacy_core-core in
    written a.format a.point a.extra.now (taken-2 x) (legacy_core_of a.point c.in-Ok.a c.in-Ok.b) (legacy_is a.format a.point a.extra.now c.in-Ok.a c.in-Ok.b c.if-format.false (told x))
    a.n a.dst.now c.requires c.if-dst-n.false (legacy_core-length a.format a.point a.extra.now c.in-Ok.a c.in-Ok.b ∙ sym (ap (λ (b : Bool). cond b 22 20) c.if-format.false))
    (c.put_at-in-Ok.ensures ∙ ap (sets a.dst.now 0) c.legacy_core-core.ensures) c.write_rest-in-Ok.ensures

pub returns-in-Err : goal.returns-in-Err
returns-in-Err c =
    let a = c.args in
    sym (flags_refused a.format a.point a.extra.now a.n a.dst.now _ c.if-extra-format.false c.if-dst-n.false c.if-format.false (sym c.to_two_bytes.ensures ∙ c.in-Err.is))
