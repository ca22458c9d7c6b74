use Prim.Native.Nat.{ℕ}
use mathlib.Core.Path.{◌≡◌, ap, sym, ◌∙◌}
use mathlib.Core.Bool.{Bool, true, false, ◌&&◌}
use borrow.Author.Tests.{eq-eqb, ne_eqb}
use lib.Dec.{eqb}
use Rattle.vlr.specs.Layout.{UserId}
use Rattle.vlr.specs.Vlr.{bytes_in}
use Rattle.names.specs.Names.{is_named}
use Rattle.first_vlr.specs.First.{is_of}
use Rattle.first_vlr.proofs.is_of.Goals as goal
use Rattle.first_vlr.proofs.is_of.Goals.{After-u16_at}

-- the answer by whether the record id is the one asked for
by-id : (c : After-u16_at) (b : Bool) → let a = c.args in eqb c.u16_at.result a.record_id ≡ b → b && is_named (bytes_in false UserId a.s.now) a.user.now ≡ is_of a.user.now a.record_id a.s.now
unfolding is_of
by-id c b is =
    let a = c.args in
    ap (λ (b : Bool). b && is_named (bytes_in false UserId a.s.now) a.user.now) (sym is ∙ ap (λ (n : ℕ). eqb n a.record_id) c.u16_at.ensures)

pub returns-then-u16_at-record_id : goal.returns-then-u16_at-record_id
returns-then-u16_at-record_id c = by-id (goal.at.returns-then-u16_at-record_id c).After-u16_at false (ne_eqb _ _ c.if-u16_at-record_id.true)

pub returns : goal.returns
returns c =
    c.is_named.ensures ∙ by-id (goal.at.returns c).After-u16_at true (eq-eqb _ _ c.if-u16_at-record_id.false)
