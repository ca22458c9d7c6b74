use Prim.Native.Nat.{ℕ}
use mathlib.Core.Path.{◌≡◌, ap, ◌∙◌}
use native.Mathlib.Omega.{arith}
use lib.ListN.{take, drop}
use Rattle.store.specs.Window.{window, window_is}
use Rattle.vlr.specs.Layout.{Description, place}
use Rattle.vlr.specs.Vlr.{vlr_of}
use Rattle.vlr.specs.Places.{head-sizes, description_last}
use Rattle.vlr.proofs.head.Goals as goal

-- the two texts lie in the head
pub returns : goal.returns
unfolding vlr_of
returns c =
    let a = c.args in
    let e = a.extended in
    let s = a.s.now in
    let id : c.bytes_at.result ≡ take 16 (drop 2 s) = c.bytes_at.ensures ∙ window_is 16 2 s (omega (arith, head-sizes e)) in
    let text : c.bytes_at-2.result ≡ take 32 (drop (place e Description) s) =
    c.bytes_at-2.ensures ∙ ap (λ (at : ℕ). window 32 at s) c.description_place-at.ensures
    ∙ window_is 32 (place e Description) s (omega (arith, description_last e)) in
    λ i.
    record {
      reserved = c.u16_at.ensures i;
      user_id = id i;
      record_id = c.u16_at-2.ensures i;
      record_length_after_header = c.length_field-record_length_after_header.ensures i;
      description = text i;
    }
