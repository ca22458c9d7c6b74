-- Flags are the same where each of their three bytes is, so sameness is an equivalence.
use Rattle.std.specs.Cmp.{IsEquivalence, nat_eq_equiv, and_equiv, on_equiv}
use Rattle.flags.specs.declared.Flags.{Flags}
use Rattle.flags.specs.declared.ThreeBytes.{ThreeBytes}
use Rattle.flags.specs.Bytes.{three_bytes_of, same_of}

pub same-equivalence : IsEquivalence same_of
unfolding same_of
same-equivalence =
    on_equiv three_bytes_of
    (and_equiv (on_equiv (λ (t : ThreeBytes). t.a) nat_eq_equiv)
    (and_equiv (on_equiv (λ (t : ThreeBytes). t.b) nat_eq_equiv) (on_equiv (λ (t : ThreeBytes). t.c) nat_eq_equiv)))
