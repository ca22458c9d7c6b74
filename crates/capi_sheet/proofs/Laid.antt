-- Numbers stored one run after the other.
use Rattle.std.proofs.Common.{ℕ, ◌+◌, ◌≡◌, List, [], ◌++◌, length, drop, sym, arith, length-append, length-drop, append_assoc, append-nil}
use Rattle.std.proofs.lemmas.List.{take_at, drop_at}
use lib.ListN.{drop_of_length-le}
use borrow.Rule.Slice.PartMut.{put_mid}

-- behind h, of a numbers, are stored c, of k, and then r, of m, to the end
pub laid : (h c r rest : List ℕ) (a k b m : ℕ) → length h ≡ a → length c ≡ k → a + k ≡ b → length rest ≡ k + m → put_mid b m (put_mid a k (h ++ rest) c) r ≡ h ++ (c ++ r)
laid h c r rest a k b m first second end all =
    let tail = drop k rest in
    let inner : put_mid a k (h ++ rest) c ≡ (h ++ c) ++ tail = rw (take_at h rest a first, drop_at h rest a first) (sym (append_assoc h c tail)) in
    let size : length (h ++ c) ≡ b = omega (arith, length-append h c) in
    let none : drop m tail ≡ [] = drop_of_length-le tail (omega (arith, length-drop k rest)) in
    rw (inner, take_at (h ++ c) tail b size, drop_at (h ++ c) tail b size, none, append-nil) (append_assoc h c r)
