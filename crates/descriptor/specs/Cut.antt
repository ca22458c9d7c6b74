-- A descriptor is read from its 192 bytes alone.
use Rattle.std.specs.Prelude.{ℕ, ◌+◌, ◌-◌, ◌≤◌, ◌<◌, ◌≡◌, Bool, List, take, drop}
use Rattle.std.proofs.Math.Path.{refl, ap}
use Rattle.std.proofs.Common.{◌∙◌, arith, take_all, take-take}
use Rattle.std.proofs.Math.Bool.{true, false}
use borrow.Author.Tests.{le-ltb, ltb-true, ltb-false}
use Rattle.std.proofs.Math.Dec.{ltb}
use Rattle.std.proofs.Math.ListN.{length}
use Rattle.std.proofs.Math.Seq.{length-take-le}
use Rattle.le.specs.Laws.{num-take, drop-take}
use Rattle.descriptor.specs.Layout.{Field, Reserved, DataType, Options, Name, Unused, NoData, Deprecated1, Min, Deprecated2, Max, Deprecated3, Scale, Deprecated4, Offset, Deprecated5, Description, width, place, descriptor_size}
use Rattle.descriptor.specs.Descriptor.{number_in, bytes_in, descriptor_of, described_of, read_of}

module _ (s : List ℕ) where
  number : (f : Field) → place f + width f ≤ descriptor_size → number_in f (take descriptor_size s) ≡ number_in f s
  number f h = num-take (width f) (place f) s descriptor_size h

  text : (f : Field) → place f + width f ≤ descriptor_size → bytes_in f (take descriptor_size s) ≡ bytes_in f s
  text f h = ap (take (width f)) (drop-take (place f) descriptor_size s) ∙ take-take (width f) (descriptor_size - place f) (drop (place f) s) (omega arith)

  contents : descriptor_of (take descriptor_size s) ≡ descriptor_of s
  unfolding descriptor_of
  contents =
      λ i. record {
        reserved = number Reserved (omega arith) i;
        data_type = number DataType (omega arith) i;
        options = number Options (omega arith) i;
        name = text Name (omega arith) i;
        unused = number Unused (omega arith) i;
        no_data = number NoData (omega arith) i;
        deprecated1 = text Deprecated1 (omega arith) i;
        min = number Min (omega arith) i;
        deprecated2 = text Deprecated2 (omega arith) i;
        max = number Max (omega arith) i;
        deprecated3 = text Deprecated3 (omega arith) i;
        scale = number Scale (omega arith) i;
        deprecated4 = text Deprecated4 (omega arith) i;
        offset = number Offset (omega arith) i;
        deprecated5 = text Deprecated5 (omega arith) i;
        description = text Description (omega arith) i;
      }

  judged : descriptor_size ≤ length s → described_of (take descriptor_size s) ≡ described_of s
  unfolding described_of
  judged h =
      let all : length (take descriptor_size s) ≡ descriptor_size = length-take-le descriptor_size s h in
      rw (all, le-ltb _ _ h, number DataType (omega arith))

  pub never_past : read_of (take descriptor_size s) ≡ read_of s
  unfolding read_of
  never_past = go (ltb (length s) descriptor_size) refl
    where
      go : (few : Bool) → ltb (length s) descriptor_size ≡ few → read_of (take descriptor_size s) ≡ read_of s
      go true p = let l : length s < descriptor_size = ltb-true _ _ p in ap read_of (take_all descriptor_size s (omega arith))
      go false p = rw (judged (ltb-false _ _ p), contents)
