-- The header of the new file can be written and read, and has the place that its fields say.
use Rattle.std.specs.Prelude.{Ok, ℕ, ◌+◌, ◌-◌, ◌≤◌, ◌≡◌, Bool, true, false, List, length}
use Rattle.std.proofs.Common.{sym, ap, subst, ◌∙◌, arith}
use Rattle.header.specs.declared.Header.{Header}
use Rattle.header.specs.Layout.{VersionMinor, fields_of, size}
use Rattle.header.specs.Header.{number}
use Rattle.header.specs.Judged.{padding_of}
use Rattle.header.specs.Minor.{minor_read}
use Rattle.header.specs.Answers.{padded_field}
use Rattle.header_write.specs.Readable.{Readable}
use Rattle.header_write.specs.Theorems.{readable}
use Rattle.outline.specs.Outline.{outline_of, header_size_is, offset_is}
use Rattle.file.specs.Holds.{standard_in, holds-judged}
use Rattle.header_convert.specs.Is.{version_is}
use Rattle.header_convert.specs.Goes.{goes-up, goes_down}
use Rattle.header_convert.specs.Readable.{new-readable, old-readable}
use Rattle.header_convert.specs.Told.{new_version, old_version}
use Rattle.migrate.specs.Migrate.{goes_of, other_of}
use Rattle.migrate.specs.Steps.{Goer, Fronted}
use Rattle.migrate.specs.Way.{By}
use Rattle.migrate.specs.Moved.{moved, parts}

module _ (up : Bool) (h : Header) (s : List ℕ) (g : Goer up h s) where
  abbrev new : Header
  new = other_of up h

  pub own_readable : Readable h (padding_of s)
  own_readable = subst (λ (x : Header). Readable x (padding_of s)) (sym g.ready.read) (readable s g.ready.bytes (holds-judged s g.ready.holds.header))

  pub other-readable : Readable new (padding_of s)
  other-readable = go up g.yes
    where
      go : (b : Bool) → goes_of b h ≡ Ok tt → Readable (other_of b h) (padding_of s)
      go true e = new-readable h (padding_of s) own_readable (goes-up h e)
      go false e = old-readable h (padding_of s) own_readable (goes_down h e)

  -- the version of a file that goes, and the size of its header
  minor_is : number VersionMinor s ≡ h.version.minor
  minor_is = sym (ap (λ (x : Header). x.version.minor) g.ready.read ∙ minor_read s (holds-judged s g.ready.holds.header))

  pub standards : By up 148 (standard_in s) (size (fields_of new.version.minor))
  standards = go up g.yes
    where
      go : (b : Bool) → goes_of b h ≡ Ok tt → By b 148 (standard_in s) (size (fields_of (other_of b h).version.minor))
      go true e = rw (minor_is ∙ version_is 2 1 3 h (goes-up h e).is, (new_version h).1)
      go false e = rw (minor_is ∙ version_is 4 6 7 h (goes_down h e).is, (old_version h).1)

  pub standard-least : size (fields_of new.version.minor) ≤ new.header_size
  standard-least = go up standards (moved up h s g).size
    where
      go : (b : Bool) → By b 148 (standard_in s) (size (fields_of new.version.minor)) → By b 148 (outline_of h).header_size (outline_of new).header_size → size (fields_of new.version.minor) ≤ new.header_size
      go true p q = omega (arith, p, q, (parts up h s g).header-size, header_size_is new)
      go false p q = omega (arith, p, q, (parts up h s g).header-size, header_size_is new)

  pub fronted : (d : List ℕ) → new.offset_to_point_data ≤ length d → Fronted new (outline_of h) s d
  fronted d room =
      record {
        readable = other-readable;
        padded = sym (padded_field (size (fields_of new.version.minor)) new.header_size standard-least) ∙ other-readable.end;
        after = (parts up h s g).offset_after_header;
        within = (parts up h s g).offset_within;
        moved = go up (moved up h s g).size (moved up h s g).offset;
        room = room;
      }
    where
      go : (b : Bool) → By b 148 (outline_of h).header_size (outline_of new).header_size → By b 148 (outline_of h).offset_to_point_data (outline_of new).offset_to_point_data → new.offset_to_point_data ≡ new.header_size + ((outline_of h).offset_to_point_data - (outline_of h).header_size)
      go true p q = omega (arith, p, q, header_size_is new, offset_is new, (parts up h s g).offset_after_header)
      go false p q = omega (arith, p, q, header_size_is new, offset_is new, (parts up h s g).offset_after_header)
