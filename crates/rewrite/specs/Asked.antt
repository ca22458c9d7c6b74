-- What the private steps ask of the bytes that they are given: each is a whole part of its kind.
use Rattle.std.specs.Prelude.{Ok}
use Rattle.header.specs.Whole.{whole_of}
use Rattle.std.specs.Prelude.{ℕ, ◌*◌, ◌≡◌, Bool, true, false, List, length}
use Rattle.format.specs.declared.Format.{Format}
use Rattle.format.specs.Fields.{len_of}
use Rattle.vlr.specs.Vlr.{extent_of}
use Rattle.header.specs.Judged.{judged}
use Rattle.outline.specs.declared.Outline.{Outline}
use Rattle.file.specs.Points.{point_format}
use Rattle.cursor.specs.declared.Part.{Part}
use Rattle.cursor.specs.declared.Kind.{Kind}
use Rattle.cursor.specs.declared.Kind.TheVariants.{Header, Vlr, Gap, Points, Evlr, Waveform}
use Rattle.cursor.specs.Parts.{Covers, Each, bytes_of}

-- a header with its padding; a record with its data, a VLR or one with a long head
abbrev pub HeaderPart : List ℕ → Type 0
HeaderPart s = (n : ℕ) × (judged s ≡ Ok (whole_of n (length s)))

abbrev pub VlrPart : Bool → List ℕ → Type 0
VlrPart extended s = extent_of extended s ≡ Ok (length s)

-- a point record, and k of them of m bytes
abbrev pub PointPart : Format → List ℕ → Type 0
PointPart f s = len_of f ≡ Ok (length s)

abbrev pub PointsPart : Format → ℕ → ℕ → List ℕ → Type 0
PointsPart f m k s = (len_of f ≡ Ok m) × (length s ≡ k * m)

-- a part of its kind; points are in the format of the file's
unfoldable pub PartIs : Outline → Kind → List ℕ → Type 0
PartIs o Header s = HeaderPart s
PartIs o Vlr s = VlrPart false s
PartIs o Gap s = Unit
PartIs o Points s = PointsPart (point_format o) o.point_data_record_length o.number_of_point_records s
PartIs o Evlr s = VlrPart true s
PartIs o Waveform s = VlrPart true s

-- a part that is one of its kind
abbrev pub IsWhole : Outline → List ℕ → Part → Type 0
IsWhole o s p = PartIs o p.kind (bytes_of s p)

-- parts that cover the file from a place on, each whole
abbrev pub Tiles : Outline → List ℕ → ℕ → List Part → Type 0
Tiles o s at ps = Covers at (length s) ps × Each (IsWhole o s) ps
