-- The findings of a file, in file order: document 02, No. 12, "list in file order: nonzero legacy counts in formats 6 to 10 [1]; legacy count not
-- zero and unlike the large one [2]; counts by return unlike the records [3]; a return number of zero or above the number of returns [4]; text
-- fields with bytes after their first zero that aren't zero [5]", "findings at the same place follow the order of this list".
use Rattle.std.specs.Prelude.{ℕ, suc, ◌+◌, ◌*◌, Bool, List, [], ◌∷◌, ◌++◌, leb, take, drop}
use Rattle.cursor.specs.declared.Kind.{Kind}
use Rattle.cursor.specs.declared.Kind.TheVariants.{Header, Vlr, Gap, Points, Evlr, Waveform}
use Rattle.cursor.specs.declared.Part.{Part}
use Rattle.cursor.specs.Parts.{outline_in, parts_of}
use Rattle.returns.specs.declared.Survey.{Survey}
use Rattle.returns.specs.Returns.{odd_in, survey_at}
use Rattle.finding.specs.declared.Finding.{Finding}
use Rattle.finding.specs.Rules.{finding, when, through, text_at, counters}

module _ (s : List ℕ) where
  -- Rule 5: a part's two text fields, the second of 32 bytes, at places of the part that starts here.
  unfoldable pub texts_at : ℕ → ℕ → ℕ → ℕ → ℕ → List Finding
  texts_at part start first width second = text_at s part (start + first) width ++ text_at s part (start + second) 32

  -- Rule 4: the points, records of m bytes from this byte on.
  unfoldable pub point_at : Bool → ℕ → ℕ → ℕ → ℕ → List Finding
  point_at extended first m part i =
      let at = first + i * m in
      when (odd_in extended (take m (drop at s))) (finding 4 part (i + 1) at)

  module _ (v : Survey) where
    unfoldable pub odd_points : ℕ → List Finding
    odd_points part = through (point_at v.extended v.at v.each part) 0 v.count

    -- those of a part of a kind, which is an entry of the part table
    abbrev pub found_as : Kind → ℕ → ℕ → List Finding
    found_as Header part start = texts_at part start 26 32 58 ++ counters s v.extended v.returns.numbers part
    found_as Vlr part start = texts_at part start 2 16 22
    found_as Gap part start = []
    found_as Points part start = odd_points part
    found_as Evlr part start = texts_at part start 2 16 28
    found_as Waveform part start = texts_at part start 2 16 28

    unfoldable pub found_in : ℕ → Part → List Finding
    found_in part p = found_as p.kind part p.start

    -- and of all parts, gaps counted
    unfoldable pub found_from : ℕ → List Part → List Finding
    found_from part [] = []
    found_from part (p ∷ ps) = found_in part p ++ found_from (suc part) ps

-- the points of a file, of format 6 to 10 or of 0 to 5, and their return numbers
abbrev pub survey_in : List ℕ → Survey
survey_in s =
    let o = outline_in s in
    survey_at (leb 6 o.point_data_record_format) o.offset_to_point_data o.point_data_record_length o.number_of_point_records s

-- All findings of the file s.
unfoldable pub found_of : List ℕ → List Finding
found_of s = found_from s (survey_in s) 1 (parts_of (outline_in s) s)
