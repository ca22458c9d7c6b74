-- Formats by code: LAS 1.4 R15, point data record formats 0 to 10; document 01, "`Format::new` takes 0 to 10 ..".
use Rattle.std.specs.Prelude.{Result, Ok, Err}
use Rattle.refusal.specs.declared.Refusal.{Refusal}
use Rattle.std.specs.Prelude.{ℕ, ◌%◌, Bool, true, false, cond, ◌&&◌, ◌||◌, List, [], ◌∷◌, ltb, leb, eqb}
use Rattle.std.specs.Bool.{beq}
use Rattle.refusal.specs.declared.Refusal.TheVariants.{Format as FormatRefusal, Attributes}
use Rattle.format.specs.declared.Format.{Format}

-- whether n is among the numbers of a list
unfoldable pub is_in : ℕ → List ℕ → Bool
is_in n [] = false
is_in n (x ∷ xs) = eqb x n || is_in n xs

-- the format with the attributes of the code n
unfoldable pub coded : ℕ → Bool → Format
coded n compressed =
    record {
      has_gps_time = is_in n (1 ∷ 3 ∷ 4 ∷ 5 ∷ 6 ∷ 7 ∷ 8 ∷ 9 ∷ 10 ∷ []);
      has_color = is_in n (2 ∷ 3 ∷ 5 ∷ 7 ∷ 8 ∷ 10 ∷ []);
      is_extended = leb 6 n;
      has_waveform = is_in n (4 ∷ 5 ∷ 9 ∷ 10 ∷ []);
      has_nir = is_in n (8 ∷ 10 ∷ []);
      extra_bytes = 0;
      is_compressed = compressed;
    }

-- "takes 0 to 10; a byte of 128 or more is masked with 0x3f and marked compressed, whatever remains"
unfoldable pub format_of : ℕ → Result Format Refusal
format_of n = cond (ltb n 11) (Ok (coded n false)) (cond (ltb n 128) (Err (FormatRefusal n)) (Ok (coded (n % 64) true)))

-- the first of some codes that has just these attributes: extended, time, colour, near infrared, waveform
unfoldable pub first_with : Bool → Bool → Bool → Bool → Bool → List ℕ → Result ℕ Refusal
first_with e t c i w [] = Err Attributes
first_with e t c i w (n ∷ ns) =
    let f = coded n false in
    cond (beq e f.is_extended && (beq t f.has_gps_time && (beq c f.has_color && (beq i f.has_nir && beq w f.has_waveform))))
    (Ok n)
    (first_with e t c i w ns)

-- the codes of the standard
abbrev pub codes : List ℕ
codes = 0 ∷ 1 ∷ 2 ∷ 3 ∷ 4 ∷ 5 ∷ 6 ∷ 7 ∷ 8 ∷ 9 ∷ 10 ∷ []

unfoldable pub code_by : Bool → Bool → Bool → Bool → Bool → Result ℕ Refusal
code_by e t c i w = first_with e t c i w codes

-- "`to_u8` refuses with 25 compressed formats and the attribute sets that no code has"
unfoldable pub code_of : Format → Result ℕ Refusal
code_of f =
    cond f.is_compressed (Err Attributes)
    (code_by f.is_extended f.has_gps_time f.has_color f.has_nir f.has_waveform)
