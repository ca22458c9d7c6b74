-- Changes that the parts do not see, of the points' bytes; and that all parts but the points lie beside them.
use Rattle.std.specs.Prelude.{ℕ, zero, suc, ◌+◌, ◌*◌, ◌-◌, ◌≤◌, ◌≡◌, Bool, cond, ◌⊎◌, List, [], ◌∷◌, ◌++◌, ltb, length, take, drop}
use Rattle.std.proofs.Math.Path.{refl, ap}
use Rattle.std.proofs.Common.{sym, ◌∙◌, inr, arith}
use Rattle.std.proofs.Math.Bool.{true, false}
use Rattle.std.proofs.Math.Logic.{inl}
use Rattle.store.specs.Elsewhere.{Elsewhere, same_behind}
use Rattle.vlr.specs.Vlr.{record_size}
use Rattle.header.specs.Window.{drop-take}
use Rattle.outline.specs.declared.Outline.{Outline}
use Rattle.extents.specs.Extents.{points_end}
use Rattle.cursor.specs.declared.Kind.{Kind}
use Rattle.cursor.specs.declared.Kind.TheVariants.{Header, Vlr, Gap, Points, Evlr, Waveform}
use Rattle.cursor.specs.declared.Part.{Part}
use Rattle.cursor.specs.Parts.{part, gap, between, record_parts, later_kind, later_start, body_of, parts_of, Laid, Covers, Each}
use Rattle.cursor.specs.Covers.{covers_up, covers_gap, covers_records}
use Rattle.cursor.specs.Each.{each_both}

-- the bytes up to a place are told by those before it
between-front : (from to : ℕ) (s t : List ℕ) → take to t ≡ take to s → between from to t ≡ between from to s
between-front from to s t same = sym (drop-take from to t) ∙ ap (drop from) same ∙ drop-take from to s

-- records in the same bytes are the same parts
records_same : (kind : Kind) (x : Bool) (s t : List ℕ) (to n at : ℕ) → ((from : ℕ) → at ≤ from → between from to t ≡ between from to s) → record_parts kind x n at to t ≡ record_parts kind x n at to s
unfolding record_parts
records_same kind x s t to zero at same = refl
records_same kind x s t to (suc n) at same =
    let m = record_size x (between at to s) in
    let size : record_size x (between at to t) ≡ m = ap (record_size x) (same at (omega arith)) in
    ap (λ (k : ℕ). part kind at k ∷ record_parts kind x n (at + k) to t) size
    ∙ ap (λ (ps : List Part). part kind at m ∷ ps) (records_same kind x s t to n (at + m) (λ from h. same from (omega arith)))

-- the parts of a file are the same where it differs in its points alone
module _ (o : Outline) (s t : List ℕ) (laid : Laid o s) (e : Elsewhere o.offset_to_point_data (o.number_of_point_records * o.point_data_record_length) s t) where
  pub points-parts : parts_of o t ≡ parts_of o s
  unfolding parts_of body_of
  points-parts =
      let points = o.offset_to_point_data in
      let vlrs = records_same Vlr false s t points o.number_of_variable_length_records o.header_size (λ from h. between-front from points s t e.front) in
      let behind : (from : ℕ) → later_start o ≤ from → between from (length s) t ≡ between from (length s) s = λ from h. ap (take (length s - from)) (same_behind e from (omega (arith, laid.after-points))) in
      let later = records_same (later_kind o.waveform) true s t (length s) o.number_of_later_records (later_start o) behind in
      rw e.long (λ i. part Header 0 o.header_size ∷ (vlrs i ++ (part Points points (points_end o - points) ∷ (gap (points_end o) (later_start o) ++ later i))))

-- whether a part is the points
abbrev pub is_points : Kind → Bool
is_points Header = false
is_points Vlr = false
is_points Gap = false
is_points Points = true
is_points Evlr = false
is_points Waveform = false

-- a part that is the points, or another that ends before them or begins behind them
abbrev pub Beside : Outline → Part → Type 0
Beside o p =
    (p ≡ part Points o.offset_to_point_data (points_end o - o.offset_to_point_data))
    ⊎ ((is_points p.kind ≡ false) × ((p.start + p.length ≤ o.offset_to_point_data) ⊎ (points_end o ≤ p.start)))

-- parts that cover some bytes lie in them
covered_in : (from to : ℕ) (ps : List Part) → Covers from to ps → Each (λ p. (from ≤ p.start) × (p.start + p.length ≤ to)) ps
covered_in from to [] e = tt
covered_in from to (p ∷ ps) (e, c) =
    let up = covers_up (from + p.length) to ps c in
    ((omega arith, omega arith), further ps (covered_in (from + p.length) to ps c))
  where
    further : (qs : List Part) → Each (λ q. (from + p.length ≤ q.start) × (q.start + q.length ≤ to)) qs → Each (λ q. (from ≤ q.start) × (q.start + q.length ≤ to)) qs
    further [] a = tt
    further (q ∷ qs) (h, a) = ((omega (arith, h.0), h.1), further qs a)

-- gaps and records are no points
abbrev Other : Part → Type 0
Other p = is_points p.kind ≡ false

gap_other : (from to : ℕ) → Each Other (gap from to)
unfolding gap
gap_other from to = go (ltb from to)
  where
    go : (b : Bool) → Each Other (cond b (part Gap from (to - from) ∷ []) [])
    go true = (refl, tt)
    go false = tt

records_other : (kind : Kind) → is_points kind ≡ false → (x : Bool) (s : List ℕ) (n at to : ℕ) → Each Other (record_parts kind x n at to s)
unfolding record_parts
records_other kind other x s zero at to = gap_other at to
records_other kind other x s (suc n) at to = (other, records_other kind other x s n (at + record_size x (between at to s)) to)

later_other : (waveform : Bool) → is_points (later_kind waveform) ≡ false
unfolding later_kind
later_other true = refl
later_other false = refl

-- what is so of each part by two things that are so of it
each_by : (P Q R : Part → Type 0) (ps : List Part) → ((p : Part) → P p → Q p → R p) → Each P ps → Each Q ps → Each R ps
each_by P Q R [] f a b = tt
each_by P Q R (p ∷ ps) f (h, a) (k, b) = (f p h k, each_by P Q R ps f a b)

-- each part of a file is the points, or lies beside them
module _ (o : Outline) (s : List ℕ) (laid : Laid o s) where
  abbrev points : ℕ
  points = o.offset_to_point_data

  before : (ps : List Part) → Covers o.header_size points ps → Each Other ps → Each (Beside o) ps
  before ps c others = each_by _ _ (Beside o) ps (λ p other h. inr (other, inl h.1)) others (covered_in o.header_size points ps c)

  behind : (from to : ℕ) → points_end o ≤ from → (ps : List Part) → Covers from to ps → Each Other ps → Each (Beside o) ps
  behind from to past ps c others = each_by _ _ (Beside o) ps (λ p other h. inr (other, inr (omega (arith, h.0)))) others (covered_in from to ps c)

  pub beside : Each (Beside o) (parts_of o s)
  unfolding parts_of body_of
  beside =
      let n = o.number_of_variable_length_records in
      let k = o.number_of_later_records in
      let kind = later_kind o.waveform in
      let start = later_start o in
      let vlrs = record_parts Vlr false n o.header_size points s in
      let middle = gap (points_end o) start in
      let later = record_parts kind true k start (length s) s in
      let first : Each (Beside o) vlrs =
      before vlrs (covers_records s Vlr false n o.header_size points laid.after_header laid.vlrs) (records_other Vlr refl false s n o.header_size points) in
      let second : Each (Beside o) middle = behind (points_end o) start (omega arith) middle (covers_gap (points_end o) start laid.after-points) (gap_other (points_end o) start) in
      let third : Each (Beside o) later =
      behind start (length s) laid.after-points later (covers_records s kind true k start (length s) laid.within laid.later)
      (records_other kind (later_other o.waveform) true s k start (length s)) in
      let rest : Each (Beside o) (part Points points (points_end o - points) ∷ (middle ++ later)) = (inl refl, each_both (Beside o) middle later second third) in
      (inr (refl, inl (omega (arith, laid.after_header))), each_both (Beside o) vlrs (part Points points (points_end o - points) ∷ (middle ++ later)) first rest)
