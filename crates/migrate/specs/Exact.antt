-- Why a file is refused: document 02's refusals in their order, and that there are no others.
use Rattle.std.specs.Prelude.{Result, Ok, Err, ℕ, ◌+◌, ◌^◌, ◌<◌, ◌≡◌, Bool, true, false, cond, ◌⊎◌, List, ltb, leb, length}
use Rattle.rules.specs.NotAccepted.{not_accepted}
use Rattle.refusal.specs.Refused.{at_record, refused_same}
use Rattle.judge.specs.Run.{run_of}
use Rattle.judge.specs.declared.Run.{Run}
use Rattle.refusal.specs.declared.Refused.{Refused}
use Rattle.rules.specs.declared.NotAccepted.{NotAccepted}
use Rattle.std.proofs.Math.Path.{refl, ap}
use Rattle.std.proofs.Common.{sym, subst, ◌∙◌, arith, lt-ltb, le-leb, ltb-false, leb-false}
use Rattle.le.specs.Le as le
use Rattle.refusal.specs.declared.Refusal.{Refusal}
use Rattle.refusal.specs.declared.Refusal.TheVariants.{HeaderSize, RecordLength, PointOffset, NoRoom, OtherVersionOrFormat, EvlrsOrWaveforms, CountsTooLargeForOld}
use Rattle.format.specs.Length.{len-told, len-refused}
use Rattle.header.specs.declared.Header.{Header}
use Rattle.header.specs.Judged.{header_in}
use Rattle.outline.specs.declared.Outline.{Outline}
use Rattle.outline.specs.Outline.{outline_of, code_is, record_length_is}
use Rattle.rules.specs.Laws.{format_bytes_lem}
use Rattle.file.specs.Rules.{checked_of}
use Rattle.file.specs.Holds.{Holds}
use Rattle.file.specs.Points.{length-fits}
use Rattle.file.specs.Theorems.{accepted-holds}
use Rattle.pairs.specs.declared.Plan.{Plan}
use Rattle.pairs.specs.Pairs.{format_with}
use Rattle.header_convert.specs.Turned.{is_of, beside, counts_fit, new_code, new_goes, old_goes}
use Rattle.header_convert.specs.Is as is-of
use Rattle.header_convert.specs.Goes.{goes-up, goes_down}
use Rattle.migrate.specs.Migrate.{goes_of, point_bytes, extra_in, run_verdict, new_length, placed, goes_verdict, header_verdict, checked_verdict, file_verdict, migrated_of}
use Rattle.migrate.specs.Way.{two_bytes, asked}
use Rattle.migrate.specs.Moved.{up_way, holds-length}
use Rattle.migrate.specs.Answer.{going, same_refusal, without-room}
use Rattle.migrate.specs.Told.{by_accepted, by_check_lem}

-- "an accepted 1.2 file of format 1 or 3", or "such a 1.4 file"
abbrev pub is_for : Bool → Header → Bool
is_for true h = is_of 2 1 3 h
is_for false h = is_of 4 6 7 h

-- "going down, ..": counts that have a place in an old header
abbrev pub counts_for : Bool → Header → Bool
counts_for true h = true
counts_for false h = counts_fit h

-- "header size, then point offset not fitting its field"
abbrev pub size_for : Bool → Header → Bool
size_for true h = ltb (h.header_size + 148) (2 ^ 16)
size_for false h = leb 148 h.header_size

abbrev pub offset_for : Bool → Header → Bool
offset_for true h = ltb (h.offset_to_point_data + 148) (2 ^ 32)
offset_for false h = leb 148 h.offset_to_point_data

module _ (up : Bool) (allowance : ℕ) (s d : List ℕ) where
  abbrev h : Header
  h = header_in s

  -- what was passed, one after the other
  abbrev Accepted : Type 0
  Accepted = (n : ℕ) × (checked_of allowance s ≡ Ok n)

  abbrev OfKind : Type 0
  OfKind = Accepted × (is_for up h ≡ true)

  abbrev Alone : Type 0
  Alone = OfKind × (beside h ≡ false)

  abbrev Counted : Type 0
  Counted = Alone × (counts_for up h ≡ true)

  abbrev Sized : Type 0
  Sized = Counted × (size_for up h ≡ true)

  abbrev Placed : Type 0
  Placed = Sized × (offset_for up h ≡ true)

  -- "Refusals after the file check: other version or format; EVLRs or a waveform start present; going down, ..; header size, then point
  -- offset not fitting its field; then the conversion's; no room last."
  pub data RefusedFor : Refusal → ℕ → Type 0 where
    file_check : {why : Refusal} {j n : ℕ} → checked_of allowance s ≡ Err (not_accepted why j n) → RefusedFor why j
    other-kind : Accepted → is_for up h ≡ false → RefusedFor OtherVersionOrFormat 0
    not_alone : OfKind → beside h ≡ true → RefusedFor EvlrsOrWaveforms 0
    counts : Alone → counts_for up h ≡ false → RefusedFor CountsTooLargeForOld 0
    header-size : Counted → size_for up h ≡ false → RefusedFor (HeaderSize h.header_size) 0
    point_offset : Sized → offset_for up h ≡ false → RefusedFor (PointOffset h.offset_to_point_data) 0
    conversion : {why : Refusal} {j : ℕ} → Placed → run_verdict up (outline_of h) s ≡ Err (at_record why j) → RefusedFor why j
    no_room : {p : Plan} {m : ℕ} → Placed → run_verdict up (outline_of h) s ≡ Ok (run_of p m) → length d < new_length up h s → RefusedFor (NoRoom (new_length up h s)) 0

-- the record length, which the header tests and the conversion would refuse as well
abbrev pub each_for : Bool → Header → Bool
each_for true h = ltb (h.point_data_record_length + 2) (2 ^ 16)
each_for false h = leb 2 h.point_data_record_length

abbrev pub each_to : Bool → Header → ℕ
each_to true h = h.point_data_record_length + 2
each_to false h = h.point_data_record_length

-- the header's tests, either way
abbrev pub last_of : Bool → Header → Bool → Result Unit Refusal
last_of up h b = cond b (Ok tt) (Err (RecordLength (each_to up h)))

abbrev pub offset_of : Bool → Header → Bool → Result Unit Refusal
offset_of up h b = cond b (last_of up h (each_for up h)) (Err (PointOffset h.offset_to_point_data))

abbrev pub size_of : Bool → Header → Bool → Result Unit Refusal
size_of up h b = cond b (offset_of up h (offset_for up h)) (Err (HeaderSize h.header_size))

abbrev pub counts_of : Bool → Header → Bool → Result Unit Refusal
counts_of up h b = cond b (size_of up h (size_for up h)) (Err CountsTooLargeForOld)

abbrev pub alone_of : Bool → Header → Bool → Result Unit Refusal
alone_of up h b = cond b (Err EvlrsOrWaveforms) (counts_of up h (counts_for up h))

abbrev pub kind_of : Bool → Header → Bool → Result Unit Refusal
kind_of up h b = cond b (alone_of up h (beside h)) (Err OtherVersionOrFormat)

pub goes_tests : (up : Bool) (h : Header) → goes_of up h ≡ kind_of up h (is_for up h)
unfolding new_goes old_goes
goes_tests true h = refl
goes_tests false h = refl

module _ (up : Bool) (allowance : ℕ) (s d : List ℕ) (bytes : le.Bytes s) where
  abbrev o : Outline
  o = outline_of (header_in s)

  abbrev head : Header
  head = header_in s

  -- where the record length does not fit, the conversion refuses it
  overlong : Accepted up allowance s d → is_for up head ≡ true → each_for up head ≡ false → run_verdict up o s ≡ Err (at_record (RecordLength (each_to up head)) 0)
  unfolding run_verdict
  overlong (k, a) = go up
    where
      held : Holds allowance s
      held = accepted-holds allowance s a

      go : (b : Bool) → is_for b head ≡ true → each_for b head ≡ false → run_verdict b o s ≡ Err (at_record (RecordLength (each_to b head)) 0)
      go true is over =
          let way = up_way o.point_data_record_format (subst (λ (f : ℕ). (f ≡ 1) ⊎ (f ≡ 3)) (sym (code_is head)) (is-of.format_is 2 1 3 head is)) in
          let long = holds-length allowance s held in
          let two = two_bytes (extra_in o) way in
          let past = ltb-false (head.point_data_record_length + 2) (2 ^ 16) over in
          asked way (extra_in o) o.number_of_point_records (point_bytes o s)
          ∙ rw (len-told (format_with o.point_data_record_format (extra_in o)) (omega (arith, long, length-fits s bytes)), len-refused (format_with (new_code o.point_data_record_format) (extra_in o)) (omega (arith, long, two, past, record_length_is head)))
          (ap (λ (n : ℕ). Err (at_record (RecordLength n) 0)) (two ∙ ap (λ (n : ℕ). n + 2) (long ∙ record_length_is head)))
      go false is over =
          absurd (omega (arith, leb-false 2 head.point_data_record_length over, held.parts.record_length_lem, format_bytes_lem o.point_data_record_format, record_length_is head))

  -- the same refusal
  moved_to : {r why : Refusal} {k j : ℕ} → ◌≡◌ {A = Result Run Refused} (Err (at_record r k)) (Err (at_record why j)) → RefusedFor up allowance s d r k → RefusedFor up allowance s d why j
  moved_to {r} {why} {k} {j} e f =
      let same = refused_same e in
      subst (λ (x : Refusal). RefusedFor up allowance s d x j) same.0 (subst (λ (x : ℕ). RefusedFor up allowance s d r x) same.1 f)

  -- a verdict that refuses does so for one of the reasons
  pub refused_then : {why : Refusal} {j : ℕ} → file_verdict up allowance s ≡ Err (at_record why j) → RefusedFor up allowance s d why j
  unfolding file_verdict header_verdict
  refused_then {why} {j} e = check (checked_of allowance s) refl e
    where
      v : Result Run Refused
      v = placed (new_length up head s) (run_verdict up o s)

      points : Placed up allowance s d → (x : Result Run Refused) → run_verdict up o s ≡ x → placed (new_length up head s) x ≡ Err (at_record why j) → RefusedFor up allowance s d why j
      points at (Err err) a w = moved_to w (conversion at a)
      points at (Ok run) a w = let z : ◌≡◌ {A = ℕ} 0 1 = cc in absurd (omega arith)

      last : Placed up allowance s d → (b : Bool) → each_for up head ≡ b → goes_verdict (last_of up head b) v ≡ Err (at_record why j) → RefusedFor up allowance s d why j
      last at true a w = points at (run_verdict up o s) refl w
      last at false a w = moved_to w (conversion at (overlong at.0.0.0.0.0 at.0.0.0.0.1 a))

      offset : Sized up allowance s d → (b : Bool) → offset_for up head ≡ b → goes_verdict (offset_of up head b) v ≡ Err (at_record why j) → RefusedFor up allowance s d why j
      offset at true a w = last (at, a) (each_for up head) refl w
      offset at false a w = moved_to w (point_offset at a)

      size : Counted up allowance s d → (b : Bool) → size_for up head ≡ b → goes_verdict (size_of up head b) v ≡ Err (at_record why j) → RefusedFor up allowance s d why j
      size at true a w = offset (at, a) (offset_for up head) refl w
      size at false a w = moved_to w (header-size at a)

      fit : Alone up allowance s d → (b : Bool) → counts_for up head ≡ b → goes_verdict (counts_of up head b) v ≡ Err (at_record why j) → RefusedFor up allowance s d why j
      fit at true a w = size (at, a) (size_for up head) refl w
      fit at false a w = moved_to w (counts at a)

      alone : OfKind up allowance s d → (b : Bool) → beside head ≡ b → goes_verdict (alone_of up head b) v ≡ Err (at_record why j) → RefusedFor up allowance s d why j
      alone at true a w = moved_to w (not_alone at a)
      alone at false a w = fit (at, a) (counts_for up head) refl w

      kind : Accepted up allowance s d → (b : Bool) → is_for up head ≡ b → goes_verdict (kind_of up head b) v ≡ Err (at_record why j) → RefusedFor up allowance s d why j
      kind at true a w = alone (at, a) (beside head) refl w
      kind at false a w = moved_to w (other-kind at a)

      check : (c : Result ℕ NotAccepted) → checked_of allowance s ≡ c → checked_verdict c (goes_verdict (goes_of up head) v) ≡ Err (at_record why j) → RefusedFor up allowance s d why j
      check (Err err) a w = moved_to w (file_check a)
      check (Ok n) a w = kind (n, a) (is_for up head) refl (ap (λ (g : Result Unit Refusal). goes_verdict g v) (sym (goes_tests up head)) ∙ w)

  -- what an accepted file is told, by its header's tests
  by_tests : Accepted up allowance s d → (g : Result Unit Refusal) → kind_of up head (is_for up head) ≡ g → file_verdict up allowance s ≡ goes_verdict g (placed (new_length up head s) (run_verdict up o s))
  unfolding header_verdict
  by_tests a g e = by_accepted up allowance s a.1 ∙ ap (λ (x : Result Unit Refusal). goes_verdict x (placed (new_length up head s) (run_verdict up o s))) (goes_tests up head ∙ e)

  passed : Placed up allowance s d → each_for up head ≡ true → file_verdict up allowance s ≡ placed (new_length up head s) (run_verdict up o s)
  passed (((((a, is), alone), fit), size), offset) each = by_tests a (Ok tt) (rw (is, alone, fit, size, offset, each))

  overlong-told : Placed up allowance s d → each_for up head ≡ false → file_verdict up allowance s ≡ Err (at_record (RecordLength (each_to up head)) 0)
  overlong-told (((((a, is), alone), fit), size), offset) each = by_tests a (Err (RecordLength (each_to up head))) (rw (is, alone, fit, size, offset, each))

  -- and each of the reasons refuses
  pub then_refused : {why : Refusal} {j : ℕ} → RefusedFor up allowance s d why j → migrated_of up allowance s d ≡ (Err (at_record why j), d)
  then_refused (file_check e) = same_refusal up allowance s d (by_check_lem up allowance s e)
  then_refused (other-kind a is) = same_refusal up allowance s d (by_tests a (Err OtherVersionOrFormat) (rw is))
  then_refused (not_alone (a, is) alone) = same_refusal up allowance s d (by_tests a (Err EvlrsOrWaveforms) (rw (is, alone)))
  then_refused (counts ((a, is), alone) fit) = same_refusal up allowance s d (by_tests a (Err CountsTooLargeForOld) (rw (is, alone, fit)))
  then_refused (header-size (((a, is), alone), fit) size) =
      same_refusal up allowance s d (by_tests a (Err (HeaderSize head.header_size)) (rw (is, alone, fit, size)))
  then_refused (point_offset ((((a, is), alone), fit), size) offset) =
      same_refusal up allowance s d (by_tests a (Err (PointOffset head.offset_to_point_data)) (rw (is, alone, fit, size, offset)))
  then_refused (conversion {why} {j} at e) = go (each_for up head) refl
    where
      go : (b : Bool) → each_for up head ≡ b → migrated_of up allowance s d ≡ (Err (at_record why j), d)
      go true each = same_refusal up allowance s d (passed at each ∙ ap (placed (new_length up head s)) e)
      go false each = same_refusal up allowance s d (overlong-told at each ∙ sym (overlong at.0.0.0.0.0 at.0.0.0.0.1 each) ∙ e)
  then_refused (no_room {p} {m} at e short) = go (each_for up head) refl
    where
      go : (b : Bool) → each_for up head ≡ b → migrated_of up allowance s d ≡ (Err (at_record (NoRoom (new_length up head s)) 0), d)
      go true each = without-room up allowance s d (passed at each ∙ ap (placed (new_length up head s)) e) short
      go false each = let clash = sym (overlong at.0.0.0.0.0 at.0.0.0.0.1 each) ∙ e in let z : ◌≡◌ {A = ℕ} 0 1 = cc in absurd (omega arith)

  -- a header that goes has passed them
  all_passed : Accepted up allowance s d → goes_of up head ≡ Ok tt → Placed up allowance s d
  all_passed a yes' = go up yes'
    where
      Passed : Bool → Type 0
      Passed b = (((((Accepted up allowance s d × (is_for b head ≡ true)) × (beside head ≡ false)) × (counts_for b head ≡ true)) × (size_for b head ≡ true)) × (offset_for b head ≡ true))

      go : (b : Bool) → goes_of b head ≡ Ok tt → Passed b
      go true e = let u = goes-up head e in (((((a, u.is), u.alone), refl), lt-ltb _ _ u.fits.size), lt-ltb _ _ u.fits.offset)
      go false e = let u = goes_down head e in (((((a, u.is), u.alone), u.counts), le-leb _ _ u.fits.size), le-leb _ _ u.fits.offset)

  pub roomless_then : {p : Plan} {n : ℕ} → file_verdict up allowance s ≡ Ok (run_of p n) → length d < n → RefusedFor up allowance s d (NoRoom n) 0
  roomless_then {p} {n} e short =
      let g = going up allowance s e in
      subst (λ (k : ℕ). RefusedFor up allowance s d (NoRoom k) 0) (sym g.long) (no_room (all_passed (g.found, g.accepted) g.yes) g.points (omega (arith, g.long, short)))
