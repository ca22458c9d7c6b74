-- The new file is accepted, with as many records.
use Rattle.std.specs.Prelude.{Option, Some, None, Ok, ℕ, ◌≤◌, Bool, ◌||◌, List}
use Rattle.std.specs.Option.{is_some}
use Rattle.judge.specs.Run.{run_of}
use Rattle.header.specs.declared.Evlr.{Evlr}
use Rattle.std.proofs.Math.Path.{◌≡◌, refl}
use Rattle.std.proofs.Common.{sym, ap, ◌∙◌, arith}
use Rattle.std.proofs.Math.Bool.{true, false}
use Rattle.header.specs.declared.Header.{Header}
use Rattle.header.specs.Layout.{fields_of, size}
use Rattle.outline.specs.declared.Outline.{Outline}
use Rattle.outline.specs.Outline.{outline_of, header_size_is, no_evlrs}
use Rattle.rules.specs.Rules.{highest_format}
use Rattle.rules.specs.Laws.{highest_formats}
use Rattle.extents.specs.Extents.{records_of, records_are}
use Rattle.file.specs.Rules.{checked_of}
use Rattle.file.specs.Holds.{PartsHold, Holds, judged-holds}
use Rattle.file.specs.Theorems.{accepted}
use Rattle.pairs.specs.declared.Plan.{Plan}
use Rattle.header_convert.specs.Turned.{beside}
use Rattle.header_convert.specs.Is.{version_is}
use Rattle.header_convert.specs.Goes.{goes-up, goes_down}
use Rattle.header_convert.specs.Told.{new_version, old_version}
use Rattle.migrate.specs.Migrate.{goes_of, other_of, extra_in, run_verdict, new_file, new_length}
use Rattle.migrate.specs.Steps.{Goer}
use Rattle.migrate.specs.Way.{Way, up_1, up_3, down_6, down_7, By, bytes-least}
use Rattle.migrate.specs.Moved.{moved, parts, target-length}
use Rattle.migrate.specs.Front.{standard-least}
use Rattle.migrate.specs.New.{new_long, judged-new, header_new, minor_new, vlrs_new}

-- the formats that a file comes to are those of its version
abbrev Of : Bool → ℕ → Type 0
Of true minor = minor ≡ 4
Of false minor = minor ≡ 2

highest : {up : Bool} {a b : ℕ} → Way up a b → (minor : ℕ) → Of up minor → (b ≤ 10) × (b ≤ highest_format minor)
highest up_1 minor e = (omega arith, rw e (omega (arith, highest_formats.1)))
highest up_3 minor e = (omega arith, rw e (omega (arith, highest_formats.1)))
highest down_6 minor e = (omega arith, rw e (omega (arith, highest_formats.0)))
highest down_7 minor e = (omega arith, rw e (omega (arith, highest_formats.0)))

module _ (up : Bool) (h : Header) (s : List ℕ) (g : Goer up h s) where
  minor_of : Of up (other_of up h).version.minor
  minor_of = go up
    where
      go : (b : Bool) → Of b (other_of b h).version.minor
      go true = (new_version h).1
      go false = (old_version h).1

  -- nothing lies beside the points, so that the records are the VLRs
  alone : beside h ≡ false
  alone = go up g.yes
    where
      go : (b : Bool) → goes_of b h ≡ Ok tt → beside h ≡ false
      go true e = (goes-up h e).alone
      go false e = (goes_down h e).alone

  pub no_pair : h.evlr ≡ None
  unfolding beside
  no_pair = go h.start_of_waveform_data_packet_record h.evlr alone
    where
      go : (x : Option ℕ) (y : Option Evlr) → is_some x || is_some y ≡ false → y ≡ None
      go (Some k) y e = let z : ◌≡◌ {A = ℕ} 0 1 = cc in absurd (omega arith)
      go None (Some k) e = let z : ◌≡◌ {A = ℕ} 0 1 = cc in absurd (omega arith)
      go None None e = refl

  -- and the version is none that has waveform packets after the points
  not_three : h.version.minor ≡ 3 → ⊥
  not_three three = go up g.yes
    where
      go : (b : Bool) → goes_of b h ≡ Ok tt → ⊥
      go true e = omega (arith, version_is 2 1 3 h (goes-up h e).is)
      go false e = omega (arith, version_is 4 6 7 h (goes_down h e).is)

  pub same_records : records_of (outline_of (other_of up h)) ≡ records_of (outline_of h)
  same_records = omega (arith, records_are (outline_of h), records_are (outline_of (other_of up h)), (moved up h s g).vlrs, (moved up h s g).later, (no_evlrs h not_three no_pair).1)

  module _ {p : Plan} {m : ℕ} (goes : run_verdict up (outline_of h) s ≡ Ok (run_of p m)) where
    abbrev new : List ℕ
    new = new_file up p h s

    abbrev o : Outline
    o = outline_of h

    abbrev n : Outline
    n = outline_of (other_of up h)

    parts-new : PartsHold (size (fields_of (other_of up h).version.minor)) (other_of up h).version.minor g.ready.allowance n new
    unfolding new_length
    parts-new =
        let q = parts up h s g in
        let w = moved up h s g in
        let long = new_long up h s g goes in
        record {
          header-size = omega (arith, standard-least up h s g, header_size_is (other_of up h));
          format = (highest w.format (other_of up h).version.minor minor_of).0;
          format_for_version = (highest w.format (other_of up h).version.minor minor_of).1;
          record_length_lem = omega (arith, bytes-least n.point_data_record_format (extra_in o), target-length up h s g);
          offset_after_header = go up w.size w.offset;
          offset_within = omega (arith, long);
          allowed = omega (arith, w.vlrs, w.later, q.allowed);
          vlrs_whole = rw (w.vlrs, vlrs_new up h s g goes) q.vlrs_whole;
          points-within = omega (arith, long);
          later_start_lem = λ some. absurd (omega (arith, w.later));
          later_whole = rw w.later tt;
        }
      where
        go : (b : Bool) → By b 148 o.header_size n.header_size → By b 148 o.offset_to_point_data n.offset_to_point_data → n.header_size ≤ n.offset_to_point_data
        go true x y = omega (arith, x, y, (parts up h s g).offset_after_header)
        go false x y = omega (arith, x, y, (parts up h s g).offset_after_header)

    pub holds-new : Holds g.ready.allowance new
    holds-new =
        record {
          header = (judged-holds new (judged-new up h s g goes)).0;
          parts = rw (minor_new up h s g goes, header_new up h s g goes) parts-new;
        }

    pub accepted-new : {k : ℕ} → k ≡ records_of o → checked_of g.ready.allowance new ≡ Ok k
    accepted-new e = (accepted g.ready.allowance new).1 (holds-new, e ∙ sym same_records ∙ ap (λ (x : Header). records_of (outline_of x)) (sym (header_new up h s g goes)))
