use mathlib.Core.Path.{◌≡◌, refl, ap, sym, ◌∙◌}
use mathlib.Core.List.{List}
use Prim.Native.Nat.{ℕ}
use borrow.Author.Rules.{rules}
use lib.ListN.{length}
use lib.Seq.{sets}
use Rattle.le.specs.Laws.{length-bytes}
use Rattle.fields.specs.Table.{Stored, store, done}
use Rattle.vlr.specs.declared.RecordLength.{RecordLength}
use Rattle.vlr.specs.declared.Vlr.{Vlr}
use Rattle.vlr.specs.Layout.{LengthAfterHeader, Description, fields, width, place}
use Rattle.vlr.specs.Vlr.{data_length, is_extended, is_evlr, length_bytes, field_bytes}
use Rattle.vlr_write.proofs.write_head.Goals as goal
use Rattle.vlr_write.proofs.write_head.Goals.{After-set_bytes, After-set_u16, After-set_u16-2}

-- what either kind has first, then the length and the text
module _ (c : After-set_u16-2) where
  abbrev id : After-set_bytes
  id = (goal.at.After-set_u16-2 c).After-set_bytes

  abbrev reserved : After-set_u16
  reserved = (goal.at.After-set_bytes id).After-set_u16

  abbrev v : Vlr
  v = reserved.args.vlr

  all : {n : RecordLength} {e r : List ℕ} → v.record_length_after_header ≡ n → e ≡ sets c.set_u16-2.new.d 20 (length_bytes n) → r ≡ sets e (place (is_extended n) Description) v.description → Stored (width (is_evlr v)) (place (is_evlr v)) (field_bytes v) reserved.args.dst.now fields r
  all {n} {e} told p q =
      let user : length v.user_id ≡ 16 = search rules in
      let text : length v.description ≡ 32 = search rules in
      store reserved.set_u16.ensures refl
      (store id.set_bytes.ensures user
      (store c.set_u16-2.ensures refl
      (store (p ∙ ap (λ (m : RecordLength). sets c.set_u16-2.new.d 20 (length_bytes m)) (sym told)) (length-bytes (width (is_evlr v) LengthAfterHeader) (data_length v.record_length_after_header))
      (store (q ∙ ap (λ (m : RecordLength). sets e (place (is_extended m) Description) v.description) (sym told)) text done))))

pub returns-in-Vlr : goal.returns-in-Vlr
returns-in-Vlr c =
    all (goal.at.returns-in-Vlr c).After-set_u16-2 c.in-Vlr.is c.set_u16-in-Vlr.ensures c.set_bytes-in-Vlr.ensures

pub returns-in-Evlr : goal.returns-in-Evlr
returns-in-Evlr c =
    all (goal.at.returns-in-Evlr c).After-set_u16-2 c.in-Evlr.is c.set_u64.ensures c.set_bytes-in-Evlr.ensures
