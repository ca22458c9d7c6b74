-- What the definitions of Vlr add up to; Places has what the table of Layout does.
use Rattle.std.specs.Prelude.{Ok, Err}
use Rattle.refusal.specs.declared.Refusal.{Refusal}
use Rattle.std.specs.Prelude.{ℕ, ◌+◌, ◌≡◌, refl, Bool, ◌↔◌, List, ◌++◌, length, take, drop}
use Rattle.std.proofs.Common.{ap, sym, ◌∙◌, arith, take-append-drop}
use Rattle.le.specs.Le.{Bytes as IsBytes}
use Rattle.lent.specs.Front.{front_of}
use Rattle.vlr.specs.declared.Vlr.{Vlr}
use Rattle.fields.specs.Table.{part}
use Rattle.vlr.specs.Layout.{head_size}
use Rattle.vlr.specs.Vlr.{data_length, is_evlr, length_of, vlr_of, record_size, extent_of, read_of, data_of, head_bytes, written_of, Typed}
use Rattle.vlr.specs.Laws.{record_size_lem, accepted, read_told, read_refused, read_accepted, refused_so, read_whole, length-data, stated-length, written}
use Rattle.vlr.specs.Heads.{kind_read, record_back, typed, again}

-- A record is read exactly where its bytes are told, and refused with what they are.
module _ (extended : Bool) (s : List ℕ) where
  pub read_exactly : (v : Vlr) → (read_of extended s ≡ Ok v) ↔ ((extent_of extended s ≡ Ok (record_size extended s)) × (v ≡ vlr_of extended s))
  read_exactly v = (read_accepted extended s, λ (p, is). read_told extended s p ∙ ap Ok (sym is))

  pub refused_exactly : (r : Refusal) → (read_of extended s ≡ Err r) ↔ (extent_of extended s ≡ Err r)
  refused_exactly r = (refused_so extended s, read_refused extended s)

  -- "the record and its bytes in all": a record that is read says by its length how many bytes it takes, head and data.
  pub measured : {v : Vlr} → read_of extended s ≡ Ok v → extent_of extended s ≡ Ok (head_size extended + data_length v.record_length_after_header)
  unfolding vlr_of
  measured {v} e =
      let r = read_accepted extended s e in
      r.0 ∙ ap Ok (record_size_lem extended s ∙ ap (λ (x : Vlr). head_size extended + data_length x.record_length_after_header) (sym r.1))

-- "Written back, it has the same bytes" (the mission, 2): what is read of a record and of its data, written, is the bytes that were read.
pub written_back : (extended : Bool) (s d : List ℕ) {n : ℕ} {v : Vlr} → IsBytes s → extent_of extended s ≡ Ok n → read_of extended s ≡ Ok v → written_of v (data_of extended s) d ≡ front_of (take n s) d
unfolding vlr_of
written_back extended s d {n} b p e =
    let w = accepted extended s p in
    let r = read_whole extended s n w in
    rw ((read_accepted extended s e).1, r.1) (stated-length _ _ d (length-data extended s n w) ∙ ap (λ (bs : List ℕ). front_of bs d) (record_back extended s n b w))

-- "Writes answer their byte count and leave what lies past it": what is left, read again, is the record and its data.
pub read_again : (v : Vlr) (content d d' : List ℕ) {n : ℕ} → Typed v → written_of v content d ≡ (Ok n, d') → (read_of (is_evlr v) d' ≡ Ok v) × (extent_of (is_evlr v) d' ≡ Ok n) × (data_of (is_evlr v) d' ≡ content)
read_again v content d d' w p =
    let q = written v content d d' p in
    rw q.size (again (is_evlr v) v content (drop (length (head_bytes v ++ content)) d) d' refl w q.stated q.left)

-- "The data is shown as that part of the caller's bytes": bytes that agree on the record are read alike, whatever lies past it.
pub never_past : (extended : Bool) (s t : List ℕ) {n : ℕ} → IsBytes s → extent_of extended s ≡ Ok n → take n t ≡ take n s → (read_of extended t ≡ read_of extended s) × (extent_of extended t ≡ extent_of extended s) × (data_of extended t ≡ data_of extended s)
unfolding vlr_of
never_past extended s t {n} b p e =
    let w = accepted extended s p in
    let content = part (data_length (length_of extended s)) (head_size extended) s in
    let alike : (x : List ℕ) → take n x ≡ take n s → (read_of extended x ≡ Ok (vlr_of extended s)) × (extent_of extended x ≡ Ok (length (head_bytes (vlr_of extended s) ++ content))) × (data_of extended x ≡ content) =
    λ x q. again extended (vlr_of extended s) content (drop n x) x (kind_read extended s) (typed extended s b (omega arith)) (length-data extended s n w)
    (sym (take-append-drop n x) ∙ ap (λ (l : List ℕ). l ++ drop n x) (q ∙ sym (record_back extended s n b w))) in
    ((alike t e).0 ∙ sym (alike s refl).0, (alike t e).1 ∙ sym (alike s refl).1, (alike t e).2 ∙ sym (alike s refl).2)
