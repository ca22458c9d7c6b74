use Rattle.std.proofs.Common.{◌≡◌, ◌++◌, length, ap, ◌∙◌, refl, rules}
use Rattle.std.specs.Prelude.{drop, replicate}
use Rattle.capi_sheet.specs.Numbers.{sheet_numbers}
use Rattle.capi_sheet.proofs.Laid.{laid}
use Rattle.capi_sheet.proofs.sheet_numbers.Goals as goal

pub returns : goal.returns
unfolding sheet_numbers
returns c =
    let s = c.args.sheet in
    let classes : length s.classes ≡ 256 = search rules in
    let nine : length c.head_numbers.result ≡ 9 = search rules in
    let head = c.copy_from_slice.ensures.after in
    let next = c.copy_from_slice-2.ensures.after in
    let last = c.copy_from_slice-3.ensures.after in
    laid _ _ _ (drop 9 (replicate 281 0)) 9 256 265 16 (ap length head ∙ nine) (ap length next ∙ classes) refl refl
    ∙ (λ i. (head ∙ c.head_numbers.ensures) i ++ (next i ++ last i))
