use Rattle.capi_sheet.proofs.classes_from.Goals as goal

pub returns : goal.returns
returns c = c.copy_from_slice.ensures.after
