use Prim.Native.Nat.{◌+◌}
use Rattle.finding.specs.Rules.{text_at}
use Rattle.finding.specs.Told.{both}
use Rattle.findings.specs.Found.{texts_at}
use Rattle.findings.proofs.tell_texts.Goals as goal

pub returns : goal.returns
unfolding texts_at
returns c =
    let a = c.args in
    both (text_at a.file.now a.number (a.start + a.first) a.width) (text_at a.file.now a.number (a.start + a.second) 32) a.n a.out.now
    c.tell_text-n.ensures c.tell_text.ensures
