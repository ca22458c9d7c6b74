use Rattle.std.proofs.Common.{ℕ, List, ◌≡◌, ap, sym, ◌∙◌, ◌⊎◌, inl, inr}
use Rattle.cursor.specs.declared.Kind.TheVariants.{Evlr, Waveform}
use Rattle.cursor.specs.declared.Part.{Part}
use Rattle.returns.specs.declared.Survey.{Survey}
use Rattle.finding.specs.declared.Finding.{Finding}
use Rattle.finding.specs.Rules.{counters}
use Rattle.finding.specs.Told.{told, told_none, both}
use Rattle.findings.specs.Found.{texts_at, found_in}
use Rattle.findings.proofs.tell_part.Goals as goal

pub returns-in-Header : goal.returns-in-Header
unfolding found_in
returns-in-Header c =
    let a = c.args in
    rw c.in-Header.is
    (both (texts_at a.file.now a.number a.part.start 26 32 58) (counters a.file.now a.survey.extended a.survey.returns.numbers a.number) a.n a.out.now c.tell_texts-n.ensures c.tell_counters.ensures)

pub returns-in-Vlr : goal.returns-in-Vlr
unfolding found_in
returns-in-Vlr c = rw c.in-Vlr.is c.tell_texts.ensures

pub returns-in-Gap : goal.returns-in-Gap
unfolding found_in
returns-in-Gap c = rw c.in-Gap.is (sym (told_none _))

pub returns-in-Points : goal.returns-in-Points
unfolding found_in
returns-in-Points c = rw c.in-Points.is c.tell_points.ensures

-- the two kinds of later records have the same text fields
later : (s : List ℕ) (v : Survey) (number : ℕ) (p : Part) → (p.kind ≡ Evlr) ⊎ (p.kind ≡ Waveform) → texts_at s number p.start 2 16 28 ≡ found_in s v number p
unfolding found_in
later s v number p (inl is) = rw is
later s v number p (inr is) = rw is

pub returns-in-Evlr : goal.returns-in-Evlr
returns-in-Evlr c =
    let a = c.args in
    c.tell_texts-in-Evlr.ensures ∙ ap (λ (fs : List Finding). told fs (a.n, a.out.now)) (later a.file.now a.survey a.number a.part c.in-Evlr.is)
