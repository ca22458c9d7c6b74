use mathlib.Core.Path.{ap, sym, ◌∙◌}
use Rattle.point.specs.Read.{read_of}
use Rattle.judge.specs.Laws.{fit_marks, marks_enough}
use Rattle.judge.proofs.judge_record.Goals as goal

pub returns : goal.returns
returns c =
    c.check_fields.ensures
    ∙ sym (ap fit_marks c.in_ok-marks.was)
    ∙ ap fit_marks c.read_from.ensures
    ∙ marks_enough (read_of c.args.format c.args.src.now)
