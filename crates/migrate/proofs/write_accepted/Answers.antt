use Rattle.std.proofs.lemmas.Result.{err_from_is_err_and}
use mathlib.Core.Path.{ap, sym, ◌∙◌}
use Rattle.migrate.specs.Migrate.{done_by}
use Rattle.migrate.specs.Told.{by_header}
use Rattle.migrate.proofs.write_accepted.Goals as goal

pub write_goer-requires : goal.write_goer-requires
write_goer-requires c = record { ready = c.requires; yes = sym c.goes.ensures ∙ c.in_ok-goes.was }

pub returns-in_err-goes : goal.returns-in_err-goes
returns-in_err-goes c =
    let a = c.args in
    let p = err_from_is_err_and c.from_residual.result c.from_residual.ensures.1 in
    rw (p.1, p.2) (sym (ap (done_by a.up a.header a.file.now a.dst.now) (by_header a.up a.header a.file.now (sym c.goes.ensures ∙ c.in_err-goes.was))))
