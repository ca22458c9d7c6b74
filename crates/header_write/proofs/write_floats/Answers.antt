use mathlib.Core.Path.{refl}
use Rattle.fields.specs.Table.{store, done}
use Rattle.fields.specs.Laws.{stored-length}
use Rattle.header_write.proofs.write_floats.Goals as goal

pub returns : goal.returns
returns c =
    store c.set_f64.ensures refl
    (store c.set_f64-2.ensures refl
    (store c.set_f64-3.ensures refl
    (store c.set_f64-4.ensures refl
    (store c.set_f64-5.ensures refl
    (store c.set_f64-6.ensures refl
    (store c.set_f64-7.ensures refl
    (store c.set_f64-8.ensures refl
    (store c.set_f64-9.ensures refl
    (store c.set_f64-10.ensures refl
    (store c.set_f64-11.ensures refl
    (store c.set_f64-12.ensures refl done)))))))))))

pub shape_of-dst : goal.shape_of-dst
shape_of-dst c = stored-length _ _ _ (returns c)
