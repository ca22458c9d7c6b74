use mathlib.Core.Path.{refl}
use Rattle.descriptor.specs.Descriptor.{no_descriptor}
use Rattle.descriptor.proofs.DescriptorDefault.default.Goals as goal

pub returns : goal.returns
unfolding no_descriptor
returns c = refl
