use Rattle.ot_image.proofs.Images.{image_front}
use Rattle.ot_image.proofs.loading.images_differ.Goals as goal

pub returns : goal.returns
returns c = image_front
