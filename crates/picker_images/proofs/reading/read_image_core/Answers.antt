-- `read_image_core` meets its contract: refused, or read. Assumes nothing.
use Rattle.picker_images.proofs.ReadingLaws.{read_done}
use Rattle.picker_images.proofs.reading.read_image_core.Goals as goal

pub returns : goal.returns
returns c = read_done _ _ _ _ _ _ _ _ c.read_image.result c.read_image.ensures
