use Rattle.px_edit.proofs.Sound.{editing_sound}
use Rattle.px_edit.proofs.laws.editing_is_sound.Goals as goal

pub returns : goal.returns
returns c = editing_sound
