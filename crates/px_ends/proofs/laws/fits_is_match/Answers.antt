use Rattle.px_ends.proofs.Fitting.{fits_is_match}
use Rattle.px_ends.proofs.laws.fits_is_match.Goals as goal

pub returns : goal.returns
returns c = fits_is_match
