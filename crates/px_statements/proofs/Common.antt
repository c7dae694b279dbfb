-- What the proofs here cite of std, of the lower crates, and of the definitions of this one.
pub use Rattle.px_script.proofs.Common.{◌≡◌, ◌∙◌, ap, refl, sym, ◌∷◌, List, ℕ, true, false, Bool, None, Some}
pub use Rattle.px_script.specs.Parsing.{time_of}
