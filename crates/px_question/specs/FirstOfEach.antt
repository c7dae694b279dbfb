-- The first answer of ground atoms, atom by atom.
use Rattle.std.specs.Prelude.{◌↔◌, List, [], ◌∷◌}
use Rattle.px_terms.specs.declared.atom.Atom.{Atom}
use Rattle.px_proof.specs.Derivation.{Derivation, Derivations, none, also}
use Rattle.px_question.specs.Answers.{IsFirst}
use Rattle.px_question.specs.Settings.{Setting}

-- the derivation alone is the first answer of the atom, which has no variables
abbrev pub IsFirstProof : Setting → Atom → Derivation → Type 0
IsFirstProof s atom d = IsFirst s (atom ∷ []) 0 [] (also d none)

-- the first proof of each of the atoms, in order
abbrev pub AreFirstProofs : Setting → List Atom → Derivations → Type 0
AreFirstProofs s [] none = Unit {0}
AreFirstProofs s (atom ∷ atoms) (also d ds) = IsFirstProof s atom d × AreFirstProofs s atoms ds
AreFirstProofs s [] (also d ds) = ⊥
AreFirstProofs s (atom ∷ atoms) none = ⊥

-- the first answer of atoms without variables is the first proofs of each of them
abbrev pub FirstIsOfEach : Type 0
FirstIsOfEach = (s : Setting) (atoms : List Atom) (ds : Derivations) → IsFirst s atoms 0 [] ds ↔ AreFirstProofs s atoms ds
