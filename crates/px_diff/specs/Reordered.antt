-- What one question of gaps says of the part of a formula that decides whether it is open, where its atoms are asked in another order.
use Rattle.std.specs.Prelude.{◌≡◌, ◌⊎◌, ℕ, List, [], ◌∷◌, ◌++◌, map}
use Rattle.px_terms.specs.declared.atom.Atom.{Atom}
use Rattle.px_terms.specs.declared.problem.Problem.{Problem}
use Rattle.px_prover.specs.declared.pattern.GapPattern.{GapPattern}
use Rattle.px_question.specs.Settings.{setting_of}
use Rattle.px_gaps.specs.Bounds.{HasFewShapes}
use Rattle.px_gaps.specs.GapAnswers.{IsGapAnswer}
use Rattle.px_entries.specs.Rest.{IsRest}

-- each atom of the first list stands in one of the two others, in the same order
abbrev pub AreParted : List Atom → List Atom → List Atom → Type 0
AreParted [] firsts seconds = (firsts ≡ []) × (seconds ≡ [])
AreParted (atom ∷ atoms) firsts seconds =
    ((others : List Atom) × (firsts ≡ atom ∷ others) × AreParted atoms others seconds)
    ⊎ ((others : List Atom) × (seconds ≡ atom ∷ others) × AreParted atoms firsts others)

-- the second list has some atoms of the first, and then the others
pub record IsReordered (atoms ordered : List Atom) : Type 0 where
  pub firsts : List Atom
  pub seconds : List Atom
  pub parted : AreParted atoms firsts seconds
  pub ordered_is : ordered ≡ firsts ++ seconds

-- These are the patterns of the formula's rest in another order, and those of the atoms that they close which are provable. Whatever the
-- facts are, the formula without variables has fewer unfinished gap proofs than the limit.
pub record IsReorderedAnswer (problem : Problem) (facts formula : List Atom) (variable_count : ℕ) (patterns : List GapPattern) (provable : List Atom)
    : Type 0 where
  pub rest : List Atom
  pub is_rest : IsRest problem formula rest
  pub few : HasFewShapes problem (map (λ (atom : Atom). atom.pred) formula)
  pub ordered : List Atom
  pub reordered : IsReordered rest ordered
  pub answer : IsGapAnswer (setting_of problem facts) ordered variable_count patterns provable
