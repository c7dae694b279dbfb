-- What one question of gaps says of a formula.
use Rattle.std.specs.Prelude.{◌↔◌, ℕ, List, [], ◌∷◌, All, Contains}
use Rattle.px_terms.specs.Validity.{IsAtomOf}
use Rattle.px_terms.specs.declared.atom.Atom.{Atom}
use Rattle.px_terms.specs.declared.problem.Problem.{Problem}
use Rattle.px_proof.specs.declared.shape.Tick.{Tick}
use Rattle.px_prover.specs.PatternLists.{lists_of}
use Rattle.px_prover.specs.Patterns.{AreGapClosings, AreGapPatterns}
use Rattle.px_prover.specs.declared.pattern.GapPattern.{GapPattern}
use Rattle.px_question.specs.Answers.{IsProvable}
use Rattle.px_question.specs.Limits.{AreFewGapShapes, IsLimited}
use Rattle.px_question.specs.Settings.{Setting, setting_of}
use Rattle.px_gaps.specs.Closings.{IsClosedIn}

-- All patterns of the formula, which has fewer unfinished gap proofs than the limit, by their shapes; and those atoms closed by them
-- which are provable. Proving none of the atoms that they close meets the limit.
pub record IsGapAnswer (s : Setting) (formula : List Atom) (variable_count : ℕ) (patterns : List GapPattern) (provable : List Atom) : Type 0 where
  pub all : AreGapPatterns s formula variable_count patterns
  pub few : AreFewGapShapes s formula variable_count
  pub provable_are : (atom : Atom) → Contains provable atom ↔ (IsClosedIn (lists_of s.objects patterns) atom × IsProvable s atom)
  pub unlimited : (atom : Atom) (shapes : List (List Tick)) → IsClosedIn (lists_of s.objects patterns) atom
      → ¬ IsLimited s (atom ∷ []) 0 shapes

-- Alike: `IsGapAnswer`, of patterns with terms. What gaps of the formula, which has fewer unfinished gap proofs than the limit, close
-- together, whatever the objects for its variables; and those of these atoms which are provable, none of which meets the limit.
pub record IsClosingAnswer (s : Setting) (formula : List Atom) (variable_count : ℕ) (closings : List GapPattern) (provable : List Atom) : Type 0
  where
    pub all : AreGapClosings s formula variable_count closings
    pub few : AreFewGapShapes s formula variable_count
    pub provable_are : (atom : Atom) → Contains provable atom ↔ (IsClosedIn (lists_of s.objects closings) atom × IsProvable s atom)
    pub unlimited : (atom : Atom) (shapes : List (List Tick)) → IsClosedIn (lists_of s.objects closings) atom
        → ¬ IsLimited s (atom ∷ []) 0 shapes

-- they are the patterns and provable atoms of some formula of the problem
abbrev pub AnswersSome : Problem → List Atom → ℕ → List GapPattern → List Atom → Type 0
AnswersSome problem facts variable_count patterns provable = (formula : List Atom) × All (IsAtomOf problem variable_count) formula
    × IsGapAnswer (setting_of problem facts) formula variable_count patterns provable
