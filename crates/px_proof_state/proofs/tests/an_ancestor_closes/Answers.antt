use Rattle.std.proofs.Common.{rules, ◌≡◌, ◌∙◌, ◌≤◌, ℕ, zero, suc, List, [], ◌∷◌, length, get_or, sym, arith}
use Rattle.std.proofs.lemmas.Option.{slice_get-get_or}
use Rattle.px_proof.specs.Literals.{positive_of}
use Rattle.px_terms.specs.declared.atom.Atom.{Atom}
use Rattle.px_proof_walk.specs.Pending.{Goal}
use Rattle.px_proof_state.specs.declared.open.OpenGoal.{OpenGoal}
use Rattle.px_proof_state.specs.Arena.{goals_at, path_at, AreOlder}
use Rattle.px_proof_state.specs.States.{ProofStateValue, IsOpening}
use Rattle.px_proof_state.proofs.Hanging.{goals_at-nothing, goals_at-index, path_at-index}
use Rattle.px_proof_state.proofs.tests.an_ancestor_closes.Goals as goal

-- the literals from the place of a goal up are its own and its path
up_from : (arena : List OpenGoal) (place : ℕ) (first : Goal) (rest : List Goal) → AreOlder arena → place ≤ length arena
    → goals_at arena place ≡ first ∷ rest → path_at arena place ≡ first.lit ∷ first.path
up_from arena zero first rest older within is = absurd (let none : first ∷ rest ≡ [] = sym is ∙ goals_at-nothing arena in cc)
up_from arena (suc i) first rest older within is =
    let none : OpenGoal = record { lit = first.lit; above = 0; next = 0; budget = 0 } in
    let here = slice_get-get_or arena i none (omega (arith, within)) in
    let names = older i (get_or arena i none) here in
    let same = sym (goals_at-index arena i (get_or arena i none) here names.1 names.0) ∙ is in
    path_at-index arena i (get_or arena i none) here names.0
    ∙ (λ k. (get_or (same k) 0 first).lit ∷ (get_or (same k) 0 first).path)

opening : (atom : Atom) (variable_count height : ℕ) (v : ProofStateValue) → IsOpening (atom ∷ []) variable_count height v
    → path_at v.goals v.first ≡ positive_of atom ∷ []
opening atom variable_count height v is =
    up_from v.goals v.first (record { lit = positive_of atom; path = []; budget = height }) [] is.arena is.within is.opened

pub try_ancestors-requires-clause-few : goal.try_ancestors-requires-clause-few
try_ancestors-requires-clause-few g c =
    rw (c.goal_of.ensures.above, c.first-first.ensures, opening c.of-atom.result 0 1 c.in_ok-state.state c.in_ok-state.ensures)
    (omega arith)

pub try_ancestors-requires-clause-path_below : goal.try_ancestors-requires-clause-path_below
try_ancestors-requires-clause-path_below g c =
    rw (c.goal_of.ensures.above, c.first-first.ensures, opening c.of-atom.result 0 1 c.in_ok-state.state c.in_ok-state.ensures)
    (search rules)
