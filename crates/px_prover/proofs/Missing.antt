-- What was open where each choice was made, and the atoms that gaps close.
use Rattle.std.proofs.Common.{◌≡◌, ◌∙◌, ℕ, zero, suc, ◌+◌, ◌-◌, ◌<◌, ◌≤◌, true, Option, Some, None, List, [], ◌∷◌, ◌++◌, length, map, take, drop, set, get_or, slice_get, refl, ap, sym, subst, arith}
use Rattle.std.specs.Prelude.{All, reverse}
use Rattle.std.specs.List.{AllByRecursion}
use Rattle.std.proofs.lemmas.List.{length-set, length-take, length_push, map_more, reverse-append, take-append-drop, take_all, take_more}
use Rattle.std.proofs.lemmas.List.Elements.{All-append, All-weaker}
use Rattle.px_prover.specs.Gathering.{AreMissing}
use Rattle.px_prover.specs.Standing.{ticks_in, IsProperQuestion, IsSound, WasSound, IsStanding}
use Rattle.px_prover.proofs.Moves.{none-long, sound-now, ticks-map}
use Rattle.px_prover.proofs.Scopes.{open-in, lit-plain}
use Rattle.px_proof.specs.declared.shape.Tick.{Tick}
use Rattle.px_proof.specs.declared.shape.Tick.TheVariants.{Fact, Anc, Step, Gap, Open}
use Rattle.px_question.specs.Settings.{Setting}
use Rattle.px_proof_state.specs.Arena.{goals_at, path_at}
use Rattle.px_proof_state.specs.States.{ProofStateValue}
use Rattle.px_proof_state.specs.declared.open.Choice.{Choice}
use Rattle.px_proof_state.specs.declared.open.OpenGoal.{OpenGoal}
use Rattle.px_proof_state.proofs.Hanging.{goals_at-index, goals_at-nothing}
use Rattle.px_terms.specs.Language.{IsVariableBelow, IsPlainBelow}
use Rattle.px_terms.specs.declared.atom.Atom.{Atom}
use Rattle.px_terms.specs.declared.clause.Lit.{Lit}
use Rattle.px_terms.specs.declared.term.Term.{Term}
use Rattle.px_terms.specs.declared.term.Term.TheVariants.{Obj, Var, Any}
use Rattle.px_unify.specs.ChangeLaws.{slots_after-append}
use Rattle.px_unify.specs.Changes.{slots_after, slots_of, variables_of}
use Rattle.px_unify.specs.declared.change.Change.{Change}
use Rattle.px_unify.specs.declared.change.Change.TheVariants.{Fresh, Bound}
use Rattle.px_proof_walk.specs.GapAtoms.{gap_at, gap_atoms}
use Rattle.px_proof_walk.specs.Pending.{Goal, goals_of, open_after}
use Rattle.px_proof_walk.specs.Scope.{IsGoalIn}
use Rattle.px_proof_walk.proofs.Gaps.{gap_atoms-push}
use Rattle.px_proof_walk.proofs.Objects.{goals-in}

-- ---- prefixes of lists

get-take : {X : Type 0} (xs : List X) (n k : ℕ) → k < n → slice_get (take n xs) k ≡ slice_get xs k
get-take [] zero k less = absurd (omega (arith, less))
get-take (x ∷ xs) zero k less = absurd (omega (arith, less))
get-take [] (suc n) k less = refl
get-take (x ∷ xs) (suc n) zero less = refl
get-take (x ∷ xs) (suc n) (suc k) less = get-take xs n k (omega (arith, less))

slots-grow : (changes : List Change) (slots : List (Option Term)) → length slots ≤ length (slots_after slots changes)
slots-grow [] slots = omega arith
slots-grow (Fresh ∷ changes) slots = omega (arith, length_push slots None, slots-grow changes (slots ++ None ∷ []))
slots-grow (Bound v term ∷ changes) slots = omega (arith, length-set slots v (Some term), slots-grow changes (set slots v (Some term)))

variables-take : (changes : List Change) (n : ℕ) → variables_of (take n changes) ≤ variables_of changes
variables-take changes n =
    let whole : variables_of changes ≡ length (slots_after (slots_of (take n changes)) (drop n changes)) =
    ap variables_of (sym (take-append-drop n changes)) ∙ ap length (slots_after-append (take n changes) (drop n changes) []) in
    omega (arith, whole, slots-grow (drop n changes) (slots_of (take n changes)))

plain-variable : (m n : ℕ) → m ≤ n → (t : Term) → IsPlainBelow m t → IsVariableBelow n t
plain-variable m n le (Obj k) plain = tt
plain-variable m n le (Var v) plain = omega (arith, le, plain)
plain-variable m n le Any plain = tt

variable-more : (m n : ℕ) → m ≤ n → (t : Term) → IsVariableBelow m t → IsVariableBelow n t
variable-more m n le (Obj k) below = tt
variable-more m n le (Var v) below = omega (arith, le, below)
variable-more m n le Any below = tt

module _ (s : Setting) (formula : List Atom) (variable_count : ℕ) where
  -- the goal was the first one that was open after the ticks, and its arguments are over the first variables, of the given number
  pub record WasFirst (ticks : List Tick) (variables : ℕ) (g : OpenGoal) : Type 0 where
    pub last : ℕ
    pub path : List Lit
    pub rest : List Goal
    pub pending : open_after true s variable_count (goals_of s formula) ticks
        ≡ Some (record { variables = last; goals = record { lit = g.lit; path = path; budget = g.budget } ∷ rest })
    pub below : All (IsVariableBelow variables) g.lit.atom.args

  -- the place was that of a goal, which was the first open one after the ticks
  pub record WasOpen (ticks : List Tick) (variables : ℕ) (goals : List OpenGoal) (first : ℕ) : Type 0 where
    pub some : 0 < first
    pub within : first ≤ length goals
    pub each : (g : OpenGoal) → slice_get goals (first - 1) ≡ Some g → WasFirst ticks variables g

  module _ (asked : IsProperQuestion s formula variable_count) where
    was-here : (c : Choice) (rest : List Choice) (changes : List Change) (goals : List OpenGoal) (first : ℕ)
        → WasSound true s formula variable_count (c ∷ rest) changes goals first → WasOpen (ticks_in rest) (variables_of changes) goals c.first
    was-here c rest changes goals first was =
        let some : 0 < c.first = some_first c.first refl in
        record {
          some = some;
          within = omega (arith, before.within, length-take c.goals goals);
          each = λ g at.
              let at_front : slice_get (take c.goals goals) (c.first - 1) ≡ Some g =
              get-take goals c.goals (c.first - 1) (omega (arith, some, before.within, length-take c.goals goals)) ∙ at in
              let older = before.arena (c.first - 1) g at_front in
              let place : c.first ≡ suc (c.first - 1) = omega (arith, some) in
              let opened : goals_at (take c.goals goals) c.first
              ≡ record { lit = g.lit; path = path_at (take c.goals goals) g.above; budget = g.budget }
              ∷ goals_at (take c.goals goals) g.next =
              ap (goals_at (take c.goals goals)) place ∙ goals_at-index (take c.goals goals) (c.first - 1) g at_front older.1 older.0 in
              record {
                last = variables_of (take c.mark changes);
                path = path_at (take c.goals goals) g.above;
                rest = goals_at (take c.goals goals) g.next;
                pending =
                    before.stands.pending
                    ∙ ap (λ (gs : List Goal). Some (record { variables = variables_of (take c.mark changes); goals = gs })) opened;
                below =
                    All-weaker (IsPlainBelow (variables_of (take c.mark changes))) (IsVariableBelow (variables_of changes))
                    (plain-variable (variables_of (take c.mark changes)) (variables_of changes) (variables-take changes c.mark))
                    g.lit.atom.args
                    (lit-plain s.objects (variables_of (take c.mark changes)) g.lit
                    (head-in (goals_at (take c.goals goals) c.first)
                    (record { lit = g.lit; path = path_at (take c.goals goals) g.above; budget = g.budget })
                    (goals_at (take c.goals goals) g.next) opened all_in).lit);
              };
        }
      where
        before : IsSound true s formula variable_count (ticks_in rest)
            (record { changes = take c.mark changes; goals = take c.goals goals; first = c.first; choices = rest })
        before = sound-now true s formula variable_count rest (take c.mark changes) (take c.goals goals) c.first was.3

        some_first : (n : ℕ) → c.first ≡ n → 0 < c.first
        some_first zero is =
            absurd (none-long true s formula variable_count (ticks_in rest) c.tick variable_count (goals_of s formula)
            (record { variables = variables_of (take c.mark changes); goals = goals_at (take c.goals goals) c.first })
            (record { variables = variables_of changes; goals = goals_at goals first }) before.stands.pending
            (ap (goals_at (take c.goals goals)) is ∙ goals_at-nothing (take c.goals goals)) was.0.stands.pending)
        some_first (suc n) is = omega (arith, is)

        all_in : AllByRecursion (IsGoalIn s.objects (variables_of (take c.mark changes))) (goals_at (take c.goals goals) c.first)
        all_in =
            open-in true s asked.setting (ticks_in rest) variable_count (goals_of s formula)
            (record { variables = variables_of (take c.mark changes); goals = goals_at (take c.goals goals) c.first }) before.facts_in
            (goals-in s variable_count formula asked.scope) before.stands.pending

        head-in : (gs : List Goal) (g : Goal) (rest : List Goal) → gs ≡ g ∷ rest
            → AllByRecursion (IsGoalIn s.objects (variables_of (take c.mark changes))) gs
            → IsGoalIn s.objects (variables_of (take c.mark changes)) g
        head-in gs g rest is all = (rw is at all).0

    was-at : (prefix : List Choice) (c : Choice) (rest : List Choice) (changes : List Change) (goals : List OpenGoal) (first : ℕ)
        → WasSound true s formula variable_count (prefix ++ c ∷ rest) changes goals first
        → WasOpen (ticks_in rest) (variables_of changes) goals c.first
    was-at [] c rest changes goals first was = was-here c rest changes goals first was
    was-at (d ∷ prefix) c rest changes goals first was =
        let was_open = was-at prefix c rest (take d.mark changes) (take d.goals goals) d.first was.3 in
        record {
          some = was_open.some;
          within = omega (arith, was_open.within, length-take d.goals goals);
          each = λ g at.
              let was_first =
              was_open.each g (get-take goals d.goals (c.first - 1)
              (omega (arith, was_open.some, was_open.within, length-take d.goals goals)) ∙ at) in
              record {
                last = was_first.last;
                path = was_first.path;
                rest = was_first.rest;
                pending = was_first.pending;
                below =
                    All-weaker (IsVariableBelow (variables_of (take d.mark changes))) (IsVariableBelow (variables_of changes))
                    (variable-more (variables_of (take d.mark changes)) (variables_of changes) (variables-take changes d.mark))
                    g.lit.atom.args was_first.below;
              };
        }

    reverse-at : (xs : List Choice) (i : ℕ) (c : Choice) → i < length xs → c ≡ get_or xs i c
        → reverse xs ≡ reverse (drop (i + 1) xs) ++ c ∷ reverse (take i xs)
    reverse-at xs i c within is =
        let more : take (i + 1) xs ≡ take i xs ++ c ∷ [] = take_more xs i c within ∙ ap (λ (y : Choice). take i xs ++ y ∷ []) (sym is) in
        ap reverse (sym (take-append-drop (i + 1) xs)) ∙ reverse-append (take (i + 1) xs) (drop (i + 1) xs)
        ∙ ap (λ (ys : List Choice). reverse (drop (i + 1) xs) ++ reverse ys) more
        ∙ ap (λ (ys : List Choice). reverse (drop (i + 1) xs) ++ ys) (reverse-append (take i xs) (c ∷ []))

    -- where each choice was made a goal was open
    pub missing-open : (xs : List Choice) (v : ProofStateValue) → IsStanding true s formula variable_count v → reverse xs ≡ v.choices
        → (i : ℕ) (c : Choice) → i < length xs → c ≡ get_or xs i c
        → WasOpen (map (λ (x : Choice). x.tick) (take i xs)) (variables_of v.changes) v.goals c.first
    missing-open xs v standing are i c within is =
        subst (λ (ts : List Tick). WasOpen ts (variables_of v.changes) v.goals c.first) (ticks-map (take i xs))
        (was-at (reverse (drop (i + 1) xs)) c (reverse (take i xs)) v.changes v.goals v.first
        (subst (λ (cs : List Choice). WasSound true s formula variable_count cs v.changes v.goals v.first)
        (sym are ∙ reverse-at xs i c within is) standing.was))

  -- ---- the atoms

  gap_at-path : (t : Tick) (lit : Lit) (path other : List Lit) (budget : ℕ)
      → gap_at (record { lit = lit; path = path; budget = budget }) t ≡ gap_at (record { lit = lit; path = other; budget = budget }) t
  gap_at-path (Fact i) lit path other budget = refl
  gap_at-path (Anc i) lit path other budget = refl
  gap_at-path (Step number place) lit path other budget = refl
  gap_at-path Gap lit path other budget = refl
  gap_at-path Open lit path other budget = refl

  gap_at-below : (t : Tick) (g : Goal) (variables : ℕ) → All (IsVariableBelow variables) g.lit.atom.args
      → All (λ (atom : Atom). All (IsVariableBelow variables) atom.args) (gap_at g t)
  gap_at-below (Fact i) g variables below k d within = absurd (omega (arith, within))
  gap_at-below (Anc i) g variables below k d within = absurd (omega (arith, within))
  gap_at-below (Step number place) g variables below k d within = absurd (omega (arith, within))
  gap_at-below Gap g variables below zero d within = below
  gap_at-below Gap g variables below (suc k) d within = absurd (omega (arith, within))
  gap_at-below Open g variables below k d within = absurd (omega (arith, within))

  pub missing-start : (variables : ℕ) (xs : List Choice) (atoms : List Atom) → atoms ≡ []
      → AreMissing s formula variable_count (map (λ (x : Choice). x.tick) (take 0 xs)) variables atoms
  missing-start variables xs atoms empty = record { atoms = empty; below = λ k d within. absurd (omega (arith, within, ap length empty)) }

  pub missing-next : (xs : List Choice) (i : ℕ) (c : Choice) (variables : ℕ) (g : OpenGoal) (old new : List Atom) → i < length xs
      → c ≡ get_or xs i c → WasFirst (map (λ (x : Choice). x.tick) (take i xs)) variables g
      → AreMissing s formula variable_count (map (λ (x : Choice). x.tick) (take i xs)) variables old
      → new ≡ old ++ gap_at (record { lit = g.lit; path = []; budget = g.budget }) c.tick
      → AreMissing s formula variable_count (map (λ (x : Choice). x.tick) (take (i + 1) xs)) variables new
  missing-next xs i c variables g old new within is was missing new_is =
      let ticks : List Tick = map (λ (x : Choice). x.tick) (take i xs) in
      let more : map (λ (x : Choice). x.tick) (take (i + 1) xs) ≡ ticks ++ c.tick ∷ [] =
      map_more (λ (x : Choice). x.tick) xs i c within ∙ ap (λ (x : Choice). ticks ++ x.tick ∷ []) (sym is) in
      let goal : Goal = record { lit = g.lit; path = was.path; budget = g.budget } in
      let grown : new ≡ old ++ gap_at goal c.tick =
      new_is ∙ ap (λ (xs : List Atom). old ++ xs) (gap_at-path c.tick g.lit [] was.path g.budget) in
      record {
        atoms =
            grown ∙ ap (λ (xs : List Atom). xs ++ gap_at goal c.tick) missing.atoms
            ∙ sym (gap_atoms-push true s c.tick goal was.rest was.last ticks variable_count (goals_of s formula) was.pending)
            ∙ ap (gap_atoms true s variable_count (goals_of s formula)) (sym more);
        below = subst (λ (xs : List Atom). All (λ (atom : Atom). All (IsVariableBelow variables) atom.args) xs) (sym grown)
            (All-append (λ (atom : Atom). All (IsVariableBelow variables) atom.args) old (gap_at goal c.tick) missing.below
            (gap_at-below c.tick goal variables was.below));
      }

  pub missing-end : (xs : List Choice) (i : ℕ) (variables : ℕ) (choices : List Choice) (atoms : List Atom) → length xs ≤ i
      → reverse xs ≡ choices → AreMissing s formula variable_count (map (λ (x : Choice). x.tick) (take i xs)) variables atoms
      → AreMissing s formula variable_count (ticks_in choices) variables atoms
  missing-end xs i variables choices atoms past are missing =
      subst (λ (ts : List Tick). AreMissing s formula variable_count ts variables atoms)
      (ap (map (λ (x : Choice). x.tick)) (take_all i xs past) ∙ sym (ticks-map xs) ∙ ap ticks_in are) missing
