-- The state in which nothing is open gives the first answer.
use Rattle.std.proofs.Common.{◌≡◌, ℕ, ◌+◌, ◌-◌, ◌<◌, ◌≤◌, Bool, false, Option, Some, None, List, [], ◌∷◌, ◌++◌, length, take, drop, map, replicate, slice_get, refl, ap, sym, subst, ◌∙◌, arith}
use Rattle.std.specs.Prelude.{All, reverse}
use Rattle.std.specs.List.{AllByRecursion}
use Rattle.std.proofs.lemmas.List.{length-replicate}
use Rattle.std.proofs.lemmas.List.Elements.{All-take, All-drop}
use Rattle.px_prover.specs.Limits.{most_gap_variables}
use Rattle.px_ops.specs.Models.{IsModel}
use Rattle.px_prover.specs.Building.{AreLeast, IsThere, built, fresh_sum}
use Rattle.px_prover.specs.Standing.{ticks_in, IsProperQuestion, IsSound, IsStanding}
use Rattle.px_prover.proofs.Moves.{standing-sound, ticks-map}
use Rattle.px_proof_state.specs.declared.open.Choice.{Choice}
use Rattle.px_unify.specs.declared.change.Change.{Change}
use Rattle.px_prover.proofs.Built.{built-is}
use Rattle.px_proof.specs.Derivation.{Derivation, Derivations, derivations}
use Rattle.px_base.specs.Answers.{some_same}
use Rattle.px_proof.specs.PlaceLaws.{slice_get-within}
use Rattle.px_proof.specs.Proves.{or_open}
use Rattle.px_proof.specs.Shapes.{ticks_of}
use Rattle.px_proof.specs.declared.shape.Tick.{Tick}
use Rattle.px_proof.specs.declared.shape.Tick.TheVariants.{Fact, Anc, Step, Gap, Open}
use Rattle.px_terms.specs.Language.{object_of}
use Rattle.px_question.specs.Answers.{AtMost, IsFirst, IsList, all_choices_of, literals_of, object_terms}
use Rattle.px_question.specs.Settings.{Setting, proofs_in, setting_of}
use Rattle.px_proof_state.specs.Arena.{goals_at}
use Rattle.px_proof_state.specs.States.{ProofStateValue}
use Rattle.px_terms.specs.Validity.{IsValid, IsAtomOf}
use Rattle.px_terms.specs.declared.atom.Atom.{Atom}
use Rattle.px_terms.specs.declared.clause.Clause.{Clause}
use Rattle.px_terms.specs.declared.problem.Problem.{Problem}
use Rattle.px_terms.specs.declared.term.Term.{Term}
use Rattle.px_terms.specs.declared.term.Term.TheVariants.{Obj, Var, Any}
use Rattle.px_unify.specs.Changes.{variables_of}
use Rattle.px_proof_walk.specs.GapAtoms.{variables_in}
use Rattle.px_terms.specs.Substitution.{variables_from}
use Rattle.px_proof_walk.specs.Pending.{Goal, Closing, Pending, Solves, open_after, closing_at, fresh_of, goals_of, by_fact, by_step, variable_count_of}
use Rattle.px_proof_walk.specs.Possible.{IsClosing, IsFinished, IsPossible}
use Rattle.px_proof_walk.specs.Search.{ComesFirst}
use Rattle.px_proof_walk.specs.Values.{AreValuesOfChanges, value_of}
use Rattle.px_proof_walk.proofs.Answering.{values-solve, zero-below}
use Rattle.px_proof_walk.proofs.Gathering.{AreParted, values-parted}
use Rattle.px_proof_walk.proofs.Lifting.{open_after-step}
use Rattle.px_proof_walk.proofs.Lists.{list-solved}
use Rattle.px_proof_walk.proofs.Outcomes.{first-is}
use Rattle.px_proof_walk.proofs.Partial.{closed-proves-each}
use Rattle.px_proof_walk.proofs.Questions.{formula-in, setting_of-is}
use Rattle.px_proof_walk.proofs.Values.{values-least, zero_at}

-- a valid problem, a formula of it and a model are as the walk asks
pub asked-of : (problem : Problem) (atoms formula : List Atom) (variable_count : ℕ) → IsValid problem → IsModel atoms
    → All (IsAtomOf problem variable_count) formula → variable_count ≤ most_gap_variables → (0 < variable_count → 0 < problem.objects)
    → IsProperQuestion (setting_of problem atoms) formula variable_count
asked-of problem atoms formula variable_count valid model scope few some = record {
  setting = setting_of-is problem atoms valid model;
  scope = formula-in problem variable_count formula scope;
  some_object = some;
  clauses = λ k d within. (valid.axioms k d within).variable_count;
  ascending = model.ascending;
  short = omega (arith, model.short);
  few_variables = few;
  few_ticks = valid.shapes.1;
}

module _ (loose : Bool) (s : Setting) where
  -- each tick brings its variables
  pub variables-sum : (ticks : List Tick) (n : ℕ) (goals : List Goal) (p : Pending) → open_after loose s n goals ticks ≡ Some p
      → p.variables ≡ n + fresh_sum s ticks
  variables-sum [] n goals p ends = let e : n ≡ p.variables = ap (λ (q : Pending). q.variables) (some_same ends) in omega (arith, e)
  variables-sum (tick ∷ ticks) n [] p ends = absurd (cc)
  variables-sum (tick ∷ ticks) n (goal ∷ goals) p ends =
      go (closing_at loose s n goal tick) refl (λ closing. variables-sum ticks (n + fresh_of s tick) (closing.parts ++ goals) p)
    where
      go : (o : Option Closing) → closing_at loose s n goal tick ≡ o
          → ((closing : Closing) → open_after loose s (n + fresh_of s tick) (closing.parts ++ goals) ticks ≡ Some p
          → p.variables ≡ n + fresh_of s tick + fresh_sum s ticks) → p.variables ≡ n + (fresh_of s tick + fresh_sum s ticks)
      go None is later = absurd (let none = rw is at ends in cc)
      go (Some closing) is later = omega (arith, later closing (sym (open_after-step loose s n goal goals tick ticks closing is) ∙ ends))

module _ (s : Setting) where
  fact-there : (i : ℕ) (o : Option Atom) (closing : Closing) → slice_get s.facts i ≡ o → by_fact o ≡ Some closing → i < length s.facts
  fact-there i None closing at is = absurd (cc)
  fact-there i (Some a) closing at is = slice_get-within s.facts i a at

  step-there : (goal : Goal) (theta : List Term) (number place : ℕ) (o : Option Clause) (closing : Closing) → slice_get s.axioms number ≡ o
      → by_step goal theta place o ≡ Some closing → number < length s.axioms
  step-there goal theta number place None closing at is = absurd (cc)
  step-there goal theta number place (Some clause) closing at is = slice_get-within s.axioms number clause at

  tick-there : (n : ℕ) (goal : Goal) (tick : Tick) (closing : Closing) → IsClosing tick → closing_at false s n goal tick ≡ Some closing
      → IsThere s tick
  tick-there n goal (Fact i) closing closes is = fact-there i (slice_get s.facts i) closing refl is
  tick-there n goal (Anc i) closing closes is = tt
  tick-there n goal (Step number place) closing closes is =
      step-there goal (variables_from n (variable_count_of (slice_get s.axioms number))) number place (slice_get s.axioms number) closing refl is
  tick-there n goal Gap closing closes is = absurd (cc)
  tick-there n goal Open closing closes is = closes

  -- the facts and axioms of the ticks are there
  pub ticks-there : (ticks : List Tick) (n : ℕ) (goals : List Goal) (p : Pending) → AllByRecursion IsClosing ticks
      → open_after false s n goals ticks ≡ Some p → AllByRecursion (IsThere s) ticks
  ticks-there [] n goals p closing ends = tt
  ticks-there (tick ∷ ticks) n [] p closing ends = absurd (cc)
  ticks-there (tick ∷ ticks) n (goal ∷ goals) p closing ends =
      go (closing_at false s n goal tick) refl (λ made. ticks-there ticks (n + fresh_of s tick) (made.parts ++ goals) p closing.1)
    where
      go : (o : Option Closing) → closing_at false s n goal tick ≡ o
          → ((made : Closing) → open_after false s (n + fresh_of s tick) (made.parts ++ goals) ticks ≡ Some p
          → AllByRecursion (IsThere s) ticks) → IsThere s tick × AllByRecursion (IsThere s) ticks
      go None is later = absurd (let none = rw is at ends in cc)
      go (Some made) is later =
          (tick-there n goal tick made closing.0 is, later made (sym (open_after-step false s n goal goals tick ticks made is) ∙ ends))

-- what a variable that may be any object gets is object 0
zero-of : (n : ℕ) (root : Term) → object_of root ≡ value_of (replicate n 0) root
zero-of n (Obj k) = refl
zero-of n (Var w) = sym (zero_at n w)
zero-of n Any = refl

module _ (s : Setting) (formula : List Atom) (variable_count : ℕ) (ticks : List Tick) (v : ProofStateValue) (asked : IsProperQuestion s formula variable_count)
    (sound : IsSound false s formula variable_count ticks v) where
  pub sum-is : variables_of v.changes ≡ variable_count + fresh_sum s ticks
  sum-is =
      variables-sum false s ticks variable_count (goals_of s formula)
      (record { variables = variables_of v.changes; goals = goals_at v.goals v.first }) sound.stands.pending

  pub all-there : AllByRecursion (IsThere s) ticks
  all-there =
      ticks-there s ticks variable_count (goals_of s formula)
      (record { variables = variables_of v.changes; goals = goals_at v.goals v.first }) sound.closing sound.stands.pending

  module _ (first : ComesFirst (IsPossible false s formula variable_count) (IsFinished false s formula variable_count) s.limit ticks) (objects : List ℕ)
      (least : AreLeast v.changes objects) where
    values : AreValuesOfChanges v.changes (replicate (variables_of v.changes) 0) objects
    values =
        record {
          count = least.long;
          each = λ k within. let at = least.each k within in
              (at.root, at.same, at.is_root, at.object_is ∙ zero-of (variables_of v.changes) at.root);
        }

    count : variables_of v.changes ≡ variables_in (open_after false s variable_count (goals_of s formula) ticks)
    count = sym (ap variables_in sound.stands.pending)

    solved : All (λ n. n < s.objects) objects × Solves false s (object_terms objects) variable_count (goals_of s formula) ticks
        × (length objects ≡ variables_in (open_after false s variable_count (goals_of s formula) ticks))
    solved =
        values-solve false s formula variable_count ticks first.possible v.changes sound.stands.matched sound.solvable count
        (replicate (variables_of v.changes) 0) objects (length-replicate (variables_of v.changes) 0)
        (zero-below false s formula variable_count ticks first.possible v.changes sound.stands.matched sound.solvable count (variables_of v.changes))
        values

    parted : AreParted false s formula variable_count ticks objects
    parted = values-parted false s formula variable_count ticks objects first.possible first.finished solved.2

    found : (ps : Derivations) × IsList (or_open (proofs_in s)) s formula variable_count (take variable_count objects) ps × (ticks_of ps ≡ ticks)
        × (all_choices_of ps ≡ drop variable_count objects)
    found =
        list-solved false s asked.setting formula variable_count asked.scope ticks (take variable_count objects) (drop variable_count objects) parted.count
        (All-take (λ n. n < s.objects) variable_count objects solved.0) (All-drop (λ n. n < s.objects) variable_count objects solved.0) parted.ends
        (subst (λ (os : List ℕ). Solves false s (object_terms os) variable_count (goals_of s formula) ticks) parted.whole solved.1)

    finished : IsList (proofs_in s) s formula variable_count (take variable_count objects) found.0
    finished = record {
      count = found.1.count;
      below = found.1.below;
      proved =
          closed-proves-each (proofs_in s) s.axioms [] (literals_of formula (take variable_count objects)) found.0
          (rw found.2 sound.closing) found.1.proved;
      low = found.1.low;
    }

    all_objects : take variable_count objects ++ all_choices_of found.0 ≡ objects
    all_objects = ap (λ ns. take variable_count objects ++ ns) found.3 ∙ sym parted.whole

    rest : drop (length objects - fresh_sum s ticks) objects ≡ drop variable_count objects
    rest = ap (λ n. drop n objects) (omega (arith, least.long, sum-is))

    made : derivations (built s ticks (drop (length objects - fresh_sum s ticks) objects)) ≡ found.0
    made =
        ap (λ ns. derivations (built s ticks ns)) (rest ∙ sym found.3)
        ∙ ap (λ ts. derivations (built s ts (all_choices_of found.0))) (sym found.2)
        ∙ built-is s (literals_of formula (take variable_count objects)) found.0 finished.proved

    -- the answer is the first one
    pub answer-first : (answered : List ℕ) (proofs : List Derivation) → answered ≡ take variable_count objects
        → proofs ≡ built s ticks (drop (length objects - fresh_sum s ticks) objects) → IsFirst s formula variable_count answered (derivations proofs)
    answer-first answered proofs objects_are proofs_are =
        rw (objects_are, proofs_are, made)
        (first-is s asked.setting formula variable_count asked.scope ticks (take variable_count objects) found.0 first finished found.2
        (λ others solves long. subst (λ (ns : List ℕ). AtMost ns others) (sym all_objects)
        (values-least v.changes (variables_of v.changes) objects others values (long ∙ ap length all_objects)
        ((sound.stands.matched (object_terms others)).1 solves))))

-- the same of the state itself
module _ (loose : Bool) (s : Setting) (formula : List Atom) (variable_count : ℕ) (v : ProofStateValue) (strict : loose ≡ false)
    (standing : IsStanding loose s formula variable_count v) (choices : List Choice) (are : reverse choices ≡ v.choices) where
  ticks-same : ticks_in v.choices ≡ map (λ (c : Choice). c.tick) choices
  ticks-same = ap ticks_in (sym are) ∙ ticks-map choices

  sound : IsSound false s formula variable_count (map (λ (c : Choice). c.tick) choices) v
  sound =
      subst (λ (ts : List Tick). IsSound false s formula variable_count ts v) ticks-same
      (subst (λ (b : Bool). IsSound b s formula variable_count (ticks_in v.choices) v) strict (standing-sound loose s formula variable_count v standing))

  pub given-there : AllByRecursion (IsThere s) (map (λ (c : Choice). c.tick) choices)
  given-there = all-there s formula variable_count (map (λ (c : Choice). c.tick) choices) v standing.asked sound

  pub given-room : (changes : List Change) (objects listed : List ℕ) → changes ≡ v.changes → AreLeast changes objects → listed ≡ objects
      → fresh_sum s (map (λ (c : Choice). c.tick) choices) ≤ length listed
  given-room changes objects listed changes_are least listed_are =
      let long : length objects ≡ variables_of v.changes = least.long ∙ ap variables_of changes_are in
      omega (arith, long, ap length listed_are, sum-is s formula variable_count (map (λ (c : Choice). c.tick) choices) v standing.asked sound)

  pub given-first : (limit : ℕ) → limit ≡ s.limit
      → ComesFirst (IsPossible loose s formula variable_count) (IsFinished loose s formula variable_count) limit (ticks_in v.choices)
      → (changes : List Change) (objects listed : List ℕ) → changes ≡ v.changes → AreLeast changes objects → listed ≡ objects
      → (answered : List ℕ) (proofs made : List Derivation) → answered ≡ take variable_count objects → proofs ≡ made
      → made ≡ built s (map (λ (c : Choice). c.tick) choices)
      (drop (length listed - fresh_sum s (map (λ (c : Choice). c.tick) choices)) listed)
      → IsFirst s formula variable_count answered (derivations proofs)
  given-first limit limit_is first changes objects listed changes_are least listed_are answered proofs others objects_are proofs_are made_is
      =
      answer-first s formula variable_count (map (λ (c : Choice). c.tick) choices) v standing.asked sound
      (subst (λ (b : Bool). ComesFirst (IsPossible b s formula variable_count) (IsFinished b s formula variable_count) s.limit
      (map (λ (c : Choice). c.tick) choices)) strict
      (subst (λ (ts : List Tick). ComesFirst (IsPossible loose s formula variable_count) (IsFinished loose s formula variable_count) s.limit ts) ticks-same
      (subst (λ (n : ℕ). ComesFirst (IsPossible loose s formula variable_count) (IsFinished loose s formula variable_count) n (ticks_in v.choices)) limit_is
      first)))
      objects (subst (λ (cs : List Change). AreLeast cs objects) changes_are least) answered proofs objects_are
      (proofs_are ∙ made_is ∙ ap (λ ns. built s (map (λ (c : Choice). c.tick) choices)
      (drop (length ns - fresh_sum s (map (λ (c : Choice). c.tick) choices)) ns)) listed_are)
