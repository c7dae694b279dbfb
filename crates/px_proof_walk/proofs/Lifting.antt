-- Closings over variables, under a substitution, are closings on the ground.
use Rattle.std.proofs.Common.{◌≡◌, ℕ, zero, suc, ◌+◌, ◌-◌, ◌<◌, ◌≤◌, Bool, true, false, ◌&&◌, cond, Option, Some, None, List, [], ◌∷◌, ◌++◌, length, map, take, drop, slice_get, slice_index_or, refl, ap, sym, ◌∙◌, arith, length-append, append_assoc}
use Rattle.std.specs.Prelude.{All, IsSomeAnd, nat_eq}
use Rattle.std.specs.List.{AllByRecursion, list_any}
use Rattle.std.proofs.lemmas.List.{length-take-le, map-append, take-append-drop}
use Rattle.std.proofs.lemmas.List.Elements.{All-take, All-drop}
use Rattle.px_terms.specs.Language.{substitute, IsObject}
use Rattle.px_proof.specs.Literals.{substitute_literal}
use Rattle.px_base.specs.Answers.{some_same}
use Rattle.px_proof.specs.SubstitutionLaws.{instance_twice, parts_under}
use Rattle.px_terms.specs.declared.term.Term.{Term}
use Rattle.px_terms.specs.declared.term.Term.TheVariants.{Obj, Var, Any}
use Rattle.px_terms.specs.declared.atom.Atom.{Atom}
use Rattle.px_terms.specs.declared.clause.Lit.{Lit}
use Rattle.px_terms.specs.declared.clause.Clause.{Clause}
use Rattle.px_proof.specs.declared.shape.Tick.{Tick}
use Rattle.px_proof.specs.declared.shape.Tick.TheVariants.{Fact, Anc, Step, Gap, Open}
use Rattle.px_proof.specs.Proves.{instance_of, parts_of}
use Rattle.px_question.specs.Settings.{Setting}
use Rattle.px_question.specs.Answers.{object_terms}
use Rattle.px_terms.specs.Substitution.{variables_from}
use Rattle.px_terms.proofs.VariableLemmas.{length-variables}
use Rattle.px_proof_walk.specs.Pending.{Goal, Closing, Solves, Runs, Pending, open_after, fresh_of, variable_count_of, closing_of, closing_at, by_fact, by_ancestor, by_literal, by_step, has_room, goals_below}
use Rattle.px_proof_walk.specs.Scope.{IsSetting}

abbrev pub goal_under : List Term → Goal → Goal
goal_under tau goal = record { lit = substitute_literal tau goal.lit; path = map (substitute_literal tau) goal.path; budget = goal.budget }

abbrev pub closing_under : List Term → Option Closing → Option Closing
closing_under tau None = None
closing_under tau (Some closing) =
    Some (record { equal_to = substitute_literal tau closing.equal_to; parts = map (goal_under tau) closing.parts })

abbrev mapped : {X Y : Type 0} → (X → Y) → Option X → Option Y
mapped f None = None
mapped f (Some x) = Some (f x)

slice_get-mapped : {X Y : Type 0} (f : X → Y) (xs : List X) (k : ℕ) → slice_get (map f xs) k ≡ mapped f (slice_get xs k)
slice_get-mapped f [] k = refl
slice_get-mapped f (x ∷ xs) zero = refl
slice_get-mapped f (x ∷ xs) (suc k) = slice_get-mapped f xs k

goals_below-under : (tau : List Term) (goal : Goal) (ls : List Lit)
    → map (goal_under tau) (goals_below goal ls) ≡ goals_below (goal_under tau goal) (map (substitute_literal tau) ls)
goals_below-under tau goal [] = refl
goals_below-under tau goal (l ∷ ls) =
    ap (λ gs. goal_under tau (record { lit = l; path = goal.lit ∷ goal.path; budget = goal.budget - 1 }) ∷ gs)
    (goals_below-under tau goal ls)

-- an atom of the model stays as it is
ground_args : (tau : List Term) (ts : List Term) → AllByRecursion IsObject ts → map (substitute tau) ts ≡ ts
ground_args tau [] ground = refl
ground_args tau (Obj o ∷ ts) ground = ap (λ us. Obj o ∷ us) (ground_args tau ts ground.1)
ground_args tau (Var v ∷ ts) ground = absurd ground.0
ground_args tau (Any ∷ ts) ground = absurd ground.0

module _ (loose : Bool) (s : Setting) (valid : IsSetting s) (tau theta : List Term) (goal : Goal) where
  fact_under : (i : ℕ) (at : Option Atom) → slice_get s.facts i ≡ at → by_fact at ≡ closing_under tau (by_fact at)
  fact_under i None e = refl
  fact_under i (Some a) e = let same = ground_args tau a.args (valid.facts i a e) in rw same refl

  ancestor_under : (above : Option Lit) → by_ancestor (mapped (substitute_literal tau) above) ≡ closing_under tau (by_ancestor above)
  ancestor_under None = refl
  ancestor_under (Some above) = refl

  literal_under : (parts : List Lit) (at : Option Lit)
      → by_literal (goal_under tau goal) (map (substitute_literal tau) parts) (mapped (substitute_literal tau) at)
      ≡ closing_under tau (by_literal goal parts at)
  literal_under parts None = refl
  literal_under parts (Some lit) = rw (goals_below-under tau goal parts) refl

  room_under : (b : Bool) (x : Option Closing) (y : Option Closing) → x ≡ closing_under tau y
      → cond b x None ≡ closing_under tau (cond b y None)
  room_under true x y e = e
  room_under false x y e = refl

  step_under : (number place : ℕ) (at : Option Clause) → slice_get s.axioms number ≡ at
      → ((clause : Clause) → at ≡ Some clause → length theta ≡ clause.variable_count)
      → by_step (goal_under tau goal) (map (substitute tau) theta) place at ≡ closing_under tau (by_step goal theta place at)
  step_under number place None e long = refl
  step_under number place (Some clause) e long =
      room_under (has_room goal clause) _ _
      (rw (
        ← parts_under tau theta clause.lits place,
        ← instance_twice tau theta clause.lits,
        slice_get-mapped (substitute_literal tau) (instance_of clause.lits theta) place,
      )
      (literal_under (parts_of clause.lits theta place) (slice_get (instance_of clause.lits theta) place)))

  pub closing-under : (tick : Tick) → length theta ≡ fresh_of s tick
      → closing_of loose s (map (substitute tau) theta) (goal_under tau goal) tick ≡ closing_under tau (closing_of loose s theta goal tick)
  closing-under (Fact i) long = fact_under i (slice_get s.facts i) refl
  closing-under (Anc i) long = rw (slice_get-mapped (substitute_literal tau) goal.path i) (ancestor_under (slice_get goal.path i))
  closing-under (Step number place) long = step_under number place (slice_get s.axioms number) refl (λ clause e. long ∙ ap variable_count_of e)
  closing-under Gap long =
      room_under (loose && goal.lit.positive && list_any (nat_eq goal.lit.atom.pred) s.added) _
      (Some (record { equal_to = goal.lit; parts = [] })) refl
  closing-under Open long = refl

-- the new variables have the objects that follow those of the old ones
term_at_end : (xs : List Term) (y : Term) (zs : List Term) → slice_index_or (xs ++ (y ∷ zs)) (length xs) Any ≡ y
term_at_end [] y zs = refl
term_at_end (x ∷ xs) y zs = term_at_end xs y zs

new_variables : (xs ys zs : List Term) → map (substitute (xs ++ (ys ++ zs))) (variables_from (length xs) (length ys)) ≡ ys
new_variables xs [] zs = refl
new_variables xs (y ∷ ys) zs =
    let here : substitute (xs ++ (y ∷ (ys ++ zs))) (Var (length xs)) ≡ y = term_at_end xs y (ys ++ zs) in
    let longer : length (xs ++ (y ∷ [])) ≡ suc (length xs) = omega (arith, length-append xs (y ∷ [])) in
    let regrouped : (xs ++ (y ∷ [])) ++ (ys ++ zs) ≡ xs ++ (y ∷ (ys ++ zs)) = append_assoc xs (y ∷ []) (ys ++ zs) in
    let later : map (substitute (xs ++ (y ∷ (ys ++ zs)))) (variables_from (suc (length xs)) (length ys)) ≡ ys =
    rw (← longer, ← regrouped) (new_variables (xs ++ (y ∷ [])) ys zs) in
    rw (here, later) refl

pub objects-append : (xs ys : List ℕ) → object_terms (xs ++ ys) ≡ object_terms xs ++ object_terms ys
objects-append [] ys = refl
objects-append (x ∷ xs) ys = ap (λ zs. Obj x ∷ zs) (objects-append xs ys)

pub length-objects : (xs : List ℕ) → length (object_terms xs) ≡ length xs
length-objects [] = refl
length-objects (x ∷ xs) = ap suc (length-objects xs)

new_objects : (old theta rest : List ℕ)
    → map (substitute (object_terms (old ++ (theta ++ rest)))) (variables_from (length old) (length theta)) ≡ object_terms theta
new_objects old theta rest =
    rw (objects-append old (theta ++ rest), objects-append theta rest, ← length-objects old, ← length-objects theta)
    (new_variables (object_terms old) (object_terms theta) (object_terms rest))

module _ (loose : Bool) (s : Setting) (valid : IsSetting s) (old theta rest chosen : List ℕ) (tick : Tick) (goal : Goal)
    (splits : chosen ≡ theta ++ rest) (long : length theta ≡ fresh_of s tick) where
  pub regrouped : (old ++ theta) ++ rest ≡ old ++ chosen
  regrouped = append_assoc old theta rest ∙ ap (λ xs. old ++ xs) (sym splits)

  pub longer : length (old ++ theta) ≡ length old + fresh_of s tick
  longer = length-append old theta ∙ ap (λ k. length old + k) long

  -- the new variables have the objects that are chosen next
  new_theta : map (substitute (object_terms (old ++ chosen))) (variables_from (length old) (fresh_of s tick)) ≡ object_terms theta
  new_theta = rw (splits, ← long) (new_objects old theta rest)

  -- the closing on the ground is the one over variables, under the objects
  pub same_closing : closing_of loose s (object_terms theta) (goal_under (object_terms (old ++ chosen)) goal) tick
      ≡ closing_under (object_terms (old ++ chosen)) (closing_at loose s (length old) goal tick)
  same_closing =
      rw (← new_theta) (closing-under loose s valid (object_terms (old ++ chosen)) (variables_from (length old) (fresh_of s tick)) goal tick
      (length-variables (length old) (fresh_of s tick)))

  module _ (goals : List Goal) (ticks : List Tick) where
    abbrev pub RunsLater : List Goal → Type 0
    RunsLater parts = Runs loose s (map (goal_under (object_terms (old ++ chosen))) (parts ++ goals)) ticks rest

    abbrev pub SolvesLater : List Goal → Type 0
    SolvesLater parts = Solves loose s (object_terms (old ++ chosen)) (length old + fresh_of s tick) (parts ++ goals) ticks

    abbrev pub ClosesOnGround : Option Closing → Type 0
    ClosesOnGround o =
        IsSomeAnd o (λ closing. (substitute_literal (object_terms (old ++ chosen)) goal.lit ≡ closing.equal_to)
        × Runs loose s (closing.parts ++ map (goal_under (object_terms (old ++ chosen))) goals) ticks rest)

    abbrev pub ClosesUnder : Option Closing → Type 0
    ClosesUnder o =
        IsSomeAnd o (λ closing. (substitute_literal (object_terms (old ++ chosen)) goal.lit
        ≡ substitute_literal (object_terms (old ++ chosen)) closing.equal_to) × SolvesLater closing.parts)

    pub up : ((parts : List Goal) → RunsLater parts → SolvesLater parts) → (o : Option Closing)
        → ClosesOnGround (closing_under (object_terms (old ++ chosen)) o) → ClosesUnder o
    up later None closes = closes
    up later (Some closing) closes =
        (closes.0, later closing.parts (rw (map-append (goal_under (object_terms (old ++ chosen))) closing.parts goals) closes.1))

    pub down : (o : Option Closing) → closing_at loose s (length old) goal tick ≡ o
        → ((closing : Closing) → closing_at loose s (length old) goal tick ≡ Some closing → SolvesLater closing.parts
        → RunsLater closing.parts)
        → ClosesUnder o → ClosesOnGround (closing_under (object_terms (old ++ chosen)) o)
    down None is later closes = closes
    down (Some closing) is later closes =
        (closes.0, rw (← map-append (goal_under (object_terms (old ++ chosen))) closing.parts goals) (later closing is closes.1))

pub open_after-step : (loose : Bool) (s : Setting) (n : ℕ) (goal : Goal) (goals : List Goal) (tick : Tick) (ticks : List Tick)
    (closing : Closing) → closing_at loose s n goal tick ≡ Some closing
    → open_after loose s n (goal ∷ goals) (tick ∷ ticks) ≡ open_after loose s (n + fresh_of s tick) (closing.parts ++ goals) ticks
open_after-step loose s n goal goals tick ticks closing is = rw is refl

-- variables are only added
pub variables_grow : (loose : Bool) (s : Setting) (ticks : List Tick) (n : ℕ) (goals : List Goal) (p : Pending)
    → open_after loose s n goals ticks ≡ Some p → n ≤ p.variables
variables_grow loose s [] n goals p ends = rw (← some_same ends) (omega arith)
variables_grow loose s (tick ∷ ticks) n [] p ends = absurd (cc)
variables_grow loose s (tick ∷ ticks) n (goal ∷ goals) p ends =
    go (closing_at loose s n goal tick) refl (λ closing. variables_grow loose s ticks (n + fresh_of s tick) (closing.parts ++ goals) p)
  where
    go : (o : Option Closing) → closing_at loose s n goal tick ≡ o
        → ((closing : Closing) → open_after loose s (n + fresh_of s tick) (closing.parts ++ goals) ticks ≡ Some p
        → n + fresh_of s tick ≤ p.variables) → n ≤ p.variables
    go None is later = absurd (let none = rw is at ends in cc)
    go (Some closing) is later = omega (arith, later closing (sym (open_after-step loose s n goal goals tick ticks closing is) ∙ ends))

module _ (loose : Bool) (s : Setting) (old chosen : List ℕ) (tick : Tick) (goal : Goal) (goals : List Goal) (ticks : List Tick)
    (ends : open_after loose s (length old) (goal ∷ goals) (tick ∷ ticks)
    ≡ Some (record { variables = length old + length chosen; goals = [] })) where
  ends_from : (closing : Closing) → closing_at loose s (length old) goal tick ≡ Some closing
      → open_after loose s (length old + fresh_of s tick) (closing.parts ++ goals) ticks
      ≡ Some (record { variables = length old + length chosen; goals = [] })
  ends_from closing is = sym (open_after-step loose s (length old) goal goals tick ticks closing is) ∙ ends

  -- each new variable has an object
  enough : Solves loose s (object_terms (old ++ chosen)) (length old) (goal ∷ goals) (tick ∷ ticks) → fresh_of s tick ≤ length chosen
  enough solves = go (closing_at loose s (length old) goal tick) refl _ solves
    where
      go : (o : Option Closing) → closing_at loose s (length old) goal tick ≡ o → (P : Closing → Type 0) → IsSomeAnd o P
          → fresh_of s tick ≤ length chosen
      go None is P closes = absurd closes
      go (Some closing) is P closes =
          omega (arith, variables_grow loose s ticks (length old + fresh_of s tick) (closing.parts ++ goals) _ (ends_from closing is))

  -- they are the first that are chosen
  pub first_chosen : Solves loose s (object_terms (old ++ chosen)) (length old) (goal ∷ goals) (tick ∷ ticks)
      → length (take (fresh_of s tick) chosen) ≡ fresh_of s tick
  first_chosen solves = length-take-le (fresh_of s tick) chosen (enough solves)

  pub later_ends : (closing : Closing) → closing_at loose s (length old) goal tick ≡ Some closing → (theta rest : List ℕ)
      → chosen ≡ theta ++ rest → length theta ≡ fresh_of s tick
      → open_after loose s (length (old ++ theta)) (closing.parts ++ goals) ticks
      ≡ Some (record { variables = length (old ++ theta) + length rest; goals = [] })
  later_ends closing is theta rest splits long =
      let longer : length (old ++ theta) ≡ length old + fresh_of s tick = length-append old theta ∙ ap (λ k. length old + k) long in
      let whole : length old + length chosen ≡ length (old ++ theta) + length rest =
      omega (arith, length-append old theta, length-append theta rest, ap length splits) in
      rw (← whole, longer) (ends_from closing is)

module _ (loose : Bool) (s : Setting) (valid : IsSetting s) where
  -- what the ticks do on the ground they do over variables
  pub solves_from_runs : (ticks : List Tick) (old chosen : List ℕ) (goals : List Goal)
      → Runs loose s (map (goal_under (object_terms (old ++ chosen))) goals) ticks chosen
      → Solves loose s (object_terms (old ++ chosen)) (length old) goals ticks
  solves_from_runs [] old chosen goals runs = tt
  solves_from_runs (tick ∷ ticks) old chosen [] runs = absurd runs
  solves_from_runs (tick ∷ ticks) old chosen (goal ∷ goals) (theta, rest, splits, long, below, closes) =
      up loose s valid old theta rest chosen tick goal splits long goals ticks
      (λ parts. rw (
        regrouped loose s valid old theta rest chosen tick goal splits long,
        longer loose s valid old theta rest chosen tick goal splits long,
      ) at
      (solves_from_runs ticks (old ++ theta) rest (parts ++ goals)))
      (closing_at loose s (length old) goal tick)
      (rw (same_closing loose s valid old theta rest chosen tick goal splits long) at closes)

  -- and the other way round, where nothing is left open and each variable has its object
  pub runs_from_solves : (ticks : List Tick) (old chosen : List ℕ) (goals : List Goal) → All (λ o. o < s.objects) chosen
      → open_after loose s (length old) goals ticks ≡ Some (record { variables = length old + length chosen; goals = [] })
      → Solves loose s (object_terms (old ++ chosen)) (length old) goals ticks
      → Runs loose s (map (goal_under (object_terms (old ++ chosen))) goals) ticks chosen
  runs_from_solves [] old [] [] below ends solves = refl
  runs_from_solves [] old (c ∷ chosen) [] below ends solves =
      absurd (let same = ap (λ (p : Pending). p.variables) (some_same ends) in omega (arith, same))
  runs_from_solves [] old chosen (goal ∷ goals) below ends solves =
      absurd (let same = ap (λ (p : Pending). p.goals) (some_same ends) in cc)
  runs_from_solves (tick ∷ ticks) old chosen [] below ends solves = absurd solves
  runs_from_solves (tick ∷ ticks) old chosen (goal ∷ goals) below ends solves =
      let k = fresh_of s tick in
      let long : length (take k chosen) ≡ k = first_chosen loose s old chosen tick goal goals ticks ends solves in
      let splits : chosen ≡ take k chosen ++ drop k chosen = sym (take-append-drop k chosen) in (
        take k chosen,
        drop k chosen,
        splits,
        long,
        All-take (λ o. o < s.objects) k chosen below,
        rw (same_closing loose s valid old (take k chosen) (drop k chosen) chosen tick goal splits long)
            (down loose s valid old (take k chosen) (drop k chosen) chosen tick goal splits long goals ticks
            (closing_at loose s (length old) goal tick) refl
            (λ closing is. rw (
              regrouped loose s valid old (take k chosen) (drop k chosen) chosen tick goal splits long,
              longer loose s valid old (take k chosen) (drop k chosen) chosen tick goal splits long,
            )
            at (runs_from_solves ticks (old ++ take k chosen) (drop k chosen) (closing.parts ++ goals)
            (All-drop (λ o. o < s.objects) k chosen below)
            (later_ends loose s old chosen tick goal goals ticks ends closing is (take k chosen) (drop k chosen) splits long)))
            solves),
      )
