-- Gap lists are what finished lists of ticks give, and each such list comes directly after one that goes on.
use Rattle.std.proofs.Common.{◌≡◌, ◌↔◌, ◌⊎◌, ◌∙◌, ℕ, ◌+◌, ◌<◌, ◌≤◌, Bool, true, Some, List, [], ◌∷◌, ◌++◌, length, map, take, drop, refl, ap, sym, subst, arith, inl, inr, length-append}
use Rattle.std.specs.Prelude.{All, Contains}
use Rattle.std.specs.List.{AllByRecursion}
use Rattle.std.proofs.lemmas.List.{length-take-le, take-append-drop}
use Rattle.std.proofs.lemmas.List.Elements.{All-take, All-drop, All-append}
use Rattle.px_terms.specs.declared.atom.Atom.{Atom}
use Rattle.px_terms.specs.Substitution.{substitute_atom}
use Rattle.px_proof.specs.declared.shape.Tick.{Tick}
use Rattle.px_base.specs.ListLaws.{Contains-none}
use Rattle.px_proof.specs.Derivation.{Derivations, none, also}
use Rattle.px_proof.specs.Proves.{ProvesEach}
use Rattle.px_proof.specs.Shapes.{ticks_of}
use Rattle.px_question.specs.Answers.{IsList, object_terms, all_choices_of}
use Rattle.px_question.specs.Gaps.{IsGapList, all_gaps_of}
use Rattle.px_question.specs.Settings.{Setting, loose_gaps_in}
use Rattle.px_proof_walk.specs.GapAtoms.{gap_atoms, variables_in, Gives}
use Rattle.px_proof_walk.specs.Pending.{Goal, Pending, Solves, goals_of, open_after}
use Rattle.px_proof_walk.specs.Possible.{IsClosing, IsPossible, IsFinished, IsGoingOn, left_of}
use Rattle.px_proof_walk.specs.Scope.{IsAtomIn, IsSetting}
use Rattle.px_proof_walk.proofs.Bridge.{closed-list, finished-ends, finished-opened, finished-possible, choices-of-list}
use Rattle.px_proof_walk.proofs.Gaps.{gaps-are, taken}
use Rattle.px_proof_walk.proofs.Lifting.{variables_grow}
use Rattle.px_proof_walk.proofs.Lists.{list-solved}
use Rattle.px_proof_walk.proofs.Padding.{goes_on}
use Rattle.px_proof_walk.proofs.Starts.{possible-prefix}

no_goals : (p : Pending) → length p.goals ≡ 0 → p ≡ record { variables = p.variables; goals = [] }
no_goals p empty = go p.goals refl empty
  where
    go : (goals : List Goal) → p.goals ≡ goals → length p.goals ≡ 0 → p ≡ record { variables = p.variables; goals = [] }
    go [] is empty = ap (λ gs. record { variables = p.variables; goals = gs }) is
    go (g ∷ goals) is empty = absurd (omega (arith, empty, ap length is))

-- the values of all variables after a finished list are those of the formula's, and then those of the steps'
pub record AreParted (loose : Bool) (s : Setting) (formula : List Atom) (variable_count : ℕ) (ticks : List Tick) (values : List ℕ) : Type 0 where
  pub whole : values ≡ take variable_count values ++ drop variable_count values
  pub count : length (take variable_count values) ≡ variable_count
  pub ends : open_after loose s variable_count (goals_of s formula) ticks
      ≡ Some (record { variables = length (take variable_count values) + length (drop variable_count values); goals = [] })

pub values-parted : (loose : Bool) (s : Setting) (formula : List Atom) (variable_count : ℕ) (ticks : List Tick) (values : List ℕ)
    → IsPossible loose s formula variable_count ticks → IsFinished loose s formula variable_count ticks
    → length values ≡ variables_in (open_after loose s variable_count (goals_of s formula) ticks) → AreParted loose s formula variable_count ticks values
values-parted loose s formula variable_count ticks values possible finished count =
    let p = possible.1.0 in
    let now : open_after loose s variable_count (goals_of s formula) ticks ≡ Some p = possible.1.1 in
    let none_left : length p.goals ≡ 0 = ap left_of (sym now) ∙ finished in
    let long : length values ≡ p.variables = count ∙ ap variables_in now in
    let grown : variable_count ≤ p.variables = variables_grow loose s ticks variable_count (goals_of s formula) p now in
    let whole : values ≡ take variable_count values ++ drop variable_count values = sym (take-append-drop variable_count values) in
    let sum : p.variables ≡ length (take variable_count values) + length (drop variable_count values) =
    sym long ∙ ap length whole ∙ length-append (take variable_count values) (drop variable_count values) in
    record {
      whole = whole;
      count = length-take-le variable_count values (omega (arith, long, grown));
      ends = now ∙ ap (λ q. Some q) (no_goals p none_left) ∙ ap (λ n. Some (record { variables = n; goals = [] })) sum;
    }

module _ (s : Setting) (valid : IsSetting s) (formula : List Atom) (variable_count : ℕ)
    (scoped : AllByRecursion (IsAtomIn s.objects variable_count) formula) where
  -- what a finished list gives is a gap list
  pub gives-list : (ticks : List Tick) (objects : List ℕ) (gaps : List Atom) → Gives s formula variable_count ticks objects gaps
      → IsGapList s formula variable_count objects gaps
  gives-list ticks objects gaps (possible, finished, (values, gives)) =
      let parted = values-parted true s formula variable_count ticks values possible finished gives.count in
      let found = list-solved true s valid formula variable_count scoped ticks (take variable_count values) (drop variable_count values) parted.count
      (All-take (λ o. o < s.objects) variable_count values gives.below) (All-drop (λ o. o < s.objects) variable_count values gives.below) parted.ends
      (subst (λ (os : List ℕ). Solves true s (object_terms os) variable_count (goals_of s formula) ticks) parted.whole gives.solves) in
      let closed : IsList (loose_gaps_in s) s formula variable_count (take variable_count values) found.0 =
      closed-list true s valid formula variable_count scoped (take variable_count values) found.0
      (subst (AllByRecursion IsClosing) (sym found.2) possible.0) found.1 in
      let atoms : all_gaps_of found.0 ≡ map (substitute_atom (object_terms values)) (gap_atoms true s variable_count (goals_of s formula) ticks) =
      gaps-are true s valid formula variable_count scoped (take variable_count values) found.0 found.1
      ∙ ap (λ ts. map (substitute_atom (object_terms (take variable_count values ++ all_choices_of found.0)))
      (gap_atoms true s variable_count (goals_of s formula) ts)) found.2
      ∙ ap (λ os. map (substitute_atom (object_terms os)) (gap_atoms true s variable_count (goals_of s formula) ticks))
      (ap (λ os. take variable_count values ++ os) found.3 ∙ sym parted.whole) in (
        found.0,
        subst (λ (os : List ℕ). IsList (loose_gaps_in s) s formula variable_count os found.0) (sym gives.chosen) closed,
        λ atom. subst (λ (closed : List Atom). Contains gaps atom ↔ Contains closed atom) (sym atoms) (gives.same atom),
      )

  -- and each gap list is given by a finished list
  pub list-gives : (objects : List ℕ) (gaps : List Atom) → IsGapList s formula variable_count objects gaps
      → (ticks : List Tick) × Gives s formula variable_count ticks objects gaps
  list-gives objects gaps (ds, is, same) =
      let possible = finished-possible true s valid formula variable_count scoped objects ds is in
      let ends = finished-ends true s valid formula variable_count scoped objects ds is in
      let atoms = gaps-are true s valid formula variable_count scoped objects ds (finished-opened true s valid formula variable_count scoped objects ds is) in (
        ticks_of ds,
        (
          possible.0,
          possible.1,
          (
            objects ++ all_choices_of ds,
            record {
              count = sym (ap variables_in ends);
              below =
                  All-append (λ o. o < s.objects) objects (all_choices_of ds) is.below
                  (choices-of-list true s valid formula variable_count scoped objects ds is);
              solves = possible.2;
              chosen = sym (taken objects (all_choices_of ds) variable_count is.count);
              same = λ atom. subst (λ (closed : List Atom). Contains gaps atom ↔ Contains closed atom) atoms (same atom);
            },
          ),
        ),
      )

  -- a list of ticks is empty, or it has a last one
  abbrev HasLast : List Tick → Type 0
  HasLast ticks = (prefix : List Tick) × (tick : Tick) × (ticks ≡ prefix ++ tick ∷ [])

  last_tick : (ticks : List Tick) → (ticks ≡ []) ⊎ HasLast ticks
  last_tick [] = inl refl
  last_tick (t ∷ ticks) = inr (go (last_tick ticks))
    where
      go : (ticks ≡ []) ⊎ HasLast ticks → HasLast (t ∷ ticks)
      go (inl e) = ([], t, ap (λ ts. t ∷ ts) e)
      go (inr h) = (t ∷ h.0, h.1, ap (λ ts. t ∷ ts) h.2)

  -- a possible list with a last tick comes directly after one that goes on
  pub child-of : (0 < variable_count → 0 < s.objects) → (prefix : List Tick) (tick : Tick) → IsPossible true s formula variable_count (prefix ++ tick ∷ [])
      → IsGoingOn true s formula variable_count prefix
  child-of some prefix tick possible =
      (possible-prefix true s formula variable_count prefix tick [] some possible, goes_on true s formula variable_count prefix tick [] possible)

  -- where the formula has an atom, no list is finished before its first tick
  start-open : 0 < length formula → ¬ IsFinished true s formula variable_count []
  start-open some finished = go formula some finished
    where
      go : (atoms : List Atom) → 0 < length atoms → ¬ (length (goals_of s atoms) ≡ 0)
      go [] some empty = omega (arith, some)
      go (a ∷ atoms) some empty = omega (arith, empty)

  -- where all lists that go on have been seen, each gap list is given by one that comes directly after one of them
  pub all-gathered : (0 < variable_count → 0 < s.objects) → 0 < length formula → (seen : List (List Tick))
      → ((other : List Tick) → IsGoingOn true s formula variable_count other → Contains seen other)
      → (objects : List ℕ) (gaps : List Atom) → IsGapList s formula variable_count objects gaps
      → (prefix : List Tick) × (tick : Tick) × Contains seen prefix × Gives s formula variable_count (prefix ++ tick ∷ []) objects gaps
  all-gathered some has_atom seen covers objects gaps is =
      let found = list-gives objects gaps is in go found.0 found.1 (last_tick found.0)
    where
      go : (ticks : List Tick) → Gives s formula variable_count ticks objects gaps → (ticks ≡ []) ⊎ HasLast ticks
          → (prefix : List Tick) × (tick : Tick) × Contains seen prefix × Gives s formula variable_count (prefix ++ tick ∷ []) objects gaps
      go ticks gives (inl e) = absurd (start-open has_atom (subst (IsFinished true s formula variable_count) e gives.1))
      go ticks gives (inr h) =
          let here : Gives s formula variable_count (h.0 ++ h.1 ∷ []) objects gaps =
          subst (λ (ts : List Tick). Gives s formula variable_count ts objects gaps) h.2 gives in
          (h.0, h.1, covers h.0 (child-of some h.0 h.1 here.0), here)

  -- without atoms, the one list of ticks is empty
  pub none-gathered : length formula ≡ 0 → (objects : List ℕ) (gaps : List Atom) → IsGapList s formula variable_count objects gaps
      ↔ ((length objects ≡ variable_count) × All (λ n. n < s.objects) objects × ((atom : Atom) → ¬ Contains gaps atom))
  none-gathered empty objects gaps = no_atoms formula empty objects gaps
    where
      no_atoms : (formula : List Atom) → length formula ≡ 0 → (objects : List ℕ) (gaps : List Atom) → IsGapList s formula variable_count objects gaps
          ↔ ((length objects ≡ variable_count) × All (λ n. n < s.objects) objects × ((atom : Atom) → ¬ Contains gaps atom))
      no_atoms [] empty objects gaps = (
        λ is. (is.1.count, is.1.below, λ atom has. nothing is.0 is.1.proved atom ((is.2 atom).0 has)),
        λ h. (
          none,
          record { count = h.0; below = h.1; proved = tt; low = omega arith },
          λ atom. (λ has. absurd (h.2 atom has), λ has. absurd (Contains-none atom has)),
        ),
      )
        where
          nothing : (ds : Derivations) → ProvesEach (loose_gaps_in s) s.axioms [] [] ds → (atom : Atom) → ¬ Contains (all_gaps_of ds) atom
          nothing none each atom has = Contains-none atom has
          nothing (also d ds) each atom has = each
      no_atoms (a ∷ atoms) empty objects gaps = absurd (omega (arith, empty))
