-- Instances with variables: binding one, and filling all.
use Rattle.std.specs.Prelude.{◌≡◌, ◌<◌, ◌≤◌, ◌+◌, ◌-◌, ℕ, List, [], ◌∷◌, length, map, take, All, slice_index, slice_index_or}
use Rattle.std.proofs.Common.{◌⊎◌, ◌∙◌, zero, suc, refl, sym, ap, subst, inl, inr, get_or, arith}
use Rattle.std.proofs.lemmas.List.{get_or-map, get_or-take, get_or_default, length-map, length-take, same_lists}
use Rattle.std.specs.List.{insert, remove}
use Rattle.std.proofs.lemmas.List.Edits.{get_or-insert_at, get_or-remove_above, get_or-remove_below, length-insert, length-remove}
use Rattle.std.proofs.lemmas.List.Elements.{All-append, All-cons, All-head, All-tail, All-map, All-take, All-drop}
use Rattle.px_terms.specs.declared.atom.Atom.{Atom}
use Rattle.px_terms.specs.declared.instance.OpInst.{OpInst}
use Rattle.px_terms.specs.declared.problem.Problem.{Problem}
use Rattle.px_terms.specs.declared.term.Term.{Term}
use Rattle.px_terms.specs.declared.term.Term.TheVariants.{Obj, Var, Any}
use Rattle.px_terms.specs.Language.{IsPlainBelow, IsVariableBelow, substitute, object_of}
use Rattle.px_terms.specs.Operators.{schema_of, precondition}
use Rattle.px_terms.specs.Substitution.{substitute_atom, substitute_instance}
use Rattle.px_terms.specs.Validity.{IsAtomOf, IsValid, IsSchemaWellFormed, IsTermOf, IsInstanceOf}
use Rattle.px_terms.specs.ValidityLaws.{well_formed_schema}
use Rattle.px_proof.specs.Literals.{positive_of}
use Rattle.px_question.specs.Answers.{literals_of, object_terms}
use Rattle.px_entries.specs.Instances.{Fills, IsPartialInstance, IsRenamed, StandsFor}
use Rattle.px_entries.specs.declared.partial.PartialInstance.{PartialInstance}
use Rattle.px_gaps.proofs.Substituting.{atom_in}

-- ---- lists

-- two maps are one where they are at each element
same_maps : {X Y Z : Type 0} (f : Y → Z) (g : X → Y) (h : X → Z) (P : X → Type 0) → ((x : X) → P x → f (g x) ≡ h x) → (xs : List X)
    → All P xs → map f (map g xs) ≡ map h xs
same_maps f g h P same [] all = refl
same_maps f g h P same (x ∷ xs) all = λ i. same x (All-head P x xs all) i ∷ same_maps f g h P same xs (All-tail P x xs all) i

same_both : {X Y V Z : Type 0} (f : Y → Z) (g : X → Y) (h : V → Z) (k : X → V) (P : X → Type 0) → ((x : X) → P x → f (g x) ≡ h (k x))
    → (xs : List X) → All P xs → map f (map g xs) ≡ map h (map k xs)
same_both f g h k P same [] all = refl
same_both f g h k P same (x ∷ xs) all = λ i. same x (All-head P x xs all) i ∷ same_both f g h k P same xs (All-tail P x xs all) i

-- a list into which an element is put, without it
removed_again : {X : Type 0} (xs : List X) (i : ℕ) (x : X) → i ≤ length xs → remove (insert xs i x) i ≡ xs
removed_again xs zero x within = refl
removed_again [] (suc i) x within = absurd (omega (arith, within))
removed_again (y ∷ xs) (suc i) x within = ap (λ l. y ∷ l) (removed_again xs i x (omega (arith, within)))

-- ---- objects for variables

pub object_at : (objects : List ℕ) (k : ℕ) → k < length objects → slice_index_or (object_terms objects) k Any ≡ Obj (get_or objects k 0)
object_at objects k below = get_or-map (λ n. Obj n) objects k 0 Any below

-- a term over objects and `variable_count` variables is an object where objects stand for the variables
pub term_under : (problem : Problem) (variable_count : ℕ) (objects : List ℕ) → length objects ≡ variable_count → All (λ n. n < problem.objects) objects
    → (t : Term) → IsTermOf problem variable_count t → IsTermOf problem 0 (substitute (object_terms objects) t)
term_under problem variable_count objects count below (Obj n) of = of
term_under problem variable_count objects count below (Var v) of =
    subst (IsTermOf problem 0) (sym (object_at objects v (omega (arith, of, count)))) (below v 0 (omega (arith, of, count)))
term_under problem variable_count objects count below Any of = absurd of

closed_term : (problem : Problem) (t : Term) → IsTermOf problem 0 t → substitute [] t ≡ t
closed_term problem (Obj n) of = refl
closed_term problem (Var v) of = absurd (omega (arith, of))
closed_term problem Any of = absurd of

-- what fills a partial instance is an entry
pub fills-instance : (problem : Problem) (partial : PartialInstance) (full : OpInst) (objects : List ℕ) → IsPartialInstance problem partial
    → Fills problem partial full objects → IsInstanceOf problem full
fills-instance problem partial full objects form fills = subst (IsInstanceOf problem) fills.same (record {
  op = form.op;
  count = length-map partial.inst.args (substitute (object_terms objects)) ∙ form.count;
  objects =
      All-map (IsTermOf problem 0) (substitute (object_terms objects)) partial.inst.args
      (λ k d below. term_under problem partial.variable_count objects fills.count fills.below _ (form.terms k d below));
})

-- ---- what it needs

-- what a partial instance needs, under the objects, is what the full one needs
module _ (problem : Problem) (valid : IsValid problem) (partial : PartialInstance) (form : IsPartialInstance problem partial)
    (objects : List ℕ) (count : length objects ≡ partial.variable_count) (below : All (λ n. n < problem.objects) objects) where
  same_terms : (t : Term) → IsPlainBelow (length partial.inst.args) t
      → substitute (object_terms objects) (substitute partial.inst.args t)
      ≡ substitute [] (substitute (map (substitute (object_terms objects)) partial.inst.args) t)
  same_terms (Obj n) plain = refl
  same_terms (Var v) plain =
      let there = get_or-map (substitute (object_terms objects)) partial.inst.args v Any Any plain in
      sym (ap (substitute []) there ∙ closed_term problem _
      (term_under problem partial.variable_count objects count below _ (form.terms v Any plain)))
  same_terms Any plain = absurd plain

  same_literal : (atom : Atom) → All (IsPlainBelow (length partial.inst.args)) atom.args
      → positive_of (substitute_atom (object_terms objects) (substitute_atom partial.inst.args atom))
      ≡ positive_of (substitute_atom [] (substitute_atom (map (substitute (object_terms objects)) partial.inst.args) atom))
  same_literal atom plain = ap (λ (l : List Term). positive_of (record { pred = atom.pred; args = l }))
      (same_both (substitute (object_terms objects)) (substitute partial.inst.args) (substitute [])
      (substitute (map (substitute (object_terms objects)) partial.inst.args))
      (IsPlainBelow (length partial.inst.args)) same_terms atom.args plain)

  pub same_needs : literals_of (precondition problem partial.inst) objects
      ≡ literals_of (precondition problem (substitute_instance (object_terms objects) partial.inst)) []
  same_needs =
      let schema : IsSchemaWellFormed (schema_of problem partial.inst) =
      well_formed_schema problem partial.inst.op (schema_of problem partial.inst) (valid.schemas partial.inst.op form.op) in
      same_both (λ (atom : Atom). positive_of (substitute_atom (object_terms objects) atom)) (substitute_atom partial.inst.args)
      (λ (atom : Atom). positive_of (substitute_atom [] atom))
      (substitute_atom (map (substitute (object_terms objects)) partial.inst.args))
      (λ (atom : Atom). All (IsPlainBelow (length partial.inst.args)) atom.args) same_literal (schema_of problem partial.inst).pre
      (subst (λ (n : ℕ). All (λ (atom : Atom). All (IsPlainBelow n) atom.args) (schema_of problem partial.inst).pre)
      (sym form.count) schema.pre)

-- what a partial instance needs are atoms of the problem over its variables
pub needs-are : (problem : Problem) (partial : PartialInstance) → IsValid problem → IsPartialInstance problem partial
    → All (IsAtomOf problem partial.variable_count) (precondition problem partial.inst)
needs-are problem partial valid form =
    let pre : All (IsAtomOf problem (length partial.inst.args)) (schema_of problem partial.inst).pre =
    subst (λ (n : ℕ). All (IsAtomOf problem n) (schema_of problem partial.inst).pre) (sym form.count)
    (valid.schemas partial.inst.op form.op).pre in
    All-map (IsAtomOf problem partial.variable_count) (substitute_atom partial.inst.args) (schema_of problem partial.inst).pre
    (λ k d below. atom_in problem partial.variable_count partial.inst.args form.terms _ (pre k d below))

-- a partial instance without variables stands for itself alone
pub stands-closed : (problem : Problem) (partial : PartialInstance) (full : OpInst) → IsPartialInstance problem partial → partial.variable_count ≡ 0
    → StandsFor problem partial full → partial.inst ≡ full
stands-closed problem partial full form none stands = (λ i. record { op = partial.inst.op; args = closed_args i }) ∙ stands.1.same
  where
    closed_at : (t : Term) → IsTermOf problem partial.variable_count t → t ≡ substitute (object_terms stands.0) t
    closed_at (Obj n) of = refl
    closed_at (Var v) of = absurd (omega (arith, of, none))
    closed_at Any of = absurd of

    closed_all : (ts : List Term) → All (IsTermOf problem partial.variable_count) ts → ts ≡ map (substitute (object_terms stands.0)) ts
    closed_all [] all = refl
    closed_all (t ∷ ts) all =
        λ i. closed_at t (All-head (IsTermOf problem partial.variable_count) t ts all) i
        ∷ closed_all ts (All-tail (IsTermOf problem partial.variable_count) t ts all) i

    closed_args : partial.inst.args ≡ map (substitute (object_terms stands.0)) partial.inst.args
    closed_args = closed_all partial.inst.args form.terms

-- ---- an object for one variable

three_ways : (k v : ℕ) → (k < v) ⊎ ((k ≡ v) ⊎ (v < k))
three_ways k v = grind arith

module _ (partial next : PartialInstance) (terms : List Term) (variable object : ℕ)
    (inst : next.inst ≡ substitute_instance terms partial.inst) (variable_count : next.variable_count + 1 ≡ partial.variable_count) (within : variable < partial.variable_count)
    (are : (k : ℕ) → k < partial.variable_count → IsRenamed variable object k (slice_index_or terms k Any)) where
  renamed_of : (problem : Problem) → object < problem.objects → (t : Term) → IsTermOf problem partial.variable_count t
      → IsTermOf problem next.variable_count (substitute terms t)
  renamed_of problem is_object (Obj n) of = of
  renamed_of problem is_object (Var k) of = elim (three_ways k variable) [
    | inl lower ↦ subst (IsTermOf problem next.variable_count) (sym ((are k of).below lower)) (omega (arith, lower, within, variable_count))
    | inr rest ↦ elim rest [
      | inl same ↦ subst (IsTermOf problem next.variable_count) (sym ((are k of).here same)) is_object
      | inr higher ↦ subst (IsTermOf problem next.variable_count) (sym ((are k of).above higher)) (omega (arith, of, higher, variable_count))
    ]
  ]
  renamed_of problem is_object Any of = absurd of

  pub bound-form : (problem : Problem) → IsPartialInstance problem partial → object < problem.objects → IsPartialInstance problem next
  bound-form problem form is_object =
      let args : next.inst.args ≡ map (substitute terms) partial.inst.args = ap (λ (i : OpInst). i.args) inst in
      let op : next.inst.op ≡ partial.inst.op = ap (λ (i : OpInst). i.op) inst in
      record {
        op = subst (λ (n : ℕ). n < length problem.schemas) (sym op) form.op;
        count =
            ap length args ∙ length-map partial.inst.args (substitute terms) ∙ form.count
            ∙ ap (λ (i : OpInst). (schema_of problem i).params) (sym inst);
        terms =
            subst (All (IsTermOf problem next.variable_count)) (sym args)
            (All-map (IsTermOf problem next.variable_count) (substitute terms) partial.inst.args
            (λ k d below. renamed_of problem is_object _ (form.terms k d below)));
        few = omega (arith, form.few, variable_count);
        objects = λ some. omega (arith, is_object);
      }

  module _ (objects : List ℕ) (count : length objects ≡ partial.variable_count) (is : slice_index objects variable ≡ object) where
    shorter : length (remove objects variable) + 1 ≡ length objects
    shorter = length-remove objects variable (omega (arith, within, count))

    renamed_under : (k : ℕ) → k < partial.variable_count
        → substitute (object_terms (remove objects variable)) (slice_index_or terms k Any) ≡ slice_index_or (object_terms objects) k Any
    renamed_under k below = elim (three_ways k variable) [
      | inl lower ↦
          ap (substitute (object_terms (remove objects variable))) ((are k below).below lower)
          ∙ object_at (remove objects variable) k (omega (arith, lower, within, count, shorter))
          ∙ ap (λ n. Obj n) (get_or-remove_below objects variable 0 k lower (omega (arith, within, count)))
          ∙ sym (object_at objects k (omega (arith, below, count)))
      | inr rest ↦ elim rest [
        | inl same ↦
            ap (substitute (object_terms (remove objects variable))) ((are k below).here same)
            ∙ ap (λ n. Obj n) (sym is ∙ ap (λ n. get_or objects n 0) (sym same))
            ∙ sym (object_at objects k (omega (arith, below, count)))
        | inr higher ↦
            let up : k - 1 + 1 ≡ k = omega (arith, higher) in
            ap (substitute (object_terms (remove objects variable))) ((are k below).above higher)
            ∙ object_at (remove objects variable) (k - 1) (omega (arith, higher, below, count, shorter))
            ∙ ap (λ n. Obj n) (get_or-remove_above objects variable 0 (k - 1) (omega (arith, higher)) (omega (arith, within, count))
            ∙ ap (λ n. get_or objects n 0) up)
            ∙ sym (object_at objects k (omega (arith, below, count)))
      ]
    ]

    under_bound : (t : Term) → IsVariableBelow partial.variable_count t
        → substitute (object_terms (remove objects variable)) (substitute terms t) ≡ substitute (object_terms objects) t
    under_bound (Obj n) of = refl
    under_bound (Var k) of = renamed_under k of
    under_bound Any of = refl

  pub bound-fills : All (IsVariableBelow partial.variable_count) partial.inst.args → (problem : Problem) (full : OpInst) (objects : List ℕ)
      → Fills problem partial full objects → slice_index objects variable ≡ object → StandsFor problem next full
  bound-fills variables problem full objects fills is = (
    remove objects variable,
    record {
      count = omega (arith, shorter objects fills.count is, fills.count, variable_count);
      below =
          All-append (λ n. n < problem.objects) _ _ (All-take (λ n. n < problem.objects) variable objects fills.below)
          (All-drop (λ n. n < problem.objects) (suc variable) objects fills.below);
      same =
          ap (substitute_instance (object_terms (remove objects variable))) inst
          ∙ ap (λ (l : List Term). record { op = partial.inst.op; args = l })
          (same_maps (substitute (object_terms (remove objects variable))) (substitute terms) (substitute (object_terms objects))
          (IsVariableBelow partial.variable_count) (under_bound objects fills.count is) partial.inst.args variables)
          ∙ fills.same;
    },
  )

  -- what fills the next one fills this one with the object at the place of the variable
  pub bound-only : All (IsVariableBelow partial.variable_count) partial.inst.args → (problem : Problem) (full : OpInst) (objects : List ℕ)
      → object < problem.objects → Fills problem next full objects
      → Fills problem partial full (insert objects variable object) × (slice_index (insert objects variable object) variable ≡ object)
  bound-only variables problem full objects is_object fills =
      let within_objects : variable ≤ length objects = omega (arith, within, variable_count, fills.count) in
      let whole : length (insert objects variable object) ≡ partial.variable_count =
      omega (arith, length-insert objects variable object within_objects, variable_count, fills.count) in
      let here : slice_index (insert objects variable object) variable ≡ object =
      get_or-insert_at objects variable object 0 within_objects in
      let under : map (substitute (object_terms (remove (insert objects variable object) variable)))
      (map (substitute terms) partial.inst.args) ≡ map (substitute (object_terms (insert objects variable object))) partial.inst.args
      = same_maps (substitute (object_terms (remove (insert objects variable object) variable))) (substitute terms)
      (substitute (object_terms (insert objects variable object))) (IsVariableBelow partial.variable_count)
      (under_bound (insert objects variable object) whole here) partial.inst.args variables in (
        record {
          count = whole;
          below = All-append (λ n. n < problem.objects) _ _ (All-take (λ n. n < problem.objects) variable objects fills.below)
              (All-cons (λ n. n < problem.objects) object _ is_object (All-drop (λ n. n < problem.objects) variable objects fills.below));
          same =
              ap (λ (l : List Term). record { op = partial.inst.op; args = l }) (sym under)
              ∙ ap (substitute_instance (object_terms (remove (insert objects variable object) variable))) (sym inst)
              ∙ ap (λ (l : List ℕ). substitute_instance (object_terms l) next.inst) (removed_again objects variable object within_objects)
              ∙ fills.same;
        },
        here,
      )

-- ---- all arguments variables

abbrev pub eight : List Term
eight = Var 0 ∷ Var 1 ∷ Var 2 ∷ Var 3 ∷ Var 4 ∷ Var 5 ∷ Var 6 ∷ Var 7 ∷ []

variable_at : (k : ℕ) (d : Term) → k < 8 → get_or eight k d ≡ Var k
variable_at zero d below = refl
variable_at (suc zero) d below = refl
variable_at (suc (suc zero)) d below = refl
variable_at (suc (suc (suc zero))) d below = refl
variable_at (suc (suc (suc (suc zero)))) d below = refl
variable_at (suc (suc (suc (suc (suc zero))))) d below = refl
variable_at (suc (suc (suc (suc (suc (suc zero)))))) d below = refl
variable_at (suc (suc (suc (suc (suc (suc (suc zero))))))) d below = refl
variable_at (suc (suc (suc (suc (suc (suc (suc (suc k)))))))) d below = absurd (omega (arith, below))

object_below : (problem : Problem) (t : Term) → IsTermOf problem 0 t → object_of t < problem.objects
object_below problem (Obj n) of = of
object_below problem (Var v) of = absurd (omega (arith, of))
object_below problem Any of = absurd of

object_again : (problem : Problem) (t : Term) → IsTermOf problem 0 t → Obj (object_of t) ≡ t
object_again problem (Obj n) of = refl
object_again problem (Var v) of = absurd (omega (arith, of))
object_again problem Any of = absurd of

-- an instance over objects is the partial one with its objects
pub unbound-fills : (problem : Problem) (inst full : OpInst) (params : ℕ) → inst.args ≡ take params eight → params ≤ 8 → full.op ≡ inst.op
    → length full.args ≡ params → All (IsTermOf problem 0) full.args
    → Fills problem (record { inst = inst; variable_count = params }) full (map object_of full.args)
unbound-fills problem inst full params args few op count objects = record {
  count = length-map full.args object_of ∙ count;
  below = All-map (λ n. n < problem.objects) object_of full.args (λ k d below. object_below problem _ (objects k d below));
  same = λ i. record { op = sym op i; args = same_args i };
} where
  size : length (take params eight) ≡ params
  size = omega (arith, length-take params eight, few)

  same_args : map (substitute (object_terms (map object_of full.args))) inst.args ≡ full.args
  same_args = ap (map (substitute (object_terms (map object_of full.args)))) args
      ∙ same_lists (map (substitute (object_terms (map object_of full.args))) (take params eight)) full.args
      (length-map (take params eight) (substitute (object_terms (map object_of full.args))) ∙ size ∙ sym count)
      (λ k d below.
      let within : k < params =
      omega (arith, below, length-map (take params eight) (substitute (object_terms (map object_of full.args))), size) in
      let there : k < length full.args = omega (arith, within, count) in
      get_or-map (substitute (object_terms (map object_of full.args))) (take params eight) k Any d (omega (arith, within, size))
      ∙ ap (substitute (object_terms (map object_of full.args)))
      (get_or-take params eight k Any within ∙ variable_at k Any (omega (arith, within, few)))
      ∙ object_at (map object_of full.args) k (omega (arith, there, length-map full.args object_of))
      ∙ ap (λ n. Obj n) (get_or-map object_of full.args k Any 0 there)
      ∙ object_again problem _ (objects k Any there)
      ∙ get_or_default full.args k Any d there)

-- ---- the operator

-- what a partial instance stands for has its operator
pub stands-op : (problem : Problem) (partial : PartialInstance) (full : OpInst) → StandsFor problem partial full → full.op ≡ partial.inst.op
stands-op problem partial full stands = ap (λ (i : OpInst). i.op) (sym stands.1.same)
