-- Where no axiom concludes the predicate of an atom without variables, the atom has a proof exactly where it is a fact, and proving it
-- stays below the limit: the only unfinished list of proofs of it is the one that is all open. An atom with variables has then those
-- instances proved that are facts.
use Rattle.std.proofs.Common.{◌≡◌, ◌∙◌, ◌⊎◌, ◌↔◌, ℕ, zero, suc, ◌+◌, ◌<◌, ◌≤◌, true, List, [], ◌∷◌, length, map, take, slice_get, get_or, refl, ap, sym, subst, inl, inr, arith}
use Rattle.std.specs.Prelude.{All, Contains}
use Rattle.std.proofs.lemmas.List.{length-map}
use Rattle.std.proofs.lemmas.Option.{get_or_from_slice_get}
use Rattle.px_base.specs.ListLaws.{Contains-first, Contains-later}
use Rattle.px_proof.specs.declared.proof.Leaf.{Leaf}
use Rattle.px_proof.specs.declared.shape.Tick.{Tick}
use Rattle.px_proof.specs.declared.shape.Tick.TheVariants.{Open}
use Rattle.px_proof.specs.Derivation.{Derivation, Derivations, fact, ancestor, step, gap, open_place, none, also}
use Rattle.px_proof.specs.Literals.{positive_of, substitute_literal}
use Rattle.px_proof.specs.PlaceLaws.{slice_get-map, slice_get-within}
use Rattle.px_proof.specs.Proves.{Proves, ProvesEach, UsesClause, instance_of, or_open}
use Rattle.px_proof.specs.Shapes.{IsUnfinished, ticks_of}
use Rattle.px_question.specs.Answers.{IsProvable, literals_of, object_terms}
use Rattle.px_question.specs.FewerShapes.{Contains-at, Contains-place, few_firsts}
use Rattle.px_question.specs.Limits.{AreFewShapes, IsPartialShape}
use Rattle.px_question.specs.Settings.{Setting, proofs_in, setting_of}
use Rattle.px_table.specs.KernelLaws.{Contains-from_map}
use Rattle.px_terms.specs.Instances.{IsGround}
use Rattle.px_terms.specs.Language.{substitute, IsObjectBelow, object_of}
use Rattle.px_terms.specs.Substitution.{substitute_atom}
use Rattle.px_terms.specs.Validity.{IsAtomOf, IsTermOf, IsValid}
use Rattle.px_terms.specs.ValidityLaws.{atom_of-is_ground, atom-is_of}
use Rattle.px_terms.specs.declared.atom.Atom.{Atom}
use Rattle.px_terms.specs.declared.clause.Clause.{Clause}
use Rattle.px_terms.specs.declared.clause.Lit.{Lit}
use Rattle.px_terms.specs.declared.problem.Problem.{Problem}
use Rattle.px_terms.specs.declared.term.Term.{Term}
use Rattle.px_terms.specs.declared.term.Term.TheVariants.{Obj, Var, Any as Wild}
use Rattle.px_gaps.specs.Concluding.{Asserts, IsConcluded}
use Rattle.px_gaps.specs.Forms.{IsForm, IsInstanceIn}
use Rattle.px_gaps.specs.Provable.{FindsProvable}
use Rattle.px_gaps.proofs.GapAtoms.{object_terms-are}
use Rattle.px_gaps.proofs.Grows.{grouped, grown, members_next, of-any}

closed-args : (terms ts : List Term) → All (λ t. substitute terms t ≡ t) ts → map (substitute terms) ts ≡ ts
closed-args terms [] same = refl
closed-args terms (t ∷ ts) same =
    let here =
    same 0 t (omega arith) in let rest = closed-args terms ts (λ k d within. same (suc k) d (omega (arith, within))) in λ i. here i ∷ rest i

-- an atom without variables stays as it is
pub ground-same : (terms : List Term) (q : Atom) → IsGround q → substitute_atom terms q ≡ q
ground-same terms q closed =
    let args = closed-args terms q.args (λ k d within. object-same _ (closed k d within)) in λ i. record { pred = q.pred; args = args i }
  where
    object-same : (t : Term) → Rattle.px_terms.specs.Language.IsObject t → substitute terms t ≡ t
    object-same (Obj n) is = refl
    object-same (Var v) is = absurd is
    object-same Wild is = absurd is

module _ (s : Setting) (q : Atom) (free : ¬ IsConcluded s.axioms q.pred) where
  -- no axiom closes a place of the predicate
  pub no-step : (IsChoice : Term → Type 0) (atom : Atom) → atom.pred ≡ q.pred
      → (number : ℕ) (theta : List Term) (place : ℕ) (clause : Clause)
      → ¬ UsesClause IsChoice s.axioms (positive_of atom) number theta place clause
  no-step IsChoice atom same number theta place clause uses =
      let made =
      Contains-from_map (substitute_literal theta) clause.lits (positive_of atom)
      (Contains-at (instance_of clause.lits theta) place (positive_of atom) uses.literal_at) in
      let asserted : made.0.positive ≡ true = ap (λ (l : Lit). l.positive) made.2 in
      let named : made.0.atom.pred ≡ q.pred = ap (λ (l : Lit). l.atom.pred) made.2 ∙ same in
      free (of-any (λ (c : Clause). Asserts q.pred c.lits) s.axioms clause (Contains-at s.axioms number clause uses.axiom_at)
      (of-any (λ (l : Lit). (l.positive ≡ true) × (l.atom.pred ≡ q.pred)) clause.lits made.0 made.1 (asserted, named)))

  -- so a proof of such an atom is a fact
  pub proof-fact : (atom : Atom) → atom.pred ≡ q.pred → (d : Derivation) → Proves (proofs_in s) s.axioms [] (positive_of atom) d
      → Contains s.facts atom
  proof-fact atom same (fact leaf) proves =
      subst (Contains s.facts) (sym (ap (λ (l : Lit). l.atom) proves.0)) (Contains-at s.facts leaf.index leaf.atom proves.1.1)
  proof-fact atom same (ancestor i) proves = absurd (omega (arith, slice_get-within {X = Lit} [] i _ proves))
  proof-fact atom same (step number theta place parts) proves =
      absurd (no-step (IsObjectBelow s.objects) atom same number theta place proves.0 proves.1)
  proof-fact atom same (gap a) proves = absurd proves.1
  proof-fact atom same open_place proves = absurd proves

  list-fact : (objects : List ℕ) (ds : Derivations) → ProvesEach (proofs_in s) s.axioms [] (literals_of (q ∷ []) objects) ds
      → Contains s.facts (substitute_atom (object_terms objects) q)
  list-fact objects none proves = absurd proves
  list-fact objects (also d none) proves = proof-fact (substitute_atom (object_terms objects) q) refl d proves.0
  list-fact objects (also d (also e es)) proves = absurd proves.1

  pub provable-fact : IsGround q → IsProvable s q → Contains s.facts q
  provable-fact closed proved =
      subst (Contains s.facts) (ground-same (object_terms proved.0) q closed) (list-fact proved.0 proved.1 proved.2.proved)

  -- the only unfinished list is the one that is all open
  all-open : (objects : List ℕ) (ds : Derivations) (shape : List Tick)
      → ProvesEach (or_open (proofs_in s)) s.axioms [] (literals_of (q ∷ []) objects) ds → IsUnfinished shape → ticks_of ds ≡ shape
      → Open ∷ [] ≡ shape
  all-open objects none shape proves unfinished is = absurd proves
  all-open objects (also (fact leaf) none) shape proves unfinished is = absurd (subst IsUnfinished (sym is) unfinished)
  all-open objects (also (ancestor i) none) shape proves unfinished is = absurd (omega (arith, slice_get-within {X = Lit} [] i _ proves.0))
  all-open objects (also (step number theta place parts) none) shape proves unfinished is =
      absurd (no-step (IsObjectBelow s.objects) (substitute_atom (object_terms objects) q) refl number theta place proves.0.0 proves.0.1)
  all-open objects (also (gap a) none) shape proves unfinished is = absurd proves.0.1
  all-open objects (also open_place none) shape proves unfinished is = is
  all-open objects (also d (also e es)) shape proves unfinished is = absurd proves.1

  pub few-shapes : 2 ≤ s.limit → AreFewShapes s (q ∷ []) 0
  few-shapes two = record {
    seen = (Open ∷ []) ∷ [];
    fewer = omega (arith, two);
    all = λ shape partly. subst (Contains ((Open ∷ []) ∷ [])) (all-open partly.1.0 partly.1.1 shape partly.1.2.proved partly.0 partly.1.3)
        (Contains-first {X = List Tick} (Open ∷ []) []);
  }

pub fact-provable : (s : Setting) (q : Atom) → 1 ≤ s.height → IsGround q → Contains s.facts q → IsProvable s q
fact-provable s q high closed has =
    let at = Contains-place s.facts q has in
    let leaf : Leaf = record { column = 0; index = at.0; atom = q } in (
      [],
      also (fact leaf) none,
      record {
        count = refl;
        below = λ k d within. absurd (omega (arith, within));
        proved = ((ap positive_of (ground-same [] q closed), (refl, at.1)), tt);
        low = high;
      },
    )

-- ---- the instances of a form

-- objects for the terms of a list of objects
terms-back : (limit : ℕ) (ts : List Term) → All (IsObjectBelow limit) ts → object_terms (map object_of ts) ≡ ts
terms-back limit [] objects = refl
terms-back limit (Obj n ∷ ts) objects =
    let rest = terms-back limit ts (λ k d within. objects (suc k) d (omega (arith, within))) in ap (λ (us : List Term). Obj n ∷ us) rest
terms-back limit (Var v ∷ ts) objects = absurd (objects 0 Wild (omega arith))
terms-back limit (Wild ∷ ts) objects = absurd (objects 0 Wild (omega arith))

back-below : (limit : ℕ) (ts : List Term) → All (IsObjectBelow limit) ts → All (λ n. n < limit) (map object_of ts)
back-below limit [] objects k d within = absurd (omega (arith, within))
back-below limit (Obj n ∷ ts) objects zero d within = objects 0 Wild (omega arith)
back-below limit (Var v ∷ ts) objects zero d within = absurd (objects 0 Wild (omega arith))
back-below limit (Wild ∷ ts) objects zero d within = absurd (objects 0 Wild (omega arith))
back-below limit (t ∷ ts) objects (suc k) d within =
    back-below limit ts (λ j e inside. objects (suc j) e (omega (arith, inside))) k d (omega (arith, within))

same-each : (terms others ts : List Term) → ((t : Term) → Contains ts t → substitute terms t ≡ substitute others t)
    → map (substitute terms) ts ≡ map (substitute others) ts
same-each terms others [] same = refl
same-each terms others (t ∷ ts) same =
    let here = same t (Contains-first t ts) in
    let rest = same-each terms others ts (λ u has. same u (Contains-later t ts u has)) in
    λ i. here i ∷ rest i

module _ (problem : Problem) (form : Atom) (is : IsForm problem form) (q : Atom) where
  pub instance-of_problem : IsInstanceIn problem.objects form q → IsAtomOf problem 0 q
  instance-of_problem instance =
      let long : length (object_terms instance.0) ≡ length form.args = length-map instance.0 (λ n. Obj n) ∙ instance.1.count in
      subst (IsAtomOf problem 0) instance.2 (atom-is_of problem (object_terms instance.0)
      (object_terms-are problem instance.0 instance.1.below) form (subst (λ (n : ℕ). IsAtomOf problem n form) (sym long) is.is_atom))

  -- a fact is an instance where the form becomes it under its own objects
  pub instance-from : length q.args ≡ length form.args → All (IsObjectBelow problem.objects) q.args → substitute_atom q.args form ≡ q
      → IsInstanceIn problem.objects form q
  instance-from long objects same = (
    map object_of q.args,
    record { count = length-map q.args object_of ∙ long; below = back-below problem.objects q.args objects },
    ap (λ (ts : List Term). substitute_atom ts form) (terms-back problem.objects q.args objects) ∙ same,
  )

  module _ (instance : IsInstanceIn problem.objects form q) where
    args-are : map (substitute (object_terms instance.0)) form.args ≡ q.args
    args-are = ap (λ (a : Atom). a.args) instance.2

    pub instance-objects : All (IsObjectBelow problem.objects) q.args
    instance-objects k d within = object _ ((instance-of_problem instance).1 k d within)
      where
        object : (t : Term) → IsTermOf problem 0 t → IsObjectBelow problem.objects t
        object (Obj n) below = below
        object (Var v) below = absurd (omega (arith, below))
        object Wild below = absurd below

    own-term : (t : Term) → Contains form.args t → substitute q.args t ≡ substitute (object_terms instance.0) t
    own-term (Obj n) has = refl
    own-term (Var v) has =
        let there = slice_get-map (substitute (object_terms instance.0)) form.args v (Var v) (is.places v has) in
        get_or_from_slice_get q.args v (substitute (object_terms instance.0) (Var v)) Wild
        (ap (λ (ts : List Term). slice_get ts v) (sym args-are) ∙ there)
    own-term Wild has = refl

    pub instance-own : substitute_atom q.args form ≡ q
    instance-own =
        let args = same-each q.args (object_terms instance.0) form.args own-term in
        let same : substitute_atom q.args form ≡ substitute_atom (object_terms instance.0) form =
        λ i. record { pred = form.pred; args = args i } in
        same ∙ instance.2

-- one more of the facts
pub facts-next : (facts : List Atom) (i : ℕ) (x q : Atom) → i < length facts → x ≡ get_or facts i x → {P Initial Old New : Type 0}
    → Old ↔ (Initial ⊎ (Contains (take i facts) q × P)) → New ↔ (Old ⊎ ((x ≡ q) × P)) → New
    ↔ (Initial ⊎ (Contains (take (i + 1) facts) q × P))
facts-next facts i x q below is old new =
    let members = members_next facts i x q below is in
    grown old new (grouped (
      λ h. elim (members.0 h.0) [ inl before ↦ inl (before, h.1) | inr same ↦ inr (same, h.1) ],
      λ h. elim h [ inl before ↦ (members.1 (inl before.0), before.1) | inr same ↦ (members.1 (inr same.0), same.1) ],
    ))

-- the facts that are instances of the form are what is provable of it
module _ (problem : Problem) (facts : List Atom) (form : Atom) (valid : IsValid problem) (is : IsForm problem form)
    (free : ¬ IsConcluded problem.axioms form.pred) where
  abbrev here : Setting
  here = setting_of problem facts

  closed : (q : Atom) → IsInstanceIn problem.objects form q → IsGround q
  closed q instance = atom_of-is_ground problem q (instance-of_problem problem form is q instance)

  free-of : (q : Atom) → IsInstanceIn problem.objects form q → ¬ IsConcluded problem.axioms q.pred
  free-of q instance concluded = free (subst (IsConcluded problem.axioms) (sym (ap (λ (a : Atom). a.pred) instance.2)) concluded)

  pub facts-found : (old new : List Atom)
      → ((q : Atom) → Contains new q ↔ (Contains old q ⊎ (Contains facts q × IsInstanceIn problem.objects form q)))
      → FindsProvable here (IsInstanceIn problem.objects form) old new
  facts-found old new put = record {
    exact = λ q. (
      λ has. elim ((put q).0 has) [
        | inl before ↦ inl before
        | inr found ↦ inr
            (found.1, fact-provable here q valid.height.0 (closed q found.1) found.0)
      ],
      λ h. (put q).1 (elim h [
        | inl before ↦ inl before
        | inr found ↦ inr
            (provable-fact here q (free-of q found.0) (closed q found.0) found.1, found.0)
      ]),
    );
    unlimited = λ q shapes instance limited.
        few_firsts (IsPartialShape (proofs_in here) here (q ∷ []) 0) (IsPartialShape (proofs_in here) here (q ∷ []) 0) here.limit shapes
        (few-shapes here q (free-of q instance) valid.shapes.0) (λ shape h. h) limited.count limited.kept;
  }
