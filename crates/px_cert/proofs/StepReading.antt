-- A step at the front of bytes, part by part.
use Rattle.std.proofs.Common.{◌≡◌, ◌≤◌, ◌<◌, ◌-◌, ℕ, true, List, [], Option, Some, length, refl, sym, ap, subst, ◌∙◌}
use Rattle.px_terms.specs.declared.clause.Lit.{Lit}
use Rattle.px_terms.specs.declared.term.Term.{Term}
use Rattle.px_proof.specs.declared.proof.Proof.{Proof}
use Rattle.px_proof.specs.declared.proof.Proof.TheViews.{Step}
use Rattle.px_cert.specs.declared.draft.Draft.{Draft}
use Rattle.px_cert.specs.declared.refused.Refused.{Refused}
use Rattle.px_cert.specs.declared.refused.Refused.TheVariants as refused
use Rattle.px_table.specs.Deciding.{clause_at}
use Rattle.px_cert.specs.Limits.{table_variables}
use Rattle.px_cert.specs.Sound.{IsSound}
use Rattle.px_cert.specs.Reading.{◌>>=◌, Parsed, IsRefusal, Reader, many_at, number_at, place_at, proof_at, step_at, step_of_parts, term_at, terms_at}

-- a refusal of the first is one of the whole
pub refused_first : {A B : Type 0} (e : Refused) (o : Option A) (f : A → Option B) → IsRefusal e o → IsRefusal e (o >>= f)
refused_first refused.NoMemory o f fails = tt
refused_first {A = A} refused.Bad o f fails = ap (λ (r : Option A). r >>= f) fails

-- a refusal of what comes after the first
pub refused_later : {A B : Type 0} (e : Refused) (o : Option A) (f : A → Option B) (x : A) → o ≡ Some x → IsRefusal e (f x)
    → IsRefusal e (o >>= f)
refused_later {A = A} e o f x is fails = subst (λ (r : Option A). IsRefusal e (r >>= f)) (sym is) fails

module _ (d : Draft) (levels : ℕ) (bytes : List ℕ) where
  -- what the reader of a step does after each of its parts
  abbrev parts_at : ℕ → List Term → Reader (List Proof)
  parts_at number theta = many_at (proof_at d levels) (length (clause_at d.axioms number).lits - 1)

  abbrev choices_after : ℕ → List Term × List ℕ → Parsed (List Term × List Proof)
  choices_after number x = parts_at number x.0 x.1 >>= λ y. Some ((x.0, y.0), y.1)

  abbrev placed_after : ℕ → ℕ × List ℕ → Parsed (ℕ × (List Term × List Proof))
  placed_after number x =
      (terms_at d (clause_at d.axioms number).variable_count x.1 >>= choices_after number) >>= λ y. Some ((x.0, y.0), y.1)

  abbrev numbered_after : ℕ × List ℕ → Parsed (ℕ × (ℕ × (List Term × List Proof)))
  numbered_after x = (place_at x.1 >>= placed_after x.0) >>= λ y. Some ((x.0, y.0), y.1)

  step_is : step_at d (proof_at d levels) bytes
      ≡ ((number_at (length d.axioms) bytes >>= numbered_after) >>= λ x. Some (step_of_parts x.0, x.1))
  unfolding step_at
  step_is = refl

  module _ (e : Refused) where
    whole_fails : IsRefusal e (number_at (length d.axioms) bytes >>= numbered_after) → IsRefusal e (step_at d (proof_at d levels) bytes)
    whole_fails fails =
        subst (λ (r : Parsed Proof). IsRefusal e r) (sym step_is) (refused_first e (number_at (length d.axioms) bytes >>= numbered_after) _ fails)

    pub number_fails : (count : ℕ) → count ≡ length d.axioms → IsRefusal e (number_at count bytes)
        → IsRefusal e (step_at d (proof_at d levels) bytes)
    number_fails count count_is fails =
        whole_fails (refused_first e (number_at (length d.axioms) bytes) numbered_after
        (subst (λ (k : ℕ). IsRefusal e (number_at k bytes)) count_is fails))

    module _ (count number : ℕ) (left : List ℕ) (count_is : count ≡ length d.axioms) (read : number_at count bytes ≡ Some (number, left)) where
      number_read : number_at (length d.axioms) bytes ≡ Some (number, left)
      number_read = subst (λ (k : ℕ). number_at k bytes ≡ Some (number, left)) count_is read

      after_number : IsRefusal e (place_at left >>= placed_after number) → IsRefusal e (step_at d (proof_at d levels) bytes)
      after_number fails =
          whole_fails (refused_later e (number_at (length d.axioms) bytes) numbered_after (number, left) number_read
          (refused_first e (place_at left >>= placed_after number) _ fails))

      pub place_fails : IsRefusal e (place_at left) → IsRefusal e (step_at d (proof_at d levels) bytes)
      place_fails fails = after_number (refused_first e (place_at left) (placed_after number) fails)

      module _ (place : ℕ) (later : List ℕ) (placed : place_at left ≡ Some (place, later)) where
        after_place : IsRefusal e (terms_at d (clause_at d.axioms number).variable_count later >>= choices_after number)
            → IsRefusal e (step_at d (proof_at d levels) bytes)
        after_place fails =
            after_number (refused_later e (place_at left) (placed_after number) (place, later) placed
            (refused_first e (terms_at d (clause_at d.axioms number).variable_count later >>= choices_after number) _ fails))

        pub terms_fail : IsRefusal e (terms_at d (clause_at d.axioms number).variable_count later) → IsRefusal e (step_at d (proof_at d levels) bytes)
        terms_fail fails = after_place (refused_first e (terms_at d (clause_at d.axioms number).variable_count later) (choices_after number) fails)

        pub parts_fail : (theta : List Term) (last : List ℕ) → terms_at d (clause_at d.axioms number).variable_count later ≡ Some (theta, last)
            → IsRefusal e (many_at (proof_at d levels) (length (clause_at d.axioms number).lits - 1) last)
            → IsRefusal e (step_at d (proof_at d levels) bytes)
        parts_fail theta last terms fails =
            after_place (refused_later e (terms_at d (clause_at d.axioms number).variable_count later) (choices_after number) (theta, last) terms
            (refused_first e (many_at (proof_at d levels) (length (clause_at d.axioms number).lits - 1) last) _ fails))

  -- what is made of the parts
  abbrev then_terms : List Term → Parsed (List Proof) → Parsed (List Term × List Proof)
  then_terms theta r = r >>= λ y. Some ((theta, y.0), y.1)

  abbrev then_place : ℕ → Parsed (List Term × List Proof) → Parsed (ℕ × (List Term × List Proof))
  then_place place r = r >>= λ y. Some ((place, y.0), y.1)

  abbrev then_number : ℕ → Parsed (ℕ × (List Term × List Proof)) → Parsed (ℕ × (ℕ × (List Term × List Proof)))
  then_number number r = r >>= λ y. Some ((number, y.0), y.1)

  abbrev then_step : Parsed (ℕ × (ℕ × (List Term × List Proof))) → Parsed Proof
  then_step r = r >>= λ x. Some (step_of_parts x.0, x.1)

  pub step_read : (count number place : ℕ) (left later last rest : List ℕ) (theta : List Term) (parts : List Proof) → count ≡ length d.axioms
      → number_at count bytes ≡ Some (number, left) → place_at left ≡ Some (place, later)
      → terms_at d (clause_at d.axioms number).variable_count later ≡ Some (theta, last)
      → many_at (proof_at d levels) (length (clause_at d.axioms number).lits - 1) last ≡ Some (parts, rest)
      → step_at d (proof_at d levels) bytes ≡ Some (Step number theta place parts, rest)
  step_read count number place left later last rest theta parts count_is read placed terms whole =
      let first = subst (λ (k : ℕ). number_at k bytes ≡ Some (number, left)) count_is read in
      step_is
      ∙ ap (λ (r : Parsed ℕ). then_step (r >>= numbered_after)) first
      ∙ ap (λ (r : Parsed ℕ). then_step (then_number number (r >>= placed_after number))) placed
      ∙ ap (λ (r : Parsed (List Term)). then_step (then_number number (then_place place (r >>= choices_after number)))) terms
      ∙ ap (λ (r : Parsed (List Proof)). then_step (then_number number (then_place place (then_terms theta r)))) whole

-- ---- what the code has of the axiom

-- so many terms, whatever the code calls the numbers
pub terms_are : (d : Draft) (number objects count : ℕ) → objects ≡ length d.objects → count ≡ (clause_at d.axioms number).variable_count
    → many_at (term_at objects table_variables true) count ≡ terms_at d (clause_at d.axioms number).variable_count
terms_are d number objects count objects_are count_is = λ i. many_at (term_at (objects_are i) table_variables true) (count_is i)

pub terms_read : (d : Draft) (number objects count : ℕ) (bytes : List ℕ) (theta : List Term) (rest : List ℕ) → objects ≡ length d.objects
    → count ≡ (clause_at d.axioms number).variable_count → many_at (term_at objects table_variables true) count bytes ≡ Some (theta, rest)
    → terms_at d (clause_at d.axioms number).variable_count bytes ≡ Some (theta, rest)
terms_read d number objects count bytes theta rest objects_are count_is read =
    subst (λ (r : Reader (List Term)). r bytes ≡ Some (theta, rest)) (terms_are d number objects count objects_are count_is) read

pub terms_refused : (e : Refused) (d : Draft) (number objects count : ℕ) (bytes : List ℕ) → objects ≡ length d.objects
    → count ≡ (clause_at d.axioms number).variable_count → IsRefusal e (many_at (term_at objects table_variables true) count bytes)
    → IsRefusal e (terms_at d (clause_at d.axioms number).variable_count bytes)
terms_refused e d number objects count bytes objects_are count_is fails =
    subst (λ (r : Reader (List Term)). IsRefusal e (r bytes)) (terms_are d number objects count objects_are count_is) fails

pub lits_are : (d : Draft) (number : ℕ) (lits : List Lit) → IsSound d → number < length d.axioms → lits ≡ (clause_at d.axioms number).lits
    → (1 ≤ length lits) × (length lits ≤ 6)
lits_are d number lits sound below same =
    subst (λ (ls : List Lit). (1 ≤ length ls) × (length ls ≤ 6)) (sym same) (sound.clauses number (record { variable_count = 0; lits = [] }) below).1
