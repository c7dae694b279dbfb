-- Gathering partial instances that stand for what is wanted.
use Rattle.std.proofs.Common.{◌≡◌, ◌<◌, ◌⊎◌, ℕ, List, [], ◌∷◌, ◌++◌, length, get_or, refl, sym, ap, ◌∙◌, subst, inl, inr, arith}
use Rattle.std.specs.Prelude.{slice_index_or}
use Rattle.std.proofs.lemmas.List.{get_or-map}
use Rattle.px_base.specs.ListLaws.{All-at, All-each}
use Rattle.px_terms.specs.declared.instance.OpInst.{OpInst}
use Rattle.px_terms.specs.declared.problem.Problem.{Problem}
use Rattle.px_terms.specs.declared.term.Term.{Term}
use Rattle.px_terms.specs.declared.term.Term.TheVariants.{Obj, Var, Any}
use Rattle.px_terms.specs.Language.{substitute}
use Rattle.px_terms.specs.Validity.{IsInstanceOf}
use Rattle.px_question.specs.Answers.{object_terms}
use Rattle.px_entries.specs.Instances.{Covers, Fills, IsPartialInstance, StandsFor}
use Rattle.px_entries.specs.declared.partial.PartialInstance.{PartialInstance}
use Rattle.px_base.proofs.Loops.{Contains-pushed}
use Rattle.px_entries.proofs.PartialLemmas.{object_at}

module _ (problem : Problem) where
  pub covers_less : (V W : OpInst → Type 0) (old new : List PartialInstance)
      → ((full : OpInst) → IsInstanceOf problem full → W full → V full) → ((full : OpInst) → V full → W full) → Covers problem V old new
      → Covers problem W old new
  covers_less V W old new f back g = record {
    form = g.form;
    kept = g.kept;
    only = λ full there. elim (g.only full there) [ inl before ↦ inl before | inr v ↦ inr (back full v) ];
    all = λ full is w. g.all full is (f full is w);
  }

  -- one more part
  pub covers_part : (V U W : OpInst → Type 0) (old made new : List PartialInstance)
      → ((full : OpInst) → IsInstanceOf problem full → W full → V full ⊎ U full) → ((full : OpInst) → V full ⊎ U full → W full)
      → Covers problem V old made → Covers problem U made new → Covers problem W old new
  covers_part V U W old made new f back g h = record {
    form = λ all. h.form (g.form all);
    kept = λ full there. h.kept full (g.kept full there);
    only = λ full there. elim (h.only full there) [
      | inl before ↦ elim (g.only full before) [ inl first ↦ inl first | inr v ↦ inr (back full (inl v)) ]
      | inr u ↦ inr (back full (inr u))
    ];
    all = λ full is w. elim (f full is w) [ inl v ↦ h.kept full (g.all full is v) | inr u ↦ h.all full is u ];
  }

  pub covers_nothing : (W : OpInst → Type 0) (found : List PartialInstance) → ((full : OpInst) → ¬ W full) → Covers problem W found found
  covers_nothing W found none =
      record { form = λ all. all; kept = λ full there. there; only = λ full there. inl there; all = λ full is w. absurd (none full w) }

  -- one more partial instance
  pub covers_one : (W : OpInst → Type 0) (old new : List PartialInstance) (one : PartialInstance) → new ≡ old ++ one ∷ []
      → IsPartialInstance problem one → ((full : OpInst) → W full → StandsFor problem one full)
      → ((full : OpInst) → StandsFor problem one full → W full) → Covers problem W old new
  covers_one W old new one put form stands back = subst (Covers problem W old) (sym put) (record {
    form = λ all. All-each (IsPartialInstance problem) (old ++ one ∷ []) (λ q has. elim ((Contains-pushed old one q).0 has) [
      | inl before ↦ All-at (IsPartialInstance problem) old q all before
      | inr is ↦ subst (IsPartialInstance problem) is form
    ]);
    kept = λ full there. (there.0, (Contains-pushed old one there.0).1 (inl there.1), there.2);
    only = λ full there. elim ((Contains-pushed old one there.0).0 there.1) [
      | inl before ↦ inl (there.0, before, there.2)
      | inr is ↦ inr (back full (subst (λ (p : PartialInstance). StandsFor problem p full) (sym is) there.2))
    ];
    all = λ full is w. (one, (Contains-pushed old one one).1 (inr refl), stands full w);
  })

-- an argument of an instance is what the partial one has, under the objects
pub argument_under : (problem : Problem) (partial : PartialInstance) (full : OpInst) (objects : List ℕ) → Fills problem partial full objects
    → (p : ℕ) (d : Term) → p < length partial.inst.args
    → substitute (object_terms objects) (slice_index_or partial.inst.args p d) ≡ slice_index_or full.args p Any
argument_under problem partial full objects fills p d below =
    sym (get_or-map (substitute (object_terms objects)) partial.inst.args p d Any below)
    ∙ ap (λ (i : OpInst). slice_index_or i.args p Any) fills.same

same_object : (m n : ℕ) → Obj m ≡ Obj n → m ≡ n
same_object m n is = cc

pub object_is : (problem : Problem) (partial : PartialInstance) (full : OpInst) (objects : List ℕ) (v n : ℕ) (wanted : Term)
    → Fills problem partial full objects → v < partial.variable_count → slice_index_or (object_terms objects) v Any ≡ wanted → wanted ≡ Obj n
    → get_or objects v 0 ≡ n
object_is problem partial full objects v n wanted fills below is same =
    same_object (get_or objects v 0) n (sym (object_at objects v (omega (arith, below, fills.count))) ∙ is ∙ same)

pub object_within : (problem : Problem) (partial : PartialInstance) (full : OpInst) (objects : List ℕ) (v : ℕ)
    → Fills problem partial full objects → v < partial.variable_count → get_or objects v 0 < problem.objects
object_within problem partial full objects v fills below = fills.below v 0 (omega (arith, below, fills.count))

no_other : (n : ℕ) (t : Term) → Obj n ≡ t → (¬ (t ≡ Any)) × ((v : ℕ) → ¬ (t ≡ Var v))
no_other n t is = (λ e. cc, λ v e. cc)

pub not_other : (problem : Problem) (partial : PartialInstance) (full : OpInst) (objects : List ℕ) (v : ℕ) (wanted : Term)
    → Fills problem partial full objects → v < partial.variable_count → slice_index_or (object_terms objects) v Any ≡ wanted
    → (¬ (wanted ≡ Any)) × ((w : ℕ) → ¬ (wanted ≡ Var w))
not_other problem partial full objects v wanted fills below is =
    no_other (get_or objects v 0) wanted (sym (object_at objects v (omega (arith, below, fills.count))) ∙ is)

-- a term that is no variable is the same under all terms
pub same_closed : (terms others : List Term) (t : Term) → ((n : ℕ) × (t ≡ Obj n)) ⊎ (t ≡ Any) → substitute terms t ≡ substitute others t
same_closed terms others t is = elim is [
  | inl object ↦ subst (λ (s : Term). substitute terms s ≡ substitute others s) (sym object.1) refl
  | inr wild ↦ subst (λ (s : Term). substitute terms s ≡ substitute others s) (sym wild) refl
]
