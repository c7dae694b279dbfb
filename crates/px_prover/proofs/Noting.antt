-- Lists of variables that grow by the ends of bindings.
use Rattle.std.proofs.Common.{◌≡◌, ◌∙◌, ◌⊎◌, ◌↔◌, ℕ, ◌+◌, ◌<◌, ◌≤◌, Some, List, [], ◌∷◌, ◌++◌, length, take, get_or, slice_get, refl, ap, sym, subst, inl, inr, arith}
use Rattle.std.specs.Prelude.{All, Contains}
use Rattle.std.proofs.lemmas.Bool.{cases_lt}
use Rattle.std.proofs.lemmas.List.{take_all, take_more}
use Rattle.std.proofs.lemmas.List.Elements.{Contains-append_left, Contains-push, Contains-push_cases}
use Rattle.px_base.specs.ListLaws.{Contains-none}
use Rattle.px_prover.specs.Gathering.{EndsIn, NotesVariable, NotesRoot, NotesEnds, IsFirstVariable, IsArgument, IsOver}
use Rattle.px_terms.specs.Language.{IsVariableBelow}
use Rattle.px_terms.specs.declared.atom.Atom.{Atom}
use Rattle.px_terms.specs.declared.term.Term.{Term}
use Rattle.px_terms.specs.declared.term.Term.TheVariants.{Obj, Var, Any}

pub variable-there : (variable : ℕ) (old : List ℕ) → Contains old variable → NotesVariable variable old old
variable-there variable old there =
    record { members = λ w. (λ has. inl has, λ h. elim h [ inl has ↦ has | inr same ↦ subst (Contains old) same there ]) }

pub variable-new : (variable : ℕ) (old new : List ℕ) → new ≡ old ++ variable ∷ [] → NotesVariable variable old new
variable-new variable old new is = record {
  members = λ w. (
    λ has. Contains-push_cases old variable w (subst (λ (xs : List ℕ). Contains xs w) is has),
    λ h. subst (λ (xs : List ℕ). Contains xs w) (sym is)
        (elim h [
          | inl has ↦ Contains-append_left old (variable ∷ []) w has
          | inr same ↦ subst (Contains (old ++ variable ∷ [])) same
              (Contains-push old variable)
        ]),
  );
}

var-same : (v w : ℕ) → Var v ≡ Var w → v ≡ w
var-same v w is = cc

pub root-variable : (root : Term) (variable : ℕ) (old new : List ℕ) → root ≡ Var variable → NotesVariable variable old new
    → NotesRoot root old new
root-variable root variable old new root_is noted = subst (λ (t : Term). NotesRoot t old new) (sym root_is) (record {
  members = λ w. (
    λ has. elim ((noted.members w).0 has) [ inl before ↦ inl before | inr same ↦ inr (ap (λ (n : ℕ). Var n) same) ],
    λ h. (noted.members w).1 (elim h [ inl before ↦ inl before | inr is ↦ inr (var-same variable w is) ]),
  );
})

pub root-object : (root : Term) (n : ℕ) (old : List ℕ) → root ≡ Obj n → NotesRoot root old old
root-object root n old root_is =
    record { members = λ w. (λ has. inl has, λ h. elim h [ inl before ↦ before | inr is ↦ absurd (never w is) ]) }
  where
    never : (w : ℕ) → ¬ (root ≡ Var w)
    never w is = let both : Obj n ≡ Var w = sym root_is ∙ is in cc

pub root-any : (root : Term) (old : List ℕ) → root ≡ Any → NotesRoot root old old
root-any root old root_is = record { members = λ w. (λ has. inl has, λ h. elim h [ inl before ↦ before | inr is ↦ absurd (never w is) ]) }
  where
    never : (w : ℕ) → ¬ (root ≡ Var w)
    never w is = let both : Any ≡ Var w = sym root_is ∙ is in cc

pub term-variable : (term : Term) (roots : List Term) (v : ℕ) (root : Term) (old new : List ℕ) → term ≡ Var v
    → slice_get roots v ≡ Some root → NotesRoot root old new → NotesEnds (λ t. term ≡ t) roots old new
term-variable term roots v root old new term_is at noted =
    subst (λ (u : Term). NotesEnds (λ t. u ≡ t) roots old new) (sym term_is) (record {
      members = λ w. (
        λ has. elim ((noted.members w).0 has) [ inl before ↦ inl before | inr is ↦ inr (Var v, refl, at ∙ ap (λ (t : Term). Some t) is) ],
        λ h. (noted.members w).1 (elim h [
          | inl before ↦ inl before
          | inr end ↦ inr
              (same w (subst (λ (t : Term). EndsIn roots t w) (sym end.1) end.2))
        ]),
      );
    })
  where
    same : (w : ℕ) → slice_get roots v ≡ Some (Var w) → root ≡ Var w
    same w is = let both : Some root ≡ Some (Var w) = sym at ∙ is in cc

-- no variable is noted where the bindings of no such term end in one
pub ends-none : (IsSuch : Term → Type 0) (roots : List Term) (old : List ℕ) → ((t : Term) (w : ℕ) → IsSuch t → ¬ EndsIn roots t w)
    → NotesEnds IsSuch roots old old
ends-none IsSuch roots old none =
    record { members = λ w. (λ has. inl has, λ h. elim h [ inl before ↦ before | inr end ↦ absurd (none end.0 w end.1 end.2) ]) }

pub term-object : (term : Term) (roots : List Term) (n : ℕ) (old : List ℕ) → term ≡ Obj n → NotesEnds (λ t. term ≡ t) roots old old
term-object term roots n old term_is =
    ends-none (λ t. term ≡ t) roots old (λ t w same end. subst (λ (u : Term). EndsIn roots u w) (sym same ∙ term_is) end)

pub term-any : (term : Term) (roots : List Term) (old : List ℕ) → term ≡ Any → NotesEnds (λ t. term ≡ t) roots old old
term-any term roots old term_is =
    ends-none (λ t. term ≡ t) roots old (λ t w same end. subst (λ (u : Term). EndsIn roots u w) (sym same ∙ term_is) end)

-- first those of some terms, then those of others
pub ends-both : (A B C : Term → Type 0) (roots : List Term) (old mid new : List ℕ) → NotesEnds A roots old mid → NotesEnds B roots mid new
    → ((t : Term) → C t ↔ (A t ⊎ B t)) → NotesEnds C roots old new
ends-both A B C roots old mid new first second are = record {
  members = λ w. (
    λ has. elim ((second.members w).0 has) [
      | inl there ↦ elim ((first.members w).0 there) [ inl before ↦ inl before | inr end ↦ inr (end.0, (are end.0).1 (inl end.1), end.2) ]
      | inr end ↦ inr (end.0, (are end.0).1 (inr end.1), end.2)
    ],
    λ h. (second.members w).1 (elim h [
      | inl before ↦ inl ((first.members w).1 (inl before))
      | inr end ↦ elim ((are end.0).0 end.1) [ inl a ↦ inl ((first.members w).1 (inr (end.0, a, end.2))) | inr b ↦ inr (end.0, b, end.2) ]
    ]),
  );
}

-- ---- the first variables

pub first-start : (roots : List Term) (old : List ℕ) → NotesEnds (IsFirstVariable 0) roots old old
first-start roots old = ends-none (IsFirstVariable 0) roots old (λ t w such end. omega (arith, such.1))

pub below-or-last : (k n : ℕ) → k < n + 1 → (k < n) ⊎ (k ≡ n)
below-or-last k n less = elim (cases_lt k n) [ inl h ↦ inl h | inr above ↦ inr (omega (arith, above, less)) ]

pub first-next : (roots : List Term) (v : ℕ) (old mid new : List ℕ) → NotesEnds (IsFirstVariable v) roots old mid
    → NotesEnds (λ t. Var v ≡ t) roots mid new → NotesEnds (IsFirstVariable (v + 1)) roots old new
first-next roots v old mid new first second =
    ends-both (IsFirstVariable v) (λ t. Var v ≡ t) (IsFirstVariable (v + 1)) roots old mid new first second (λ t. (
      λ such. elim (below-or-last such.0 v such.1) [
        | inl less ↦ inl (such.0, less, such.2)
        | inr same ↦ inr
            (ap (λ (n : ℕ). Var n) (sym same) ∙ such.2)
      ],
      λ h. elim h [ inl such ↦ (such.0, omega (arith, such.1), such.2) | inr same ↦ (v, omega arith, same) ],
    ))

-- ---- the terms of a list

pub terms-start : (roots terms : List Term) (old : List ℕ) → NotesEnds (Contains (take 0 terms)) roots old old
terms-start roots terms old = ends-none (Contains (take 0 terms)) roots old (λ t w such end. Contains-none t such)

pub terms-next : (roots terms : List Term) (i : ℕ) (x d : Term) (old mid new : List ℕ) → i < length terms → x ≡ get_or terms i d
    → NotesEnds (Contains (take i terms)) roots old mid → NotesEnds (λ t. x ≡ t) roots mid new
    → NotesEnds (Contains (take (i + 1) terms)) roots old new
terms-next roots terms i x d old mid new within is first second =
    let more : take (i + 1) terms ≡ take i terms ++ x ∷ [] =
    take_more terms i d within ∙ ap (λ (y : Term). take i terms ++ y ∷ []) (sym is) in
    ends-both (Contains (take i terms)) (λ t. x ≡ t) (Contains (take (i + 1) terms)) roots old mid new first second (λ t. (
      λ such. Contains-push_cases (take i terms) x t (subst (λ (xs : List Term). Contains xs t) more such),
      λ h. subst (λ (xs : List Term). Contains xs t) (sym more)
          (elim h [
            | inl such ↦ Contains-append_left (take i terms) (x ∷ []) t such
            | inr same ↦ subst
                (Contains (take i terms ++ x ∷ [])) same (Contains-push (take i terms) x)
          ]),
    ))

pub terms-end : (roots terms : List Term) (i : ℕ) (old new : List ℕ) → length terms ≤ i → NotesEnds (Contains (take i terms)) roots old new
    → NotesEnds (Contains terms) roots old new
terms-end roots terms i old new past noted = subst (λ (ts : List Term). NotesEnds (Contains ts) roots old new) (take_all i terms past) noted

pub term-below : (n : ℕ) (terms : List Term) (i : ℕ) (x d : Term) → i < length terms → x ≡ get_or terms i d → All (IsVariableBelow n) terms
    → IsVariableBelow n x
term-below n terms i x d within is all = subst (IsVariableBelow n) (sym is) (all i d within)

-- ---- the arguments of the atoms of a list

pub atoms-start : (roots : List Term) (atoms : List Atom) (old : List ℕ) → NotesEnds (IsArgument (take 0 atoms)) roots old old
atoms-start roots atoms old = ends-none (IsArgument (take 0 atoms)) roots old (λ t w such end. Contains-none such.0 such.1)

pub atoms-next : (roots : List Term) (atoms : List Atom) (i : ℕ) (x : Atom) (old mid new : List ℕ) → i < length atoms → x ≡ get_or atoms i x
    → NotesEnds (IsArgument (take i atoms)) roots old mid → NotesEnds (Contains x.args) roots mid new
    → NotesEnds (IsArgument (take (i + 1) atoms)) roots old new
atoms-next roots atoms i x old mid new within is first second =
    let more : take (i + 1) atoms ≡ take i atoms ++ x ∷ [] =
    take_more atoms i x within ∙ ap (λ (y : Atom). take i atoms ++ y ∷ []) (sym is) in
    ends-both (IsArgument (take i atoms)) (Contains x.args) (IsArgument (take (i + 1) atoms)) roots old mid new first second (λ t. (
      λ such. elim (Contains-push_cases (take i atoms) x such.0 (subst (λ (xs : List Atom). Contains xs such.0) more such.1)) [
        | inl before ↦ inl (such.0, before, such.2)
        | inr same ↦ inr (subst (λ (a : Atom). Contains a.args t) (sym same) such.2)
      ],
      λ h. elim h [
        | inl such ↦ (
          such.0,
          subst (λ (xs : List Atom). Contains xs such.0) (sym more)
              (Contains-append_left (take i atoms) (x ∷ []) such.0 such.1),
          such.2,
        )
        | inr has ↦ (x, subst (λ (xs : List Atom). Contains xs x) (sym more) (Contains-push (take i atoms) x), has)
      ],
    ))

pub atoms-end : (roots : List Term) (atoms : List Atom) (i : ℕ) (old new : List ℕ) → length atoms ≤ i
    → NotesEnds (IsArgument (take i atoms)) roots old new → NotesEnds (IsArgument atoms) roots old new
atoms-end roots atoms i old new past noted =
    subst (λ (xs : List Atom). NotesEnds (IsArgument xs) roots old new) (take_all i atoms past) noted

pub arguments-below : (n : ℕ) (atoms : List Atom) (i : ℕ) (x : Atom) (terms : List Term) → i < length atoms → x ≡ get_or atoms i x
    → terms ≡ x.args → All (λ (atom : Atom). All (IsVariableBelow n) atom.args) atoms → All (IsVariableBelow n) terms
arguments-below n atoms i x terms within is terms_are all =
    subst (λ (ts : List Term). All (IsVariableBelow n) ts) (sym terms_are)
    (subst (λ (a : Atom). All (IsVariableBelow n) a.args) (sym is) (all i x within))

-- ---- both

pub over-both : (roots : List Term) (variable_count : ℕ) (atoms : List Atom) (old mid new : List ℕ) → old ≡ []
    → NotesEnds (IsFirstVariable variable_count) roots old mid → NotesEnds (IsArgument atoms) roots mid new
    → NotesEnds (IsOver variable_count atoms) roots [] new
over-both roots variable_count atoms old mid new empty first second =
    subst (λ (xs : List ℕ). NotesEnds (IsOver variable_count atoms) roots xs new) empty
    (ends-both (IsFirstVariable variable_count) (IsArgument atoms) (IsOver variable_count atoms) roots old mid new first second (λ t. (λ h. h, λ h. h)))
