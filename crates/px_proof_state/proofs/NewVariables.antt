-- New variables: their numbers, and a match after them, seen from before them.
use Rattle.std.proofs.Common.{◌≡◌, ◌↔◌, ℕ, ◌+◌, ◌<◌, ◌≤◌, Bool, true, false, List, [], ◌∷◌, ◌++◌, length, take, replicate, get_or, refl, ap, sym, ◌∙◌, arith, length-append, zero, suc}
use Rattle.std.specs.Prelude.{All, set}
use Rattle.std.proofs.Math.Seq.{take-append_seam, take-suc-set}
use Rattle.std.proofs.lemmas.List.{take-take}
use Rattle.px_terms.specs.Clauses.{ArePlainBelow}
use Rattle.px_terms.specs.Language.{IsPlainBelow, IsVariableBelow, substitute}
use Rattle.px_terms.specs.declared.term.Term.{Term}
use Rattle.px_terms.specs.declared.term.Term.TheVariants.{Obj, Var, Any}
use Rattle.px_terms.specs.declared.clause.Lit.{Lit}
use Rattle.px_proof.specs.Literals.{substitute_literal}
use Rattle.px_proof.specs.SubstitutionLaws.{each_choice}
use Rattle.px_unify.specs.declared.change.Change.{Change}
use Rattle.px_unify.specs.declared.change.Change.TheVariants.{Fresh}
use Rattle.px_unify.specs.ChangeLaws.{Fits-fresh, variables-fresh}
use Rattle.px_unify.specs.Changes.{Fits}
use Rattle.px_terms.specs.Substitution.{variables_from}
use Rattle.px_proof_state.specs.Matches.{IsMatch}
use Rattle.px_proof_state.specs.Parts.{IsLitBelow}
use Rattle.px_proof_state.specs.Steps.{MatchesFresh}

term_more : (m n : ℕ) (t : Term) → m ≤ n → IsPlainBelow m t → IsPlainBelow n t
term_more m n (Obj o) more below = tt
term_more m n (Var v) more below = omega (arith, more, below)
term_more m n Any more below = below

pub lit_more : (m n : ℕ) (l : Lit) → m ≤ n → IsLitBelow m l → IsLitBelow n l
lit_more m n l more below = λ k d within. term_more m n _ more (below k d within)

plain_variable : (n : ℕ) (t : Term) → IsPlainBelow n t → IsVariableBelow n t
plain_variable n (Obj o) below = tt
plain_variable n (Var v) below = below
plain_variable n Any below = tt

-- the numbers of the new variables
pub variables-more : (first count : ℕ) → variables_from first (suc count) ≡ variables_from first count ++ Var (first + count) ∷ []
variables-more first zero = ap (λ (k : ℕ). Var k ∷ []) (omega arith)
variables-more first (suc count) =
    ap (λ ts. Var first ∷ ts) (variables-more (suc first) count)
    ∙ ap (λ (k : ℕ). Var first ∷ (variables_from (suc first) count ++ Var k ∷ [])) (omega arith)

pub variables-next : (first k : ℕ) (terms : List Term) → k < length terms → take k terms ≡ variables_from first k → (next : ℕ)
    → next ≡ suc k → (term : Term) → term ≡ Var (first + k) → take next (set terms k term) ≡ variables_from first next
variables-next first k terms within are next next_is term is =
    rw (next_is, is) (take-suc-set terms k (Var (first + k)) within ∙ ap (λ ts. ts ++ Var (first + k) ∷ []) are
    ∙ sym (variables-more first k))

shifted : (first count v : ℕ) → v < count → substitute (variables_from first count) (Var v) ≡ Var (first + v)
shifted first count v within = go first count v within
  where
    go : (first count v : ℕ) → v < count → get_or (variables_from first count) v Any ≡ Var (first + v)
    go first zero v within = absurd (omega (arith, within))
    go first (suc count) zero within = ap (λ (k : ℕ). Var k) (omega arith)
    go first (suc count) (suc v) within = go (suc first) count v (omega (arith, within)) ∙ ap (λ (k : ℕ). Var k) (omega arith)

module _ (old fresh new : List Change) (count : ℕ) (goal lit : Lit) (added : fresh ≡ old ++ replicate count Fresh) where
  long : length old ≤ length fresh
  long = rw added (omega (arith, length-append old (replicate count Fresh)))

  fits : (sigma : List Term) → Fits sigma fresh ↔ Fits sigma old
  fits sigma = rw added (Fits-fresh sigma old count)

  pub found-fresh : IsMatch fresh new goal lit true → MatchesFresh old new count goal lit true
  found-fresh is = record {
    agree = λ is_found sigma.
        let both = is.agree refl sigma in
        (λ now. let h = both.0 now in ((fits sigma).0 h.0, h.1), λ h. both.1 ((fits sigma).1 h.0, h.1));
    variables = λ is_found. (is.grows refl).variables ∙ (rw added (variables-fresh old count));
    prefix = λ is_found.
        sym (take-take (length old) (length fresh) new long) ∙ ap (take (length old)) (is.grows refl).prefix ∙ ap (take (length old)) added
        ∙ take-append_seam old (replicate count Fresh);
    grown = λ is_found. omega (arith, long, (is.grows refl).grown);
    solvable = λ is_found. is.solvable refl;
    never = λ is_not. absurd (cc);
    same = λ is_not. absurd (cc);
  }

  pub none-fresh : (after : List Change) → IsMatch fresh new goal lit false → after ≡ take (length old) new
      → MatchesFresh old after count goal lit false
  none-fresh after is undone = record {
    agree = λ is_found. absurd (cc);
    variables = λ is_found. absurd (cc);
    prefix = λ is_found. absurd (cc);
    grown = λ is_found. absurd (cc);
    solvable = λ is_found. absurd (cc);
    never = λ is_not sigma now same. is.never refl sigma ((fits sigma).1 now) same;
    same = λ is_not. undone ∙ ap (take (length old)) (is.same refl ∙ added) ∙ take-append_seam old (replicate count Fresh);
  }

-- the new literal is over the old and the new variables
shifted-term : (first count : ℕ) (t : Term) → IsPlainBelow count t
    → IsPlainBelow (first + count) (substitute (variables_from first count) t)
shifted-term first count (Obj o) below = tt
shifted-term first count (Var v) below =
    let e : substitute (variables_from first count) (Var v) ≡ Var (first + v) = shifted first count v below in rw e (omega (arith, below))
shifted-term first count Any below = below

pub shifted-lit : (first count : ℕ) (l : Lit) → IsLitBelow count l
    → IsLitBelow (first + count) (substitute_literal (variables_from first count) l)
shifted-lit first count l below =
    each_choice (variables_from first count) (IsPlainBelow count) (IsPlainBelow (first + count))
    (shifted-term first count) l.atom.args below

-- the same with equal parts
pub match-as : (old new : List Change) (count : ℕ) (goal lit lit_as : Lit) (found found_as : Bool) → lit ≡ lit_as → found ≡ found_as
    → MatchesFresh old new count goal lit found → MatchesFresh old new count goal lit_as found_as
match-as old new count goal lit lit_as found found_as b d is = rw (← b, ← d) is
