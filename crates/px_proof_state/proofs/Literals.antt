-- Literals of one sign are equal where their atoms are.
use Rattle.std.proofs.Common.{◌≡◌, Bool, true, false, List, refl, ap, sym}
use Rattle.px_terms.specs.Substitution.{substitute_atom}
use Rattle.px_terms.specs.declared.term.Term.{Term}
use Rattle.px_terms.specs.declared.clause.Lit.{Lit}
use Rattle.px_proof.specs.Literals.{substitute_literal}
use Rattle.px_unify.specs.declared.change.Change.{Change}
use Rattle.px_unify.specs.Changes.{Binds, HasSolutions, MakesEqual, NarrowedBy, NoneFits}
use Rattle.px_proof_state.specs.Matches.{IsMatch}

module _ (old new : List Change) (a b : Lit) (sign : a.positive ≡ b.positive) where
  lits_equal : (sigma : List Term) → substitute_atom sigma a.atom ≡ substitute_atom sigma b.atom
      → substitute_literal sigma a ≡ substitute_literal sigma b
  lits_equal sigma e = λ i. record { positive = sign i; atom = e i }

  pub found : Binds old new → HasSolutions new → NarrowedBy old new (MakesEqual a.atom b.atom) → IsMatch old new a b true
  found grows solvable narrowed = record {
    agree = λ is_found sigma. (
      λ fits. let h = (narrowed sigma).0 fits in
          (h.0, lits_equal sigma h.1),
      λ h. (narrowed sigma).1 (h.0, ap (λ (l : Lit). l.atom) h.1),
    );
    grows = λ is_found. grows;
    solvable = λ is_found. solvable;
    never = λ is_not. absurd (cc);
    same = λ is_not. absurd (cc);
  }

pub not_found : (old new : List Change) (a b : Lit) → new ≡ old → NoneFits old (MakesEqual a.atom b.atom) → IsMatch old new a b false
not_found old new a b same never = record {
  agree = λ is_found. absurd (cc);
  grows = λ is_found. absurd (cc);
  solvable = λ is_found. absurd (cc);
  never = λ is_not sigma fits e. never sigma fits (ap (λ (l : Lit). l.atom) e);
  same = λ is_not. same;
}

-- the test of two signs
pub same_sign : (x y : Bool) → mathlib.Core.Bool.not (mathlib.Core.Bool.beq x y) ≡ false → x ≡ y
same_sign true true e = refl
same_sign false false e = refl
same_sign true false e = e
same_sign false true e = sym e
