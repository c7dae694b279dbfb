-- Bindings that fit just the solutions of the pairs give a most general one.
use Rattle.std.specs.Prelude.{◌≡◌, ◌↔◌, ◌<◌, ℕ, Some, List, [], ◌∷◌, map, length, slice_get, slice_index_or, All, Contains}
use Rattle.std.proofs.Common.{zero, suc, refl, sym, ap, ◌∙◌, subst, arith}
use Rattle.std.proofs.lemmas.List.{length-map}
use Rattle.px_base.specs.ListLaws.{All-at}
use Rattle.px_terms.specs.declared.atom.Atom.{Atom}
use Rattle.px_terms.specs.declared.term.Term.{Term}
use Rattle.px_terms.specs.declared.term.Term.TheVariants.{Obj, Var, Any as WildCard}
use Rattle.px_terms.specs.Language.{substitute, IsPlainBelow}
use Rattle.px_unify.specs.declared.change.Change.{Change}
use Rattle.px_unify.specs.Changes.{Fits, HasSolutions, IsRoot, IsUnbound, MakesEachEqual, variables_of}
use Rattle.px_general.specs.Naming.{AreNamed}
use Rattle.px_general.specs.Replayed.{IsMostGeneral}
use Rattle.px_general.proofs.Opening.{read-at}
use Rattle.px_general.proofs.Reading.{read-map, read-one}

-- lists of one length with the same terms at each place are one
pub same_list : (xs ys : List Term) → length xs ≡ length ys
    → ((k : ℕ) → k < length xs → slice_index_or xs k WildCard ≡ slice_index_or ys k WildCard) → xs ≡ ys
same_list [] [] long same = refl
same_list [] (y ∷ ys) long same = absurd (omega (arith, long))
same_list (x ∷ xs) [] long same = absurd (omega (arith, long))
same_list (x ∷ xs) (y ∷ ys) long same =
    let head : x ≡ y = same 0 (omega arith) in
    let tail : xs ≡ ys = same_list xs ys (omega (arith, long)) (λ k below. same (suc k) (omega (arith, below))) in
    λ i. head i ∷ tail i

module _ (changes : List Change) (pairs : List (Atom × Atom)) (at resolved labels names roots : List Term)
    (solutions : HasSolutions changes)
    (fits : (terms : List Term) → Fits terms changes ↔ MakesEachEqual pairs terms) (named : AreNamed changes at resolved labels names roots)
    (below : All (IsPlainBelow (variables_of changes)) at) where
  -- the labels fit at the roots, and so the names everywhere
  solution : (sigma : List Term) × (length sigma ≡ variables_of changes) × Fits sigma changes
      × ((v : ℕ) → IsUnbound changes v → slice_get sigma v ≡ slice_get labels v)
  solution = solutions labels named.long

  at_root : (t : Term) → IsRoot changes t → substitute solution.0 t ≡ substitute labels t
  at_root (Obj n) root = refl
  at_root (Var v) root = read-one solution.0 labels v (solution.3 v root)
  at_root WildCard root = absurd root

  named_at : (v : ℕ) → v < variables_of changes → slice_index_or names v WildCard ≡ substitute labels (substitute resolved (Var v))
  named_at v inside =
      ap (λ l. slice_index_or l v WildCard) named.names_are
      ∙ read-map (substitute labels) resolved v (omega (arith, inside, named.resolved_are.count))

  names-fit : solution.0 ≡ names
  names-fit = same_list solution.0 names
      (solution.1 ∙ sym named.resolved_are.count ∙ sym (length-map resolved (substitute labels)) ∙ ap length (sym named.names_are))
      (λ v inside.
      let under : v < variables_of changes = omega (arith, inside, solution.1) in
      named.resolved_are.value v under solution.0 solution.2 ∙ at_root (substitute resolved (Var v)) (named.resolved_are.root v under)
      ∙ sym (named_at v under))

  factor : (terms : List Term) → Fits terms changes → (t : Term) → Contains at t → IsPlainBelow (variables_of changes) t
      → substitute terms t ≡ substitute (map (substitute terms) roots) (substitute names t)
  factor terms fit (Obj n) has inside = refl
  factor terms fit (Var v) has inside =
      named.resolved_are.value v inside terms fit ∙ by_root (substitute resolved (Var v)) refl
      ∙ ap (substitute (map (substitute terms) roots)) (sym (named_at v inside))
    where
      by_root : (r : Term) → substitute resolved (Var v) ≡ r
          → substitute terms (substitute resolved (Var v))
          ≡ substitute (map (substitute terms) roots) (substitute labels (substitute resolved (Var v)))
      by_root (Obj n) e = rw e refl
      by_root (Var w) e =
          let label = named.each_root (Var v) has w e in
          let root = named.labelled w label.0 label.1 in
          let named_w : substitute labels (Var w) ≡ Var label.0 = read-at labels w (Var label.0) label.1 in
          let within = place-within roots label.0 (Var w) root in
          let back : substitute (map (substitute terms) roots) (Var label.0) ≡ substitute terms (Var w) =
          read-map (substitute terms) roots label.0 within ∙ ap (substitute terms) (read-at roots label.0 (Var w) root) in
          ap (substitute terms) e ∙ sym back ∙ ap (substitute (map (substitute terms) roots)) (sym named_w ∙ ap (substitute labels) (sym e))
        where
          place-within : (xs : List Term) (k : ℕ) (x : Term) → slice_get xs k ≡ Some x → k < length xs
          place-within [] k x e = absurd (cc)
          place-within (y ∷ xs) zero x e = omega arith
          place-within (y ∷ xs) (suc k) x e = omega (arith, place-within xs k x e)
      by_root WildCard e = absurd (subst (IsRoot changes) e (named.resolved_are.root v inside))
  factor terms fit WildCard has inside = absurd inside

  pub is_most_general : IsMostGeneral pairs at names roots
  is_most_general = record {
    unifies = (fits names).0 (subst (λ (s : List Term). Fits s changes) names-fit solution.2);
    factors = λ terms equal t has. factor terms ((fits terms).1 equal) t has (All-at (IsPlainBelow (variables_of changes)) at t below has);
  }
