-- MACROPs whose objects fit one of the choices of each row, choice by choice of one row.
use Rattle.std.proofs.Common.{◌≡◌, ◌+◌, ◌<◌, ◌++◌, ℕ, Option, Some, List, [], length, take, drop, ap, sym, subst, arith, length-append, length-drop}
use Rattle.std.specs.Prelude.{All, Contains, IfSome, IsSomeAnd}
use Rattle.std.proofs.lemmas.List.{length-take}
use Rattle.std.proofs.lemmas.List.Elements.{All-append, All-drop, All-take}
use Rattle.px_base.specs.ListLaws.{All-at}
use Rattle.px_table.specs.declared.entry.Entry.{Entry}
use Rattle.px_table.specs.declared.table.Table.{Table}
use Rattle.px_terms.specs.declared.atom.Atom.{Atom}
use Rattle.px_terms.specs.declared.problem.Problem.{Problem}
use Rattle.px_terms.specs.declared.term.Term.{Term}
use Rattle.px_gaps.specs.Closings.{OneOf}
use Rattle.px_diff.specs.Macros.{GathersEntries, IsMacroBy, IsMacroFitting}
use Rattle.px_entries.specs.Parameters.{FitsTerms, Matches}
use Rattle.px_diff.proofs.EntryLemmas.{entries_less}

-- ---- numbers but one

pub others-all : (P : ℕ → Type 0) (numbers others : List ℕ) (place : ℕ) → others ≡ take place numbers ++ drop (place + 1) numbers
    → All P numbers → All P others
others-all P numbers others place is all =
    subst (All P) (sym is) (All-append P (take place numbers) (drop (place + 1) numbers) (All-take P place numbers all)
    (All-drop P (place + 1) numbers all))

pub others-less : (numbers others : List ℕ) (place : ℕ) → others ≡ take place numbers ++ drop (place + 1) numbers → place < length numbers
    → length others < length numbers
others-less numbers others place is within =
    omega (
      arith,
      ap length is,
      length-append (take place numbers) (drop (place + 1) numbers),
      length-take place numbers,
      length-drop (place + 1) numbers,
      within,
    )

-- ---- what fits both

pub some_found : {A : Type 0} (P : A → Type 0) (found : Option A) (one : A) → found ≡ Some one → IfSome found P → P one
some_found P found one is h = subst (λ (o : Option _). IfSome o P) is h

pub fits_found : {A : Type 0} (P : A → Type 0) (found : Option A) (one : A) → found ≡ Some one → IsSomeAnd found P → P one
fits_found P found one is h = subst (λ (o : Option _). IsSomeAnd o P) is h

-- ---- parts

module _ (problem : Problem) (tables : List Table) (wanted : List Atom) (stack : List Entry) (model : List Atom) (number prefix : ℕ)
    (terms : List Term) (rows : List (List (List Term))) where
  abbrev Gathered : (Entry → Type 0) → List Entry → List Entry → Type 0
  Gathered = GathersEntries problem tables wanted stack model

  abbrev Fitting : List Term → Entry → Type 0
  Fitting ts = IsMacroFitting problem.objects number prefix ts rows

  -- all that extend the terms are gathered
  pub fitting-all : (old new : List Entry) → Gathered (IsMacroBy problem.objects number prefix terms) old new
      → Gathered (Fitting terms) old new
  fitting-all old new gathered =
      entries_less problem tables wanted stack model (IsMacroBy problem.objects number prefix terms) (Fitting terms) old new
      (λ entry w. (w.0, w.1, w.3)) gathered

  -- terms with which all objects that fit one of the row's choices go on
  pub joined-all : (choices joins : List (List Term)) → Contains rows choices
      → Matches problem.objects (length terms) terms (λ sigma. OneOf choices (λ (choice : List Term). FitsTerms choice sigma)) [] joins
      → (old new : List Entry) → Gathered (λ entry. OneOf joins (λ (ts : List Term). Fitting ts entry)) old new
      → Gathered (Fitting terms) old new
  joined-all choices joins has matched old new gathered =
      entries_less problem tables wanted stack model (λ entry. OneOf joins (λ (ts : List Term). Fitting ts entry)) (Fitting terms) old new
      (λ entry w.
      let one =
      matched.all w.0 w.1 (All-at (λ (cs : List (List Term)). OneOf cs (λ (choice : List Term). FitsTerms choice w.0)) rows choices w.2
      has) in
      (one.0, one.1, (w.0, one.2, w.2, w.3))) gathered
