-- Gap patterns, equal ones once.
use Rattle.std.proofs.Common.{◌≡◌, ◌↔◌, ℕ, List, ap}
use Rattle.std.specs.Prelude.{All, Contains}
use Rattle.std.specs.Bool.{Decides}
use Rattle.std.specs.Cmp.Lexicographic.{pointwise_decides}
use Rattle.std.proofs.lemmas.Bool.Decides.{Decides-and, Decides-eqb, Decides-like}
use Rattle.px_base.specs.ListLaws.{All-at, All-each}
use Rattle.px_prover.specs.Patterns.{AreKeptPatterns, ArePatternsOf, IsPattern, Offers}
use Rattle.px_prover.specs.contracts.pattern.GapPatternPartialEq.TheImpl as pattern_equality
use Rattle.px_prover.specs.declared.pattern.GapPattern.{GapPattern}
use Rattle.px_proof.specs.declared.shape.Tick.{Tick}
use Rattle.px_question.specs.Settings.{Setting}
use Rattle.px_terms.specs.OrderLaws.{atom_eq-decides, term_eq-decides}
use Rattle.px_terms.specs.declared.atom.Atom.{Atom}

pub pattern_eq-decides : (first second : GapPattern) → Decides ((pattern_equality.ghosts).eq first second) (first ≡ second)
pattern_eq-decides a b =
    Decides-like _ (λ e i. record { variable_count = e.0 i; terms = e.1.0 i; atoms = e.1.1 i })
    (λ e. (ap (λ (p : GapPattern). p.variable_count) e, (ap (λ (p : GapPattern). p.terms) e, ap (λ (p : GapPattern). p.atoms) e)))
    (Decides-and _ _ (Decides-eqb a.variable_count b.variable_count) (Decides-and _ _ (pointwise_decides term_eq-decides a.terms b.terms)
    (pointwise_decides atom_eq-decides a.atoms b.atoms)))

-- the same patterns, in any order and number
module _ (old new : List GapPattern) (same : (pattern : GapPattern) → Contains new pattern ↔ Contains old pattern) where
  same-form : (objects kept : ℕ) → All (IsPattern objects kept) old → All (IsPattern objects kept) new
  same-form objects kept form =
      All-each (IsPattern objects kept) new (λ pattern has. All-at (IsPattern objects kept) old pattern form ((same pattern).0 has))

  same-offers : (limit : ℕ) (objects : List ℕ) (gaps : List Atom) → Offers limit new objects gaps ↔ Offers limit old objects gaps
  same-offers limit objects gaps =
      (λ h. (h.0, (same h.0).0 h.1, h.2), λ h. (h.0, (same h.0).1 h.1, h.2))

  pub patterns-same : (kept : ℕ) (s : Setting) (formula : List Atom) (variable_count : ℕ) → AreKeptPatterns kept s formula variable_count old
      → AreKeptPatterns kept s formula variable_count new
  patterns-same kept s formula variable_count are = record {
    form = same-form s.objects kept are.form;
    exact = λ objects gaps.
        let both = same-offers s.objects objects gaps in (
          λ listed. both.1 ((are.exact objects gaps).0 listed),
          λ offered. (are.exact objects gaps).1 (both.0 offered),
        );
  }

  pub pruned-same : (kept : ℕ) (s : Setting) (formula : List Atom) (variable_count : ℕ) (seen : List (List Tick))
      → ArePatternsOf kept s formula variable_count seen old → ArePatternsOf kept s formula variable_count seen new
  pruned-same kept s formula variable_count seen are = record {
    form = same-form s.objects kept are.form;
    offers = λ objects gaps.
        let both = same-offers s.objects objects gaps in (
          λ offered. (are.offers objects gaps).0 (both.0 offered),
          λ gives. both.1 ((are.offers objects gaps).1 gives),
        );
  }
