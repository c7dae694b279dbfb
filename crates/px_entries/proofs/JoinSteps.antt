-- What is known of two lists of needs together.
use Rattle.std.proofs.Common.{◌≡◌, ◌⊎◌, ◌++◌, List, [], sym, subst, inl, inr, arith}
use Rattle.std.specs.Prelude.{◌↔◌, All, Any, Contains}
use Rattle.std.proofs.lemmas.List.Elements.{All-append, Contains-append_cases, Contains-append_left, Contains-append_right}
use Rattle.std.proofs.lemmas.List.Kept.{IsStrictlySortedBy-dedup}
use Rattle.std.specs.List.{dedup}
use Rattle.std.specs.List.Sorted.{IsPermutation, IsSorted}
use Rattle.px_base.specs.ListLaws.{All-at, All-each}
use Rattle.px_terms.specs.AtomSets.{IsAtomSet}
use Rattle.px_terms.specs.Order.{atom_cmp, atom_eq}
use Rattle.px_terms.specs.OrderLaws.{atom_cmp-matches_eq, atom_cmp-total, atom_eq-decides}
use Rattle.px_terms.specs.declared.atom.Atom.{Atom}
use Rattle.px_terms.specs.declared.problem.Problem.{Problem}
use Rattle.px_gaps.specs.Needs.{HasAnswer, HasGap, IsApplicable, IsOpen}
use Rattle.px_gaps.specs.Known.{AreAllBelow, IsKnownOf, IsOpenWith, LimitsNeeds}
use Rattle.px_entries.specs.Joined.{IsAtLimit, Joins}
use Rattle.px_gaps.proofs.Ordered.{sorted_members}
use Rattle.px_gaps.specs.declared.question.MetLimit.{MetLimit}
use Rattle.px_gaps.specs.declared.question.Obligation.{Obligation}
use Rattle.px_gaps.specs.declared.question.Question.{Question}
use Rattle.px_gaps.specs.declared.question.Question.TheVariants.{Proving, FindingGaps}
use Rattle.px_gaps.specs.declared.known.Known.{Known}
use Rattle.px_gaps.specs.declared.known.Known.TheVariants.{Applicable, Open, Closed, Limited}

-- ---- lists, one after the other

module _ {X : Type 0} (P : X → Type 0) (xs ys : List X) where
  pub Any-left : Any P xs → Any P (xs ++ ys)
  Any-left a = let c = Contains-append_left xs ys a.1 (a.0, a.2, a.3) in (c.0, a.1, c.1, c.2, a.4)

  pub Any-right : Any P ys → Any P (xs ++ ys)
  Any-right a = let c = Contains-append_right xs ys a.1 (a.0, a.2, a.3) in (c.0, a.1, c.1, c.2, a.4)

  pub Any-cases : Any P (xs ++ ys) → Any P xs ⊎ Any P ys
  Any-cases a = elim (Contains-append_cases xs ys a.1 (a.0, a.2, a.3)) [
    | inl c ↦ inl (c.0, a.1, c.1, c.2, a.4)
    | inr c ↦ inr (c.0, a.1, c.1, c.2, a.4)
  ]

  pub All-left : All P (xs ++ ys) → All P xs
  All-left all = All-each P xs (λ q has. All-at P (xs ++ ys) q all (Contains-append_left xs ys q has))

  pub All-right : All P (xs ++ ys) → All P ys
  All-right all = All-each P ys (λ q has. All-at P (xs ++ ys) q all (Contains-append_right xs ys q has))

-- ---- what is asked of both, and what is open

-- it has an answer or a gap
abbrev IsOpenOne : Problem → Obligation → Type 0
IsOpenOne problem needed = HasAnswer problem needed ⊎ ((gap : Atom) × HasGap problem needed gap)

abbrev IsAskedOf : Problem → Question → Obligation → Type 0
IsAskedOf problem question needed = (question ≡ Proving needed) ⊎ ((¬ HasAnswer problem needed) × (question ≡ FindingGaps needed))

module _ (problem : Problem) (xs ys : List Obligation) where
  below-both : AreAllBelow problem xs → AreAllBelow problem ys → AreAllBelow problem (xs ++ ys)
  below-both x y = record {
    unlimited = λ question formula shapes asks met. elim (Any-cases (IsAskedOf problem question) xs ys asks) [
      | inl first ↦ x.unlimited question formula shapes first met
      | inr second ↦ y.unlimited question formula shapes second met
    ];
    below = λ question asks. elim (Any-cases (IsAskedOf problem question) xs ys asks) [
      | inl first ↦ x.below question first
      | inr second ↦ y.below question second
    ];
  }

  pub limits-left : (limit : MetLimit) → LimitsNeeds problem xs limit → LimitsNeeds problem (xs ++ ys) limit
  limits-left limit l = record { asked = Any-left (IsAskedOf problem limit.question) xs ys l.asked; met = l.met }

  limits-right : (limit : MetLimit) → LimitsNeeds problem ys limit → LimitsNeeds problem (xs ++ ys) limit
  limits-right limit l = record { asked = Any-right (IsAskedOf problem limit.question) xs ys l.asked; met = l.met }

  open-left : IsOpen problem (xs ++ ys) → IsOpen problem xs
  open-left all = All-left (IsOpenOne problem) xs ys all

  open-right : IsOpen problem (xs ++ ys) → IsOpen problem ys
  open-right all = All-right (IsOpenOne problem) xs ys all

  open-both : IsOpen problem xs → IsOpen problem ys → IsOpen problem (xs ++ ys)
  open-both x y = All-append (IsOpenOne problem) xs ys x y

  pub closed-left : IsKnownOf problem xs Closed → AreAllBelow problem ys → IsKnownOf problem (xs ++ ys) Closed
  closed-left x y = (λ all. x.0 (open-left all), below-both x.1 y)

  closed-right : AreAllBelow problem xs → IsKnownOf problem ys Closed → IsKnownOf problem (xs ++ ys) Closed
  closed-right x y = (λ all. y.0 (open-right all), below-both x y.1)

-- what is applicable is open
pub applicable-open : (problem : Problem) (needs : List Obligation) → IsApplicable problem needs → IsOpen problem needs
applicable-open problem needs all k d below = inl (all k d below)

-- and has no gap
no-gap : (problem : Problem) (needs : List Obligation) (gap : Atom) → IsApplicable problem needs
    → ¬ Any (λ needed. HasGap problem needed gap) needs
no-gap problem needs gap all any = any.4.0 (All-at (HasAnswer problem) needs any.1 all (any.0, any.2, any.3))

module _ (problem : Problem) (xs ys : List Obligation) where
  applicable-both : IsKnownOf problem xs Applicable → IsKnownOf problem ys Applicable → IsKnownOf problem (xs ++ ys) Applicable
  applicable-both x y = (All-append (HasAnswer problem) xs ys x.0 y.0, below-both problem xs ys x.1 y.1)

  abbrev IsGapIn : Atom → Obligation → Type 0
  IsGapIn gap needed = HasGap problem needed gap

  open-applicable : (gaps : List Atom) → IsOpenWith problem xs gaps → IsKnownOf problem ys Applicable → IsOpenWith problem (xs ++ ys) gaps
  open-applicable gaps x y = record {
    not_applicable = λ all. x.not_applicable (All-left (HasAnswer problem) xs ys all);
    open_needs = open-both problem xs ys x.open_needs (applicable-open problem ys y.0);
    order = x.order;
    exact = λ gap. (
      λ has. let g =
          (x.exact gap).0 has in (open-both problem xs ys g.0 (applicable-open problem ys y.0), Any-left (IsGapIn gap) xs ys g.1),
      λ g. elim (Any-cases (IsGapIn gap) xs ys g.1) [
        | inl first ↦ (x.exact gap).1 (x.open_needs, first)
        | inr second ↦ absurd (no-gap problem ys gap y.0 second)
      ],
    );
    questions = below-both problem xs ys x.questions y.1;
  }

  applicable-open_with : (gaps : List Atom) → IsKnownOf problem xs Applicable → IsOpenWith problem ys gaps
      → IsOpenWith problem (xs ++ ys) gaps
  applicable-open_with gaps x y = record {
    not_applicable = λ all. y.not_applicable (All-right (HasAnswer problem) xs ys all);
    open_needs = open-both problem xs ys (applicable-open problem xs x.0) y.open_needs;
    order = y.order;
    exact = λ gap. (
      λ has. let g =
          (y.exact gap).0 has in (open-both problem xs ys (applicable-open problem xs x.0) g.0, Any-right (IsGapIn gap) xs ys g.1),
      λ g. elim (Any-cases (IsGapIn gap) xs ys g.1) [
        | inl first ↦ absurd (no-gap problem xs gap x.0 first)
        | inr second ↦ (y.exact gap).1 (y.open_needs, second)
      ],
    );
    questions = below-both problem xs ys x.1 y.questions;
  }

  open-open : (gaps more all_gaps : List Atom) → IsAtomSet all_gaps
      → ((atom : Atom) → Contains all_gaps atom ↔ (Contains gaps atom ⊎ Contains more atom))
      → IsOpenWith problem xs gaps → IsOpenWith problem ys more → IsOpenWith problem (xs ++ ys) all_gaps
  open-open gaps more all_gaps order members x y = record {
    not_applicable = λ all. x.not_applicable (All-left (HasAnswer problem) xs ys all);
    open_needs = open-both problem xs ys x.open_needs y.open_needs;
    order = order;
    exact = λ gap. (
      λ has. (
        open-both problem xs ys x.open_needs y.open_needs,
        elim ((members gap).0 has) [
          | inl first ↦ Any-left (IsGapIn gap) xs ys ((x.exact gap).0 first).1
          | inr second ↦ Any-right (IsGapIn gap) xs ys ((y.exact gap).0 second).1
        ],
      ),
      λ g. (members gap).1 (elim (Any-cases (IsGapIn gap) xs ys g.1) [
        | inl first ↦ inl ((x.exact gap).1 (x.open_needs, first))
        | inr second ↦ inr ((y.exact gap).1 (y.open_needs, second))
      ]),
    );
    questions = below-both problem xs ys x.questions y.questions;
  }

-- ---- case by case

pub joins-limited : (limit : MetLimit) (second : Known) → Joins (Limited limit) second (Limited limit)
joins-limited limit second = record { known = λ problem xs ys x y. limits-left problem xs ys limit x }

pub joins-applicable : (second : Known) → Joins Applicable second second
joins-applicable Applicable = record { known = λ problem xs ys x y. applicable-both problem xs ys x y }
joins-applicable (Open gaps) = record { known = λ problem xs ys x y. applicable-open_with problem xs ys gaps x y }
joins-applicable Closed = record { known = λ problem xs ys x y. closed-right problem xs ys x.1 y }
joins-applicable (Limited limit) = record { known = λ problem xs ys x y. limits-right problem xs ys limit y }

pub joins-closed_applicable : Joins Closed Applicable Closed
joins-closed_applicable = record { known = λ problem xs ys x y. closed-left problem xs ys x y.1 }

pub joins-closed_open : (gaps : List Atom) → Joins Closed (Open gaps) Closed
joins-closed_open gaps = record { known = λ problem xs ys x y. closed-left problem xs ys x y.questions }

pub joins-closed_closed : Joins Closed Closed Closed
joins-closed_closed = record { known = λ problem xs ys x y. closed-left problem xs ys x y.1 }

pub joins-later_limit : (first : Known) (limit : MetLimit) → Joins first (Limited limit) (Limited limit)
joins-later_limit first limit = record { known = λ problem xs ys x y. limits-right problem xs ys limit y }

pub joins-open_applicable : (gaps : List Atom) → Joins (Open gaps) Applicable (Open gaps)
joins-open_applicable gaps = record { known = λ problem xs ys x y. open-applicable problem xs ys gaps x y }

pub joins-open_closed : (gaps : List Atom) → Joins (Open gaps) Closed Closed
joins-open_closed gaps = record { known = λ problem xs ys x y. closed-right problem xs ys x.questions y }

pub joins-open_open : (gaps more all_gaps : List Atom) → IsAtomSet all_gaps
    → ((atom : Atom) → Contains all_gaps atom ↔ (Contains gaps atom ⊎ Contains more atom)) → Joins (Open gaps) (Open more) (Open all_gaps)
joins-open_open gaps more all_gaps order members =
    record { known = λ problem xs ys x y. open-open problem xs ys gaps more all_gaps order members x y }

-- a limit of the first part is one of the whole
pub limit-whole : (problem : Problem) (xs ys : List Obligation) (known : Known) → IsAtLimit known → IsKnownOf problem xs known
    → IsKnownOf problem (xs ++ ys) known
limit-whole problem xs ys Applicable at x = absurd at
limit-whole problem xs ys (Open gaps) at x = absurd at
limit-whole problem xs ys Closed at x = absurd at
limit-whole problem xs ys (Limited limit) at x = limits-left problem xs ys limit x

-- nothing is needed
pub nothing-needed : (problem : Problem) → IsKnownOf problem [] Applicable
nothing-needed problem = (
  λ k d below. absurd (omega (arith, below)),
  record {
    unlimited = λ question formula shapes asks met. omega (arith, asks.2);
    below = λ question asks. absurd (omega (arith, asks.2));
  },
)

-- ---- the atoms of two lists, in order

pub union-members : (first second both sorted new : List Atom) → both ≡ first ++ second → IsPermutation both sorted
    → new ≡ dedup atom_eq sorted → (atom : Atom) → Contains new atom ↔ (Contains first atom ⊎ Contains second atom)
union-members first second both sorted new both_is permuted is atom =
    let same = sorted_members atom_eq atom_eq-decides both sorted new permuted is atom in (
      λ has. Contains-append_cases first second atom (subst (λ (l : List Atom). Contains l atom) both_is (same.1 has)),
      λ either. same.0 (subst (λ (l : List Atom). Contains l atom) (sym both_is) (elim either [
        | inl left ↦ Contains-append_left first second atom left
        | inr right ↦ Contains-append_right first second atom right
      ])),
    )

pub union-ascends : (sorted new : List Atom) → IsSorted atom_cmp sorted → new ≡ dedup atom_eq sorted → IsAtomSet new
union-ascends sorted new ascends is = subst IsAtomSet (sym is) (IsStrictlySortedBy-dedup atom_cmp-total atom_cmp-matches_eq sorted ascends)
