-- What is known of a row whose parameters get their objects one after the other, and of the rows of a table.
use Rattle.std.proofs.Common.{◌≡◌, ◌∙◌, ◌⊎◌, ◌+◌, ◌<◌, ◌≤◌, ℕ, zero, suc, Some, List, [], ◌∷◌, ◌++◌, length, set, take, slice_get, get_or, ap, sym, subst, inl, inr, arith, length-append}
use Rattle.std.specs.Prelude.{All, slice_index}
use Rattle.std.proofs.lemmas.List.{get_or-take, get_or_append_left, get_or_default, length-take}
use Rattle.std.proofs.Math.Seq.{get_or-append_seam}
use Rattle.std.proofs.lemmas.Option.{slice_get_within}
use Rattle.px_question.specs.Settings.{Setting}
use Rattle.px_table.specs.declared.table.Table.{Table}
use Rattle.px_terms.specs.declared.term.Term.{Term}
use Rattle.px_terms.specs.declared.term.Term.TheVariants.{Obj, Var}
use Rattle.px_gaps.specs.Bindings.{ExtendsTerms}
use Rattle.px_gaps.specs.Closings.{OneOf}
use Rattle.px_entries.specs.Parameters.{FitsTerms}
use Rattle.px_diff.specs.RowQuestions.{AreAskedOf, AreInstancesKnown, AreRowsKnown, FitsOne, IsInstanceKnown, IsRowKnown, Widens}
use Rattle.px_gaps.proofs.Choosing.{bound-extends}
use Rattle.px_base.proofs.Loops.{contains_here, level_or_below}
use Rattle.px_entries.proofs.ParameterLemmas.{extends-fits, pushed-all, pushed-kept, pushed-last}

-- ---- lists of terms that grow

module _ (params : ℕ) where
  pub widens-none : (old : List (List Term)) → Widens params old old
  widens-none old = record { long = λ all. all; kept = λ sigma fit. fit }

  pub widens-next : (old made new : List (List Term)) → Widens params old made → Widens params made new → Widens params old new
  widens-next old made new first second =
      record { long = λ all. second.long (first.long all); kept = λ sigma fit. second.kept sigma (first.kept sigma fit) }

-- ---- objects for one parameter, one after the other

-- the objects extend the terms, and that of the parameter is before this one
abbrev pub IsBefore : ℕ → List Term → ℕ → ℕ → List ℕ → Type 0
IsBefore limit terms v object sigma = ExtendsTerms limit terms sigma × (slice_index sigma v < object)

module _ (s : Setting) (table : Table) (row : ℕ) where
  pub known-wider : (old new : List (List Term)) (sigma : List ℕ) → (FitsOne old sigma → FitsOne new sigma)
      → IsInstanceKnown s table row old sigma → IsInstanceKnown s table row new sigma
  known-wider old new sigma wider known =
      record { few = known.few; atoms = known.atoms; covers = λ objects gaps list. wider (known.covers objects gaps list) }

  module _ (limit : ℕ) (terms : List Term) (v : ℕ) (is_open : slice_get terms v ≡ Some (Var v)) where
    pub asked-none : (choices limited : List (List Term)) → AreAskedOf s table row (IsBefore limit terms v 0) choices limited
    asked-none choices limited sigma (extends, less) = absurd (omega (arith, less))

    pub asked-next : (object : ℕ) (passed : List Term) (made made_limited new new_limited : List (List Term))
        → passed ≡ set terms v (Obj object) → Widens table.params made new → Widens table.params made_limited new_limited
        → AreAskedOf s table row (IsBefore limit terms v object) made made_limited
        → AreAskedOf s table row (ExtendsTerms limit passed) new new_limited
        → AreAskedOf s table row (IsBefore limit terms v (object + 1)) new new_limited
    asked-next object passed made made_limited new new_limited is wider wider_limited before here sigma (extends, less) =
        elim (level_or_below (slice_index sigma v) object less) [
          | inl earlier ↦ elim (before sigma (extends, earlier)) [
            | inl fit ↦ inl (wider_limited.kept sigma fit)
            | inr known ↦ inr (known-wider made new sigma (wider.kept sigma) known)
          ]
          | inr level ↦ here sigma (subst (λ (ts : List Term). ExtendsTerms limit ts sigma) (sym is)
              (bound-extends limit terms v is_open object sigma extends level))
        ]

    pub asked-all : (object : ℕ) (choices limited : List (List Term)) → limit ≤ object
        → AreAskedOf s table row (IsBefore limit terms v object) choices limited
        → AreAskedOf s table row (ExtendsTerms limit terms) choices limited
    asked-all object choices limited past before sigma extends =
        let within : v < length terms = slice_get_within terms v (Var v) is_open in
        let below : slice_index sigma v < limit = extends.below v 0 (omega (arith, within, extends.count)) in
        before sigma (extends, omega (arith, below, past))

-- ---- the rows, one after the other

module _ (s : Setting) (table : Table) (terms : List Term) where
  pub rows-none : (rows limited : List (List (List Term))) → rows ≡ [] → limited ≡ [] → AreRowsKnown s table terms 0 rows limited
  rows-none rows limited empty empty_limited =
      record { count = ap length empty; limited_count = ap length empty_limited; each = λ k below. absurd (omega (arith, below)) }

  pub rows-next : (prefix : ℕ) (rows limited new new_limited : List (List (List Term))) (one one_limited : List (List Term))
      → AreRowsKnown s table terms prefix rows limited → IsRowKnown s table terms (prefix + 1) one one_limited
      → new ≡ rows ++ one ∷ [] → new_limited ≡ limited ++ one_limited ∷ [] → AreRowsKnown s table terms (prefix + 1) new new_limited
  rows-next prefix rows limited new new_limited one one_limited known here put put_limited = record {
    count = omega (arith, ap length put, length-append rows (one ∷ []), known.count);
    limited_count = omega (arith, ap length put_limited, length-append limited (one_limited ∷ []), known.limited_count);
    each = λ k below. elim (level_or_below k prefix below) [
      | inl before ↦ both k
          (get_or rows k []) (get_or limited k [])
          (sym (ap (λ (l : List (List (List Term))). get_or l k []) put
          ∙ get_or_append_left rows (one ∷ []) [] k (omega (arith, before, known.count))))
          (sym (ap (λ (l : List (List (List Term))). get_or l k []) put_limited
          ∙ get_or_append_left limited (one_limited ∷ []) [] k (omega (arith, before, known.limited_count))))
          (known.each k before)
      | inr level ↦ both k one one_limited
          (sym (ap (λ (l : List (List (List Term))). get_or l k []) put
          ∙ ap (λ (n : ℕ). get_or (rows ++ one ∷ []) n []) (level ∙ sym known.count) ∙ get_or-append_seam rows one [] []))
          (sym (ap (λ (l : List (List (List Term))). get_or l k []) put_limited
          ∙ ap (λ (n : ℕ). get_or (limited ++ one_limited ∷ []) n []) (level ∙ sym known.limited_count)
          ∙ get_or-append_seam limited one_limited [] []))
          (subst (λ (n : ℕ). IsRowKnown s table terms (n + 1) one one_limited) (sym level) here)
    ];
  }
    where
      both : (k : ℕ) (a b : List (List Term)) → a ≡ get_or new k [] → b ≡ get_or new_limited k [] → IsRowKnown s table terms (k + 1) a b
          → IsRowKnown s table terms (k + 1) (get_or new k []) (get_or new_limited k [])
      both k a b is is_limited row =
          subst (λ (l : List (List Term)). IsRowKnown s table terms (k + 1) l (get_or new_limited k [])) is
          (subst (λ (l : List (List Term)). IsRowKnown s table terms (k + 1) a l) is_limited row)

  -- the choices have a term for each parameter, and so have the terms at which rows meet the limit
  pub choices-long : (prefix : ℕ) (rows limited : List (List (List Term))) → AreRowsKnown s table terms prefix rows limited
      → All (All (λ (choice : List Term). length choice ≡ table.params)) rows
  choices-long prefix rows limited known k d within =
      subst (All (λ (choice : List Term). length choice ≡ table.params)) (get_or_default rows k [] d within)
      (known.each k (omega (arith, within, known.count))).long

  pub limited-long : (prefix : ℕ) (rows limited : List (List (List Term))) → AreRowsKnown s table terms prefix rows limited
      → All (All (λ (choice : List Term). length choice ≡ table.params)) limited
  limited-long prefix rows limited known k d within =
      subst (All (λ (choice : List Term). length choice ≡ table.params)) (get_or_default limited k [] d within)
      (known.each k (omega (arith, within, known.limited_count))).limited_long

  -- the first rows alone
  pub rows-taken : (prefix count : ℕ) (rows limited : List (List (List Term))) → count ≤ prefix
      → AreRowsKnown s table terms prefix rows limited → AreRowsKnown s table terms count (take count rows) (take count limited)
  rows-taken prefix count rows limited within known = record {
    count = omega (arith, length-take count rows, known.count, within);
    limited_count = omega (arith, length-take count limited, known.limited_count, within);
    each = λ k below.
        subst (λ (l : List (List Term)). IsRowKnown s table terms (k + 1) l (get_or (take count limited) k []))
        (sym (get_or-take count rows k [] below))
        (subst (λ (l : List (List Term)). IsRowKnown s table terms (k + 1) (get_or rows k []) l)
        (sym (get_or-take count limited k [] below)) (known.each k (omega (arith, below, within))));
  }

  -- objects fit one of the terms at which some row meets the limit, or each row with them is known
  module _ (prefix : ℕ) (rows limited : List (List (List Term))) (known : AreRowsKnown s table terms prefix rows limited) (sigma : List ℕ)
      (extends : ExtendsTerms s.objects terms sigma) where
    limited_or_before : (n : ℕ) → n ≤ prefix
        → OneOf limited (λ (row : List (List Term)). FitsOne row sigma)
        ⊎ ((k : ℕ) → k < n → IsInstanceKnown s table (k + 1) (get_or rows k []) sigma)
    limited_or_before zero within = inr (λ k below. absurd (omega (arith, below)))
    limited_or_before (suc n) within = elim (limited_or_before n (omega (arith, within))) [
      | inl one ↦ inl one
      | inr before ↦ elim ((known.each n (omega (arith, within))).asked sigma extends) [
        | inl fit ↦ inl (
          get_or limited n [],
          contains_here limited n (get_or limited n []) inside (get_or_default limited n [] (get_or limited n []) inside),
          fit,
        )
        | inr here ↦ inr (λ k below. elim (level_or_below k n (omega (arith, below))) [
          | inl earlier ↦ before k earlier
          | inr level ↦ subst (λ (m : ℕ). IsInstanceKnown s table (m + 1) (get_or rows m []) sigma) (sym level) here
        ])
      ]
    ]
      where
        inside : n < length limited
        inside = omega (arith, within, known.limited_count)

    pub limited_or_known : OneOf limited (λ (row : List (List Term)). FitsOne row sigma)
        ⊎ ((k : ℕ) → k < prefix → IsInstanceKnown s table (k + 1) (get_or rows k []) sigma)
    limited_or_known = limited_or_before prefix (omega arith)
