-- The first answer of ground atoms is the first proofs of each of them. No proof's shape begins another's of the same literal, so
-- what comes first with something behind it comes first alone.
use Rattle.std.proofs.Common.{◌≡◌, ◌⊎◌, ◌∙◌, ℕ, ◌<◌, List, [], ◌∷◌, ◌++◌, length, refl, ap, sym, subst, arith, append_assoc, length-append, inl, inr}
use Rattle.std.specs.Prelude.{map, remove, slice_get}
use Rattle.std.proofs.lemmas.List.{length-map, append-nil}
use Rattle.std.proofs.lemmas.List.Elements.{All-nil}
use Rattle.px_terms.specs.declared.atom.Atom.{Atom}
use Rattle.px_terms.specs.declared.clause.Clause.{Clause}
use Rattle.px_terms.specs.declared.clause.Lit.{Lit}
use Rattle.px_terms.specs.declared.term.Term.{Term}
use Rattle.px_terms.specs.Substitution.{substitute_atom}
use Rattle.px_proof.specs.declared.shape.Tick.{Tick}
use Rattle.px_proof.specs.declared.shape.Tick.TheVariants.{Fact, Anc, Step}
use Rattle.px_proof.specs.Derivation.{Derivation, Derivations, fact, ancestor, step, gap, open_place, none, also}
use Rattle.px_proof.specs.Literals.{complement_of, positive_of, substitute_literal}
use Rattle.px_base.specs.Answers.{some_same}
use Rattle.px_proof.specs.PlaceLaws.{map-remove}
use Rattle.px_proof.specs.Proves.{Proves, ProvesEach, instance_of, parts_of}
use Rattle.px_proof.specs.Shapes.{ticks, ticks_of, ShapeBefore}
use Rattle.px_terms.specs.Language.{object_of}
use Rattle.px_question.specs.Answers.{IsFirst, IsList, AtMost, choices_of, all_choices_of}
use Rattle.px_question.specs.FirstOfEach.{AreFirstProofs, FirstIsOfEach, IsFirstProof}
use Rattle.px_question.specs.Settings.{Setting, proofs_in}
use Rattle.px_question.specs.ShapeOrder.{ShapeBefore-irrefl, ShapeBefore-trans, shape_trichotomy}
use Rattle.px_question.proofs.FirstLaws.{cons_same, step_same}

length-parts : (lits : List Lit) (theta : List Term) (place : ℕ) → length (parts_of lits theta place) ≡ length (remove lits place)
length-parts lits theta place =
    length-map (remove (instance_of lits theta) place) complement_of
    ∙ ap length (sym (map-remove (substitute_literal theta) lits place))
    ∙ length-map (remove lits place) (substitute_literal theta)

-- the shapes are one, what follows is one, and as many objects are chosen
record Agree (d_ticks e_ticks ts us : List Tick) (ms ns : List ℕ) : Type 0 where
  pub shape : d_ticks ≡ e_ticks
  pub rest : ts ≡ us
  pub count : length ms ≡ length ns

module _ (s : Setting) where
  mutual
    agree : (path path' : List Lit) (lit lit' : Lit) (d e : Derivation) (ts us : List Tick) → Proves (proofs_in s) s.axioms path lit d
        → Proves (proofs_in s) s.axioms path' lit' e
        → ticks d ++ ts ≡ ticks e ++ us → Agree (ticks d) (ticks e) ts us (choices_of d) (choices_of e)
    agree path path' lit lit' (fact l) (fact m) ts us p q t =
        let both = cons_same (Fact l.index) (Fact m.index) ts us t in record { shape = (λ i. both.0 i ∷ []); rest = both.1; count = refl }
    agree path path' lit lit' (fact l) (ancestor k) ts us p q t = absurd (cc)
    agree path path' lit lit' (fact l) (step number theta place parts) ts us p q t = absurd (cc)
    agree path path' lit lit' (fact l) (gap atom) ts us p q t = absurd q.1
    agree path path' lit lit' (fact l) open_place ts us p q t = absurd q
    agree path path' lit lit' (ancestor j) (fact m) ts us p q t = absurd (cc)
    agree path path' lit lit' (ancestor j) (ancestor k) ts us p q t =
        let both = cons_same (Anc j) (Anc k) ts us t in record { shape = (λ i. both.0 i ∷ []); rest = both.1; count = refl }
    agree path path' lit lit' (ancestor j) (step number theta place parts) ts us p q t = absurd (cc)
    agree path path' lit lit' (ancestor j) (gap atom) ts us p q t = absurd q.1
    agree path path' lit lit' (ancestor j) open_place ts us p q t = absurd q
    agree path path' lit lit' (step number theta place parts) (fact m) ts us p q t = absurd (cc)
    agree path path' lit lit' (step number theta place parts) (ancestor k) ts us p q t = absurd (cc)
    agree path path' lit lit' (step number theta place parts) (step number' theta' place' parts') ts us p q t =
        let both = cons_same (Step number place) (Step number' place') (ticks_of parts ++ ts) (ticks_of parts' ++ us) t in
        let numbers = step_same number number' place place' both.0 in
        let clause = some_same (sym p.1.axiom_at ∙ ap (slice_get s.axioms) numbers.0 ∙ q.1.axiom_at) in
        let rests : remove (p.0.lits) place ≡ remove (q.0.lits) place' = λ i. remove ((clause i).lits) (numbers.1 i) in
        let long : length (parts_of p.0.lits theta place) ≡ length (parts_of q.0.lits theta' place') =
        length-parts p.0.lits theta place ∙ ap length rests ∙ sym (length-parts q.0.lits theta' place') in
        let rest =
        each_agree (lit ∷ path) (lit' ∷ path') (parts_of p.0.lits theta place)
        (parts_of q.0.lits theta' place') parts parts' ts us long p.2 q.2 both.1 in
        let chosen : length (map object_of theta) ≡ length (map object_of theta') =
        length-map theta object_of ∙ p.1.terms ∙ ap (λ (x : Clause). x.variable_count) clause ∙ sym q.1.terms ∙ sym (length-map theta' object_of) in
        record {
          shape = λ i. both.0 i ∷ rest.shape i;
          rest = rest.rest;
          count =
              omega (
                arith,
                length-append (map object_of theta) (all_choices_of parts),
                length-append (map object_of theta') (all_choices_of parts'),
                chosen,
                rest.count,
              );
        }
    agree path path' lit lit' (step number theta place parts) (gap atom) ts us p q t = absurd q.1
    agree path path' lit lit' (step number theta place parts) open_place ts us p q t = absurd q
    agree path path' lit lit' (gap atom) e ts us p q t = absurd p.1
    agree path path' lit lit' open_place e ts us p q t = absurd p

    each_agree : (path path' lits lits' : List Lit) (ds es : Derivations) (ts us : List Tick) → length lits ≡ length lits'
        → ProvesEach (proofs_in s) s.axioms path lits ds → ProvesEach (proofs_in s) s.axioms path' lits' es
        → ticks_of ds ++ ts ≡ ticks_of es ++ us → Agree (ticks_of ds) (ticks_of es) ts us (all_choices_of ds) (all_choices_of es)
    each_agree path path' [] [] none none ts us long p q t = record { shape = refl; rest = t; count = refl }
    each_agree path path' [] [] none (also e es) ts us long p q t = absurd q
    each_agree path path' [] [] (also d ds) es ts us long p q t = absurd p
    each_agree path path' [] (lit' ∷ lits') ds es ts us long p q t = absurd (omega (arith, long))
    each_agree path path' (lit ∷ lits) [] ds es ts us long p q t = absurd (omega (arith, long))
    each_agree path path' (lit ∷ lits) (lit' ∷ lits') none es ts us long p q t = absurd p
    each_agree path path' (lit ∷ lits) (lit' ∷ lits') (also d ds) none ts us long p q t = absurd q
    each_agree path path' (lit ∷ lits) (lit' ∷ lits') (also d ds) (also e es) ts us long p q t =
        let here =
        agree path path' lit lit' d e (ticks_of ds ++ ts) (ticks_of es ++ us) p.0 q.0
        (sym (append_assoc (ticks d) (ticks_of ds) ts) ∙ t ∙ append_assoc (ticks e) (ticks_of es) us) in
        let later = each_agree path path' lits lits' ds es ts us (omega (arith, long)) p.1 q.1 here.rest in
        record {
          shape = λ i. here.shape i ++ later.shape i;
          rest = later.rest;
          count =
              omega (
                arith,
                length-append (choices_of d) (all_choices_of ds),
                length-append (choices_of e) (all_choices_of es),
                here.count,
                later.count,
              );
        }

-- a list before another begins it, or stays before it whatever follows
before_or_begins : (a b : List Tick) → ShapeBefore a b
    → ((t : Tick) × (w : List Tick) × (b ≡ a ++ t ∷ w)) ⊎ ((x y : List Tick) → ShapeBefore (a ++ x) (b ++ y))
before_or_begins [] [] h = absurd h
before_or_begins [] (u ∷ b) h = inl (u, b, refl)
before_or_begins (t ∷ a) [] h = absurd h
before_or_begins (t ∷ a) (u ∷ b) (inl h) = inr (λ x y. inl h)
before_or_begins (t ∷ a) (u ∷ b) (inr h) = elim (before_or_begins a b h.1) [
  | inl begins ↦ inl (begins.0, begins.1, (λ i. sym h.0 i ∷ begins.2 i))
  | inr stays ↦ inr (λ x y. inr (h.0, stays x y))
]

-- the same prefix changes nothing
behind : (a x y : List Tick) → ShapeBefore (a ++ x) (a ++ y) → ShapeBefore x y
behind [] x y h = h
behind (t ∷ a) x y (inl h) = absurd (ShapeBefore-irrefl (t ∷ []) (inl h))
behind (t ∷ a) x y (inr h) = behind a x y h.1

ahead : (a x y : List Tick) → ShapeBefore x y → ShapeBefore (a ++ x) (a ++ y)
ahead [] x y h = h
ahead (t ∷ a) x y h = inr (refl, ahead a x y h)

at_most_prefix : (ms ns x y : List ℕ) → length ms ≡ length ns → AtMost (ms ++ x) (ns ++ y) → AtMost ms ns
at_most_prefix [] [] x y long h = tt
at_most_prefix [] (n ∷ ns) x y long h = absurd (omega (arith, long))
at_most_prefix (m ∷ ms) [] x y long h = absurd (omega (arith, long))
at_most_prefix (m ∷ ms) (n ∷ ns) x y long (inl h) = inl h
at_most_prefix (m ∷ ms) (n ∷ ns) x y long (inr h) = inr (h.0, at_most_prefix ms ns x y (omega (arith, long)) h.1)

at_most_behind : (ms x y : List ℕ) → AtMost (ms ++ x) (ms ++ y) → AtMost x y
at_most_behind [] x y h = h
at_most_behind (m ∷ ms) x y (inl h) = absurd (omega (arith, h))
at_most_behind (m ∷ ms) x y (inr h) = at_most_behind ms x y h.1

at_most_both : (ms ns x y : List ℕ) → length ms ≡ length ns → AtMost ms ns → AtMost x y → AtMost (ms ++ x) (ns ++ y)
at_most_both [] [] x y long h k = k
at_most_both [] (n ∷ ns) x y long h k = absurd (omega (arith, long))
at_most_both (m ∷ ms) [] x y long h k = absurd h
at_most_both (m ∷ ms) (n ∷ ns) x y long (inl h) k = inl h
at_most_both (m ∷ ms) (n ∷ ns) x y long (inr h) k = inr (h.0, at_most_both ms ns x y (omega (arith, long)) h.1 k)

abbrev LeastOf : List Tick → List Tick → List ℕ → List ℕ → Type 0
LeastOf x y ms ns = ShapeBefore x y ⊎ ((x ≡ y) × AtMost ms ns)

empty_never : {G : Type 0} (t : Tick) (w : List Tick) → t ∷ w ≡ [] → G
empty_never t w h = absurd (cc)

module _ (s : Setting) where
  -- what is least with something behind it is least without
  core : (lit : Lit) (d e : Derivation) (z : List Tick) (cz : List ℕ) → Proves (proofs_in s) s.axioms [] lit d
      → Proves (proofs_in s) s.axioms [] lit e
      → LeastOf (ticks d ++ z) (ticks e ++ z) (choices_of d ++ cz) (choices_of e ++ cz)
      → LeastOf (ticks d ++ []) (ticks e ++ []) (choices_of d ++ []) (choices_of e ++ [])
  core lit d e z cz p q (inr h) =
      let same = agree s [] [] lit lit d e z z p q h.0 in
      inr (
        ap (λ (l : List Tick). l ++ []) same.shape,
        subst (λ (l : List ℕ). AtMost l (choices_of e ++ [])) (sym (append-nil (choices_of d)))
            (subst (AtMost (choices_of d)) (sym (append-nil (choices_of e)))
            (at_most_prefix (choices_of d) (choices_of e) cz cz same.count h.1)),
      )
  core lit d e z cz p q (inl h) = elim (shape_trichotomy (ticks d) (ticks e)) [
    | inl before ↦ elim (before_or_begins (ticks d) (ticks e) before) [
      | inl begins ↦ empty_never begins.0 begins.1 (sym
          (agree s [] [] lit lit e d [] (begins.0 ∷ begins.1) q p (append-nil (ticks e) ∙ begins.2)).rest)
      | inr stays ↦ inl (stays [] [])
    ]
    | inr others ↦ elim others [
      | inl same ↦ absurd (ShapeBefore-irrefl (ticks e ++ z) (subst (λ (l : List Tick). ShapeBefore (l ++ z) (ticks e ++ z)) same h))
      | inr after ↦ elim (before_or_begins (ticks e) (ticks d) after) [
        | inl begins ↦ empty_never begins.0 begins.1
            (sym (agree s [] [] lit lit d e [] (begins.0 ∷ begins.1) p q (append-nil (ticks d) ∙ begins.2)).rest)
        | inr stays ↦ absurd (ShapeBefore-irrefl (ticks d ++ z)
            (ShapeBefore-trans (ticks d ++ z) (ticks e ++ z) (ticks d ++ z) h (stays z z)))
      ]
    ]
  ]

-- the front and the rest of a first answer are first answers
module _ (s : Setting) (atom : Atom) (atoms : List Atom) (d : Derivation) (ds : Derivations)
    (first : IsFirst s (atom ∷ atoms) 0 [] (also d ds)) where
  alone : (others : List ℕ) (es : Derivations) → IsList (proofs_in s) s (atom ∷ []) 0 others es
      → LeastOf (ticks d ++ []) (ticks_of es) (choices_of d ++ []) (others ++ all_choices_of es)
  alone (n ∷ ns) es is = absurd (omega (arith, is.count))
  alone [] none is = absurd is.proved
  alone [] (also e (also f es)) is = absurd is.proved.1
  alone [] (also e none) is =
      core s _ d e (ticks_of ds) (all_choices_of ds) first.finished.proved.0 is.proved.0
      (first.least [] (also e ds) (record {
        count = refl;
        below = is.below;
        proved = (is.proved.0, first.finished.proved.1);
        low = omega (arith, is.low, first.finished.low);
      }))

  prefix_first : IsFirstProof s atom d
  prefix_first = record {
    finished =
        record {
          count = refl;
          below = first.finished.below;
          proved = (first.finished.proved.0, tt);
          low = omega (arith, first.finished.low);
        };
    least = alone;
  }

  later : (others : List ℕ) (es : Derivations) → IsList (proofs_in s) s atoms 0 others es
      → LeastOf (ticks_of ds) (ticks_of es) (all_choices_of ds) (others ++ all_choices_of es)
  later (n ∷ ns) es is = absurd (omega (arith, is.count))
  later [] es is =
      elim (first.least [] (also d es) (record {
        count = refl;
        below = is.below;
        proved = (first.finished.proved.0, is.proved);
        low = omega (arith, is.low, first.finished.low);
      })) [
        | inl before ↦ inl (behind (ticks d) (ticks_of ds) (ticks_of es) before)
        | inr h ↦ inr (
          (agree s [] [] _ _ d d (ticks_of ds) (ticks_of es) first.finished.proved.0 first.finished.proved.0 h.0).rest,
          at_most_behind (choices_of d) (all_choices_of ds) (all_choices_of es) h.1,
        )
      ]

  rest_first : IsFirst s atoms 0 [] ds
  rest_first = record {
    finished =
        record { count = refl; below = first.finished.below; proved = first.finished.proved.1; low = omega (arith, first.finished.low) };
    least = later;
  }

-- and together they are one
module _ (s : Setting) (atom : Atom) (atoms : List Atom) (d : Derivation) (ds : Derivations) (prefix : IsFirstProof s atom d)
    (rest : IsFirst s atoms 0 [] ds) where
  later_parts : (e : Derivation) (es : Derivations) → Agree (ticks d) (ticks e) [] [] (choices_of d) (choices_of e)
      → AtMost (choices_of d) (choices_of e)
      → LeastOf (ticks_of ds) (ticks_of es) (all_choices_of ds) (all_choices_of es)
      → LeastOf (ticks d ++ ticks_of ds) (ticks e ++ ticks_of es) (choices_of d ++ all_choices_of ds) (choices_of e ++ all_choices_of es)
  later_parts e es same most (inl h) =
      inl (subst (λ (l : List Tick). ShapeBefore (ticks d ++ ticks_of ds) (l ++ ticks_of es)) same.shape
      (ahead (ticks d) (ticks_of ds) (ticks_of es) h))
  later_parts e es same most (inr h) =
      inr (
        (λ i. same.shape i ++ h.0 i),
        at_most_both (choices_of d) (choices_of e) (all_choices_of ds) (all_choices_of es) same.count most h.1,
      )

  both_parts : (e : Derivation) (es : Derivations) → Proves (proofs_in s) s.axioms [] (positive_of (substitute_atom [] atom)) e
      → LeastOf (ticks d ++ []) (ticks e ++ []) (choices_of d ++ []) (choices_of e ++ [])
      → LeastOf (ticks_of ds) (ticks_of es) (all_choices_of ds) (all_choices_of es)
      → LeastOf (ticks d ++ ticks_of ds) (ticks e ++ ticks_of es) (choices_of d ++ all_choices_of ds) (choices_of e ++ all_choices_of es)
  both_parts e es q (inl h) later =
      elim (before_or_begins (ticks d) (ticks e) (subst (λ (l : List Tick). ShapeBefore l (ticks e)) (append-nil (ticks d))
      (subst (ShapeBefore (ticks d ++ [])) (append-nil (ticks e)) h))) [
        | inl begins ↦ empty_never begins.0 begins.1
            (sym (agree s [] [] _ _ e d [] (begins.0 ∷ begins.1) q prefix.finished.proved.0 (append-nil (ticks e) ∙ begins.2)).rest)
        | inr stays ↦ inl (stays (ticks_of ds) (ticks_of es))
      ]
  both_parts e es q (inr h) later =
      let same = agree s [] [] _ _ d e [] [] prefix.finished.proved.0 q h.0 in
      later_parts e es same (at_most_prefix (choices_of d) (choices_of e) [] [] same.count h.1) later

  together : (others : List ℕ) (es : Derivations) → IsList (proofs_in s) s (atom ∷ atoms) 0 others es
      → LeastOf (ticks d ++ ticks_of ds) (ticks_of es) (choices_of d ++ all_choices_of ds) (others ++ all_choices_of es)
  together (n ∷ ns) es is = absurd (omega (arith, is.count))
  together [] none is = absurd is.proved
  together [] (also e es) is =
      both_parts e es is.proved.0
      (prefix.least [] (also e none) (record { count = refl; below = is.below; proved = (is.proved.0, tt); low = omega (arith, is.low) }))
      (rest.least [] es (record { count = refl; below = is.below; proved = is.proved.1; low = omega (arith, is.low) }))

  both_first : IsFirst s (atom ∷ atoms) 0 [] (also d ds)
  both_first = record {
    finished =
        record {
          count = refl;
          below = prefix.finished.below;
          proved = (prefix.finished.proved.0, rest.finished.proved);
          low = omega (arith, prefix.finished.low, rest.finished.low);
        };
    least = together;
  }

-- ---- atom by atom

nothing-first : (s : Setting) → IsFirst s [] 0 [] none
nothing-first s = record {
  finished = record { count = refl; below = All-nil (λ n. n < s.objects); proved = tt; low = omega arith };
  least = nothing_less;
}
  where
    nothing_less : (others : List ℕ) (es : Derivations) → IsList (proofs_in s) s [] 0 others es
        → LeastOf [] (ticks_of es) [] (others ++ all_choices_of es)
    nothing_less others none is = inr (refl, tt)
    nothing_less others (also e es) is = absurd is.proved

each_first : (s : Setting) (atoms : List Atom) (ds : Derivations) → IsFirst s atoms 0 [] ds → AreFirstProofs s atoms ds
each_first s [] none first = tt
each_first s [] (also d ds) first = absurd first.finished.proved
each_first s (atom ∷ atoms) none first = absurd first.finished.proved
each_first s (atom ∷ atoms) (also d ds) first =
    (prefix_first s atom atoms d ds first, each_first s atoms ds (rest_first s atom atoms d ds first))

all_first : (s : Setting) (atoms : List Atom) (ds : Derivations) → AreFirstProofs s atoms ds → IsFirst s atoms 0 [] ds
all_first s [] none each = nothing-first s
all_first s [] (also d ds) each = absurd each
all_first s (atom ∷ atoms) none each = absurd each
all_first s (atom ∷ atoms) (also d ds) each = both_first s atom atoms d ds each.0 (all_first s atoms ds each.1)

pub first-is_of_each : FirstIsOfEach
first-is_of_each s atoms ds = (each_first s atoms ds, all_first s atoms ds)
