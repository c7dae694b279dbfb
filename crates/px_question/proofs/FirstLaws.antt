-- A formula has one first answer: the shape says which choice was made at each place, and the objects are the least.
use Rattle.std.proofs.Common.{◌≡◌, ◌⊎◌, ◌∙◌, ℕ, List, [], ◌∷◌, ◌++◌, length, refl, ap, sym, subst, arith, inl, inr, append_assoc}
use Rattle.std.specs.Prelude.{All, map, slice_get}
use Rattle.std.proofs.lemmas.List.{length-map}
use Rattle.std.proofs.lemmas.List.Elements.{All-head, All-tail}
use Rattle.px_terms.specs.declared.atom.Atom.{Atom}
use Rattle.px_terms.specs.declared.clause.Clause.{Clause}
use Rattle.px_terms.specs.declared.clause.Lit.{Lit}
use Rattle.px_terms.specs.declared.term.Term.{Term}
use Rattle.px_terms.specs.declared.term.Term.TheVariants.{Obj, Var, Any}
use Rattle.px_proof.specs.declared.shape.Tick.{Tick}
use Rattle.px_proof.specs.declared.shape.Tick.TheVariants.{Fact, Anc, Step}
use Rattle.px_proof.specs.Derivation.{Derivation, Derivations, fact, ancestor, step, gap, open_place, none, also}
use Rattle.px_base.specs.Answers.{some_same}
use Rattle.px_proof.specs.Proves.{Proves, ProvesEach, parts_of}
use Rattle.px_proof.specs.Shapes.{ShapeBefore, ticks, ticks_of}
use Rattle.px_question.specs.Answers.{AtMost, IsFirst, all_choices_of, choices_of, literals_of}
use Rattle.px_question.specs.Determined.{FirstIsOne}
use Rattle.px_terms.specs.Language.{IsObjectBelow, object_of}
use Rattle.px_question.specs.Settings.{Setting, proofs_in}
use Rattle.px_question.specs.ShapeOrder.{ShapeBefore-irrefl, ShapeBefore-trans}

-- ---- the least objects

least_both : (ms ns : List ℕ) → AtMost ms ns → AtMost ns ms → ms ≡ ns
least_both [] [] h k = refl
least_both [] (n ∷ ns) h k = absurd k
least_both (m ∷ ms) [] h k = absurd h
least_both (m ∷ ms) (n ∷ ns) (inl h) (inl k) = absurd (omega (arith, h, k))
least_both (m ∷ ms) (n ∷ ns) (inl h) (inr k) = absurd (omega (arith, h, k.0))
least_both (m ∷ ms) (n ∷ ns) (inr h) (inl k) = absurd (omega (arith, h.0, k))
least_both (m ∷ ms) (n ∷ ns) (inr h) (inr k) = let rest = least_both ms ns h.1 k.1 in λ i. h.0 i ∷ rest i

pub cons_same : {X : Type 0} (x y : X) (xs ys : List X) → x ∷ xs ≡ y ∷ ys → (x ≡ y) × (xs ≡ ys)
cons_same x y xs ys e = (cc, cc)

-- lists that are one, in parts of which the first are as long
parts_same : (xs us ys vs : List ℕ) → length xs ≡ length us → xs ++ ys ≡ us ++ vs → (xs ≡ us) × (ys ≡ vs)
parts_same [] [] ys vs long e = (refl, e)
parts_same [] (u ∷ us) ys vs long e = absurd (omega (arith, long))
parts_same (x ∷ xs) [] ys vs long e = absurd (omega (arith, long))
parts_same (x ∷ xs) (u ∷ us) ys vs long e =
    let here = cons_same x u (xs ++ ys) (us ++ vs) e in
    let rest = parts_same xs us ys vs (omega (arith, long)) here.1 in
    (λ i. here.0 i ∷ rest.0 i, rest.1)

-- two first answers have one shape, one list of objects for the variables, and one list of objects that the steps choose
same_choices : (s : Setting) (formula : List Atom) (variable_count : ℕ) (objects others : List ℕ) (ds es : Derivations)
    → IsFirst s formula variable_count objects ds → IsFirst s formula variable_count others es
    → (ticks_of ds ≡ ticks_of es) × (objects ≡ others) × (all_choices_of ds ≡ all_choices_of es)
same_choices s formula variable_count objects others ds es first other =
    both (first.least others es other.finished) (other.least objects ds first.finished)
  where
    both : ShapeBefore (ticks_of ds) (ticks_of es)
        ⊎ ((ticks_of ds ≡ ticks_of es) × AtMost (objects ++ all_choices_of ds) (others ++ all_choices_of es))
        → ShapeBefore (ticks_of es) (ticks_of ds)
        ⊎ ((ticks_of es ≡ ticks_of ds) × AtMost (others ++ all_choices_of es) (objects ++ all_choices_of ds))
        → (ticks_of ds ≡ ticks_of es) × (objects ≡ others) × (all_choices_of ds ≡ all_choices_of es)
    both (inl h) (inl k) = absurd (ShapeBefore-irrefl (ticks_of ds) (ShapeBefore-trans (ticks_of ds) (ticks_of es) (ticks_of ds) h k))
    both (inl h) (inr k) = absurd (ShapeBefore-irrefl (ticks_of ds) (subst (ShapeBefore (ticks_of ds)) k.0 h))
    both (inr h) (inl k) = absurd (ShapeBefore-irrefl (ticks_of es) (subst (ShapeBefore (ticks_of es)) h.0 k))
    both (inr h) (inr k) =
        let same =
        parts_same objects others (all_choices_of ds) (all_choices_of es) (first.finished.count ∙ sym other.finished.count)
        (least_both (objects ++ all_choices_of ds) (others ++ all_choices_of es) h.1 k.1) in
        (h.0, same.0, same.1)

-- ---- the shape and the objects determine the derivations

fact_same : (m n : ℕ) → Fact m ≡ Fact n → m ≡ n
fact_same m n e = cc

anc_same : (m n : ℕ) → Anc m ≡ Anc n → m ≡ n
anc_same m n e = cc

pub step_same : (m n p q : ℕ) → Step m p ≡ Step n q → (m ≡ n) × (p ≡ q)
step_same m n p q e = (cc, cc)

term_same : (objects : ℕ) (t u : Term) → IsObjectBelow objects t → IsObjectBelow objects u → object_of t ≡ object_of u → t ≡ u
term_same objects (Obj m) (Obj n) h k e = ap (λ (o : ℕ). Obj o) e
term_same objects (Obj m) (Var v) h k e = absurd k
term_same objects (Obj m) Any h k e = absurd k
term_same objects (Var v) u h k e = absurd h
term_same objects Any u h k e = absurd h

terms_same : (objects : ℕ) (ts us : List Term) → All (IsObjectBelow objects) ts → All (IsObjectBelow objects) us
    → map object_of ts ≡ map object_of us → ts ≡ us
terms_same objects [] [] h k e = refl
terms_same objects [] (u ∷ us) h k e = absurd (cc)
terms_same objects (t ∷ ts) [] h k e = absurd (cc)
terms_same objects (t ∷ ts) (u ∷ us) h k e =
    let both = cons_same (object_of t) (object_of u) (map object_of ts) (map object_of us) e in
    let here = term_same objects t u (All-head (IsObjectBelow objects) t ts h) (All-head (IsObjectBelow objects) u us k) both.0 in
    let rest = terms_same objects ts us (All-tail (IsObjectBelow objects) t ts h) (All-tail (IsObjectBelow objects) u us k) both.1 in
    λ i. here i ∷ rest i

module _ (s : Setting) where
  mutual
    one : (path : List Lit) (lit : Lit) (d e : Derivation) (ts us : List Tick) (ms ns : List ℕ) → Proves (proofs_in s) s.axioms path lit d
        → Proves (proofs_in s) s.axioms path lit e
        → ticks d ++ ts ≡ ticks e ++ us → choices_of d ++ ms ≡ choices_of e ++ ns → (d ≡ e) × (ts ≡ us) × (ms ≡ ns)
    one path lit (fact l) (fact m) ts us ms ns p q t c =
        let both = cons_same (Fact l.index) (Fact m.index) ts us t in
        let index = fact_same l.index m.index both.0 in
        let column : l.column ≡ m.column = p.1.0 ∙ sym q.1.0 in
        let atom = some_same (sym p.1.1 ∙ ap (slice_get s.facts) index ∙ q.1.1) in
        ((λ i. fact (record { column = column i; index = index i; atom = atom i })), both.1, c)
    one path lit (fact l) (ancestor k) ts us ms ns p q t c = absurd (cc)
    one path lit (fact l) (step number theta place parts) ts us ms ns p q t c = absurd (cc)
    one path lit (fact l) (gap atom) ts us ms ns p q t c = absurd q.1
    one path lit (fact l) open_place ts us ms ns p q t c = absurd q
    one path lit (ancestor j) (fact m) ts us ms ns p q t c = absurd (cc)
    one path lit (ancestor j) (ancestor k) ts us ms ns p q t c =
        let both = cons_same (Anc j) (Anc k) ts us t in
        (ap (λ (i : ℕ). ancestor i) (anc_same j k both.0), both.1, c)
    one path lit (ancestor j) (step number theta place parts) ts us ms ns p q t c = absurd (cc)
    one path lit (ancestor j) (gap atom) ts us ms ns p q t c = absurd q.1
    one path lit (ancestor j) open_place ts us ms ns p q t c = absurd q
    one path lit (step number theta place parts) (fact m) ts us ms ns p q t c = absurd (cc)
    one path lit (step number theta place parts) (ancestor k) ts us ms ns p q t c = absurd (cc)
    one path lit (step number theta place parts) (step number' theta' place' parts') ts us ms ns p q t c =
        let both = cons_same (Step number place) (Step number' place') (ticks_of parts ++ ts) (ticks_of parts' ++ us) t in
        let numbers = step_same number number' place place' both.0 in
        let clause = some_same (sym p.1.axiom_at ∙ ap (slice_get s.axioms) numbers.0 ∙ q.1.axiom_at) in
        let long : length (map object_of theta) ≡ length (map object_of theta') =
        length-map theta object_of ∙ p.1.terms ∙ ap (λ (x : Clause). x.variable_count) clause ∙ sym q.1.terms ∙ sym (length-map theta' object_of) in
        let chosen = parts_same (map object_of theta) (map object_of theta') (all_choices_of parts ++ ms) (all_choices_of parts' ++ ns) long
        (sym (append_assoc (map object_of theta) (all_choices_of parts) ms) ∙ c
        ∙ append_assoc (map object_of theta') (all_choices_of parts') ns) in
        let thetas = terms_same s.objects theta theta' p.1.choices q.1.choices chosen.0 in
        let lits : parts_of p.0.lits theta place ≡ parts_of q.0.lits theta' place' =
        λ i. parts_of ((clause i).lits) (thetas i) (numbers.1 i) in
        let rest = each_one (lit ∷ path) (parts_of p.0.lits theta place) parts parts' ts us ms ns p.2
        (subst (λ (ls : List Lit). ProvesEach (proofs_in s) s.axioms (lit ∷ path) ls parts') (sym lits) q.2) both.1 chosen.1 in
        ((λ i. step (numbers.0 i) (thetas i) (numbers.1 i) (rest.0 i)), rest.1, rest.2)
    one path lit (step number theta place parts) (gap atom) ts us ms ns p q t c = absurd q.1
    one path lit (step number theta place parts) open_place ts us ms ns p q t c = absurd q
    one path lit (gap atom) e ts us ms ns p q t c = absurd p.1
    one path lit open_place e ts us ms ns p q t c = absurd p

    each_one : (path lits : List Lit) (ds es : Derivations) (ts us : List Tick) (ms ns : List ℕ)
        → ProvesEach (proofs_in s) s.axioms path lits ds → ProvesEach (proofs_in s) s.axioms path lits es
        → ticks_of ds ++ ts ≡ ticks_of es ++ us → all_choices_of ds ++ ms ≡ all_choices_of es ++ ns → (ds ≡ es) × (ts ≡ us) × (ms ≡ ns)
    each_one path [] none none ts us ms ns p q t c = (refl, t, c)
    each_one path [] none (also e es) ts us ms ns p q t c = absurd q
    each_one path [] (also d ds) es ts us ms ns p q t c = absurd p
    each_one path (lit ∷ lits) none es ts us ms ns p q t c = absurd p
    each_one path (lit ∷ lits) (also d ds) none ts us ms ns p q t c = absurd q
    each_one path (lit ∷ lits) (also d ds) (also e es) ts us ms ns p q t c =
        let first = one path lit d e (ticks_of ds ++ ts) (ticks_of es ++ us) (all_choices_of ds ++ ms) (all_choices_of es ++ ns) p.0 q.0
        (sym (append_assoc (ticks d) (ticks_of ds) ts) ∙ t ∙ append_assoc (ticks e) (ticks_of es) us)
        (sym (append_assoc (choices_of d) (all_choices_of ds) ms) ∙ c ∙ append_assoc (choices_of e) (all_choices_of es) ns) in
        let rest = each_one path lits ds es ts us ms ns p.1 q.1 first.1 first.2 in
        ((λ i. also (first.0 i) (rest.0 i)), rest.1, rest.2)

pub first-is_one : FirstIsOne
first-is_one s formula variable_count objects others ds es first other =
    let same = same_choices s formula variable_count objects others ds es first other in
    let moved : ProvesEach (proofs_in s) s.axioms [] (literals_of formula objects) es =
    subst (λ (o : List ℕ). ProvesEach (proofs_in s) s.axioms [] (literals_of formula o) es) (sym same.1) other.finished.proved in (
      same.1,
      (each_one s [] (literals_of formula objects) ds es [] [] [] [] first.finished.proved moved
          (ap (λ (l : List Tick). l ++ []) same.0) (ap (λ (l : List ℕ). l ++ []) same.2)).0,
    )
