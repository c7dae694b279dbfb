-- The replay of a proof, step by step.
use Rattle.std.specs.Prelude.{◌≡◌, ◌<◌, ◌≤◌, ◌+◌, ℕ, Some, List, [], ◌∷◌, ◌++◌, map, drop, length, slice_get, slice_index_or, All}
use Rattle.std.proofs.Common.{zero, suc, refl, sym, ap, ◌∙◌, subst, arith}
use Rattle.std.proofs.lemmas.List.{length-map, drop_all}
use Rattle.std.proofs.lemmas.List.Elements.{All-nil, All-cons, All-head, All-tail, All-map, All-append}
use Rattle.px_terms.specs.Clauses.{ArePlainBelow, IsArena}
use Rattle.px_terms.specs.declared.atom.Atom.{Atom}
use Rattle.px_terms.specs.declared.clause.Clause.{Clause}
use Rattle.px_terms.specs.declared.clause.Lit.{Lit}
use Rattle.px_terms.specs.declared.term.Term.{Term}
use Rattle.px_terms.specs.declared.term.Term.TheVariants.{Obj, Var, Any as WildCard}
use Rattle.px_terms.specs.Language.{substitute, IsPlainBelow}
use Rattle.px_terms.specs.Substitution.{substitute_atom}
use Rattle.px_unify.specs.declared.change.Change.{Change}
use Rattle.px_unify.specs.Changes.{Binds, Fits, HasSolutions, MakesEqual, MakesPairEqual, MakesEachEqual, NarrowedBy, variables_of}
use Rattle.px_unify.specs.ChangeLaws.{Binds-itself, Binds-trans}
use Rattle.px_proof.specs.declared.proof.Leaf.{Leaf}
use Rattle.px_proof.specs.Derivation.{Derivation, Derivations, derivations, fact, ancestor, step, also, terms_of, all_terms_of}
use Rattle.px_proof.specs.Literals.{complement_of, substitute_literal}
use Rattle.px_base.specs.Answers.{some_same}
use Rattle.px_proof.specs.PlaceLaws.{All-prefix, All-back, All-got, slice_get-map, slice_get-read, slice_get-within}
use Rattle.px_proof.specs.Proves.{instance_of, parts_of}
use Rattle.px_replay.specs.Replay.{atom_at, literals_at, pairs_of, all_pairs_of, HaveForms}
use Rattle.px_replay.specs.Replaying.{CanReplay, CanReplayEach, IsReplayOf}
use Rattle.px_replay.proofs.Replaying.{atom_at-is, literals_at-is}

abbrev pub no_clause : Clause
no_clause = record { variable_count = 0; lits = [] }

-- ---- pairs

-- one pair is made equal
pub one_replayed : (old new : List Change) (a b : Atom) → NarrowedBy old new (MakesEqual a b) → Binds old new → HasSolutions new
    → IsReplayOf old new ((a, b) ∷ [])
one_replayed old new a b narrowed grows solvable = record {
  narrowed = λ sigma. (
    λ fits. let h = (narrowed sigma).0 fits in (h.0, All-cons (MakesPairEqual sigma) (a, b) [] h.1 (All-nil (MakesPairEqual sigma))),
    λ h. (narrowed sigma).1 (h.0, All-head (MakesPairEqual sigma) (a, b) [] h.1),
  );
  grows = grows;
  solvable = solvable;
}

-- then the others
pub then_replayed : (old now new : List Change) (one two : List (Atom × Atom)) → IsReplayOf old now one → IsReplayOf now new two
    → IsReplayOf old new (one ++ two)
then_replayed old now new one two first second = record {
  narrowed = λ sigma. (
    λ fits. let late =
        (second.narrowed sigma).0 fits in let soon =
        (first.narrowed sigma).0 late.0 in (soon.0, All-append (MakesPairEqual sigma) one two soon.1 late.1),
    λ h. (second.narrowed sigma).1 (
      (first.narrowed sigma).1 (h.0, All-prefix (MakesPairEqual sigma) one two h.1),
      All-back (MakesPairEqual sigma) one two h.1,
    ),
  );
  grows = Binds-trans old now new first.grows second.grows;
  solvable = second.solvable;
}

pub none_replayed : (changes : List Change) → HasSolutions changes → IsReplayOf changes changes []
none_replayed changes solvable = record {
  narrowed = λ sigma. ((λ fits. (fits, All-nil (MakesPairEqual sigma))), λ h. h.0);
  grows = Binds-itself changes;
  solvable = solvable;
}

-- ---- facts and ancestors

module _ (axioms : List Clause) (path : List Lit) (lit : Lit) (changes : List Change) where
  pub fact_solved : (leaf : Leaf) → CanReplay axioms path lit (fact leaf) changes
      → (sigma : List Term) × Fits sigma changes × MakesEqual lit.atom leaf.atom sigma
  fact_solved leaf can = (can.solved.0, can.solved.1, All-head (MakesPairEqual can.solved.0) (lit.atom, leaf.atom) [] can.solved.2)

  pub ancestor_below : (i : ℕ) (above : Lit) → CanReplay axioms path lit (ancestor i) changes → slice_get path i ≡ Some above
      → All (IsPlainBelow (variables_of changes)) above.atom.args
  ancestor_below i above can at =
      All-got (λ (l : Lit). All (IsPlainBelow (variables_of changes)) l.atom.args) path i above can.path_below at

  pub ancestor_solved : (i : ℕ) (above : Lit) → CanReplay axioms path lit (ancestor i) changes → slice_get path i ≡ Some above
      → (sigma : List Term) × Fits sigma changes × MakesEqual lit.atom above.atom sigma
  ancestor_solved i above can at = (
    can.solved.0,
    can.solved.1,
    All-head (MakesPairEqual can.solved.0) (lit.atom, atom_at path i) [] can.solved.2
        ∙ ap (substitute_atom can.solved.0) (atom_at-is path i above at),
  )

  pub ancestor_replayed : (new : List Change) (i : ℕ) (above : Lit) → slice_get path i ≡ Some above
      → IsReplayOf changes new ((lit.atom, above.atom) ∷ []) → IsReplayOf changes new (pairs_of axioms path lit (ancestor i))
  ancestor_replayed new i above at is =
      subst (λ (a : Atom). IsReplayOf changes new ((lit.atom, a) ∷ [])) (sym (atom_at-is path i above at)) is

-- ---- steps

pub below_under : (n : ℕ) (theta : List Term) → All (IsPlainBelow n) theta → (t : Term) → IsPlainBelow (length theta) t
    → IsPlainBelow n (substitute theta t)
below_under n theta all (Obj m) h = tt
below_under n theta all (Var v) h = all v WildCard h
below_under n theta all WildCard h = absurd h

pub args_below : (n : ℕ) (theta : List Term) → All (IsPlainBelow n) theta → (atom : Atom) → All (IsPlainBelow (length theta)) atom.args
    → All (IsPlainBelow n) (substitute_atom theta atom).args
args_below n theta all atom below =
    All-map (IsPlainBelow n) (substitute theta) atom.args (λ k d inside. below_under n theta all _ (below k d inside))

-- the parts of a step have no other variables than its terms
lits_without : (n : ℕ) (theta : List Term) → All (IsPlainBelow n) theta → (lits : List Lit) (place : ℕ) → ArePlainBelow (length theta) lits
    → ArePlainBelow n (parts_of lits theta place)
lits_without n theta all [] zero plain = λ k d below. absurd (omega (arith, below))
lits_without n theta all [] (suc place) plain = λ k d below. absurd (omega (arith, below))
lits_without n theta all (lit ∷ lits) zero plain =
    each lits (All-tail (λ (l : Lit). All (IsPlainBelow (length theta)) l.atom.args) lit lits plain)
  where
    each : (ls : List Lit) → ArePlainBelow (length theta) ls → ArePlainBelow n (map complement_of (instance_of ls theta))
    each [] plain = λ k d below. absurd (omega (arith, below))
    each (l ∷ ls) plain =
        All-cons (λ (x : Lit). All (IsPlainBelow n) x.atom.args) (complement_of (substitute_literal theta l))
        (map complement_of (instance_of ls theta))
        (args_below n theta all l.atom (All-head (λ (x : Lit). All (IsPlainBelow (length theta)) x.atom.args) l ls plain))
        (each ls (All-tail (λ (x : Lit). All (IsPlainBelow (length theta)) x.atom.args) l ls plain))
lits_without n theta all (lit ∷ lits) (suc place) plain =
    All-cons (λ (x : Lit). All (IsPlainBelow n) x.atom.args) (complement_of (substitute_literal theta lit)) (parts_of lits theta place)
    (args_below n theta all lit.atom (All-head (λ (x : Lit). All (IsPlainBelow (length theta)) x.atom.args) lit lits plain))
    (lits_without n theta all lits place (All-tail (λ (x : Lit). All (IsPlainBelow (length theta)) x.atom.args) lit lits plain))

module _ (axioms : List Clause) (path : List Lit) (lit : Lit) (changes : List Change) (number : ℕ) (theta : List Term) (place : ℕ)
    (parts : Derivations) (can : CanReplay axioms path lit (step number theta place parts) changes) where
  pub step_number : number < length axioms
  step_number = slice_get-within axioms number can.form.0 can.form.1

  module _ (lits : List Lit) (value : lits ≡ (slice_index_or axioms number no_clause).lits) (arena : IsArena axioms) where
    is_clause : can.form.0 ≡ slice_index_or axioms number no_clause
    is_clause = some_same (sym can.form.1 ∙ slice_get-read axioms number no_clause step_number)

    step_lits : lits ≡ can.form.0.lits
    step_lits = value ∙ ap (λ (c : Clause). c.lits) (sym is_clause)

    named_lits : literals_at axioms number ≡ lits
    named_lits = literals_at-is axioms number can.form.0 can.form.1 ∙ sym step_lits

    pub step_place : place < length lits
    step_place =
        let within = slice_get-within (instance_of can.form.0.lits theta) place can.form.3.0 can.form.3.1 in
        omega (arith, within, length-map can.form.0.lits (substitute_literal theta), ap length step_lits)

    pub step_plain : ArePlainBelow (length theta) lits
    step_plain =
        subst (λ n. ArePlainBelow n lits) (ap (λ (c : Clause). c.variable_count) (sym is_clause) ∙ sym can.form.2)
        (subst (λ ls. ArePlainBelow (slice_index_or axioms number no_clause).variable_count ls) (sym value)
        (arena.each number no_clause step_number).plain)

    theta_below : All (IsPlainBelow (variables_of changes)) theta
    theta_below = All-prefix (IsPlainBelow (variables_of changes)) theta (all_terms_of parts) can.terms_below

    -- the atom that is unified with the literal's
    pub step_head : (d : Lit) → substitute_atom theta (slice_index_or lits place d).atom
        ≡ atom_at (instance_of (literals_at axioms number) theta) place
    step_head d =
        let item : Lit = slice_index_or lits place d in
        let read : slice_get lits place ≡ Some item = slice_get-read lits place d step_place in
        sym (atom_at-is (instance_of lits theta) place (substitute_literal theta item)
        (slice_get-map (substitute_literal theta) lits place item read))
        ∙ ap (λ (ls : List Lit). atom_at (instance_of ls theta) place) (sym named_lits)

    pub step_head_below : (d : Lit) → All (IsPlainBelow (variables_of changes))
        (substitute_atom theta (slice_index_or lits place d).atom).args
    step_head_below d = args_below (variables_of changes) theta theta_below (slice_index_or lits place d).atom
        (All-got (λ (l : Lit). All (IsPlainBelow (length theta)) l.atom.args) lits place (slice_index_or lits place d) step_plain
        (slice_get-read lits place d step_place))

    pub step_solved : (head : Atom) → head ≡ atom_at (instance_of (literals_at axioms number) theta) place
        → (sigma : List Term) × Fits sigma changes × MakesEqual lit.atom head sigma
    step_solved head is =
        (can.solved.0, can.solved.1, All-head (MakesPairEqual can.solved.0) _ _ can.solved.2 ∙ ap (substitute_atom can.solved.0) (sym is))

    -- what is left is the replay of the parts
    pub step_each : (now : List Change) (head : Atom) → head ≡ atom_at (instance_of (literals_at axioms number) theta) place
        → NarrowedBy changes now (MakesEqual lit.atom head) → Binds changes now → HasSolutions now
        → CanReplayEach axioms (lit ∷ path) (parts_of lits theta place) parts now
    step_each now head is narrowed grows solvable =
        let same : variables_of changes ≡ variables_of now = sym grows.variables in
        let sigma = can.solved.0 in
        record {
          forms = subst (λ (ls : List Lit). HaveForms axioms (lit ∷ path) (parts_of ls theta place) parts) (sym step_lits) can.form.4;
          path_below =
              subst (λ (n : ℕ). ArePlainBelow n (lit ∷ path)) same
              (All-cons (λ (l : Lit). All (IsPlainBelow (variables_of changes)) l.atom.args) lit path can.lit_below can.path_below);
          lits_below =
              subst (λ (n : ℕ). ArePlainBelow n (parts_of lits theta place)) same
              (lits_without (variables_of changes) theta theta_below lits place step_plain);
          terms_below =
              subst (λ (n : ℕ). All (IsPlainBelow n) (all_terms_of parts)) same
              (All-back (IsPlainBelow (variables_of changes)) theta (all_terms_of parts) can.terms_below);
          solved = (
            sigma,
            (narrowed sigma).1 (can.solved.1, All-head (MakesPairEqual sigma) _ _ can.solved.2 ∙ ap (substitute_atom sigma) (sym is)),
            subst (λ (ls : List Lit). MakesEachEqual (all_pairs_of axioms (lit ∷ path) (parts_of ls theta place) parts) sigma) named_lits
                (All-tail (MakesPairEqual sigma) _ _ can.solved.2),
          );
          solvable = solvable;
        }

    pub step_replayed : (now new : List Change) (head : Atom) → head ≡ atom_at (instance_of (literals_at axioms number) theta) place
        → NarrowedBy changes now (MakesEqual lit.atom head) → Binds changes now → HasSolutions now
        → IsReplayOf now new (all_pairs_of axioms (lit ∷ path) (parts_of lits theta place) parts)
        → IsReplayOf changes new (pairs_of axioms path lit (step number theta place parts))
    step_replayed now new head is narrowed grows solvable rest =
        subst (λ (ls : List Lit). IsReplayOf changes new
        ((lit.atom, atom_at (instance_of (literals_at axioms number) theta) place)
        ∷ all_pairs_of axioms (lit ∷ path) (parts_of ls theta place) parts)) (sym named_lits)
        (subst (λ (a : Atom). IsReplayOf changes new ((lit.atom, a) ∷ all_pairs_of axioms (lit ∷ path) (parts_of lits theta place) parts))
        is
        (then_replayed changes now new ((lit.atom, head) ∷ []) (all_pairs_of axioms (lit ∷ path) (parts_of lits theta place) parts)
        (one_replayed changes now lit.atom head narrowed grows solvable) rest))

-- ---- parts

-- from the part at k on: what can still be replayed, and how all of it is done
pub record Goes (axioms : List Clause) (path lits : List Lit) (ds : List Derivation) (start now : List Change) (k : ℕ) : Type 0 where
  pub can : CanReplayEach axioms path (drop k lits) (derivations (drop k ds)) now
  pub grows : Binds start now
  pub whole : (new : List Change) → IsReplayOf now new (all_pairs_of axioms path (drop k lits) (derivations (drop k ds)))
      → IsReplayOf start new (all_pairs_of axioms path lits (derivations ds))

pub forms-length : (axioms : List Clause) (path lits : List Lit) (ds : List Derivation) → HaveForms axioms path lits (derivations ds)
    → length ds ≡ length lits
forms-length axioms path [] [] forms = refl
forms-length axioms path [] (d ∷ ds) forms = absurd forms
forms-length axioms path (lit ∷ lits) [] forms = absurd forms
forms-length axioms path (lit ∷ lits) (d ∷ ds) forms = ap suc (forms-length axioms path lits ds forms.1)

pub drop-at : {X : Type 0} (xs : List X) (k : ℕ) (x : X) → slice_get xs k ≡ Some x → drop k xs ≡ x ∷ drop (suc k) xs
drop-at [] k x at = absurd (cc)
drop-at (y ∷ xs) zero x at = ap (λ z. z ∷ xs) (some_same at)
drop-at (y ∷ xs) (suc k) x at = drop-at xs k x at

module _ (axioms : List Clause) (path lits : List Lit) (ds : List Derivation) (start now : List Change) (k : ℕ) (lit : Lit) (d : Derivation)
    (at_lit : slice_get lits k ≡ Some lit) (at_d : slice_get ds k ≡ Some d) (goes : Goes axioms path lits ds start now k) where
  here : CanReplayEach axioms path (lit ∷ drop (suc k) lits) (also d (derivations (drop (suc k) ds))) now
  here = subst (λ (l : List Derivation). CanReplayEach axioms path (lit ∷ drop (suc k) lits) (derivations l) now) (drop-at ds k d at_d)
      (subst (λ (l : List Lit). CanReplayEach axioms path l (derivations (drop k ds)) now) (drop-at lits k lit at_lit) goes.can)

  pub part_can : CanReplay axioms path lit d now
  part_can = record {
    form = here.forms.0;
    path_below = here.path_below;
    lit_below = All-head (λ (l : Lit). All (IsPlainBelow (variables_of now)) l.atom.args) lit (drop (suc k) lits) here.lits_below;
    terms_below = All-prefix (IsPlainBelow (variables_of now)) (terms_of d) (all_terms_of (derivations (drop (suc k) ds))) here.terms_below;
    solved = (
      here.solved.0,
      here.solved.1,
      All-prefix (MakesPairEqual here.solved.0) (pairs_of axioms path lit d)
          (all_pairs_of axioms path (drop (suc k) lits) (derivations (drop (suc k) ds))) here.solved.2,
    );
  }

  pub goes-on : (next : List Change) → IsReplayOf now next (pairs_of axioms path lit d) → Goes axioms path lits ds start next (k + 1)
  goes-on next is =
      let same : variables_of now ≡ variables_of next = sym is.grows.variables in
      let sigma = here.solved.0 in
      let rest_lits = drop (suc k) lits in
      let rest_ds = derivations (drop (suc k) ds) in
      let later : Goes axioms path lits ds start next (suc k) = record {
        can = record {
          forms = here.forms.1;
          path_below = subst (λ (n : ℕ). ArePlainBelow n path) same here.path_below;
          lits_below =
              subst (λ (n : ℕ). ArePlainBelow n rest_lits) same
              (All-tail (λ (l : Lit). All (IsPlainBelow (variables_of now)) l.atom.args) lit rest_lits here.lits_below);
          terms_below =
              subst (λ (n : ℕ). All (IsPlainBelow n) (all_terms_of rest_ds)) same
              (All-back (IsPlainBelow (variables_of now)) (terms_of d) (all_terms_of rest_ds) here.terms_below);
          solved = (
            sigma,
            (is.narrowed sigma).1 (
              here.solved.1,
              All-prefix (MakesPairEqual sigma) (pairs_of axioms path lit d) (all_pairs_of axioms path rest_lits rest_ds) here.solved.2,
            ),
            All-back (MakesPairEqual sigma) (pairs_of axioms path lit d) (all_pairs_of axioms path rest_lits rest_ds) here.solved.2,
          );
          solvable = is.solvable;
        };
        grows = Binds-trans start now next goes.grows is.grows;
        whole = λ new rest. goes.whole new
            (subst (λ (l : List Lit). IsReplayOf now new (all_pairs_of axioms path l (derivations (drop k ds))))
            (sym (drop-at lits k lit at_lit))
            (subst (λ (l : List Derivation). IsReplayOf now new (all_pairs_of axioms path (lit ∷ rest_lits) (derivations l)))
            (sym (drop-at ds k d at_d))
            (then_replayed now next new (pairs_of axioms path lit d) (all_pairs_of axioms path rest_lits rest_ds) is rest)));
      } in
      subst (Goes axioms path lits ds start next) (omega arith) later

pub goes-last : (axioms : List Clause) (path lits : List Lit) (ds : List Derivation) (start now : List Change) (k : ℕ)
    → Goes axioms path lits ds start now k → length ds ≤ k → IsReplayOf start now (all_pairs_of axioms path lits (derivations ds))
goes-last axioms path lits ds start now k goes past = goes.whole now (at_end (drop k lits) (drop k ds) (drop_all k ds past) goes.can.forms)
  where
    at_end : (ls : List Lit) (es : List Derivation) → es ≡ [] → HaveForms axioms path ls (derivations es)
        → IsReplayOf now now (all_pairs_of axioms path ls (derivations es))
    at_end [] [] is forms = none_replayed now goes.can.solvable
    at_end [] (e ∷ es) is forms = absurd forms
    at_end (l ∷ ls) [] is forms = absurd forms
    at_end (l ∷ ls) (e ∷ es) is forms = absurd (cc)
