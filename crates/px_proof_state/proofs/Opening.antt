-- The parts of a step, pushed from the last to the first.
use Rattle.std.proofs.Common.{◌≡◌, ℕ, zero, suc, ◌+◌, ◌<◌, ◌≤◌, true, false, cond, inl, inr, List, [], ◌∷◌, ◌++◌, length, map, drop, get_or, refl, ap, sym, ◌∙◌, arith, length-append, append_assoc, drop-cons}
use Rattle.std.specs.Prelude.{nat_eq, remove}
use Rattle.std.proofs.lemmas.List.{append-nil, drop_all, get_or-map, length-map}
use Rattle.px_unify.proofs.Slots.{slice_get-push}
use Rattle.px_proof.specs.Literals.{substitute_literal, complement_of, positive_of}
use Rattle.px_terms.specs.declared.atom.Atom.{Atom}
use Rattle.px_terms.specs.declared.term.Term.{Term}
use Rattle.px_terms.specs.declared.clause.Lit.{Lit}
use Rattle.px_proof.specs.Proves.{instance_of, parts_of}
use Rattle.px_proof_walk.specs.Pending.{Goal}
use Rattle.px_proof_state.specs.declared.open.OpenGoal.{OpenGoal}
use Rattle.px_proof_state.specs.Arena.{goals_at, path_at, AreOlder}
use Rattle.px_proof_state.specs.Parts.{goals_under}
use Rattle.px_proof_state.proofs.Hanging.{goals_at-goal, goals_at-longer, path_at-longer}

-- a list that begins with index k, without the element with that index
abbrev pub without : {X : Type 0} → ℕ → ℕ → List X → List X
without k place [] = []
without k place (x ∷ xs) = cond (nat_eq k place) xs (x ∷ without (suc k) place xs)

differ : (m n : ℕ) → ¬ (m ≡ n) → nat_eq m n ≡ false
differ m n other = grind (arith, other)

without-past : {X : Type 0} (xs : List X) (k place : ℕ) → place < k → without k place xs ≡ xs
without-past [] k place past = refl
without-past (x ∷ xs) k place past =
    rw (differ k place (λ e. omega (arith, e, past)), without-past xs (suc k) place (omega (arith, past))) refl

remove-without : {X : Type 0} (xs : List X) (k place : ℕ) → remove xs place ≡ without k (k + place) xs
remove-without [] k zero = refl
remove-without [] k (suc place) = refl
remove-without (x ∷ xs) k zero = let e : nat_eq k (k + 0) ≡ true = grind arith in rw e refl
remove-without (x ∷ xs) k (suc place) =
    let e : nat_eq k (k + suc place) ≡ false = differ k (k + suc place) (λ h. omega (arith, h)) in
    let f : k + suc place ≡ suc k + place = omega arith in
    rw e (ap (λ ys. x ∷ ys) (remove-without xs (suc k) place ∙ ap (λ p. without (suc k) p xs) (sym f)))

-- the parts from the k-th literal on
abbrev pub parts_from : List Lit → List Term → ℕ → ℕ → List Lit
parts_from lits theta place k = map complement_of (without k place (drop k (instance_of lits theta)))

pub parts-all : (lits : List Lit) (theta : List Term) (place k : ℕ) → k ≡ 0 → parts_from lits theta place k ≡ parts_of lits theta place
parts-all lits theta place k is =
    rw is (ap (map complement_of) (sym (remove-without (instance_of lits theta) 0 place
    ∙ ap (λ p. without 0 p (instance_of lits theta)) (omega arith))))

length-instance : (lits : List Lit) (theta : List Term) → length (instance_of lits theta) ≡ length lits
length-instance lits theta = length-map lits (substitute_literal theta)

pub parts-none : (lits : List Lit) (theta : List Term) (place k : ℕ) → length lits ≤ k → parts_from lits theta place k ≡ []
parts-none lits theta place k past =
    let e : drop k (instance_of lits theta) ≡ [] =
    drop_all k (instance_of lits theta) (omega (arith, past, length-instance lits theta)) in rw e refl

drop-instance : (lits : List Lit) (theta : List Term) (k : ℕ) (d : Lit) → k < length lits
    → drop k (instance_of lits theta) ≡ substitute_literal theta (get_or lits k d) ∷ drop (suc k) (instance_of lits theta)
drop-instance lits theta k d within =
    drop-cons (instance_of lits theta) k (substitute_literal theta d) (omega (arith, within, length-instance lits theta))
    ∙ ap (λ l. l ∷ drop (suc k) (instance_of lits theta))
    (get_or-map (substitute_literal theta) lits k d (substitute_literal theta d) within)

-- the literal at the place is passed over, and each other one is a part
pub parts-pass : (lits : List Lit) (theta : List Term) (place k : ℕ) (d : Lit) → k < length lits → k ≡ place
    → parts_from lits theta place k ≡ parts_from lits theta place (suc k)
parts-pass lits theta place k d within is =
    let e : nat_eq k place ≡ true = rw is (grind arith) in
    rw (
      drop-instance lits theta k d within,
      e,
    ) (ap (map complement_of) (sym (without-past (drop (suc k) (instance_of lits theta)) (suc k) place (omega (arith, is)))))

pub parts-take : (lits : List Lit) (theta : List Term) (place k : ℕ) (d : Lit) → k < length lits → ¬ (k ≡ place)
    → parts_from lits theta place k ≡ complement_of (substitute_literal theta (get_or lits k d)) ∷ parts_from lits theta place (suc k)
parts-take lits theta place k d within other = rw (drop-instance lits theta k d within, differ k place other) refl

-- a goal that is pushed stands before those at its next place
pub opened-more : (start more : List OpenGoal) (arena : List OpenGoal) (g : OpenGoal) (path : List Lit) (lits : List Lit)
    (goals : List Goal) → arena ≡ start ++ more → path_at start g.above ≡ path → g.above ≤ length start → g.next ≤ length arena
    → goals_at arena g.next ≡ goals_under path g.budget lits ++ goals
    → goals_at (arena ++ g ∷ []) (suc (length arena)) ≡ goals_under path g.budget (g.lit ∷ lits) ++ goals
opened-more start more arena g path lits goals is path_is above next opened =
    let above_older : g.above ≤ length arena = rw is (omega (arith, above, length-append start more)) in
    let same_path : path_at (arena ++ g ∷ []) g.above ≡ path =
    path_at-longer arena (g ∷ []) g.above above_older ∙ rw is (path_at-longer start more g.above above ∙ path_is) in
    goals_at-goal arena g [] next above_older
    ∙ ap (λ p. record { lit = g.lit; path = p; budget = g.budget } ∷ goals_at (arena ++ g ∷ []) g.next) same_path
    ∙ ap (λ gs. record { lit = g.lit; path = path; budget = g.budget } ∷ gs) (goals_at-longer arena (g ∷ []) g.next next ∙ opened)

-- a goal that names older places keeps the arena in order
pub older-push : (arena : List OpenGoal) (g : OpenGoal) → AreOlder arena → g.above ≤ length arena → g.next ≤ length arena
    → AreOlder (arena ++ g ∷ [])
older-push arena g older above next i other at = elim (slice_get-push arena g other i at) [
  | inl h ↦ older i other h
  | inr h ↦ rw (h.0, ← h.1) (above, next)
]

-- the parts from the k-th literal on are open, before the goals at the next place
pub record AreOpened (start : List OpenGoal) (lits : List Lit) (theta : List Term) (place at next budget : ℕ) (arena : List OpenGoal)
    (prefix k : ℕ) : Type 0 where
  pub grown : (more : List OpenGoal) × (arena ≡ start ++ more)
  pub older : prefix ≤ length arena
  pub arena_older : AreOlder start → AreOlder arena
  pub opened : goals_at arena prefix ≡ goals_under (path_at start at) budget (parts_from lits theta place k) ++ goals_at start next

module _ (start : List OpenGoal) (lits : List Lit) (theta : List Term) (place at next budget : ℕ) where
  pub opened-start : (k : ℕ) → k ≡ length lits → next ≤ length start → AreOpened start lits theta place at next budget start next k
  opened-start k is older = record {
    grown = ([], sym (append-nil start));
    older = older;
    arena_older = λ h. h;
    opened = let e : parts_from lits theta place k ≡ [] = parts-none lits theta place k (omega (arith, is)) in rw e refl;
  }

  module _ (arena : List OpenGoal) (prefix j k : ℕ) (are : AreOpened start lits theta place at next budget arena prefix j) (after : j ≡ suc k)
      (within : k < length lits) (d : Lit) where
    pub opened-pass : (k_now : ℕ) (arena_now : List OpenGoal) (prefix_now : ℕ) → k_now ≡ k → k ≡ place → arena_now ≡ arena
        → prefix_now ≡ prefix → AreOpened start lits theta place at next budget arena_now prefix_now k_now
    opened-pass k_now arena_now prefix_now k_is is arena_is prefix_is =
        rw (k_is, arena_is, prefix_is)
        (record {
          grown = are.grown;
          older = are.older;
          arena_older = are.arena_older;
          opened = rw (parts-pass lits theta place k d within is, ← after) are.opened;
        })

    pub opened-take : (k_now : ℕ) (arena_now : List OpenGoal) (prefix_now : ℕ) (lit : Lit) → k_now ≡ k → ¬ (k ≡ place) → at ≤ length start
        → lit ≡ complement_of (substitute_literal theta (get_or lits k d))
        → arena_now ≡ arena ++ record { lit = lit; above = at; next = prefix; budget = budget } ∷ [] → prefix_now ≡ suc (length arena)
        → AreOpened start lits theta place at next budget arena_now prefix_now k_now
    opened-take k_now arena_now prefix_now lit k_is other at_older lit_is arena_is prefix_is =
        rw (k_is, arena_is, prefix_is)
        (record {
          grown = (are.grown.0 ++ g ∷ [], ap (λ xs. xs ++ g ∷ []) are.grown.1 ∙ append_assoc start are.grown.0 (g ∷ []));
          older = omega (arith, length-append arena (g ∷ []));
          arena_older = λ h. older-push arena g (are.arena_older h) (omega (arith, at_older, long)) are.older;
          opened =
              opened-more start are.grown.0 arena g (path_at start at) (parts_from lits theta place j)
              (goals_at start next) are.grown.1 refl at_older are.older are.opened
              ∙ ap (λ ls. goals_under (path_at start at) budget ls ++ goals_at start next) same_parts;
        })
      where
        g : OpenGoal
        g = record { lit = lit; above = at; next = prefix; budget = budget }

        long : length start ≤ length arena
        long = rw are.grown.1 (omega (arith, length-append start are.grown.0))

        same_parts : (lit ∷ parts_from lits theta place j) ≡ parts_from lits theta place k
        same_parts = rw (after, lit_is) (sym (parts-take lits theta place k d within other))

-- the atoms of a formula from the k-th on are open
pub record AreAsked (formula : List Atom) (height : ℕ) (arena : List OpenGoal) (prefix k : ℕ) : Type 0 where
  pub older : prefix ≤ length arena
  pub arena_older : AreOlder arena
  pub opened : goals_at arena prefix ≡ goals_under [] height (map positive_of (drop k formula))

module _ (formula : List Atom) (height : ℕ) where
  pub asked-start : (arena : List OpenGoal) (k : ℕ) → arena ≡ [] → k ≡ length formula → AreAsked formula height arena 0 k
  asked-start arena k empty is = rw empty (record {
    older = omega arith;
    arena_older = λ i g at. absurd (cc);
    opened = let e : drop k formula ≡ [] = drop_all k formula (omega (arith, is)) in rw e refl;
  })

  pub asked-next : (arena : List OpenGoal) (prefix j k : ℕ) → AreAsked formula height arena prefix j → j ≡ suc k → k < length formula
      → (d : Atom)
      → (k_now : ℕ) (arena_now : List OpenGoal) (prefix_now : ℕ) → k_now ≡ k
      → arena_now ≡ arena ++ record { lit = positive_of (get_or formula k d); above = 0; next = prefix; budget = height } ∷ []
      → prefix_now ≡ suc (length arena)
      → AreAsked formula height arena_now prefix_now k_now
  asked-next arena prefix j k are after within d k_now arena_now prefix_now k_is arena_is prefix_is =
      rw (k_is, arena_is, prefix_is)
      (record {
        older = omega (arith, length-append arena (g ∷ []));
        arena_older = older-push arena g are.arena_older (omega arith) are.older;
        opened =
            opened-more [] arena arena g [] (map positive_of (drop j formula)) [] refl refl (omega arith) are.older
            (are.opened ∙ sym (append-nil (goals_under [] height (map positive_of (drop j formula)))))
            ∙ append-nil (goals_under [] height (positive_of (get_or formula k d) ∷ map positive_of (drop j formula)))
            ∙ ap (λ atoms. goals_under [] height (map positive_of atoms))
            (sym (drop-cons formula k d within ∙ ap (λ n. get_or formula k d ∷ drop n formula) (sym after)));
      })
    where
      g : OpenGoal
      g = record { lit = positive_of (get_or formula k d); above = 0; next = prefix; budget = height }
