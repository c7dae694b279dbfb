-- Striking out the pushes of entries that are on the stack.
use Rattle.std.proofs.Common.{◌≡◌, ◌↔◌, ℕ, zero, suc, Bool, true, false, not, List, [], ◌∷◌, ◌++◌, map, refl, sym, ◌∙◌, ap, subst, inl, inr, Some, slice_get}
use Rattle.std.specs.Prelude.{Contains, IsTrue, MatchBool}
use Rattle.std.specs.declared.cmp.Ordering.TheVariants.{Less}
use Rattle.std.proofs.lemmas.List.{map-append}
use Rattle.std.proofs.lemmas.List.Elements.{filter-append}
use Rattle.std.proofs.lemmas.List.Kept.{AllPairs-filter}
use Rattle.std.proofs.lemmas.Map.Views.{list_any-from_Contains, Contains-from_any}
use Rattle.px_base.specs.ListLaws.{Contains-first, Contains-later, Contains-cases, Contains-one, Contains-filter}
use Rattle.px_terms.specs.declared.atom.Atom.{Atom}
use Rattle.px_terms.specs.OrderLaws.{decides_equiv}
use Rattle.px_table.specs.declared.entry.Entry.{Entry}
use Rattle.px_table.specs.declared.entry.Move.{Move}
use Rattle.px_table.specs.declared.entry.Move.TheVariants.{Apply, Push}
use Rattle.px_table.specs.declared.node.Node.{Node}
use Rattle.px_table.specs.EntryLaws.{entry_eq-decides}
use Rattle.px_table.specs.EntryOrder.{entry_eq}
use Rattle.px_gaps.specs.declared.question.Question.{Question}
use Rattle.px_numbers.specs.Numbers.{Kept, KeepsAll}
use Rattle.px_ends.specs.Order.{move_cmp}
use Rattle.px_ends.specs.Tasks.{Task, IsRelevantAt, IsAllowed, AsksAt}
use Rattle.px_search.specs.declared.step.Step.{Step}
use Rattle.px_search.specs.declared.step.Step.TheVariants as step
use Rattle.px_search.specs.Going.{AreFirstSuccessors}
use Rattle.px_search.specs.Steps.{DescribesMove, AreStepsOf, is_push_on, unstruck}

-- ---- which pushes are struck out

pub on_stack : (stack : List Entry) (entry : Entry) → is_push_on stack (Push entry) ≡ true ↔ Contains stack entry
on_stack stack entry = (
  λ h. Contains-from_any (λ x y. (entry_eq-decides x y).0) entry stack h,
  λ h. list_any-from_Contains (decides_equiv entry_eq entry_eq-decides) entry stack h,
)

pub not_true : (b : Bool) → not b ≡ true ↔ (¬ (b ≡ true))
not_true true = (λ h. cc, λ h. absurd (h refl))
not_true false = (λ h g. cc, λ h. refl)

-- what `is_stacked` answers is whether the push is struck out
pub says_push : (stack : List Entry) (entry : Entry) (b : Bool) → IsTrue b ↔ Contains stack entry → b ≡ is_push_on stack (Push entry)
says_push stack entry b decides =
    same_bools b (is_push_on stack (Push entry)) (λ h. (on_stack stack entry).1 (decides.0 h)) (λ h. decides.1 ((on_stack stack entry).0 h))
  where
    same_bools : (x y : Bool) → (x ≡ true → y ≡ true) → (y ≡ true → x ≡ true) → x ≡ y
    same_bools true y f g = sym (f refl)
    same_bools false true f g = g refl
    same_bools false false f g = refl

-- ---- step by step

pub steps_push : (kept : Kept) (ss : List Step) (ms : List Move) (s : Step) (m : Move) → AreStepsOf kept ss ms → DescribesMove kept s m
    → AreStepsOf kept (ss ++ s ∷ []) (ms ++ m ∷ [])
steps_push kept [] [] s m are is = (is, tt)
steps_push kept [] (n ∷ ns) s m are is = absurd are
steps_push kept (r ∷ rs) [] s m are is = absurd are
steps_push kept (r ∷ rs) (n ∷ ns) s m are is = (are.0, steps_push kept rs ns s m are.1 is)

unstruck_more : (stack : List Entry) (ms : List Move) (m : Move)
    → unstruck stack (ms ++ m ∷ []) ≡ unstruck stack ms ++ unstruck stack (m ∷ [])
unstruck_more stack ms m = filter-append (λ n. not (is_push_on stack n)) ms (m ∷ [])

module _ (kept : Kept) (stack : List Entry) (left : List Step) (ms : List Move) (m : Move) where
  pub struck_out : AreStepsOf kept left (unstruck stack ms) → is_push_on stack m ≡ true
      → AreStepsOf kept left (unstruck stack (ms ++ m ∷ []))
  struck_out are on =
      subst (AreStepsOf kept left) (sym (unstruck_more stack ms m ∙ ap (λ (l : List Move). unstruck stack ms ++ l) none
      ∙ end (unstruck stack ms))) are
    where
      none : unstruck stack (m ∷ []) ≡ []
      none = rw on refl

      end : (l : List Move) → l ++ [] ≡ l
      end [] = refl
      end (x ∷ xs) = ap (λ (l : List Move). x ∷ l) (end xs)

  pub struck_kept : (s : Step) → AreStepsOf kept left (unstruck stack ms) → is_push_on stack m ≡ false → DescribesMove kept s m
      → AreStepsOf kept (left ++ s ∷ []) (unstruck stack (ms ++ m ∷ []))
  struck_kept s are off is =
      subst (AreStepsOf kept (left ++ s ∷ [])) (sym (unstruck_more stack ms m ∙ ap (λ (l : List Move). unstruck stack ms ++ l) one))
      (steps_push kept left (unstruck stack ms) s m are is)
    where
      one : unstruck stack (m ∷ []) ≡ m ∷ []
      one = rw off refl

  pub struck_on : (s : Step) (b : Bool) (new : List Step) → b ≡ is_push_on stack m → MatchBool b (new ≡ left) (new ≡ left ++ s ∷ [])
      → AreStepsOf kept left (unstruck stack ms) → DescribesMove kept s m
      → AreStepsOf kept new (unstruck stack (ms ++ m ∷ []))
  struck_on s true new says put are is =
      subst (λ (l : List Step). AreStepsOf kept l (unstruck stack (ms ++ m ∷ []))) (sym put) (struck_out are (sym says))
  struck_on s false new says put are is =
      subst (λ (l : List Step). AreStepsOf kept l (unstruck stack (ms ++ m ∷ []))) (sym put) (struck_kept s are (sym says) is)

-- the move of the step at a place
pub step_here : (kept : Kept) (ss : List Step) (ms : List Move) (i : ℕ) (s : Step) → AreStepsOf kept ss ms → slice_get ss i ≡ Some s
    → (m : Move) × (slice_get ms i ≡ Some m) × DescribesMove kept s m
step_here kept [] [] i s are at = absurd (cc)
step_here kept [] (m ∷ ms) i s are at = absurd are
step_here kept (x ∷ ss) [] i s are at = absurd are
step_here kept (x ∷ ss) (m ∷ ms) zero s are at = let same : x ≡ s = cc in (m, refl, subst (λ (y : Step). DescribesMove kept y m) same are.0)
step_here kept (x ∷ ss) (m ∷ ms) (suc i) s are at = step_here kept ss ms i s are.1 at

pub apply_says : (kept : Kept) (stack : List Entry) (s : Step) (m : Move) → s ≡ step.Apply → DescribesMove kept s m
    → false ≡ is_push_on stack m
apply_says kept stack s m same is = by m (subst (λ (x : Step). DescribesMove kept x m) same is)
  where
    by : (n : Move) → DescribesMove kept step.Apply n → false ≡ is_push_on stack n
    by Apply h = refl
    by (Push e) h = absurd h

pub push_says : (kept : Kept) (stack : List Entry) (s : Step) (m : Move) (n : ℕ) (b : Bool) → s ≡ step.Push n → DescribesMove kept s m
    → ((one : Entry) → slice_get kept.entries n ≡ Some one → IsTrue b ↔ Contains stack one) → b ≡ is_push_on stack m
push_says kept stack s m n b same is decides = by m (subst (λ (x : Step). DescribesMove kept x m) same is)
  where
    by : (o : Move) → DescribesMove kept (step.Push n) o → b ≡ is_push_on stack o
    by Apply h = absurd h
    by (Push e) h = says_push stack e b (decides e h)

-- the pushes of a list of entries, one by one
pub pushes_more : (kept : Kept) (ss : List Step) (es : List Entry) (n : ℕ) (e : Entry) → AreStepsOf kept ss (map Push es)
    → slice_get kept.entries n ≡ Some e → AreStepsOf kept (ss ++ step.Push n ∷ []) (map Push (es ++ e ∷ []))
pushes_more kept ss es n e are at =
    subst (AreStepsOf kept (ss ++ step.Push n ∷ [])) (sym (map-append Push es (e ∷ [])))
    (steps_push kept ss (map Push es) (step.Push n) (Push e) are at)

pub keeps_all_both : (old mid new : Kept) → KeepsAll old mid → KeepsAll mid new → KeepsAll old new
keeps_all_both old mid new f g = record {
  atoms = λ k x e. g.atoms k x (f.atoms k x e);
  lists = λ k x e. g.lists k x (f.lists k x e);
  entries = λ k x e. g.entries k x (f.entries k x e);
  frames = λ k x e. g.frames k x (f.frames k x e);
}

-- ---- over the entry alone, and over a stack below it

module _ (task : Task) (model : List Atom) (entry : Entry) (below : List Entry) where
  abbrev alone : Node
  alone = record { model = model; stack = entry ∷ [] }

  abbrev here : Node
  here = record { model = model; stack = entry ∷ below }

  relevant_alone : (e : Entry) → IsRelevantAt task here e → IsRelevantAt task alone e
  relevant_alone e r =
      record {
        is_entry = r.is_entry;
        fresh = λ has. r.fresh (subst (Contains (entry ∷ below)) (Contains-one entry e has) (Contains-first entry below));
        gap = r.gap;
        is_gap = r.is_gap;
        added = r.added;
      }

  relevant_here : (e : Entry) → (¬ Contains below e) → IsRelevantAt task alone e → IsRelevantAt task here e
  relevant_here e fresh r = record {
    is_entry = r.is_entry;
    fresh = λ has. elim (Contains-cases entry below e has) [
      | inl is ↦ r.fresh (subst (Contains (entry ∷ [])) is (Contains-first entry []))
      | inr later ↦ fresh later
    ];
    gap = r.gap;
    is_gap = r.is_gap;
    added = r.added;
  }

  allowed_here : (m : Move) → IsAllowed task here m ↔ (IsAllowed task alone m × (not (is_push_on below m) ≡ true))
  allowed_here Apply = (λ a. ((λ e. cc, a.1), refl), λ a. (λ e. cc, a.0.1))
  allowed_here (Push e) = (
    λ a. (
      (relevant_alone e a.0, a.1),
      (not_true (is_push_on below (Push e))).1 (λ on. a.0.fresh (Contains-later entry below e ((on_stack below e).0 on))),
    ),
    λ a. (relevant_here e (λ has. (not_true (is_push_on below (Push e))).0 a.1 ((on_stack below e).1 has)) a.0.0, a.0.1),
  )

  pub successors-struck : (kept : Kept) (steps left : List Step) (is_all : Bool) →
      (successors : AreFirstSuccessors task kept alone steps is_all)
      → AreStepsOf kept left (unstruck below successors.moves) → AreFirstSuccessors task kept here left is_all
  successors-struck kept steps left is_all successors are = record {
    moves = unstruck below successors.moves;
    are = record {
      allowed = λ m has. let k = (kept_ones m).0 has in (allowed_here m).1 (successors.are.allowed m k.0, k.1);
      ordered = AllPairs-filter (λ (m n : Move). move_cmp m n ≡ Less) (λ n. not (is_push_on below n)) successors.moves
          successors.are.ordered;
      others = λ m may.
          let a = (allowed_here m).0 may in
          elim (successors.are.others m a.0) [
            | inl has ↦ inl ((kept_ones m).1 (has, a.1))
            | inr after ↦ inr (λ n has. after n ((kept_ones n).0 has).0)
          ];
    };
    every = λ all m may. let a = (allowed_here m).0 may in (kept_ones m).1 (successors.every all m a.0, a.1);
    steps_are = are;
    unlimited = λ question asks. successors.unlimited question (asks_alone question asks);
  }
    where
      kept_ones : (m : Move) → Contains (unstruck below successors.moves) m ↔
          (Contains successors.moves m × (not (is_push_on below m) ≡ true))
      kept_ones m = Contains-filter (λ n. not (is_push_on below n)) successors.moves m

      asks_alone : (question : Question) → AsksAt task here question → AsksAt task alone question
      asks_alone question (inl needs) = inl needs
      asks_alone question (inr (e, relevant, asks)) = inr (e, relevant_alone e relevant, asks)
