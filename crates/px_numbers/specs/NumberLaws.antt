-- A pair of numbers is one node, a node has one pair, and both stay so when more is kept.
use Rattle.std.proofs.Common.{◌≡◌, ℕ, zero, suc, ◌<◌, List, [], ◌∷◌, ◌++◌, length, refl, sym, ◌∙◌, ap, subst, inl, inr, arith, Some, slice_get, Contains}
use Rattle.std.proofs.lemmas.List.{length-append}
use Rattle.px_terms.specs.declared.atom.Atom.{Atom}
use Rattle.px_table.specs.declared.entry.Entry.{Entry}
use Rattle.px_table.specs.declared.node.Node.{Node}
use Rattle.px_numbers.specs.declared.nodes.NodeKey.{NodeKey}
use Rattle.px_numbers.specs.declared.stacks.Frame.{Frame}
use Rattle.px_ops.specs.Keeping.{AreOnce, KeepsPlaces}
use Rattle.px_ops.specs.KeepLaws.{place_within, has_at, at_has, push-cases}
use Rattle.px_numbers.specs.Numbers.{Kept, AreEachOnce, AreNumbersOf, IsModelOf, IsModelAt, IsStackAt, IsKeyOf, KeepsAll, AllStand}

-- ---- places of lists

pub one_at : {X : Type 0} (xs : List X) (k : ℕ) (x y : X) → slice_get xs k ≡ Some x → slice_get xs k ≡ Some y → x ≡ y
one_at xs k x y h g = cc

pub item_in : {X : Type 0} (xs : List X) (k : ℕ) → k < length xs → (x : X) × (slice_get xs k ≡ Some x)
item_in [] k h = absurd (omega (arith, h))
item_in (x ∷ xs) zero h = (x, refl)
item_in (x ∷ xs) (suc k) h = item_in xs k (omega (arith, h))

pub last_at : {X : Type 0} (xs : List X) (x : X) → slice_get (xs ++ x ∷ []) (length xs) ≡ Some x
last_at [] x = refl
last_at (y ∷ xs) x = last_at xs x

-- ---- more is kept

pub numbers-grow : (old new : List Atom) (numbers : List ℕ) (model : List Atom) → KeepsPlaces old new → AreNumbersOf old numbers model
    → AreNumbersOf new numbers model
numbers-grow old new [] [] keeps are = are
numbers-grow old new [] (atom ∷ model) keeps are = are
numbers-grow old new (number ∷ numbers) [] keeps are = are
numbers-grow old new (number ∷ numbers) (atom ∷ model) keeps are = (keeps number atom are.0, numbers-grow old new numbers model keeps are.1)

model-grows : (old new : List Atom) (numbers : List ℕ) (model : List Atom) → KeepsPlaces old new → IsModelOf old numbers model
    → IsModelOf new numbers model
model-grows old new numbers model keeps is = record {
  is_set = is.is_set;
  numbers_are = numbers-grow old new numbers model keeps is.numbers_are;
}

pub model_at-grows : (old new : Kept) (number : ℕ) (model : List Atom) → KeepsAll old new → IsModelAt old number model
    → IsModelAt new number model
model_at-grows old new number model keeps is = (
  is.0,
  keeps.lists number is.0 is.1,
  model-grows old.atoms new.atoms is.0 model keeps.atoms is.2,
)

pub stack_at-grows : (old new : Kept) (number : ℕ) (stack : List Entry) → KeepsAll old new → IsStackAt old number stack
    → IsStackAt new number stack
stack_at-grows old new number [] keeps is = is
stack_at-grows old new number (entry ∷ below) keeps (place, frame, number_is, frame_at, entry_at, rest) = (
  place,
  frame,
  number_is,
  keeps.frames place frame frame_at,
  keeps.entries frame.entry entry entry_at,
  stack_at-grows old new frame.below below keeps rest,
)

pub stands-grows : (old new : Kept) (key : NodeKey) (node : Node) → KeepsAll old new → IsKeyOf old key node → IsKeyOf new key node
stands-grows old new key node keeps is = record {
  model = model_at-grows old new key.model node.model keeps is.model;
  stack = stack_at-grows old new key.stack node.stack keeps is.stack;
}

pub all_stand-grows : (old new : Kept) (keys : List NodeKey) (nodes : List Node) → KeepsAll old new → AllStand old keys nodes
    → AllStand new keys nodes
all_stand-grows old new keys nodes keeps all = record {
  count = all.count;
  each = λ k key node at_key at_node. stands-grows old new key node keeps (all.each k key node at_key at_node);
}

-- ---- a pair is one node

same_atoms : (atoms : List Atom) (numbers : List ℕ) (first second : List Atom) → AreNumbersOf atoms numbers first
    → AreNumbersOf atoms numbers second → first ≡ second
same_atoms atoms [] [] [] a b = refl
same_atoms atoms [] [] (y ∷ ys) a b = absurd b
same_atoms atoms [] (x ∷ xs) second a b = absurd a
same_atoms atoms (number ∷ numbers) [] second a b = absurd a
same_atoms atoms (number ∷ numbers) (x ∷ xs) [] a b = absurd b
same_atoms atoms (number ∷ numbers) (x ∷ xs) (y ∷ ys) a b =
    let first : x ≡ y = one_at atoms number x y a.0 b.0 in
    let rest = same_atoms atoms numbers xs ys a.1 b.1 in
    λ i. first i ∷ rest i

pub one_model : (kept : Kept) (number : ℕ) (first second : List Atom) → IsModelAt kept number first → IsModelAt kept number second
    → first ≡ second
one_model kept number first second a b =
    let same : b.0 ≡ a.0 = one_at kept.lists number b.0 a.0 b.1 a.1 in
    same_atoms kept.atoms a.0 first second a.2.numbers_are (subst (λ (l : List ℕ). IsModelOf kept.atoms l second) same b.2).numbers_are

pub one_stack : (kept : Kept) (number : ℕ) (first second : List Entry) → IsStackAt kept number first → IsStackAt kept number second
    → first ≡ second
one_stack kept number [] [] a b = refl
one_stack kept number [] (e ∷ es) a b = absurd (omega (arith, a, b.2))
one_stack kept number (d ∷ ds) [] a b = absurd (omega (arith, b, a.2))
one_stack kept number (d ∷ ds) (e ∷ es) (place, frame, number_is, frame_at, entry_at, rest)
    (place', frame', number_is', frame_at', entry_at', rest') =
    let same_place : place' ≡ place = omega (arith, number_is, number_is') in
    let same_frame : frame' ≡ frame = one_at kept.frames place frame' frame
    (subst (λ (k : ℕ). slice_get kept.frames k ≡ Some frame') same_place frame_at') frame_at in
    let same_entry : d ≡ e = one_at kept.entries frame.entry d e entry_at
    (subst (λ (f : Frame). slice_get kept.entries f.entry ≡ Some e) same_frame entry_at') in
    let same_below : ds ≡ es = one_stack kept frame.below ds es rest (subst (λ (f : Frame). IsStackAt kept f.below es) same_frame rest') in
    λ i. same_entry i ∷ same_below i

pub one_node : (kept : Kept) (key : NodeKey) (first second : Node) → IsKeyOf kept key first → IsKeyOf kept key second → first ≡ second
one_node kept key first second a b =
    let models = one_model kept key.model first.model second.model a.model b.model in
    let stacks = one_stack kept key.stack first.stack second.stack a.stack b.stack in
    λ i. record { model = models i; stack = stacks i }

-- ---- a node has one pair

same_numbers : (atoms : List Atom) → AreOnce atoms → (first second : List ℕ) (model : List Atom) → AreNumbersOf atoms first model
    → AreNumbersOf atoms second model → first ≡ second
same_numbers atoms once [] [] [] a b = refl
same_numbers atoms once [] (n ∷ ns) [] a b = absurd b
same_numbers atoms once (m ∷ ms) second [] a b = absurd a
same_numbers atoms once [] second (atom ∷ model) a b = absurd a
same_numbers atoms once (m ∷ ms) [] (atom ∷ model) a b = absurd b
same_numbers atoms once (m ∷ ms) (n ∷ ns) (atom ∷ model) a b =
    let first : m ≡ n = once m n atom a.0 b.0 in
    let rest = same_numbers atoms once ms ns model a.1 b.1 in
    λ i. first i ∷ rest i

pub one_model_number : (kept : Kept) → AreEachOnce kept → (first second : ℕ) (model : List Atom) → IsModelAt kept first model
    → IsModelAt kept second model → first ≡ second
one_model_number kept once first second model a b =
    let same : b.0 ≡ a.0 = same_numbers kept.atoms once.atoms b.0 a.0 model b.2.numbers_are a.2.numbers_are in
    once.lists first second a.0 a.1 (b.1 ∙ ap Some same)

pub one_stack_number : (kept : Kept) → AreEachOnce kept → (first second : ℕ) (stack : List Entry) → IsStackAt kept first stack
    → IsStackAt kept second stack → first ≡ second
one_stack_number kept once first second [] a b = a ∙ sym b
one_stack_number kept once first second (e ∷ es) (place, frame, number_is, frame_at, entry_at, rest)
    (place', frame', number_is', frame_at', entry_at', rest') =
    let same_entry : frame.entry ≡ frame'.entry = once.entries frame.entry frame'.entry e entry_at entry_at' in
    let same_below : frame.below ≡ frame'.below = one_stack_number kept once frame.below frame'.below es rest rest' in
    let same_frame : frame ≡ frame' = λ i. record { entry = same_entry i; below = same_below i } in
    let same_place : place ≡ place' = once.frames place place' frame frame_at (frame_at' ∙ ap Some (sym same_frame)) in
    number_is ∙ ap suc same_place ∙ sym number_is'

pub one_key : (kept : Kept) → AreEachOnce kept → (first second : NodeKey) (node : Node) → IsKeyOf kept first node → IsKeyOf kept second node
    → first ≡ second
one_key kept once first second node a b =
    let models = one_model_number kept once first.model second.model node.model a.model b.model in
    let stacks = one_stack_number kept once first.stack second.stack node.stack a.stack b.stack in
    λ i. record { model = models i; stack = stacks i }

-- ---- lists of pairs

pub node_of_key : (kept : Kept) (keys : List NodeKey) (nodes : List Node) (k : ℕ) (key : NodeKey) → AllStand kept keys nodes
    → slice_get keys k ≡ Some key
    → (node : Node) × (slice_get nodes k ≡ Some node) × IsKeyOf kept key node
node_of_key kept keys nodes k key all at =
    let there = item_in nodes k (omega (arith, all.count, place_within keys k key at)) in
    (there.0, there.1, all.each k key there.0 at there.1)

pub key_of_node : (kept : Kept) (keys : List NodeKey) (nodes : List Node) (k : ℕ) (node : Node) → AllStand kept keys nodes
    → slice_get nodes k ≡ Some node
    → (key : NodeKey) × (slice_get keys k ≡ Some key) × IsKeyOf kept key node
key_of_node kept keys nodes k node all at =
    let there = item_in keys k (omega (arith, all.count, place_within nodes k node at)) in
    (there.0, there.1, all.each k there.0 node there.1 at)

-- a pair that was found is a node that was found
pub seen : (kept : Kept) (keys : List NodeKey) (nodes : List Node) (key : NodeKey) (node : Node) → AllStand kept keys nodes
    → IsKeyOf kept key node → Contains keys key → Contains nodes node
seen kept keys nodes key node all stands has =
    let place = at_has keys key has in
    let there = node_of_key kept keys nodes place.0 key all place.1 in
    has_at nodes place.0 node (there.1 ∙ ap Some (one_node kept key there.0 node there.2 stands))

-- a pair that is new is a node that is new
pub unseen : (kept : Kept) → AreEachOnce kept → (keys : List NodeKey) (nodes : List Node) (key : NodeKey) (node : Node)
    → AllStand kept keys nodes → IsKeyOf kept key node
    → (¬ Contains keys key) → ¬ Contains nodes node
unseen kept once keys nodes key node all stands fresh has =
    let place = at_has nodes node has in
    let there = key_of_node kept keys nodes place.0 node all place.1 in
    fresh (has_at keys place.0 key (there.1 ∙ ap Some (one_key kept once there.0 key node there.2 stands)))

pub all_stand-push : (kept : Kept) (keys : List NodeKey) (nodes : List Node) (key : NodeKey) (node : Node) → AllStand kept keys nodes
    → IsKeyOf kept key node
    → AllStand kept (keys ++ key ∷ []) (nodes ++ node ∷ [])
all_stand-push kept keys nodes key node all stands = record {
  count = omega (arith, all.count, length-append keys (key ∷ []), length-append nodes (node ∷ []));
  each = λ k key' node' at_key at_node. elim (push-cases keys key key' k at_key) [
    | inl old ↦ elim (push-cases nodes node node' k at_node) [
      | inl old' ↦ all.each k key' node' old old'
      | inr new ↦ absurd (omega (arith, place_within keys k key' old, new.0, all.count))
    ]
    | inr new ↦ elim (push-cases nodes node node' k at_node) [
      | inl old' ↦ absurd (omega (arith, place_within nodes k node' old', new.0, all.count))
      | inr new' ↦ subst (λ (x : NodeKey). IsKeyOf kept x node') new.1 (subst (λ (x : Node). IsKeyOf kept key x) new'.1 stands)
    ]
  ];
}

-- the empty list of pairs stands for the empty list of nodes
pub all_stand-none : (kept : Kept) (keys : List NodeKey) → keys ≡ [] → AllStand kept keys []
all_stand-none kept keys none = record {
  count = ap length none;
  each = λ k key node at_key at_node. absurd (omega (arith, place_within [] k node at_node));
}

pub tails_stand : (kept : Kept) (key : NodeKey) (keys : List NodeKey) (node : Node) (nodes : List Node)
    → AllStand kept (key ∷ keys) (node ∷ nodes) → AllStand kept keys nodes
tails_stand kept key keys node nodes all = record {
  count = omega (arith, all.count);
  each = λ k key' node' at_key at_node. all.each (suc k) key' node' at_key at_node;
}

-- the pairs are one list of nodes
pub one_list : (kept : Kept) (keys : List NodeKey) (first second : List Node) → AllStand kept keys first → AllStand kept keys second
    → first ≡ second
one_list kept [] [] [] a b = refl
one_list kept [] [] (n ∷ ns) a b = absurd (omega (arith, b.count))
one_list kept [] (m ∷ ms) second a b = absurd (omega (arith, a.count))
one_list kept (key ∷ keys) [] second a b = absurd (omega (arith, a.count))
one_list kept (key ∷ keys) (m ∷ ms) [] a b = absurd (omega (arith, b.count))
one_list kept (key ∷ keys) (m ∷ ms) (n ∷ ns) a b =
    let first = one_node kept key m n (a.each 0 key m refl refl) (b.each 0 key n refl refl) in
    let rest = one_list kept keys ms ns (tails_stand kept key keys m ms a) (tails_stand kept key keys n ns b) in
    λ i. first i ∷ rest i
