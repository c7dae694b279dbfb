-- The nodes that pairs of numbers stand for are the one list that does so.
use Rattle.std.proofs.Common.{◌≡◌, ℕ, zero, suc, ◌<◌, ◌≤◌, List, [], ◌∷◌, ◌++◌, length, map, take, refl, sym, ◌∙◌, ap, subst, arith, Some, slice_get}
use Rattle.std.specs.Prelude.{Option}
use Rattle.px_terms.specs.declared.atom.Atom.{Atom}
use Rattle.px_table.specs.declared.entry.Entry.{Entry}
use Rattle.px_table.specs.declared.node.Node.{Node}
use Rattle.px_numbers.specs.declared.nodes.NodeKey.{NodeKey}
use Rattle.px_numbers.specs.Numbers.{Kept, AreDescending, AreNumbersOf, IsModelAt, IsStackAt, IsKeyOf, AllStand}
use Rattle.px_numbers.specs.NumberLaws.{tails_stand}
use Rattle.px_numbers.specs.Nodewise.{items_or_none, items_at, atoms_numbered, below_of, top_of, stack_of, kept_node, nodes_of}

-- ---- a model

pub atoms_are : (atoms : List Atom) (numbers : List ℕ) (model : List Atom) → AreNumbersOf atoms numbers model
    → model ≡ items_at atoms numbers
unfolding items_at
atoms_are atoms [] [] are = refl
atoms_are atoms [] (atom ∷ model) are = absurd are
atoms_are atoms (number ∷ numbers) [] are = absurd are
atoms_are atoms (number ∷ numbers) (atom ∷ model) are =
    ap (λ (l : List Atom). atom ∷ l) (atoms_are atoms numbers model are.1)
    ∙ ap (λ (found : Option Atom). items_or_none found ++ items_at atoms numbers) (sym are.0)

pub model_at-is : (kept : Kept) (number : ℕ) (model : List Atom) → IsModelAt kept number model
    → model ≡ atoms_numbered kept.atoms (slice_get kept.lists number)
model_at-is kept number model (numbers, at, is) =
    atoms_are kept.atoms numbers model is.numbers_are ∙ ap (atoms_numbered kept.atoms) (sym at)

-- ---- a stack

pub stack_is : (kept : Kept) → AreDescending kept.frames → (stack : List Entry) (most number : ℕ) → number ≤ most
    → IsStackAt kept number stack → stack ≡ stack_of kept most number
unfolding stack_of
stack_is kept falls [] zero number below is = refl
stack_is kept falls [] (suc most) zero below is = refl
stack_is kept falls [] (suc most) (suc place) below is = absurd (omega (arith, is))
stack_is kept falls (entry ∷ rest) zero number below (place, frame, number_is, frame_at, entry_at, rest_at) =
    absurd (omega (arith, number_is, below))
stack_is kept falls (entry ∷ rest) (suc most) zero below (place, frame, number_is, frame_at, entry_at, rest_at) =
    absurd (omega (arith, number_is))
stack_is kept falls (entry ∷ rest) (suc most) (suc here) below (place, frame, number_is, frame_at, entry_at, rest_at) =
    let same : place ≡ here = omega (arith, number_is) in
    let at_here : slice_get kept.frames here ≡ Some frame = subst (λ (k : ℕ). slice_get kept.frames k ≡ Some frame) same frame_at in
    let top : top_of kept.entries (slice_get kept.frames here) ≡ entry ∷ [] =
    ap (top_of kept.entries) at_here ∙ ap items_or_none entry_at in
    let lower : below_of (slice_get kept.frames here) ≡ frame.below = ap below_of at_here in
    let tail : rest ≡ stack_of kept most frame.below =
    stack_is kept falls rest most frame.below (omega (arith, falls here frame at_here, below)) rest_at in
    ap (λ (l : List Entry). entry ∷ l) (tail ∙ ap (stack_of kept most) (sym lower))
    ∙ ap (λ (l : List Entry). l ++ stack_of kept most (below_of (slice_get kept.frames here))) (sym top)

-- ---- nodes

pub node_is : (kept : Kept) → AreDescending kept.frames → (key : NodeKey) (node : Node) → IsKeyOf kept key node → node ≡ kept_node kept key
node_is kept falls key node is =
    let models = model_at-is kept key.model node.model is.model in
    let stacks = stack_is kept falls node.stack key.stack key.stack (omega arith) is.stack in
    λ i. record { model = models i; stack = stacks i }

pub nodes_are : (kept : Kept) → AreDescending kept.frames → (keys : List NodeKey) (nodes : List Node) → AllStand kept keys nodes
    → nodes ≡ nodes_of kept keys
nodes_are kept falls [] [] all = refl
nodes_are kept falls [] (node ∷ nodes) all = absurd (omega (arith, all.count))
nodes_are kept falls (key ∷ keys) [] all = absurd (omega (arith, all.count))
nodes_are kept falls (key ∷ keys) (node ∷ nodes) all =
    let first = node_is kept falls key node (all.each 0 key node refl refl) in
    let rest = nodes_are kept falls keys nodes (tails_stand kept key keys node nodes all) in
    λ i. first i ∷ rest i

pub nodes_stand : (kept : Kept) → AreDescending kept.frames → (keys : List NodeKey) (nodes : List Node) → AllStand kept keys nodes
    → AllStand kept keys (nodes_of kept keys)
nodes_stand kept falls keys nodes all = subst (AllStand kept keys) (nodes_are kept falls keys nodes all) all

pub some_take : {X : Type 0} (xs : List X) (count k : ℕ) (x : X) → k < count → slice_get xs k ≡ Some x
    → slice_get (take count xs) k ≡ Some x
some_take [] count k x below at = absurd (cc)
some_take (y ∷ xs) zero k x below at = absurd (omega (arith, below))
some_take (y ∷ xs) (suc count) zero x below at = at
some_take (y ∷ xs) (suc count) (suc k) x below at = some_take xs count k x (omega (arith, below)) at

pub length-take_map : {X Y : Type 0} (f : X → Y) (xs : List X) (count : ℕ) → count ≤ length xs → length (take count (map f xs)) ≡ count
length-take_map f [] zero few = refl
length-take_map f [] (suc count) few = absurd (omega (arith, few))
length-take_map f (x ∷ xs) zero few = refl
length-take_map f (x ∷ xs) (suc count) few = ap suc (length-take_map f xs count (omega (arith, few)))
