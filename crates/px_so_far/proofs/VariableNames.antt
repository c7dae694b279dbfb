-- The different variables of atoms.
use Rattle.px_terms.specs.Limits.{most_formula_variables}
use Rattle.px_so_far.proofs.Common.{◌≡◌, ℕ, ◌<◌, ◌≤◌, Bool, true, false, List, [], ◌∷◌, ◌++◌, map, take, length, refl, sym, ap, ◌∙◌, append_assoc, arith, fold, nat_lt, if◌then◌else◌, append-nil, map-append, take_all, take-append-drop, drop, nat_tests, has_name, with_variable, variable_names_of, Argument, open_variable, signed_view, WrittenAtom, length-append, flat_map-append, fold-append, length-map}
use Rattle.px_so_far.proofs.AtomTests.{arguments}

-- one variable more, or none
record Grown (before after : List (List ℕ)) : Type 0 where
  pub new : List (List ℕ)
  pub is : after ≡ before ++ new
  pub few : length new ≤ 1

grown-if : (b : Bool) (v : List ℕ) (seen : List (List ℕ)) → Grown seen (if b then seen else seen ++ v ∷ [])
grown-if true v seen = record { new = []; is = sym (append-nil seen); few = omega arith }
grown-if false v seen = record { new = v ∷ []; is = refl; few = omega arith }

grown : (seen : List (List ℕ)) (a : Argument) → Grown seen (with_variable seen a)
grown seen (open_variable v) = grown-if (has_name v seen) v seen
grown seen _ = record { new = []; is = sym (append-nil seen); few = omega arith }

grows : (seen : List (List ℕ)) (xs : List Argument) → (new : List (List ℕ)) × (fold with_variable seen xs ≡ seen ++ new)
grows seen [] = ([], sym (append-nil seen))
grows seen (a ∷ xs) = let one = grown seen a in let more = grows (with_variable seen a) xs in
    (one.new ++ more.0, more.1 ∙ ap (λ t. t ++ more.0) one.is ∙ append_assoc seen one.new more.0)

-- the variables of all atoms, where no atom is left
pub all-seen : (atoms : List WrittenAtom) (i : ℕ) → length atoms ≤ i
    → fold with_variable [] (arguments (map signed_view (take i atoms))) ≡ variable_names_of (map signed_view atoms)
all-seen atoms i past = ap (λ xs. fold with_variable [] (arguments (map signed_view xs))) (take_all i atoms past)

-- where there are more than the most variables in front, there are more than these
pub many-seen : (atoms : List WrittenAtom) (i : ℕ) (seen : List (List ℕ))
    → seen ≡ fold with_variable [] (arguments (map signed_view (take i atoms))) → most_formula_variables < length seen
    → true ≡ nat_lt most_formula_variables (length (variable_names_of (map signed_view atoms)))
many-seen atoms i seen is many = let rest = arguments (map signed_view (drop i atoms)) in
    let parts : arguments (map signed_view atoms) ≡ arguments (map signed_view (take i atoms)) ++ rest =
    ap (λ xs. arguments (map signed_view xs)) (sym (take-append-drop i atoms))
    ∙ ap arguments (map-append signed_view (take i atoms) (drop i atoms))
    ∙ flat_map-append (λ x. x.atom.arguments) (map signed_view (take i atoms)) (map signed_view (drop i atoms)) in
    let more = grows seen rest in let whole : variable_names_of (map signed_view atoms) ≡ seen ++ more.0 = ap (fold with_variable []) parts
    ∙ fold-append with_variable [] (arguments (map signed_view (take i atoms))) rest ∙ ap (λ t. fold with_variable t rest) (sym is)
    ∙ more.1 in let size = ap length whole ∙ length-append seen more.0 in sym (grind (arith, nat_tests, size, many))

pub ruleset seen = (all-seen, many-seen, length-map)
