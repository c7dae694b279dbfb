-- One more command keeps commands in range, and so does another problem with the same objects.
use Rattle.std.proofs.lemmas.List.FromFn.{map-range_with_len_more}
use Rattle.px_script.proofs.Common.{flat_map-append, append_assoc, append-nil, length, Bool, Option, ◌≡◌, ℕ, ◌+◌, ◌≤◌, true, false, ◌||◌, ◌==◌, List, [], ◌∷◌, ◌++◌, refl, sym, ap, ◌∙◌, subst, arith, map-id, All, Some, fold, flat_map, list_any, range_with_len, scan, nat_tests, or_right, list_any-append, Problem, Thing, Command, CommandsInRange, IsCommandOf, IsAmong, disturbs_after}
use Rattle.px_script.specs.declared.command.Command.TheVariants.{Plan, Learn, DisturbAtoms, DisturbRooms, Facts, Run, Duo, Edit, Pursue, Tree}
use Rattle.px_script.proofs.Problems.{Grows, atoms-kept}

pub one-more-result : (old : ℕ) → range_with_len 0 old ++ old ∷ [] ≡ range_with_len 0 (old + 1)
one-more-result n = sym (sym (map-id (range_with_len 0 (n + 1))) ∙ map-range_with_len_more (λ k. k) 0 n n (omega arith)
    ∙ ap (λ t. t ++ n ∷ []) (map-id (range_with_len 0 n)))

pub scan-more : (n : ℕ) (commands : List Command) (c : Command) → scan disturbs_after disturbs_after n (commands ++ c ∷ [])
    ≡ scan disturbs_after disturbs_after n commands ++ disturbs_after (fold disturbs_after n commands) c ∷ []
scan-more n [] c = refl
scan-more n (x ∷ xs) c = ap (λ t. disturbs_after n x ∷ t) (scan-more (disturbs_after n x) xs c)

pub more-results : (version : ℕ) (problem : Problem) (building : Option (List Thing)) (old new : ℕ) → old ≤ new → (command : Command)
    → IsCommandOf version problem building old command → IsCommandOf version problem building new command
more-results version problem building old new le (Plan name goal variable_count) h = (omega (arith, h.0, le), h.1)
more-results version problem building old new le (Pursue name goal variable_count) h = (omega (arith, h.0, le), h.1)
more-results version problem building old new le (Tree name nodes goal variable_count) h = (omega (arith, h.0, le), h.1, h.2)
more-results version problem building old new le (Learn name source) h = (omega (arith, h.0, le), omega (arith, h.1, le))
more-results version problem building old new le (Run name bindings) h = (omega (arith, h.0, le), h.1, h.2)
more-results version problem building old new le (Duo first second events) h = (omega (arith, h.0, le), omega (arith, h.1, le), h.2)
more-results version problem building old new le (Edit name source prefix wanted) h =
    (omega (arith, h.0, le), omega (arith, h.1, le), h.2, h.3)
more-results version problem building old new le (DisturbAtoms turn between edits) h = h
more-results version problem building old new le (DisturbRooms turn between edits) h = h
more-results version problem building old new le Facts h = h
more-results version problem building old new le _ h = omega (arith, h, le)

-- what commands give, with one more of them
module _ (gives : Command → List ℕ) (first : List ℕ) (commands : List Command) (c : Command) (k : ℕ) where
  abbrev is_k : ℕ → Bool
  is_k given = given == k

  among-with : list_any is_k (first ++ flat_map gives (commands ++ c ∷ []))
      ≡ (list_any is_k (first ++ flat_map gives commands) || list_any is_k (gives c ++ []))
  among-with = ap (λ t. list_any is_k (first ++ t)) (flat_map-append gives commands (c ∷ []))
      ∙ ap (list_any is_k) (sym (append_assoc first (flat_map gives commands) (gives c ++ [])))
      ∙ list_any-append is_k (first ++ flat_map gives commands) (gives c ++ [])

  -- what was among it is among it after one more command
  pub among-still : IsAmong (first ++ flat_map gives commands) k → IsAmong (first ++ flat_map gives (commands ++ c ∷ [])) k
  among-still among = among-with ∙ ap (λ b. b || list_any is_k (gives c ++ [])) among

  -- and so is what that command gives
  pub among-last : gives c ≡ k ∷ [] → IsAmong (first ++ flat_map gives (commands ++ c ∷ [])) k
  among-last given = let same : ((k == k) || false) ≡ true = grind (arith, nat_tests) in
      among-with ∙ or_right (list_any is_k (first ++ flat_map gives commands)) _ (ap (λ t. list_any is_k (t ++ [])) given ∙ same)

-- what blocks give, with one more of them, while there is no command
pub among-more : (first more given : List ℕ) (k : ℕ) → IsAmong (first ++ given) k → length given ≡ 0 → IsAmong ((first ++ more) ++ given) k
among-more first more [] k among none = let old : IsAmong first k = subst (λ t. IsAmong t k) (append-nil first) among in
    subst (λ t. IsAmong t k) (sym (append-nil (first ++ more)))
    (list_any-append (λ given. given == k) first more ∙ ap (λ b. b || list_any (λ given. given == k) more) old)
among-more first more (n ∷ given) k among none = absurd (omega (arith, none))

pub among-new : (first given : List ℕ) (k : ℕ) → IsAmong ((first ++ k ∷ []) ++ given) k
among-new first given k = let same : ((k == k) || false) ≡ true = grind (arith, nat_tests) in
    list_any-append (λ given. given == k) (first ++ k ∷ []) given
    ∙ ap (λ b. b || list_any (λ given. given == k) given) (list_any-append (λ given. given == k) first (k ∷ [])
    ∙ or_right (list_any (λ given. given == k) first) _ same)

-- no commands give nothing
pub none-given : (gives : Command → List ℕ) (commands : List Command) → length commands ≡ 0 → flat_map gives commands ≡ []
none-given gives [] none = refl
none-given gives (c ∷ commands) none = absurd (omega (arith, none))

-- commands of a script with a building, where another problem has the same objects and predicates

module _ (version : ℕ) (p q : Problem) (things : List Thing) (first : List ℕ) (results : ℕ) (objects : p.objects ≡ q.objects)
    (more : Grows p q) where
  command-moved : (c : Command) → IsCommandOf version p (Some things) results c → IsCommandOf version q (Some things) results c
  command-moved (Plan name goal variable_count) h =
      (h.0, assumption (atoms-kept p q more variable_count goal h.1.atoms, λ (none : q.objects ≡ 0). h.1.no_objects (objects ∙ none)))
  command-moved (Pursue name goal variable_count) h =
      (h.0, assumption (atoms-kept p q more variable_count goal h.1.atoms, λ (none : q.objects ≡ 0). h.1.no_objects (objects ∙ none)))
  command-moved (Tree name nodes goal variable_count) h =
      (h.0, h.1, assumption (atoms-kept p q more variable_count goal h.2.atoms, λ (none : q.objects ≡ 0). h.2.no_objects (objects ∙ none)))
  command-moved (DisturbAtoms turn between edits) h = let no = h.1 in cc
  command-moved (Run name bindings) h = (h.0, (λ k d below. let is = h.1 k d below in (is.0, is.1, omega (arith, is.2, objects))), h.2)
  command-moved _ h = h

  pub commands-moved : (commands : List Command) → CommandsInRange version p (Some things) first results commands
      → CommandsInRange version q (Some things) first results commands
  commands-moved commands h =
      let each : All (IsCommandOf version q (Some things) results) commands = λ k d below. command-moved _ (h.each k d below) in assumption
