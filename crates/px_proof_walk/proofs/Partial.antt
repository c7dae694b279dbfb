-- Lists of ticks that go on with open places to the end.
use Rattle.px_base.specs.Answers.{some_same}
use Rattle.px_proof_walk.proofs.Every.{all-prefix, all-rest}
use Rattle.std.proofs.Common.{◌≡◌, ℕ, zero, suc, ◌+◌, ◌<◌, Bool, Option, Some, None, List, [], ◌∷◌, ◌++◌, length, replicate, refl, ap, sym, ◌∙◌, arith}
use Rattle.std.specs.Prelude.{IsSomeAnd}
use Rattle.std.specs.List.{AllByRecursion}
use Rattle.px_proof.specs.Literals.{substitute_literal}
use Rattle.px_terms.specs.declared.term.Term.{Term}
use Rattle.px_terms.specs.declared.clause.Lit.{Lit}
use Rattle.px_terms.specs.declared.clause.Clause.{Clause}
use Rattle.px_proof.specs.declared.shape.Tick.{Tick}
use Rattle.px_proof.specs.declared.shape.Tick.TheVariants.{Fact, Anc, Step, Gap, Open}
use Rattle.px_proof.specs.Derivation.{Derivation, Derivations, fact, ancestor, step, gap, open_place, none, also}
use Rattle.px_proof.specs.Proves.{Rules, Proves, ProvesEach, parts_of, or_open}
use Rattle.px_proof.specs.Shapes.{ticks, ticks_of, IsUnfinished, OnlyOpen}
use Rattle.px_question.specs.Settings.{Setting}
use Rattle.px_proof_walk.specs.Pending.{Goal, Closing, Pending, Solves, open_after, closing_at, fresh_of}
use Rattle.px_proof_walk.specs.Possible.{IsClosing}
use Rattle.px_proof_walk.proofs.Lifting.{open_after-step}

-- an unfinished shape is a list of closings, and then open places
pub record IsPadded (shape : List Tick) : Type 0 where
  pub prefix : List Tick
  pub count : ℕ
  pub some_open : 0 < count
  pub is : shape ≡ prefix ++ replicate count Open
  pub closing : AllByRecursion IsClosing prefix

only-open : (shape : List Tick) → OnlyOpen shape → (k : ℕ) × (shape ≡ replicate k Open)
only-open [] only = (0, refl)
only-open (Open ∷ shape) only = let rest = only-open shape only in (suc rest.0, ap (λ ts. Open ∷ ts) rest.1)
only-open (Fact i ∷ shape) only = absurd only
only-open (Anc i ∷ shape) only = absurd only
only-open (Step number place ∷ shape) only = absurd only
only-open (Gap ∷ shape) only = absurd only

padded-more : (t : Tick) (shape : List Tick) → IsClosing t → IsPadded shape → IsPadded (t ∷ shape)
padded-more t shape closing rest =
    record {
      prefix = t ∷ rest.prefix;
      count = rest.count;
      some_open = rest.some_open;
      is = ap (λ ts. t ∷ ts) rest.is;
      closing = (closing, rest.closing);
    }

pub padded : (shape : List Tick) → IsUnfinished shape → IsPadded shape
padded [] unfinished = absurd unfinished
padded (Open ∷ shape) unfinished =
    let rest =
    only-open shape unfinished in record {
      prefix = [];
      count = suc rest.0;
      some_open = omega arith;
      is = ap (λ ts. Open ∷ ts) rest.1;
      closing = tt;
    }
padded (Fact i ∷ shape) unfinished = padded-more (Fact i) shape tt (padded shape unfinished)
padded (Anc i ∷ shape) unfinished = padded-more (Anc i) shape tt (padded shape unfinished)
padded (Step number place ∷ shape) unfinished = padded-more (Step number place) shape tt (padded shape unfinished)
padded (Gap ∷ shape) unfinished = padded-more Gap shape tt (padded shape unfinished)

opens-only : (k : ℕ) → OnlyOpen (replicate k Open)
opens-only zero = tt
opens-only (suc k) = opens-only k

pub padded-unfinished : (prefix : List Tick) (k : ℕ) → 0 < k → AllByRecursion IsClosing prefix → IsUnfinished (prefix ++ replicate k Open)
padded-unfinished [] zero some closing = absurd (omega (arith, some))
padded-unfinished [] (suc k) some closing = opens-only k
padded-unfinished (Open ∷ prefix) k some closing = absurd closing.0
padded-unfinished (Fact i ∷ prefix) k some closing = padded-unfinished prefix k some closing.1
padded-unfinished (Anc i ∷ prefix) k some closing = padded-unfinished prefix k some closing.1
padded-unfinished (Step number place ∷ prefix) k some closing = padded-unfinished prefix k some closing.1
padded-unfinished (Gap ∷ prefix) k some closing = padded-unfinished prefix k some closing.1

module _ (loose : Bool) (s : Setting) where
  -- open places take one goal each
  pub opens-after : (goals : List Goal) (n k : ℕ) → length goals ≡ k
      → open_after loose s n goals (replicate k Open) ≡ Some (record { variables = n; goals = [] })
  opens-after [] n zero long = refl
  opens-after [] n (suc k) long = absurd (omega (arith, long))
  opens-after (g ∷ goals) n zero long = absurd (omega (arith, long))
  opens-after (g ∷ goals) n (suc k) long = let e : n + 0 ≡ n = omega arith in rw e (opens-after goals n k (omega (arith, long)))

  pub opens-count : (goals : List Goal) (n k : ℕ) (p : Pending) → open_after loose s n goals (replicate k Open) ≡ Some p → p.goals ≡ []
      → length goals ≡ k
  opens-count [] n zero p now empty = refl
  opens-count [] n (suc k) p now empty = absurd (cc)
  opens-count (g ∷ goals) n zero p now empty =
      absurd (let same : (g ∷ goals) ≡ p.goals = ap (λ (q : Pending). q.goals) (some_same now) in cc)
  opens-count (g ∷ goals) n (suc k) p now empty = ap suc (opens-count goals (n + 0) k p now empty)

  pub opens-solve : (tau : List Term) (goals : List Goal) (n k : ℕ) → length goals ≡ k → Solves loose s tau n goals (replicate k Open)
  opens-solve tau [] n zero long = tt
  opens-solve tau [] n (suc k) long = absurd (omega (arith, long))
  opens-solve tau (g ∷ goals) n zero long = tt
  opens-solve tau (g ∷ goals) n (suc k) long = (refl, opens-solve tau goals (n + 0) k (omega (arith, long)))

  -- where two lists one after the other lead, the first leads somewhere, and the second from there on
  pub open_after-split : (a b : List Tick) (n : ℕ) (start : List Goal) (p : Pending) → open_after loose s n start (a ++ b) ≡ Some p
      → (q : Pending) × (open_after loose s n start a ≡ Some q) × (open_after loose s q.variables q.goals b ≡ Some p)
  open_after-split [] b n start p now = (record { variables = n; goals = start }, refl, now)
  open_after-split (t ∷ a) b n [] p now = absurd (cc)
  open_after-split (t ∷ a) b n (g ∷ start) p now =
      go (closing_at loose s n g t) refl (λ closing later. open_after-split a b (n + fresh_of s t) (closing.parts ++ start) p later)
    where
      go : (o : Option Closing) → closing_at loose s n g t ≡ o
          → ((closing : Closing) → open_after loose s (n + fresh_of s t) (closing.parts ++ start) (a ++ b) ≡ Some p
          → (q : Pending) × (open_after loose s (n + fresh_of s t) (closing.parts ++ start) a ≡ Some q)
          × (open_after loose s q.variables q.goals b ≡ Some p))
          → (q : Pending) × (open_after loose s n (g ∷ start) (t ∷ a) ≡ Some q) × (open_after loose s q.variables q.goals b ≡ Some p)
      go None is later = absurd (let none_left = rw is at now in cc)
      go (Some closing) is later =
          let found = later closing (sym (open_after-step loose s n g start t (a ++ b) closing is) ∙ now) in
          (found.0, open_after-step loose s n g start t a closing is ∙ found.1, found.2)

  pub open_after-joined : (a b : List Tick) (n : ℕ) (start : List Goal) (q p : Pending) → open_after loose s n start a ≡ Some q
      → open_after loose s q.variables q.goals b ≡ Some p → open_after loose s n start (a ++ b) ≡ Some p
  open_after-joined [] b n start q p first later =
      let n_is : n ≡ q.variables = ap (λ (r : Pending). r.variables) (some_same first) in
      let start_is : start ≡ q.goals = ap (λ (r : Pending). r.goals) (some_same first) in
      rw (n_is, start_is) later
  open_after-joined (t ∷ a) b n [] q p first later = absurd (cc)
  open_after-joined (t ∷ a) b n (g ∷ start) q p first later =
      go (closing_at loose s n g t) refl (λ closing now. open_after-joined a b (n + fresh_of s t) (closing.parts ++ start) q p now later)
    where
      go : (o : Option Closing) → closing_at loose s n g t ≡ o
          → ((closing : Closing) → open_after loose s (n + fresh_of s t) (closing.parts ++ start) a ≡ Some q
          → open_after loose s (n + fresh_of s t) (closing.parts ++ start) (a ++ b) ≡ Some p)
          → open_after loose s n (g ∷ start) (t ∷ (a ++ b)) ≡ Some p
      go None is goes = absurd (let none_left = rw is at first in cc)
      go (Some closing) is goes =
          open_after-step loose s n g start t (a ++ b) closing is
          ∙ goes closing (sym (open_after-step loose s n g start t a closing is) ∙ first)

  pub solves-joined : (tau : List Term) (a b : List Tick) (n : ℕ) (start : List Goal) (q : Pending) → open_after loose s n start a ≡ Some q
      → Solves loose s tau n start a → Solves loose s tau q.variables q.goals b → Solves loose s tau n start (a ++ b)
  solves-joined tau [] b n start q first solves later =
      let n_is : n ≡ q.variables = ap (λ (r : Pending). r.variables) (some_same first) in
      let start_is : start ≡ q.goals = ap (λ (r : Pending). r.goals) (some_same first) in
      rw (n_is, start_is) later
  solves-joined tau (t ∷ a) b n [] q first solves later = absurd solves
  solves-joined tau (t ∷ a) b n (g ∷ start) q first solves later =
      go (closing_at loose s n g t) refl solves (λ closing now holds. solves-joined tau a b (n + fresh_of s t)
      (closing.parts ++ start) q now holds later)
    where
      go : (o : Option Closing) → closing_at loose s n g t ≡ o
          → IsSomeAnd o (λ closing. (substitute_literal tau g.lit ≡ substitute_literal tau closing.equal_to)
          × Solves loose s tau (n + fresh_of s t) (closing.parts ++ start) a)
          → ((closing : Closing) → open_after loose s (n + fresh_of s t) (closing.parts ++ start) a ≡ Some q
          → Solves loose s tau (n + fresh_of s t) (closing.parts ++ start) a
          → Solves loose s tau (n + fresh_of s t) (closing.parts ++ start) (a ++ b))
          → IsSomeAnd o (λ closing. (substitute_literal tau g.lit ≡ substitute_literal tau closing.equal_to)
          × Solves loose s tau (n + fresh_of s t) (closing.parts ++ start) (a ++ b))
      go None is closes goes = closes
      go (Some closing) is closes goes = (closes.0, goes closing (sym (open_after-step loose s n g start t a closing is) ∙ first) closes.1)

-- where no place is open in the ticks, none is in the derivations
module _ (rules : Rules) (axioms : List Clause) where
  mutual
    closed-proves : (path : List Lit) (lit : Lit) (p : Derivation) → AllByRecursion IsClosing (ticks p)
        → Proves (or_open rules) axioms path lit p → Proves rules axioms path lit p
    closed-proves path lit (fact leaf) closing proved = proved
    closed-proves path lit (ancestor i) closing proved = proved
    closed-proves path lit (step number theta place parts) closing proved = (
      proved.0,
      record { axiom_at = proved.1.axiom_at; terms = proved.1.terms; choices = proved.1.choices; literal_at = proved.1.literal_at },
      closed-proves-each (lit ∷ path) (parts_of proved.0.lits theta place) parts closing.1 proved.2,
    )
    closed-proves path lit (gap a) closing proved = proved
    closed-proves path lit open_place closing proved = absurd closing.0

    pub closed-proves-each : (path lits : List Lit) (ps : Derivations) → AllByRecursion IsClosing (ticks_of ps)
        → ProvesEach (or_open rules) axioms path lits ps → ProvesEach rules axioms path lits ps
    closed-proves-each path [] none closing each = tt
    closed-proves-each path (lit ∷ lits) (also p ps) closing each = (
      closed-proves path lit p (all-prefix IsClosing (ticks p) (ticks_of ps) closing) each.0,
      closed-proves-each path lits ps (all-rest IsClosing (ticks p) (ticks_of ps) closing) each.1,
    )
    closed-proves-each path [] (also p ps) closing each = absurd each
    closed-proves-each path (lit ∷ lits) none closing each = absurd each
