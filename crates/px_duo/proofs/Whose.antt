-- What each of the two has after an event of one of them.
use Rattle.std.specs.Prelude.{◌≡◌, ◌⊎◌, List}
use Rattle.std.proofs.Common.{refl, ap, inl, inr}
use Rattle.px_terms.specs.declared.atom.Atom.{Atom}
use Rattle.px_planex.specs.Execution.{Memory, Running}
use Rattle.px_duo.specs.Alone.{if_own}
use Rattle.px_duo.specs.Duos.{DuoRunning, alone, come_to, other_than, own}
use Rattle.px_duo.specs.declared.event.Who.{Who}
use Rattle.px_duo.specs.declared.event.Who.TheVariants.{First, Second}

pub one_or_other : (who by : Who) → (by ≡ who) ⊎ (by ≡ other_than who)
one_or_other First First = inl refl
one_or_other First Second = inr refl
one_or_other Second First = inr refl
one_or_other Second Second = inl refl

pub own-here : {A : Type 0} (who : Who) (mine theirs : A) → if_own who who mine theirs ≡ mine
own-here First mine theirs = refl
own-here Second mine theirs = refl

pub own-not : {A : Type 0} (who : Who) (mine theirs : A) → if_own who (other_than who) mine theirs ≡ theirs
own-not First mine theirs = refl
own-not Second mine theirs = refl

-- the one has come to this
pub came : (who : Who) (old mid : DuoRunning) (seen : Running) → mid ≡ come_to who seen old → alone who mid ≡ seen
came First old mid seen is = ap (alone First) is
came Second old mid seen is = ap (alone Second) is

pub came-atoms : (who : Who) (old mid : DuoRunning) (seen : Running) → mid ≡ come_to who seen old → mid.atoms ≡ seen.atoms
came-atoms who old mid seen is = ap (λ (d : DuoRunning). d.atoms) is

pub came-memory : (who : Who) (old mid : DuoRunning) (seen : Running) → mid ≡ come_to who seen old → own who mid.memories ≡ seen.memory
came-memory who old mid seen is = ap (λ (r : Running). r.memory) (came who old mid seen is)

-- the other remembers what it did
pub other-stays : (who : Who) (old mid : DuoRunning) (seen : Running) → mid ≡ come_to who seen old
    → own (other_than who) mid.memories ≡ own (other_than who) old.memories
other-stays First old mid seen is = ap (λ (d : DuoRunning). d.memories.second) is
other-stays Second old mid seen is = ap (λ (d : DuoRunning). d.memories.first) is

-- and so does the one at an event of the other
pub own-stays : (who : Who) (old mid : DuoRunning) (seen : Running) → mid ≡ come_to (other_than who) seen old
    → own who mid.memories ≡ own who old.memories
own-stays First old mid seen is = ap (λ (d : DuoRunning). d.memories.first) is
own-stays Second old mid seen is = ap (λ (d : DuoRunning). d.memories.second) is
